use Rattle.std.proofs.Common.{◌≡◌, ◌+◌, ◌-◌, ◌^◌, ◌≤◌, min, length, drop}
use Rattle.xl_base.specs.declared.record_file.RecordForm.TheVariants.{Marked}
use Rattle.xl_base.specs.RecordFile.{names_text}
use Rattle.xl_base.proofs.record_file.names_length.Given as goal

abbrev pub invariant-names : goal.invariant-names
invariant-names l = (min (l.length + length (names_text Marked (drop l.name-index l.names))) (2 ^ 64 - 1) ≡ min (length (names_text Marked l.names)) (2 ^ 64 - 1)) × (l.length ≤ 2 ^ 64 - 1)
