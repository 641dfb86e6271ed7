use Rattle.std.proofs.Common.{◌≡◌, ◌++◌, ◌<◌, ◌^◌, length, drop}
use Rattle.std.specs.List.{AllByRecursion}
use Rattle.xl_base.specs.declared.record_file.RecordForm.TheVariants.{Marked}
use Rattle.xl_base.specs.RecordFile.{names_text}
use Rattle.xl_base.proofs.record_file.put_names.Given as goal

abbrev pub invariant-names : goal.invariant-names
invariant-names l = (l.out.items ++ names_text Marked (drop l.name-index l.names) ≡ l.initial.out.items ++ names_text Marked l.names) × AllByRecursion (λ n. length n.name < 2 ^ 16) (drop l.name-index l.names)
