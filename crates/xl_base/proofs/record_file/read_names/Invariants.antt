use Rattle.std.proofs.Common.{◌≡◌, ◌-◌, []}
use Rattle.xl_base.specs.RecordFile.{names_at}
use Rattle.xl_base.proofs.record_file.read_names.Given as goal

abbrev pub invariant-names : goal.invariant-names
invariant-names l = names_at l.form (l.count - l.counter) l.stable l.rest ≡ names_at l.form l.count (record { epoch = l.epoch; names = [] }) l.bytes
