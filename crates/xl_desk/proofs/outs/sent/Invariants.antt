use Rattle.std.proofs.Common.{◌≡◌, ◌++◌, drop}
use Rattle.xl_base.specs.Outs.{outs_to}
use Rattle.xl_desk.proofs.outs.sent.Given as goal

abbrev pub invariant-entries : goal.invariant-entries
invariant-entries l = l.bytes.items ++ outs_to l.conn (drop l.entry-index l.entries) ≡ outs_to l.conn l.entries
