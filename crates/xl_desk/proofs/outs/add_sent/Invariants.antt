use Rattle.std.proofs.Common.{◌≡◌, ◌++◌, drop}
use Rattle.xl_base.specs.Outs.{sent_to}
use Rattle.xl_desk.proofs.outs.add_sent.Given as goal

abbrev pub invariant-outs : goal.invariant-outs
invariant-outs l = l.bytes.items ++ sent_to l.conn (drop l.out-index l.outs) ≡ l.initial.bytes.items ++ sent_to l.conn l.outs
