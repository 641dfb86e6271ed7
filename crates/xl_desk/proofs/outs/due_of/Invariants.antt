use Rattle.std.proofs.Common.{◌≡◌, drop}
use Rattle.xl_desk.specs.Due.{due_of}
use Rattle.xl_desk.proofs.outs.due_of.Given as goal

abbrev pub invariant-outs : goal.invariant-outs
invariant-outs l = due_of l.due (drop l.out-index l.outs) ≡ due_of l.due l.outs
