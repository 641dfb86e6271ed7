use Rattle.std.proofs.Common.{◌≡◌, ◌++◌}
use Rattle.xl_house.proofs.frames.join_outs.Given as goal

abbrev pub invariant-loop-out : goal.invariant-loop-out
invariant-loop-out l = l.all ++ l.out-iterator.rest.items ≡ l.fn.outs ++ l.fn.more
