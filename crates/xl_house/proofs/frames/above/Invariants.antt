use Rattle.std.proofs.Common.{◌≡◌, ◌++◌}
use Rattle.xl_house.proofs.frames.above.Given as goal

abbrev pub invariant-loop-frame : goal.invariant-loop-frame
invariant-loop-frame l = l.all ++ l.frame-iterator.rest.items ≡ l.fn.woken ++ l.fn.stack
