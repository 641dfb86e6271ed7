use Rattle.std.proofs.Common.{◌≡◌}
use Rattle.xl_house.specs.Sifting.{on_top}
use Rattle.xl_house.proofs.frames.on_top.Given as goal

abbrev pub invariant-loop-frame : goal.invariant-loop-frame
invariant-loop-frame l = on_top l.frame-iterator.rest.items l.all ≡ on_top l.fn.woken l.fn.stack
