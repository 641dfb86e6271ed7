use Rattle.std.proofs.Common.{◌≡◌, ◌++◌, drop}
use Rattle.xl_core.specs.Frames.{who_left}
use Rattle.xl_core.proofs.leaving.who_left.Given as goal

abbrev pub invariant-loop-effect : goal.invariant-loop-effect
invariant-loop-effect l = l.numbers.items ++ who_left (drop l.effect-index l.told) ≡ who_left l.told
