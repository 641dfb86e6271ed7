use Rattle.std.proofs.Common.{Option, List, Ok, ap}
use Rattle.xl_core.specs.declared.ask.Effect.{Effect}
use Rattle.xl_core.specs.Whole.{state_of}
use Rattle.xl_core.proofs.DoorLaws.{settle_keeps}
use Rattle.xl_core.proofs.doors.Core.settle.Goals as goal

pub returns-clause-good : goal.returns-clause-good
returns-clause-good g c = settle_keeps c.args.left.now (state_of c.self.inside.parts) (state_of c.settle.new.parts) c.in_ok-turn.turn c.in_ok-turn.ensures.turn (λ e. ap state_of (c.in_ok-turn.ensures.none (ap (λ (t : Option (List Effect)). Ok t) e))) (rw (← c.self.view_is) at c.requires.good)
