use Rattle.xl_core.specs.Whole.{state_of}
use Rattle.xl_core.proofs.DoorLaws.{ask_keeps}
use Rattle.xl_core.proofs.doors.Core.ask.Goals as goal

pub returns-clause-good : goal.returns-clause-good
returns-clause-good g c = ask_keeps c.args.left.now (state_of c.self.inside.parts) (state_of c.answer.new.parts) c.args.request.now c.in_ok-answered.answered.0 c.in_ok-answered.answered.1 c.in_ok-answered.ensures.answer (rw (← c.self.view_is) at c.requires.good) c.requires.fit
