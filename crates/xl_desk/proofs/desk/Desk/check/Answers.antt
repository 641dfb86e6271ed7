use Rattle.std.proofs.Common.{rules}
use Rattle.xl_desk.proofs.Steps.{glances}
use Rattle.xl_desk.proofs.desk.Desk.check.Goals as goal

pub load-requires : goal.load-requires
load-requires g c = (search rules, search rules, glances g.H.Serial.history g.H.Serial.halt g.H.Serial.origin g.H.Serial.first g.H.Serial.lawful g.H.Serial.may_halt _ _ _)
