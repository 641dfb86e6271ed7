use Rattle.std.proofs.Common.{rules}
use Rattle.xl_desk.proofs.Steps.{sees}
use Rattle.xl_desk.proofs.desk.Desk.see.Goals as goal

pub load-requires : goal.load-requires
load-requires g c = (search rules, search rules, sees g.H.Serial.history g.H.Serial.halt g.H.Serial.origin g.H.Serial.first g.H.Serial.lawful g.H.Serial.may_halt _ _ _ c.pass.invariant.2)
