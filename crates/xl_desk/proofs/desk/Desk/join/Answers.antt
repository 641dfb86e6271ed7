use Rattle.std.proofs.Common.{rules}
use Rattle.xl_desk.proofs.Steps.{joins, sees}
use Rattle.xl_desk.proofs.desk.Desk.join.Goals as goal

pub join_seat-requires : goal.join_seat-requires
join_seat-requires g c = (search rules, search rules, search rules, search rules, joins g.H.Serial.history g.H.Serial.halt g.H.Serial.origin g.H.Serial.first g.H.Serial.lawful g.H.Serial.may_halt _ _ _ _ c.pass.invariant.1 c.other.invariant.1 c.pass.invariant.2)

pub load-requires : goal.load-requires
load-requires g c = (search rules, search rules, sees g.H.Serial.history g.H.Serial.halt g.H.Serial.origin g.H.Serial.first g.H.Serial.lawful g.H.Serial.may_halt _ _ _ (search rules))
