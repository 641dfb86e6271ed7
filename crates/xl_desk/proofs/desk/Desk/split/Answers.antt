use Rattle.std.proofs.Common.{rules}
use Rattle.xl_desk.proofs.Steps.{splits}
use Rattle.xl_desk.proofs.desk.Desk.split.Goals as goal

pub split_seat-seat-requires : goal.split_seat-seat-requires
split_seat-seat-requires g c = (search rules, search rules, splits g.H.Serial.history g.H.Serial.halt g.H.Serial.origin g.H.Serial.first g.H.Serial.lawful g.H.Serial.may_halt _ _ c.pass.invariant.1 (search rules))
