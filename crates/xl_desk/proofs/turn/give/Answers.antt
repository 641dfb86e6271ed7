use Rattle.std.proofs.Common.{[]}
use Rattle.xl_desk.proofs.Seats.{word_2}
use Rattle.xl_desk.proofs.Steps.{gives_turn}
use Rattle.xl_desk.proofs.turn.give.Goals as goal

pub store-requires : goal.store-requires
store-requires g c = let r = c.requires in let t = r.turn in (r.table.0, word_2 _ r.table.1, gives_turn g.H.Serial.history g.H.Serial.halt g.H.Serial.origin g.H.Serial.first g.H.Serial.lawful g.H.Serial.may_halt _ _ _ t.0 [] r.table.2 t.1.0 t.1.1.0 t.1.1.1 t.1.2 t.1.1.2 t.1.3)
