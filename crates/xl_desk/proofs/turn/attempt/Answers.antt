use Rattle.xl_desk.proofs.Seats.{word_2, took, waits}
use Rattle.xl_desk.proofs.Steps.{takes_turn}
use Rattle.xl_desk.proofs.turn.attempt.Goals as goal

pub compare_exchange-requires : goal.compare_exchange-requires
compare_exchange-requires g c = let r = c.requires in (r.table.0, word_2 _ r.table.1, takes_turn g.H.Serial.history g.H.Serial.halt g.H.Serial.origin g.H.Serial.first g.H.Serial.lawful g.H.Serial.may_halt _ _ _ r.table.2 r.idle.1 r.idle.2)

pub returns-clause-turn : goal.returns-clause-turn
returns-clause-turn g c = let r = c.requires in λ free. took g.H.Serial.history g.H.Serial.halt g.H.Serial.origin g.H.Serial.first g.H.Serial.lawful _ _ _ r.idle.0 r.idle.2 c.compare_exchange.ensures.2 free

pub returns-clause-busy : goal.returns-clause-busy
returns-clause-busy g c = λ busy. waits g.H.Serial.history g.H.Serial.halt g.H.Serial.origin g.H.Serial.first g.H.Serial.lawful _ _ _ c.compare_exchange.ensures.2 busy
