use Rattle.xl_desk.proofs.Seats.{table_on, word_1}
use Rattle.xl_desk.proofs.Steps.{checks}
use Rattle.xl_desk.proofs.turn.enter.Goals as goal

pub load-requires : goal.load-requires
load-requires g c = (c.requires.table.0, word_1 _ c.requires.table.1, checks g.H.Serial.history g.H.Serial.halt g.H.Serial.origin g.H.Serial.first g.H.Serial.lawful g.H.Serial.may_halt _ _ _ c.requires.turn.1.2)

pub returns-then-load-ne0-clause-seat : goal.returns-then-load-ne0-clause-seat
returns-then-load-ne0-clause-seat g c = table_on _ _ _ c.refuse.ensures.seat c.load.ensures.0

pub returns-then-load-ne0-clause-turn : goal.returns-then-load-ne0-clause-turn
returns-then-load-ne0-clause-turn g c = c.refuse.ensures.turn

pub returns-then-load-ne0-clause-err : goal.returns-then-load-ne0-clause-err
returns-then-load-ne0-clause-err g c = rw (← c.load.ensures.2.1) c.refuse.ensures.why

pub returns-clause-seat : goal.returns-clause-seat
returns-clause-seat g c = table_on _ _ _ c.step.ensures.seat c.load.ensures.0

pub returns-clause-turn : goal.returns-clause-turn
returns-clause-turn g c = c.step.ensures.turn

pub returns-clause-ok : goal.returns-clause-ok
returns-clause-ok g c = rw (← c.load.ensures.2.1) c.step.ensures.ok

pub returns-clause-err : goal.returns-clause-err
returns-clause-err g c = rw (← c.load.ensures.2.1) c.step.ensures.err
