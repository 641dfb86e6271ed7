use Rattle.xl_desk.proofs.Seats.{table_on, word_0, word_1, view_of, hand_of, may_count, has_counted, call_counted, may_note, has_noted}
use Rattle.xl_desk.proofs.turn.step.Goals as goal

pub put-requires-clause-table : goal.put-requires-clause-table
put-requires-clause-table g c = table_on _ _ _ c.lift-serial.ensures.seat.0 c.requires.table.0

pub put-requires-clause-empty : goal.put-requires-clause-empty
put-requires-clause-empty g c = hand_of _ _ _ c.lift-serial.ensures.seat.1

pub fetch_add-requires : goal.fetch_add-requires
fetch_add-requires g c = let r = c.requires in let t = c.lift-serial.ensures.had in (
  table_on _ _ _ c.put.ensures.seat (table_on _ _ _ c.lift-serial.ensures.seat.0 r.table.0),
  word_0 _ r.table.1,
  may_count g.H.Serial.history g.H.Serial.halt g.H.Serial.origin g.H.Serial.first g.H.Serial.lawful g.H.Serial.may_halt _ _ c.args.seat.now.me.0 c.lift-serial.new.seat.me.0 c.put.new.seat.me c.lift-serial.result _ c.args.event c.in-Ok.place t.1 t.2 r.runs t.3 (view_of _ _ _ c.lift-serial.ensures.seat.1) c.put.ensures.view c.put.ensures.hand c.step-stepped.ensures.origin c.in-Ok.ensures.ok c.count_of-count.ensures.lawful,
)

pub store-requires : goal.store-requires
store-requires g c = let r = c.requires in let t = c.lift-serial.ensures.had in (
  table_on _ _ _ c.put.ensures.seat (table_on _ _ _ c.lift-serial.ensures.seat.0 r.table.0),
  word_1 _ r.table.1,
  may_note g.H.Serial.history g.H.Serial.halt g.H.Serial.origin g.H.Serial.first g.H.Serial.lawful g.H.Serial.may_halt _ _ c.args.seat.now.me.0 c.lift-serial.new.seat.me.0 c.put.new.seat.me c.lift-serial.result _ _ c.in-Err.reason t.1 t.2 r.runs (view_of _ _ _ c.lift-serial.ensures.seat.1) c.put.ensures.view c.put.ensures.hand c.in-Err.ensures.err c.number.ensures,
)

pub returns-in-Ok-clause-seat : goal.returns-in-Ok-clause-seat
returns-in-Ok-clause-seat g c = table_on _ _ _ c.fetch_add.ensures.0 (table_on _ _ _ c.put.ensures.seat c.lift-serial.ensures.seat.0)

pub returns-in-Ok-clause-turn : goal.returns-in-Ok-clause-turn
returns-in-Ok-clause-turn g c = let r = c.requires in let t = c.lift-serial.ensures.had in (_, (has_counted g.H.Serial.history g.H.Serial.halt g.H.Serial.origin g.H.Serial.first g.H.Serial.lawful g.H.Serial.may_halt c.args.seat.now.me.0 c.lift-serial.new.seat.me.0 c.put.new.seat.me c.fetch_add.new.seat.me c.lift-serial.result _ c.args.event c.in-Ok.place t.1 t.2 r.runs t.3 (view_of _ _ _ c.lift-serial.ensures.seat.1) c.put.ensures.view c.put.ensures.hand c.step-stepped.ensures.origin c.in-Ok.ensures.runs c.in-Ok.ensures.ok c.fetch_add.ensures.2).0, c.count_of-count.ensures.lawful)

pub returns-in-Ok-clause-ok : goal.returns-in-Ok-clause-ok
returns-in-Ok-clause-ok g c = let r = c.requires in let t = c.lift-serial.ensures.had in call_counted g.H.Serial.history g.H.Serial.halt g.H.Serial.origin g.H.Serial.first g.H.Serial.lawful g.H.Serial.may_halt c.args.seat.now.me.0 c.fetch_add.new.seat.me c.lift-serial.result _ c.args.event c.in-Ok.place t.1 c.in-Ok.ensures.ok (has_counted g.H.Serial.history g.H.Serial.halt g.H.Serial.origin g.H.Serial.first g.H.Serial.lawful g.H.Serial.may_halt c.args.seat.now.me.0 c.lift-serial.new.seat.me.0 c.put.new.seat.me c.fetch_add.new.seat.me c.lift-serial.result _ c.args.event c.in-Ok.place t.1 t.2 r.runs t.3 (view_of _ _ _ c.lift-serial.ensures.seat.1) c.put.ensures.view c.put.ensures.hand c.step-stepped.ensures.origin c.in-Ok.ensures.runs c.in-Ok.ensures.ok c.fetch_add.ensures.2).1

pub returns-in-Err-clause-seat : goal.returns-in-Err-clause-seat
returns-in-Err-clause-seat g c = table_on _ _ _ c.store.ensures.0 (table_on _ _ _ c.put.ensures.seat c.lift-serial.ensures.seat.0)

pub returns-in-Err-clause-turn : goal.returns-in-Err-clause-turn
returns-in-Err-clause-turn g c = let r = c.requires in let t = c.lift-serial.ensures.had in (_, (has_noted g.H.Serial.history g.H.Serial.halt g.H.Serial.origin g.H.Serial.first g.H.Serial.lawful g.H.Serial.may_halt c.args.seat.now.me.0 c.lift-serial.new.seat.me.0 c.put.new.seat.me c.store.new.seat.me c.lift-serial.result _ c.in-Err.reason c.count_of-count.result t.1 t.2 r.runs t.3 (view_of _ _ _ c.lift-serial.ensures.seat.1) c.put.ensures.view c.put.ensures.hand c.step-stepped.ensures.origin c.in-Err.ensures.err c.count_of-count.ensures.count c.store.ensures.2).0, c.count_of-count.ensures.lawful)

pub returns-in-Err-clause-err : goal.returns-in-Err-clause-err
returns-in-Err-clause-err g c = let r = c.requires in let t = c.lift-serial.ensures.had in (has_noted g.H.Serial.history g.H.Serial.halt g.H.Serial.origin g.H.Serial.first g.H.Serial.lawful g.H.Serial.may_halt c.args.seat.now.me.0 c.lift-serial.new.seat.me.0 c.put.new.seat.me c.store.new.seat.me c.lift-serial.result _ c.in-Err.reason c.count_of-count.result t.1 t.2 r.runs t.3 (view_of _ _ _ c.lift-serial.ensures.seat.1) c.put.ensures.view c.put.ensures.hand c.step-stepped.ensures.origin c.in-Err.ensures.err c.count_of-count.ensures.count c.store.ensures.2).1
