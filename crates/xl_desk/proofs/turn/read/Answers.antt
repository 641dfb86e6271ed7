use Rattle.std.proofs.Common.{ap, ◌∙◌}
use Rattle.xl_base.specs.Outs.{outs_to}
use Rattle.xl_desk.proofs.Seats.{table_on, view_of, hand_of, as_before, from_on, end_on}
use Rattle.xl_desk.proofs.turn.read.Goals as goal

pub put-requires-clause-table : goal.put-requires-clause-table
put-requires-clause-table g c = table_on _ _ _ c.lift-serial.ensures.seat.0 c.requires.table

pub put-requires-clause-empty : goal.put-requires-clause-empty
put-requires-clause-empty g c = hand_of _ _ _ c.lift-serial.ensures.seat.1

pub returns-in_err-bytes-clause-seat : goal.returns-in_err-bytes-clause-seat
returns-in_err-bytes-clause-seat g c = (table_on _ _ _ c.put.ensures.seat c.lift-serial.ensures.seat.0, as_before c.args.seat.now.me c.put.new.seat.me c.lift-serial.new.seat.me.0 c.lift-serial.result (view_of _ _ _ c.lift-serial.ensures.seat.1) c.lift-serial.ensures.had.0 c.put.ensures.view c.put.ensures.hand)

pub returns-clause-seat : goal.returns-clause-seat
returns-clause-seat g c = (table_on _ _ _ c.put.ensures.seat c.lift-serial.ensures.seat.0, as_before c.args.seat.now.me c.put.new.seat.me c.lift-serial.new.seat.me.0 c.lift-serial.result (view_of _ _ _ c.lift-serial.ensures.seat.1) c.lift-serial.ensures.had.0 c.put.ensures.view c.put.ensures.hand)

pub returns-clause-read : goal.returns-clause-read
returns-clause-read g c = let t = c.lift-serial.ensures.had.1 in (c.in_ok-bytes.ensures ∙ ap (outs_to c.args.conn) (from_on g.H.Serial.history g.H.Serial.halt g.H.Serial.origin g.H.Serial.first g.H.Serial.lawful c.args.seat.now.me.0 c.lift-serial.result c.args.from c.outs_from.result.now t c.outs_from.ensures), end_on g.H.Serial.history g.H.Serial.halt g.H.Serial.origin g.H.Serial.first g.H.Serial.lawful c.args.seat.now.me.0 c.lift-serial.result c.next_place-end.result t c.next_place-end.ensures.place)
