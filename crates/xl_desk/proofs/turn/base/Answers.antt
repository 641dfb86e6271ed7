use Rattle.xl_desk.proofs.Seats.{table_on, view_of, hand_of, as_before}
use Rattle.xl_desk.proofs.turn.base.Goals as goal

pub put-requires-clause-table : goal.put-requires-clause-table
put-requires-clause-table g c = table_on _ _ _ c.lift-serial.ensures.seat.0 c.requires.table

pub put-requires-clause-empty : goal.put-requires-clause-empty
put-requires-clause-empty g c = hand_of _ _ _ c.lift-serial.ensures.seat.1

pub returns-clause-seat : goal.returns-clause-seat
returns-clause-seat g c = (table_on _ _ _ c.put.ensures.seat c.lift-serial.ensures.seat.0, as_before c.args.seat.now.me c.put.new.seat.me c.lift-serial.new.seat.me.0 c.lift-serial.result (view_of _ _ _ c.lift-serial.ensures.seat.1) c.lift-serial.ensures.had.0 c.put.ensures.view c.put.ensures.hand)
