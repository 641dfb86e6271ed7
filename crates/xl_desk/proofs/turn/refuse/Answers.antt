use Rattle.std.proofs.Common.{List, length, ap, sym, subst, ◌∙◌}
use Rattle.xl_base.specs.declared.journal.Entry.{Entry}
use Rattle.xl_desk.proofs.Seats.{table_on, view_of, hand_of, put_again}
use Rattle.xl_desk.proofs.Steps.{stopped_here}
use Rattle.xl_desk.proofs.turn.refuse.Goals as goal

pub put-requires-clause-table : goal.put-requires-clause-table
put-requires-clause-table g c = table_on _ _ _ c.lift-serial.ensures.seat.0 c.requires.table

pub put-requires-clause-empty : goal.put-requires-clause-empty
put-requires-clause-empty g c = hand_of _ _ _ c.lift-serial.ensures.seat.1

pub returns-clause-seat : goal.returns-clause-seat
returns-clause-seat g c = table_on _ _ _ c.put.ensures.seat c.lift-serial.ensures.seat.0

pub returns-clause-turn : goal.returns-clause-turn
returns-clause-turn g c = let t = c.lift-serial.ensures.had in (_, put_again g.H.Serial.history g.H.Serial.halt g.H.Serial.origin g.H.Serial.first g.H.Serial.lawful c.args.seat.now.me.0 c.lift-serial.new.seat.me.0 c.put.new.seat.me c.lift-serial.result t.1 t.2 t.3 (view_of _ _ _ c.lift-serial.ensures.seat.1) c.put.ensures.view c.put.ensures.hand, c.count_of-count.ensures.lawful)

pub returns-clause-why : goal.returns-clause-why
returns-clause-why g c = let t = c.lift-serial.ensures.had.1 in stopped_here g.H.Serial.may_halt c.args.seat.now.me.0 c.put.new.seat.me.0 c.in-Some.reason c.count_of-count.result (c.put.ensures.view ∙ view_of _ _ _ c.lift-serial.ensures.seat.1) (sym t.1 ∙ sym c.in-Some.ensures.halt) (c.count_of-count.ensures.count ∙ ap length t.0) (subst (λ (l : List Entry). g.H.Serial.may_halt l c.in-Some.reason) t.0 c.in-Some.ensures.may)
