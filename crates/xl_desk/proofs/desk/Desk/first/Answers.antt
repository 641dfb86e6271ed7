use Rattle.std.proofs.Common.{ap, sym, subst, ◌∙◌}
use Rattle.xl_desk.specs.declared.view.View.{View}
use Rattle.xl_desk.specs.Turns.{Sat, HasTurn, without_turn}
use Rattle.xl_desk.specs.Passes.{Known, IsLooked}
use Rattle.xl_desk.proofs.Seats.{rested, rests_lawful, looked_in_turn}
use Rattle.xl_desk.proofs.desk.Desk.first.Goals as goal

pub give-requires-clause-turn : goal.give-requires-clause-turn
give-requires-clause-turn g c = let t = c.take.ensures.turn in (t.0, subst (λ (z : Sat _ _). HasTurn g.H.Serial.history g.H.Serial.halt g.H.Serial.origin g.H.Serial.first z t.0) (sym c.base-first.ensures.seat.1) t.1)

pub invariant_of-pass : goal.invariant_of-pass
invariant_of-pass g c = let t = c.take.ensures.turn in let a = rested g.H.Serial.history g.H.Serial.halt g.H.Serial.origin g.H.Serial.first g.H.Serial.lawful c.base-first.new.seat.me c.give.new.seat.me.0 (t.0, subst (λ (z : Sat _ _). HasTurn g.H.Serial.history g.H.Serial.halt g.H.Serial.origin g.H.Serial.first z t.0) (sym c.base-first.ensures.seat.1) t.1) c.give.ensures.view in (c.give.ensures.hand, a.0, a.1, a.2)

pub returns-clause-lawful : goal.returns-clause-lawful
returns-clause-lawful g c = let t = c.take.ensures.turn in rests_lawful g.H.Serial.history g.H.Serial.halt g.H.Serial.origin g.H.Serial.first g.H.Serial.lawful c.take.new.seat.me.0 c.base-first.new.seat.me.0 c.give.new.seat.me.0 t.0 t.1.1 t.4 (ap (λ (z : Sat _ _). z.0) c.base-first.ensures.seat.1) c.give.ensures.view

pub returns-clause-looked : goal.returns-clause-looked
returns-clause-looked g c = let t = c.take.ensures.turn in subst (λ (k : Known _). IsLooked k.view c.give.new.seat.me.0) c.pass.view_is (looked_in_turn c.pass.inside.seat.me.0 c.take.new.seat.me.0 c.base-first.new.seat.me.0 c.give.new.seat.me.0 _ _ t.2 (ap (λ (z : Sat _ _). z.0) c.base-first.ensures.seat.1) c.give.ensures.view t.3 t.5 t.6)

pub returns-clause-first : goal.returns-clause-first
returns-clause-first g c = c.base-first.ensures.first ∙ ap (λ (z : View _). z.first) (sym (c.give.ensures.view ∙ ap (λ (z : Sat _ _). without_turn z.0) c.base-first.ensures.seat.1))
