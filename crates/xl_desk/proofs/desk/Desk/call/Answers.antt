use Rattle.std.proofs.Common.{refl, subst}
use Rattle.xl_desk.specs.Passes.{Known, IsCalled, IsRefused}
use Rattle.xl_desk.proofs.Seats.{rested, rests_lawful, called_in_turn}
use Rattle.xl_desk.proofs.Steps.{refused_in_turn}
use Rattle.xl_desk.proofs.desk.Desk.call.Goals as goal

pub give-requires-clause-turn : goal.give-requires-clause-turn
give-requires-clause-turn g c = let t = c.enter-entered.ensures.turn in (t.0, t.1)

pub invariant_of-pass : goal.invariant_of-pass
invariant_of-pass g c = let t = c.enter-entered.ensures.turn in let a = rested g.H.Serial.history g.H.Serial.halt g.H.Serial.origin g.H.Serial.first g.H.Serial.lawful c.enter-entered.new.seat.me c.give.new.seat.me.0 (t.0, t.1) c.give.ensures.view in (c.give.ensures.hand, a.0, a.1, a.2)

pub returns-in-Err-clause-lawful : goal.returns-in-Err-clause-lawful
returns-in-Err-clause-lawful g c = let t = c.enter-entered.ensures.turn in rests_lawful g.H.Serial.history g.H.Serial.halt g.H.Serial.origin g.H.Serial.first g.H.Serial.lawful c.enter-entered.new.seat.me.0 c.enter-entered.new.seat.me.0 c.give.new.seat.me.0 t.0 t.1.1 t.2 refl c.give.ensures.view

pub returns-in-Err-clause-refused : goal.returns-in-Err-clause-refused
returns-in-Err-clause-refused g c = let t = c.take.ensures.turn in subst (λ (k : Known _). IsRefused g.H.Serial.may_halt k.view c.give.new.seat.me.0 c.in-Err.why) c.pass.view_is (refused_in_turn g.H.Serial.may_halt c.pass.inside.seat.me.0 c.take.new.seat.me.0 c.enter-entered.new.seat.me.0 c.give.new.seat.me.0 _ _ c.in-Err.why t.2 c.give.ensures.view t.3 t.5 t.6 c.in-Err.ensures.err)

pub invariant_of-pass-2 : goal.invariant_of-pass-2
invariant_of-pass-2 g c = let t = c.enter-entered.ensures.turn in let a = rested g.H.Serial.history g.H.Serial.halt g.H.Serial.origin g.H.Serial.first g.H.Serial.lawful c.enter-entered.new.seat.me c.give.new.seat.me.0 (t.0, t.1) c.give.ensures.view in (c.give.ensures.hand, a.0, a.1, a.2)

pub returns-clause-lawful : goal.returns-clause-lawful
returns-clause-lawful g c = let t = c.enter-entered.ensures.turn in rests_lawful g.H.Serial.history g.H.Serial.halt g.H.Serial.origin g.H.Serial.first g.H.Serial.lawful c.enter-entered.new.seat.me.0 c.enter-entered.new.seat.me.0 c.give.new.seat.me.0 t.0 t.1.1 t.2 refl c.give.ensures.view

pub returns-clause-called : goal.returns-clause-called
returns-clause-called g c = let t = c.take.ensures.turn in subst (λ (k : Known _). IsCalled k.view c.give.new.seat.me.0 c.in-Ok.place c.args.event) c.pass.view_is (called_in_turn c.pass.inside.seat.me.0 c.take.new.seat.me.0 c.enter-entered.new.seat.me.0 c.give.new.seat.me.0 _ _ c.args.event c.in-Ok.place t.2 c.give.ensures.view t.3 t.5 c.in-Ok.ensures.runs c.in-Ok.ensures.ok)
