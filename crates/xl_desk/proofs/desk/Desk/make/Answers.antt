use Rattle.std.proofs.Common.{IfSome, length, ap, subst, ◌∙◌}
use Rattle.xl_desk.specs.Turns.{number_of}
use Rattle.xl_desk.proofs.Seats.{opened_idle, opened_of}
use Rattle.xl_desk.proofs.Steps.{opens}
use Rattle.xl_desk.proofs.desk.Desk.make.Goals as goal

pub new-requires : goal.new-requires
new-requires g c = rw (c.in_ok-slots.ensures.slots, c.of-about.ensures)
    (opens g.H.Serial.history g.H.Serial.halt g.H.Serial.origin g.H.Serial.first g.H.Serial.lawful g.H.Serial.may_halt c.next_place.result c.number.result c.args.machine c.next_place.ensures.place (c.number.ensures ∙ ap number_of c.halt.ensures.halt)
    (subst (λ x. IfSome x (λ reason. g.H.Serial.may_halt (g.H.Serial.history c.args.machine) reason)) c.halt.ensures.halt c.halt.ensures.may) c.next_place.ensures.lawful)

pub invariant_of-result : goal.invariant_of-result
invariant_of-result g c = let t = c.in-Ok.ensures.ok in (t.0, t.1 ∙ ap length c.in_ok-slots.ensures.slots)

pub invariant_of-result-in-Ok : goal.invariant_of-result-in-Ok
invariant_of-result-in-Ok g c = opened_idle g.H.Serial.history g.H.Serial.halt g.H.Serial.origin g.H.Serial.first g.H.Serial.lawful _ _ c.in-Ok.ensures.ok.4

pub returns-in-Ok-clause-desk : goal.returns-in-Ok-clause-desk
returns-in-Ok-clause-desk g c = c.in-Ok.ensures.ok.2

pub returns-in-Ok-clause-pass : goal.returns-in-Ok-clause-pass
returns-in-Ok-clause-pass g c = opened_of g.H.Serial.history g.H.Serial.halt g.H.Serial.origin g.H.Serial.first g.H.Serial.lawful _ _ c.args.machine c.in-Ok.ensures.ok.4 c.of-about.ensures
