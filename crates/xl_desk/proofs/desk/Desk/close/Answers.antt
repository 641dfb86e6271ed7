use Rattle.std.proofs.Common.{rules, sym, subst, ◌∙◌}
use Rattle.std.specs.Option.{IsSome}
use mathlib.Core.Option.{some-injective}
use Rattle.xl_desk.specs.Turns.{IsClosed}
use Rattle.xl_desk.proofs.Seats.{slot_0, emptied}
use Rattle.xl_desk.proofs.Steps.{closes, same_some}
use Rattle.xl_desk.proofs.desk.Desk.close.Goals as goal

pub take-home-requires : goal.take-home-requires
take-home-requires g c =
    let low = slot_0 _ (c.close_with-closed.ensures.counts.1 ∙ c.self.invariant.1) in
    (low, c.close_with-closed.ensures.values.1 0 (search rules) low)

pub free-requires : goal.free-requires
free-requires g c = λ k low. emptied _ _ _ k (c.take-home.ensures.others.2 ∙ c.close_with-closed.ensures.counts.1 ∙ c.self.invariant.1) c.take-home.ensures.others.1 low

pub unwrap-requires : goal.unwrap-requires
unwrap-requires g c =
    let end = closes g.H.Serial.history g.H.Serial.halt g.H.Serial.origin g.H.Serial.first g.H.Serial.lawful g.H.Serial.may_halt _ _ c.pass.invariant.1 (search rules) _ _ c.close_with-closed.ensures.values.2 in
    subst (λ x. IsSome x) (some-injective _ _ (sym end.1 ∙ c.take-home.ensures.value)) (search rules)

pub returns : goal.returns
returns g c =
    let end = closes g.H.Serial.history g.H.Serial.halt g.H.Serial.origin g.H.Serial.first g.H.Serial.lawful g.H.Serial.may_halt _ _ c.pass.invariant.1 (search rules) _ _ c.close_with-closed.ensures.values.2 in
    rw (← c.pass.view_is) (subst (λ h. IsClosed g.H.Serial.history g.H.Serial.halt g.H.Serial.origin g.H.Serial.lawful c.pass.inside.seat.me.0 h) (same_some _ _ c.take-home.result (some-injective _ _ (sym c.take-home.ensures.value ∙ end.1)) c.unwrap.ensures) end.2)
