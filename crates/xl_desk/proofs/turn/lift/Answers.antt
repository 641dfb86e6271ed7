use Rattle.std.proofs.Common.{◌∷◌, Some, ap, sym, subst, refl, ◌∙◌}
use Rattle.std.specs.Option.{IsSome}
use Rattle.atomic_table.specs.Table.{rest}
use Rattle.xl_desk.proofs.Seats.{lifted, lifted_hand}
use Rattle.xl_desk.proofs.Steps.{same_some}
use Rattle.xl_desk.specs.Turns.{HasTurn}
use Rattle.xl_desk.proofs.turn.lift.Goals as goal

pub exchange-requires : goal.exchange-requires
exchange-requires g c = let t = c.requires.turn in (c.requires.table, (Some t.0, t.1.0 ∙ ap (λ cs. (0, Some t.0) ∷ rest cs) (sym t.1.0)))

pub unwrap-requires : goal.unwrap-requires
unwrap-requires g c = let t = c.requires.turn in subst (λ x. IsSome x) (sym (lifted c.args.seat.now.me.1 t.0 _ t.1.0 c.exchange.ensures.2)) refl

pub returns-clause-seat : goal.returns-clause-seat
returns-clause-seat g c = let t = c.requires.turn in (c.exchange.ensures.0, lifted_hand c.args.seat.now.me c.exchange.new.seat.me t.0 c.exchange.ensures.3 t.1.0)

pub returns-clause-had : goal.returns-clause-had
returns-clause-had g c = let t = c.requires.turn in subst (λ h. HasTurn g.H.Serial.history g.H.Serial.halt g.H.Serial.origin g.H.Serial.first c.args.seat.now.me h) (same_some t.0 _ _ (lifted c.args.seat.now.me.1 t.0 _ t.1.0 c.exchange.ensures.2) c.unwrap.ensures) t.1
