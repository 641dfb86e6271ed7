use Rattle.std.proofs.Common.{ℕ, ◌+◌, List, ◌∷◌, drop, sym, ap, ◌∙◌}
use Rattle.std.proofs.lemmas.List.{drop_more}
use Rattle.xl_core.specs.Ticks.{behind_told, in_turn, is_lease_over, try_expire, expire_all}
use Rattle.xl_core.specs.Whole.{state_of}
use Rattle.xl_core.proofs.StoreLaws.{goes_on_then, hands_then}
use Rattle.xl_core.proofs.TickCode.{turn_more}
use Rattle.xl_core.proofs.ticking.expire_all.Goals as goal

pub loop-client-preserved : goal.loop-client-preserved
loop-client-preserved g c =
    let s = state_of c.args.parts.now in
    let t = state_of c.loop-client.parts in
    let u = state_of c.expire_one.new.parts in
    let items = c.deref-client-items.result.now in
    let i = c.loop-client.client-index in
    let x = c.client-item.result in
    let on = c.in_ok-expire_one.ensures.on in
    record {
      turns = turn_more (λ n ids v. in_turn is_lease_over (try_expire n) ids v) (λ n. behind_told c.args.effects.now (expire_all n s)) t u x (drop (i + 1) items) (drop i items) c.loop-client.effects c.expire_one.new.effects
          (drop_more items i x c.loop-client-test.true ∙ ap (λ (id : List ℕ). id ∷ drop (i + 1) items) (sym c.client-item.is)) on c.loop-client.invariant.turns c.in_ok-expire_one.ensures.turn;
      good = c.in_ok-expire_one.ensures.good;
      held_up = c.in_ok-expire_one.ensures.held_up;
      on = goes_on_then s t u c.loop-client.invariant.on on;
      keeper = hands_then s t u _ _ _ c.loop-client.invariant.on c.loop-client.invariant.keeper on c.in_ok-expire_one.ensures.keeper;
    }
