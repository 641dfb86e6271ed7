use Rattle.std.proofs.Common.{◌+◌, List, ◌∷◌, map, drop, sym, ap, ◌∙◌}
use Rattle.std.proofs.lemmas.List.{drop_more}
use Rattle.xl_core.specs.Ticks.{behind_told, in_turn, is_still_held, try_lapse, lapse_all}
use Rattle.xl_core.specs.Whole.{state_of}
use Rattle.xl_core.specs.declared.due.DueRow.{DueRow}
use Rattle.xl_core.proofs.StoreLaws.{goes_on_then, hands_then}
use Rattle.xl_core.proofs.TickCode.{turn_more}
use Rattle.xl_core.proofs.ticking.lapse_all.Goals as goal

pub loop-row-preserved : goal.loop-row-preserved
loop-row-preserved g c =
    let s = state_of c.args.parts.now in
    let t = state_of c.loop-row.parts in
    let u = state_of c.lapse_one.new.parts in
    let items = c.deref-row-items.result.now in
    let i = c.loop-row.row-index in
    let x = c.row-item.result in
    let on = c.in_ok-lapse_one.ensures.on in
    record {
      turns = turn_more (λ n caches v. in_turn is_still_held (try_lapse n) caches v) (λ n. behind_told c.args.effects.now (lapse_all n s)) t u x.cache (map (λ r. r.cache) (drop (i + 1) items)) (map (λ r. r.cache) (drop i items)) c.loop-row.effects c.lapse_one.new.effects
          (ap (λ (rows : List DueRow). map (λ r. r.cache) rows) (drop_more items i x c.loop-row-test.true ∙ ap (λ (row : DueRow). row ∷ drop (i + 1) items) (sym c.row-item.is))) on c.loop-row.invariant.turns c.in_ok-lapse_one.ensures.turn;
      good = c.in_ok-lapse_one.ensures.good;
      held_up = c.in_ok-lapse_one.ensures.held_up;
      on = goes_on_then s t u c.loop-row.invariant.on on;
      keeper = hands_then s t u _ _ _ c.loop-row.invariant.on c.loop-row.invariant.keeper on c.in_ok-lapse_one.ensures.keeper;
    }
