use Rattle.std.proofs.Common.{◌≡◌, ◌+◌, true, false, sym, ap, ◌∙◌, arith, if◌then◌else◌}
use Rattle.xl_nfs_state.specs.State.{is_live}
use Rattle.xl_nfs_state.proofs.ListingLaws.{counted, none_within}
use Rattle.xl_nfs_state.proofs.listing.count_opens.Goals as goal
use Rattle.xl_nfs_state.proofs.listing.count_opens.Goals.{in-Some+then-is_live, in-Some+else-is_live, in_default}

pub rows-preserved : goal.rows-preserved
rows-preserved c =
    elim c.match-at.branch [
      | in-Some+then-is_live w ↦
          let live : true ≡ is_live w.in-Some.row.now = sym w.if-is_live.true ∙ w.is_live.ensures in
          record {
            counted = counted c.args.stateids.now c.rows.place w.in-Some.row.now c.rows.count c.match-at.count (sym w.in-Some.ensures) c.rows.invariant.counted (w.count-is ∙ ap (λ b. c.rows.count + (if b then 1 else 0)) live);
            few = omega (arith, w.count-is, c.rows.invariant.few);
            end = c.rows.invariant.end;
          }
      | in-Some+else-is_live w ↦
          let dead : false ≡ is_live w.in-Some.row.now = sym w.if-is_live.false ∙ w.is_live.ensures in
          record {
            counted = counted c.args.stateids.now c.rows.place w.in-Some.row.now c.rows.count c.match-at.count (sym w.in-Some.ensures) c.rows.invariant.counted (omega (arith, w.count-is) ∙ ap (λ b. c.rows.count + (if b then 1 else 0)) dead);
            few = omega (arith, w.count-is, c.rows.invariant.few);
            end = c.rows.invariant.end;
          }
      | in_default w ↦ absurd (none_within c.args.stateids.now c.rows.place (sym w.in_default.ensures) (omega (arith, c.rows-test.true, c.rows.invariant.end)))
    ]
