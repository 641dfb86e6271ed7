use Rattle.std.proofs.Common.{◌≡◌, ◌++◌, ◌∷◌, [], true, false, sym, ap, ◌∙◌, arith, if◌then◌else◌}
use Rattle.xl_nfs_state.specs.State.{is_whose}
use Rattle.xl_nfs_state.proofs.ListingLaws.{listed, none_within}
use Rattle.xl_nfs_state.proofs.listing.list_stateids.Goals as goal
use Rattle.xl_nfs_state.proofs.listing.list_stateids.Goals.{in-Some+then-picks+in_ok-push, in-Some+else-picks, in_default}

pub rows-preserved : goal.rows-preserved
rows-preserved c =
    elim c.match-at.branch [
      | in-Some+then-picks+in_ok-push w ↦
          let row = w.in-Some.row.now in
          let on : true ≡ is_whose c.args.whose row = sym w.if-picks.true ∙ w.picks.ensures in
          let out = c.rows.rows.items in
          record {
            listed = listed (is_whose c.args.whose) c.args.stateids.now c.rows.place row out c.match-at.rows.items (sym w.in-Some.ensures) c.rows.invariant.listed (ap (λ v. v.items) w.rows-is ∙ w.in_ok-push.ensures.items ∙ ap (λ b. if b then out ++ row ∷ [] else out) on);
            end = c.rows.invariant.end;
          }
      | in-Some+else-picks w ↦
          let row = w.in-Some.row.now in
          let off : false ≡ is_whose c.args.whose row = sym w.if-picks.false ∙ w.picks.ensures in
          let out = c.rows.rows.items in
          record {
            listed = listed (is_whose c.args.whose) c.args.stateids.now c.rows.place row out c.match-at.rows.items (sym w.in-Some.ensures) c.rows.invariant.listed (ap (λ v. v.items) w.rows-is ∙ ap (λ b. if b then out ++ row ∷ [] else out) off);
            end = c.rows.invariant.end;
          }
      | in_default w ↦ absurd (none_within c.args.stateids.now c.rows.place (sym w.in_default.ensures) (omega (arith, c.rows-test.true, c.rows.invariant.end)))
    ]
