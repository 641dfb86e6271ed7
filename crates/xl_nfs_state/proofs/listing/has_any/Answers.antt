use Rattle.std.proofs.Common.{sym, ◌∙◌, arith}
use Rattle.xl_nfs_state.proofs.ListingLaws.{any_here, any_later, none_within}
use Rattle.xl_nfs_state.proofs.listing.has_any.Goals as goal
use Rattle.xl_nfs_state.proofs.listing.has_any.Goals.{in-Some+else-picks, in_default}

pub returns-then-picks : goal.returns-then-picks
returns-then-picks g c =
    any_here (g.P.Picks.picks c.args.which.now) c.args.rows.now c.rows.place c.in-Some.row.now (sym c.in-Some.ensures) (sym c.picks.ensures ∙ c.if-picks.true) c.rows.invariant.later

pub rows-preserved : goal.rows-preserved
rows-preserved g c =
    elim c.match-at.branch [
      | in-Some+else-picks w ↦ record {
        later = any_later (g.P.Picks.picks c.args.which.now) c.args.rows.now c.rows.place w.in-Some.row.now (sym w.in-Some.ensures) (sym w.picks.ensures ∙ w.if-picks.false) c.rows.invariant.later;
        end = c.rows.invariant.end;
      }
      | in_default w ↦ absurd (none_within c.args.rows.now c.rows.place (sym w.in_default.ensures) (omega (arith, c.rows-test.true, c.rows.invariant.end)))
    ]
