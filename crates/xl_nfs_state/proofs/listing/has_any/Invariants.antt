use Rattle.std.proofs.Common.{◌≡◌, drop, length}
use Rattle.std.specs.List.{list_any}
use Rattle.xl_nfs_state.proofs.listing.has_any.Given as goal

abbrev pub invariant-rows : goal.invariant-rows
invariant-rows g l = record {
  later : list_any (g.P.Picks.picks l.which) l.rows ≡ list_any (g.P.Picks.picks l.which) (drop l.place l.rows);
  end : l.place-end ≡ length l.rows;
}
