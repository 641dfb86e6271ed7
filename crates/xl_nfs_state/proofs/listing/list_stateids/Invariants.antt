use Rattle.std.proofs.Common.{◌≡◌, ◌++◌, drop, filter, length}
use Rattle.xl_nfs_state.specs.State.{is_whose}
use Rattle.xl_nfs_state.proofs.listing.list_stateids.Given as goal

abbrev pub invariant-rows : goal.invariant-rows
invariant-rows l = record {
  listed : l.rows.items ++ filter (is_whose l.whose) (drop l.place l.stateids) ≡ filter (is_whose l.whose) l.stateids;
  end : l.place-end ≡ length l.stateids;
}
