use Rattle.std.proofs.Common.{◌≡◌, ◌≤◌, ◌+◌, drop, length}
use Rattle.xl_nfs_state.specs.State.{opens}
use Rattle.xl_nfs_state.proofs.listing.count_opens.Given as goal

abbrev pub invariant-rows : goal.invariant-rows
invariant-rows l = record {
  counted : l.count + opens (drop l.place l.stateids) ≡ opens l.stateids;
  few : l.count ≤ l.place;
  end : l.place-end ≡ length l.stateids;
}
