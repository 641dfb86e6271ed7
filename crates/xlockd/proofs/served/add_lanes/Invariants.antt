use Rattle.std.proofs.Common.{◌≤◌, ◌-◌, vec_len}
use Rattle.xlockd.proofs.served.add_lanes.Given as goal

abbrev pub invariant-lanes : goal.invariant-lanes
invariant-lanes g l = vec_len l.lanes ≤ l.most

abbrev pub decreases-lanes : goal.decreases-lanes
decreases-lanes g l = l.most - vec_len l.lanes
