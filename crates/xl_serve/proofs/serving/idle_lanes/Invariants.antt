use Rattle.std.proofs.Common.{◌≡◌, ◌≤◌, ◌+◌, ◌++◌, length, vec_capacity, vec_len}
use Rattle.std.specs.List.{AllByRecursion}
use Rattle.std.specs.Vec.Iter.{into_iter_items}
use Rattle.xl_serve.specs.Serve.{IsIdle, lanes_in}
use Rattle.xl_serve.proofs.serving.idle_lanes.Given as goal

abbrev pub invariant-loop-lane : goal.invariant-loop-lane
invariant-loop-lane g l = record {
  lanes : lanes_in l.all.items ++ into_iter_items l.lane-iterator ≡ l.fn.lanes.items;
  idle : AllByRecursion IsIdle l.all.items;
  room : vec_len l.all + length (into_iter_items l.lane-iterator) ≤ vec_capacity l.all;
}
