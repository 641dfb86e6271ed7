use Rattle.std.proofs.Common.{◌≡◌, ◌++◌, None}
use Rattle.std.specs.Vec.Iter.{into_iter_items, into_iter_len}
use Rattle.xl_house.specs.State.{start_of}
use Rattle.xl_replay.specs.Replays.{AreMade, events_in, events_of, origin_of}
use Rattle.xl_replay.proofs.step.step_all.Given as goal

abbrev pub invariant-starts : goal.invariant-starts
invariant-starts g l = record {
  goes : l.replayer.house.halt ≡ None;
  made : AreMade (start_of l.replayer.house.head) l.replayer.house.entries l.replayer.allowed;
  origin : origin_of l.replayer ≡ origin_of l.fn.replayer;
  events : events_in l.replayer.house.entries ++ events_of (into_iter_items l.steps) ≡ events_of l.fn.steps.items;
}

abbrev pub decreases-starts : goal.decreases-starts
decreases-starts g l = into_iter_len l.steps
