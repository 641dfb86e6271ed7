use Rattle.std.proofs.Common.{◌≡◌, ◌≤◌, ◌++◌}
use Rattle.std.specs.Vec.Iter.{into_iter_items, into_iter_len}
use Rattle.xl_replay.specs.Enter.{IsAlone}
use Rattle.xl_replay.specs.Replays.{events_in, events_of}
use Rattle.xl_replay.proofs.step.call_run.Given as goal

abbrev pub invariant-steps : goal.invariant-steps
invariant-steps g l = record {
  desk : l.pass.desk ≡ l.fn.pass.desk;
  alone : IsAlone l.pass.view;
  origin : l.pass.view.origin ≡ l.fn.pass.view.origin;
  fewer : into_iter_len l.steps ≤ into_iter_len l.fn.steps;
  events : events_in l.pass.view.seen ++ events_of (into_iter_items l.steps) ≡ events_in l.fn.pass.view.seen ++ events_of (into_iter_items l.fn.steps);
}

abbrev pub decreases-steps : goal.decreases-steps
decreases-steps g l = into_iter_len l.steps
