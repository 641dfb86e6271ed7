use Rattle.std.proofs.Common.{◌≡◌, ◌++◌, drop}
use Rattle.xl_replay.specs.Replays.{stores_of}
use Rattle.xl_replay.proofs.captures.stores_of.Given as goal

abbrev pub invariant-loop-step : goal.invariant-loop-step
invariant-loop-step l = l.stores ++ stores_of (drop l.step-index l.steps) ≡ stores_of l.steps
