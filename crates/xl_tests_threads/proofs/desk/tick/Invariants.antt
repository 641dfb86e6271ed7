use Rattle.std.proofs.Common.{◌≡◌, ◌≤◌}
use Rattle.xl_tests_threads.proofs.desk.tick.Given as goal

abbrev pub invariant-moments : goal.invariant-moments
invariant-moments g l = (l.pass.desk ≡ l.initial.pass.desk) × (l.pass.view.first ≡ l.initial.pass.view.first) × (l.entered ≤ l.moment-index)
