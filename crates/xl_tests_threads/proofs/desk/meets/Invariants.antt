use Rattle.std.proofs.Common.{◌≡◌}
use Rattle.xl_tests_threads.proofs.desk.meets.Given as goal

abbrev pub invariant-loop : goal.invariant-loop
invariant-loop g l = (l.pass.desk ≡ l.desk) × (l.pass.view.first ≡ 0)
