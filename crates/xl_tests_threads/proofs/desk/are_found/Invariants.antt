use Rattle.std.proofs.Common.{◌≡◌}
use Rattle.xl_tests_threads.proofs.desk.are_found.Given as goal

abbrev pub invariant-rows : goal.invariant-rows
invariant-rows g l = (l.pass.desk ≡ l.initial.pass.desk) × (l.pass.view.first ≡ l.initial.pass.view.first)
