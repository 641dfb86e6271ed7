use Rattle.xl_core.specs.Good.{IsGood}
use Rattle.xl_tests_core.proofs.calls.steps.wrong_from.Given as goal

abbrev pub invariant-rows : goal.invariant-rows
invariant-rows l = IsGood l.core
