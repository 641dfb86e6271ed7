use Rattle.xl_core.specs.Good.{IsGood}
use Rattle.xl_tests_core.proofs.calls.steps.first_wrong.Given as goal

abbrev pub invariant-steps : goal.invariant-steps
invariant-steps l = IsGood l.core
