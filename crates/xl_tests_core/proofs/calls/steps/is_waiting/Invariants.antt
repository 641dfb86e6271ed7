use Rattle.std.proofs.Common.{◌≡◌, drop}
use Rattle.xl_wait.specs.Waiting.{is_waiting}
use Rattle.xl_tests_core.proofs.calls.steps.is_waiting.Given as goal

abbrev pub invariant-waiters : goal.invariant-waiters
invariant-waiters l = is_waiting l.number (drop l.waiter-index l.waiters) ≡ is_waiting l.number l.waiters
