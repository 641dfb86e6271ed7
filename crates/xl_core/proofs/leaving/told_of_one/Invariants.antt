use Rattle.std.proofs.Common.{◌≡◌, drop}
use Rattle.xl_core.specs.Settle.{told_of_one}
use Rattle.xl_core.proofs.leaving.told_of_one.Given as goal

abbrev pub invariant-loop-waiter : goal.invariant-loop-waiter
invariant-loop-waiter l = told_of_one l.id (drop l.waiter-index l.waiters) ≡ told_of_one l.id l.waiters
