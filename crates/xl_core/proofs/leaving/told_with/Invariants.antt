use Rattle.std.proofs.Common.{◌≡◌, ◌++◌, drop}
use Rattle.xl_core.specs.Settle.{told_with}
use Rattle.xl_core.proofs.leaving.told_with.Given as goal

abbrev pub invariant-loop-waiter : goal.invariant-loop-waiter
invariant-loop-waiter l = l.effects ++ told_with l.leaver (drop l.waiter-index l.waiters) ≡ told_with l.leaver l.waiters
