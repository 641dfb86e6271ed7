use Rattle.std.proofs.Common.{◌≡◌, ◌++◌, take, drop}
use Rattle.xl_wait.specs.Waiting.{is_waiting, cancelled}
use Rattle.xl_wait.proofs.listing.find_waiter.Given as goal

abbrev pub invariant-waiters : goal.invariant-waiters
invariant-waiters l = (is_waiting l.id l.waiters ≡ is_waiting l.id (drop l.i l.waiters)) × (cancelled l.id l.waiters ≡ take l.i l.waiters ++ cancelled l.id (drop l.i l.waiters))
