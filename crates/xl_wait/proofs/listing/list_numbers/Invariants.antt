use Rattle.std.proofs.Common.{◌≡◌, ◌++◌, drop}
use Rattle.xl_wait.specs.Waiting.{numbers_of}
use Rattle.xl_wait.proofs.listing.list_numbers.Given as goal

abbrev pub invariant-waiters : goal.invariant-waiters
invariant-waiters l = l.numbers.items ++ numbers_of l.conn (drop l.waiter-index l.waiters) ≡ numbers_of l.conn l.waiters
