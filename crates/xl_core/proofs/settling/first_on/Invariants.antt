use Rattle.std.proofs.Common.{◌≡◌, ◌≤◌, true, drop, take}
use Rattle.std.specs.List.{AllByRecursion}
use Rattle.xl_wait.specs.Waiting.{waiting_on}
use Rattle.xl_core.specs.Passed.{is_shut_out}
use Rattle.xl_core.specs.Settle.{first_free}
use Rattle.xl_core.specs.Whole.{state_of}
use Rattle.xl_core.proofs.settling.first_on.Given as goal

abbrev pub invariant-waiters : goal.invariant-waiters
invariant-waiters l =
    (first_free (state_of l.parts) (drop l.count (waiting_on l.file l.parts.queue)) ≡ first_free (state_of l.parts) (waiting_on l.file l.parts.queue))
    × AllByRecursion (λ w. is_shut_out (state_of l.parts) w ≡ true) (take l.shut (waiting_on l.file l.parts.queue))
    × (l.shut ≤ l.count)
