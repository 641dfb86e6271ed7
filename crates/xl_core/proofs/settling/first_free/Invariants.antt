use Rattle.std.proofs.Common.{◌≡◌, drop}
use Rattle.std.specs.List.{AllByRecursion}
use Rattle.xl_core.specs.InFront.{IsInLine}
use Rattle.xl_core.specs.Settle.{first_free}
use Rattle.xl_core.specs.Unsettled.{AreUp}
use Rattle.xl_core.specs.Whole.{state_of}
use Rattle.xl_core.specs.declared.blockers.Front.TheVariants.{Before}
use Rattle.xl_core.proofs.settling.first_free.Given as goal

abbrev pub invariant-loop-waiter : goal.invariant-loop-waiter
invariant-loop-waiter l =
    (first_free (state_of l.parts) (drop l.waiter-index l.waiters) ≡ first_free (state_of l.parts) l.waiters)
    × AreUp l.unsettled (state_of l.parts) (drop l.waiter-index l.waiters)
    × AllByRecursion (λ w. AllByRecursion (IsInLine (Before w.id) l.parts.queue) w.asked) (drop l.waiter-index l.waiters)
