use Rattle.std.proofs.Common.{List, subst, sym, ◌∙◌}
use Rattle.std.specs.List.{AllByRecursion}
use Rattle.xl_wait.specs.declared.waiter.Waiter.{Waiter}
use Rattle.xl_core.specs.InFront.{IsInLine}
use Rattle.xl_core.specs.Unsettled.{AreUp, AreHeldUp}
use Rattle.xl_core.specs.Whole.{state_of}
use Rattle.xl_core.specs.declared.blockers.Front.TheVariants.{Before}
use Rattle.xl_core.proofs.UnsettledLaws.{all_lines}
use Rattle.xl_core.proofs.settling.next_called.Goals as goal

pub first_free-requires-clause-line : goal.first_free-requires-clause-line
first_free-requires-clause-line c =
    subst (λ (ws : List Waiter). AllByRecursion (λ w. AllByRecursion (IsInLine (Before w.id) c.args.parts.now.queue) w.asked) ws) (sym c.waiters.ensures.waiters) (all_lines (state_of c.args.parts.now) c.requires.good)

pub first_free-requires-clause-up : goal.first_free-requires-clause-up
unfolding AreHeldUp
first_free-requires-clause-up c =
    subst (λ (ws : List Waiter). AreUp c.args.unsettled.now (state_of c.args.parts.now) ws) (sym c.waiters.ensures.waiters) (c.requires.held_up (sym c.runs.ensures ∙ c.if-runs.false))
