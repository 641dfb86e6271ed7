use Rattle.std.proofs.Common.{refl, sym, ◌∙◌}
use Rattle.std.specs.List.{AllByRecursion}
use Rattle.xl_core.specs.InFront.{IsInLine}
use Rattle.xl_core.specs.Whole.{state_of}
use Rattle.xl_core.specs.declared.blockers.Front.TheVariants.{Before}
use Rattle.xl_core.proofs.UnsettledLaws.{called_on_from, next_of}
use Rattle.xl_core.proofs.settling.first_free.Goals as goal

pub loop-waiter-init : goal.loop-waiter-init
loop-waiter-init c = (refl, c.requires.up, c.requires.line)

pub holds_up-requires-clause-line : goal.holds_up-requires-clause-line
holds_up-requires-clause-line c = next_of (λ w. AllByRecursion (IsInLine (Before w.id) c.args.parts.now.queue) w.asked) c.args.waiters.now c.loop-waiter.waiter-index c.waiter-item.result c.loop-waiter-test.true c.waiter-item.is c.loop-waiter.invariant.2

pub loop-waiter-preserved : goal.loop-waiter-preserved
loop-waiter-preserved c =
    called_on_from (λ w. AllByRecursion (IsInLine (Before w.id) c.args.parts.now.queue) w.asked) c.args.unsettled.now (state_of c.args.parts.now) c.args.waiters.now c.loop-waiter.waiter-index c.waiter-item.result c.loop-waiter-test.true c.waiter-item.is
    (sym c.in_ok-holds_up.ensures ∙ c.if-not-branch.false) c.loop-waiter.invariant
