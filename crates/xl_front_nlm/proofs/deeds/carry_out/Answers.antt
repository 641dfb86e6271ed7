use Rattle.std.proofs.Common.{arith, subst}
use Rattle.xl_plan.proofs.BudgetLaws.{cancel_leaves, end_leaves, give_leaves, leaves_more}
use Rattle.xl_core.specs.Deeds.{IsFitDeed}
use Rattle.xl_front_nlm.specs.Plans.{shown_deed}
use Rattle.xl_front_nlm.specs.declared.plan.Deed.{Deed as CodeDeed}
use Rattle.xl_plan.proofs.KeeperLaws.{cancel_quiet, end_quiet, give_quiet}
use Rattle.xl_front_nlm.proofs.deeds.carry_out.Goals as goal

pub returns-in-GivesBack-clause-leaves : goal.returns-in-GivesBack-clause-leaves
returns-in-GivesBack-clause-leaves c = leaves_more _ _ 0 2 (omega arith) (give_leaves _ _ _ _ c.give_back.ensures.state c.give_back.ensures.good)

pub returns-in_ok-effects-in-Cancels-clause-leaves : goal.returns-in_ok-effects-in-Cancels-clause-leaves
returns-in_ok-effects-in-Cancels-clause-leaves c = leaves_more _ _ 0 2 (omega arith) (cancel_leaves _ _ _ _ (subst (λ (d : CodeDeed). IsFitDeed c.args.core.now (shown_deed d)) c.in-Cancels.is c.requires.fit) c.in_ok-effects-in-Cancels.ensures.state c.in_ok-effects-in-Cancels.ensures.good)

pub returns-in_ok-effects-in-Ends-clause-leaves : goal.returns-in_ok-effects-in-Ends-clause-leaves
returns-in_ok-effects-in-Ends-clause-leaves c = leaves_more _ _ 0 2 (omega arith) (end_leaves _ _ _ _ c.requires.ready.core.good c.in_ok-effects-in-Ends.ensures.state c.in_ok-effects-in-Ends.ensures.good)

pub returns-in-GivesBack-clause-quiet : goal.returns-in-GivesBack-clause-quiet
returns-in-GivesBack-clause-quiet c = give_quiet _ _ _ _ c.give_back.ensures.state

pub returns-in_ok-effects-in-Cancels-clause-quiet : goal.returns-in_ok-effects-in-Cancels-clause-quiet
returns-in_ok-effects-in-Cancels-clause-quiet c = cancel_quiet _ _ _ _ c.in_ok-effects-in-Cancels.ensures.state

pub returns-in_ok-effects-in-Ends-clause-quiet : goal.returns-in_ok-effects-in-Ends-clause-quiet
returns-in_ok-effects-in-Ends-clause-quiet c = end_quiet _ _ _ _ c.in_ok-effects-in-Ends.ensures.state
