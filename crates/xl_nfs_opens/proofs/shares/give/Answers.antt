use Rattle.xl_plan.proofs.BudgetLaws.{give_leaves}
use Rattle.xl_plan.proofs.KeeperLaws.{give_quiet}
use Rattle.xl_nfs_opens.proofs.LeaveLaws.{give_told}
use Rattle.xl_nfs_opens.proofs.shares.give.Goals as goal

pub returns-in-Some-clause-told : goal.returns-in-Some-clause-told
returns-in-Some-clause-told c = λ n. rw c.in-Some.is (give_told n c.args.core.now c.in-Some.claim)

pub returns-in-Some-clause-leaves : goal.returns-in-Some-clause-leaves
returns-in-Some-clause-leaves c = give_leaves _ _ _ _ c.give_back-effects.ensures.state c.give_back-effects.ensures.good

pub returns-in-Some-clause-quiet : goal.returns-in-Some-clause-quiet
returns-in-Some-clause-quiet c = give_quiet _ _ _ _ c.give_back-effects.ensures.state
