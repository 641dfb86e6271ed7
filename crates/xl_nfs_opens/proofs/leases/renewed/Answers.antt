use Rattle.xl_plan.proofs.BudgetLaws.{renew_leaves}
use Rattle.xl_plan.proofs.KeeperLaws.{renew_quiet}
use Rattle.xl_nfs_opens.proofs.leases.renewed.Goals as goal

pub returns-clause-leaves : goal.returns-clause-leaves
returns-clause-leaves c = renew_leaves _ _ _ _ c.in_ok-renew.ensures.state c.in_ok-renew.ensures.good

pub returns-clause-quiet : goal.returns-clause-quiet
returns-clause-quiet c = renew_quiet _ _ _ _ c.in_ok-renew.ensures.state
