use Rattle.xl_plan.proofs.BudgetLaws.{close_leaves}
use Rattle.xl_plan.proofs.KeeperLaws.{close_quiet}
use Rattle.xl_front_smb.proofs.ending.end_one.Goals as goal

pub returns-clause-leaves : goal.returns-clause-leaves
returns-clause-leaves c = close_leaves _ _ _ _ _ c.in_ok-told.ensures.state c.requires.ready.good c.in_ok-told.ensures.good

pub returns-clause-quiet : goal.returns-clause-quiet
returns-clause-quiet c = close_quiet _ _ _ _ _ c.in_ok-told.ensures.state
