use Rattle.xl_plan.proofs.BudgetLaws.{end_leaves}
use Rattle.xl_plan.proofs.KeeperLaws.{end_quiet}
use Rattle.xl_front_nfs.proofs.ending.end_party.Goals as goal

pub returns-clause-leaves : goal.returns-clause-leaves
returns-clause-leaves c = end_leaves _ _ _ _ c.requires.ready.good c.in_ok-effects.ensures.state c.in_ok-effects.ensures.good

pub returns-clause-quiet : goal.returns-clause-quiet
returns-clause-quiet c = end_quiet _ _ _ _ c.in_ok-effects.ensures.state
