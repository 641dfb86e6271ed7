use Rattle.xl_plan.proofs.BudgetLaws.{drawn_leaves}
use Rattle.xl_plan.proofs.KeeperLaws.{drawn_quiet}
use Rattle.xl_front_smb.proofs.numbers.drawn.Goals as goal

pub returns-clause-leaves : goal.returns-clause-leaves
returns-clause-leaves c = drawn_leaves _ _ c.draw.ensures.state c.draw.ensures.good

pub returns-clause-quiet : goal.returns-clause-quiet
returns-clause-quiet c = drawn_quiet _ _ c.draw.ensures.state
