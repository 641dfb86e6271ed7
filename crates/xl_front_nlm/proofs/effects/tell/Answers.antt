use Rattle.std.proofs.Common.{arith}
use Rattle.xl_plan.proofs.BudgetLaws.{drawn_leaves, leaves_more}
use Rattle.xl_plan.proofs.KeeperLaws.{drawn_quiet}
use Rattle.xl_front_nlm.proofs.effects.tell.Goals as goal

pub returns-clause-leaves : goal.returns-clause-leaves
returns-clause-leaves c = leaves_more _ _ 1 2 (omega arith) (drawn_leaves _ _ c.draw-number.ensures.state c.draw-number.ensures.good)

pub returns-clause-quiet : goal.returns-clause-quiet
returns-clause-quiet c = drawn_quiet _ _ c.draw-number.ensures.state
