use Rattle.std.proofs.Common.{refl, sym, ◌∙◌}
use Rattle.xl_plan.proofs.BudgetLaws.{leaves_self}
use Rattle.xl_plan.proofs.KeeperLaws.{hands_self, hands_then}
use Rattle.xl_smb_locks.proofs.LeaveLaws.{leaves_on}
use Rattle.xl_smb_locks.proofs.UnlockLaws.{come_self, one_more, missed_at}
use Rattle.xl_smb_locks.proofs.unlocking.unlock.Goals as goal

pub returns-then-not-is_granted-clause-state : goal.returns-then-not-is_granted-clause-state
returns-then-not-is_granted-clause-state g c =
    λ n. sym ((missed_at c.args.number c.args.row.now c.args.core.now c.elements.core c.unlock_one.new.core c.args.elements.now c.elements.element-index _ _ c.in_ok-answer.answer c.elements-test.true refl c.elements.invariant.0 (sym c.unlock_fault.ensures ∙ c.in_default.is) c.in_ok-answer.ensures.state (sym c.is_granted.ensures ∙ c.if-not-is_granted.true)).1 n)

pub returns-then-not-is_granted-clause-keeper : goal.returns-then-not-is_granted-clause-keeper
returns-then-not-is_granted-clause-keeper g c =
    hands_then g.K.Keeper.held g.K.Keeper.given g.K.Keeper.faults g.K.Keeper.left c.args.core.now c.elements.core c.unlock_one.new.core c.args.keeper.now c.elements.keeper c.unlock_one.new.keeper c.elements.invariant.2 c.in_ok-answer.ensures.keeper

pub elements-preserved : goal.elements-preserved
elements-preserved g c = (
  one_more c.args.number c.args.row.now c.args.core.now c.elements.core c.unlock_one.new.core c.args.elements.now c.elements.element-index _ _ c.in_ok-answer.answer c.elements-test.true refl c.elements.invariant.0 (sym c.unlock_fault.ensures ∙ c.in_default.is) c.in_ok-answer.ensures.state (sym c.is_granted.ensures ∙ c.if-not-is_granted.false),
  leaves_on c.args.core.now c.elements.core c.unlock_one.new.core c.elements.invariant.1 c.in_ok-answer.ensures.leaves,
  hands_then g.K.Keeper.held g.K.Keeper.given g.K.Keeper.faults g.K.Keeper.left c.args.core.now c.elements.core c.unlock_one.new.core c.args.keeper.now c.elements.keeper c.unlock_one.new.keeper c.elements.invariant.2 c.in_ok-answer.ensures.keeper,
)

pub elements-init : goal.elements-init
elements-init g c = (
  come_self c.args.number c.args.row.now c.args.core.now c.args.elements.now,
  leaves_self c.args.core.now 0 0 c.requires.ready,
  hands_self g.K.Keeper.held g.K.Keeper.given g.K.Keeper.faults g.K.Keeper.left c.args.core.now c.args.keeper.now,
)
