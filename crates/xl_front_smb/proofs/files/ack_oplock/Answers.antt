use Rattle.xl_plan.proofs.BudgetLaws.{leaves_self}
use Rattle.std.proofs.Common.{rules}
use Rattle.xl_front_smb.proofs.AckLaws.{by_oplock}
use Rattle.xl_front_smb.proofs.files.ack_oplock.Goals as goal

pub returns-in_default-2-clause-done : goal.returns-in_default-2-clause-done
returns-in_default-2-clause-done c = λ n. by_oplock n c.args.core.now c.args.state.now c.args.level c.args.number c.in-Some.row _ (search rules) (search rules) (search rules) (c.ack_resting.ensures.done n c.args.core.now c.args.state.now)

pub returns-in_default-clause-leaves : goal.returns-in_default-clause-leaves
returns-in_default-clause-leaves c = leaves_self _ _ _ c.requires.ready

pub returns-in_default-2-clause-leaves : goal.returns-in_default-2-clause-leaves
returns-in_default-2-clause-leaves c = leaves_self _ _ _ c.requires.ready

pub returns-then-level-eq-LEASE_LEVEL-clause-leaves : goal.returns-then-level-eq-LEASE_LEVEL-clause-leaves
returns-then-level-eq-LEASE_LEVEL-clause-leaves c = leaves_self _ _ _ c.requires.ready
