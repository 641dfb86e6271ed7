use Rattle.xl_plan.proofs.BudgetLaws.{leaves_self}
use Rattle.xl_front_smb.proofs.locks.lock_on.Goals as goal

pub returns-then-not-is_count-clause-leaves : goal.returns-then-not-is_count-clause-leaves
returns-then-not-is_count-clause-leaves g c = leaves_self _ _ _ c.requires.ready

pub returns-in-Some-clause-leaves : goal.returns-in-Some-clause-leaves
returns-in-Some-clause-leaves g c = leaves_self _ _ _ c.requires.ready
