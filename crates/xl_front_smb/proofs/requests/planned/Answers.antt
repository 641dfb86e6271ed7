use Rattle.xl_plan.proofs.BudgetLaws.{leaves_self}
use Rattle.xl_front_smb.proofs.requests.planned.Goals as goal

pub returns-in-Negotiate-clause-leaves : goal.returns-in-Negotiate-clause-leaves
returns-in-Negotiate-clause-leaves g c = leaves_self _ _ _ c.requires.ready
