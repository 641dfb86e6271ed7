use Rattle.xl_plan.proofs.GraceLaws.{early_told, late_told}
use Rattle.xl_plan.proofs.grace_laws.grace_is_told.Goals as goal

pub returns-clause-early : goal.returns-clause-early
returns-clause-early c = early_told

pub returns-clause-late : goal.returns-clause-late
returns-clause-late c = late_told
