use Rattle.xl_plan.proofs.RecordLaws.{failed_told}
use Rattle.xl_plan.proofs.grace_laws.monitored_clients_are_recorded.Goals as goal

pub returns-clause-failed : goal.returns-clause-failed
returns-clause-failed c = failed_told
