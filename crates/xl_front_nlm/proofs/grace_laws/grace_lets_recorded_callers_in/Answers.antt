use Rattle.xl_front_nlm.proofs.GraceStatuses.{call_amiss, call_granted}
use Rattle.xl_front_nlm.proofs.grace_laws.grace_lets_recorded_callers_in.Goals as goal

pub returns-clause-denied : goal.returns-clause-denied
returns-clause-denied c = call_amiss

pub returns-clause-granted : goal.returns-clause-granted
returns-clause-granted c = call_granted
