use Rattle.xl_core.proofs.KnowingLaws.{granted_in_grace}
use Rattle.xl_core.proofs.grace_laws.grace_lets_recorded_clients_in.Goals as goal

pub returns-clause-granted : goal.returns-clause-granted
returns-clause-granted c = granted_in_grace
