use Rattle.xl_smb_laws.proofs.RequestOwn.{end_own}
use Rattle.xl_smb_laws.proofs.requests.deeds_are_the_connections.Goals as goal

pub returns-clause-ends : goal.returns-clause-ends
returns-clause-ends c = λ f s conn. end_own f s conn
