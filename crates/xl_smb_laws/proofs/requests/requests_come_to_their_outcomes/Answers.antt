use Rattle.xl_smb_laws.proofs.MessageLaws.{request_comes}
use Rattle.xl_smb_laws.proofs.requests.requests_come_to_their_outcomes.Goals as goal

pub returns : goal.returns
returns c = λ n exports others f s conn bytes h call is. request_comes n exports others f s conn bytes h call is
