use Rattle.xl_smb_laws.proofs.CreateLaws.{create_due}
use Rattle.xl_smb_laws.proofs.requests.creates_have_causes.Goals as goal

pub returns : goal.returns
returns c = λ n s files others l conn h call told. create_due n s files others l conn h call told
