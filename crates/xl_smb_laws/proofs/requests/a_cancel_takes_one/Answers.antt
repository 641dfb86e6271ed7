use Rattle.xl_smb_laws.proofs.RangeLaws.{cancels_one}
use Rattle.xl_smb_laws.proofs.requests.a_cancel_takes_one.Goals as goal

pub returns : goal.returns
returns c = λ n s files others l conn h client known. cancels_one n s files others l conn h client known
