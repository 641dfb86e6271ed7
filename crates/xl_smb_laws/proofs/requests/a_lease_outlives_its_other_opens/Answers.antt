use Rattle.xl_smb_laws.proofs.LeaseLaws.{lease_outlives}
use Rattle.xl_smb_laws.proofs.requests.a_lease_outlives_its_other_opens.Goals as goal

pub returns : goal.returns
returns c = lease_outlives
