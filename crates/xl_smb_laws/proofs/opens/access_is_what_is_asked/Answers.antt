use Rattle.xl_smb_laws.proofs.OpenRightLaws.{asked_together}
use Rattle.xl_smb_laws.proofs.opens.access_is_what_is_asked.Goals as goal

pub returns-clause-together : goal.returns-clause-together
returns-clause-together c = asked_together
