use Rattle.xl_smb_laws.proofs.OpenRightLaws.{none_denied, unshared_denied}
use Rattle.xl_smb_laws.proofs.opens.what_is_not_shared_is_denied.Goals as goal

pub returns-clause-denied : goal.returns-clause-denied
returns-clause-denied c = unshared_denied

pub returns-clause-nothing : goal.returns-clause-nothing
returns-clause-nothing c = none_denied
