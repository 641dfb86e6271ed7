use Rattle.xl_nfs_laws.proofs.OpenFlagLaws.{open_flags}
use Rattle.xl_nfs_laws.proofs.open_answers.unconfirmed_owners_are_to_confirm.Goals as goal

pub returns : goal.returns
returns c = open_flags
