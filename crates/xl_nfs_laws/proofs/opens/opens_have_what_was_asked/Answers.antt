use Rattle.xl_nfs_laws.proofs.OpenLaws.{both_have_asked}
use Rattle.xl_nfs_laws.proofs.opens.opens_have_what_was_asked.Goals as goal

pub returns : goal.returns
returns c = both_have_asked
