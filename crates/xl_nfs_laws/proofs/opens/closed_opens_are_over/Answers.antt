use Rattle.xl_nfs_laws.proofs.OpenLaws.{closed_is_over}
use Rattle.xl_nfs_laws.proofs.opens.closed_opens_are_over.Goals as goal

pub returns : goal.returns
returns c = closed_is_over
