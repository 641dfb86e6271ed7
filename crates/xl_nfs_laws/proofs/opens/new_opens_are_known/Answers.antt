use Rattle.xl_nfs_laws.proofs.EnteredOpenLaws.{new_open_comes}
use Rattle.xl_nfs_laws.proofs.opens.new_opens_are_known.Goals as goal

pub returns : goal.returns
returns c = new_open_comes
