use Rattle.xl_nfs_laws.proofs.EnteredOpenLaws.{more_is_had}
use Rattle.xl_nfs_laws.proofs.opens.opens_again_are_widened.Goals as goal

pub returns : goal.returns
returns c = more_is_had
