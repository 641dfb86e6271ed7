use Rattle.xl_nfs_laws.proofs.ReclaimedDelegationLaws.{reclaimed_given}
use Rattle.xl_nfs_laws.proofs.delegations.reclaimed_delegations_come_with_their_open.Goals as goal

pub returns : goal.returns
returns c = reclaimed_given
