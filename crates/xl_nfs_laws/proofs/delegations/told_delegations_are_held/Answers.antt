use Rattle.xl_nfs_laws.proofs.ToldDelegationLaws.{told_delegated}
use Rattle.xl_nfs_laws.proofs.delegations.told_delegations_are_held.Goals as goal

pub returns : goal.returns
returns c = told_delegated
