use Rattle.xl_nfs_laws.proofs.ToldDelegationLaws.{wish_asks, wish_names, wish_reclaims}
use Rattle.xl_nfs_laws.proofs.delegations.wishes_are_by_the_claim.Goals as goal

pub returns-clause-reclaims : goal.returns-clause-reclaims
returns-clause-reclaims c = wish_reclaims

pub returns-clause-asks : goal.returns-clause-asks
returns-clause-asks c = wish_asks

pub returns-clause-names : goal.returns-clause-names
returns-clause-names c = wish_names
