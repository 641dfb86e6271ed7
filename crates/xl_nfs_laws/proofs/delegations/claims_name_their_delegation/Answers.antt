use Rattle.xl_nfs_laws.proofs.ToldDelegationLaws.{claim_exactly, claim_opens}
use Rattle.xl_nfs_laws.proofs.delegations.claims_name_their_delegation.Goals as goal

pub returns-clause-exactly : goal.returns-clause-exactly
returns-clause-exactly c = claim_exactly

pub returns-clause-opens : goal.returns-clause-opens
returns-clause-opens c = claim_opens
