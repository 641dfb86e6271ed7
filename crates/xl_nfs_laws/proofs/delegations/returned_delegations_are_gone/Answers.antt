use Rattle.xl_nfs_laws.proofs.ToldDelegationLaws.{return_exactly, return_told, returned_gone, returned_uncached}
use Rattle.xl_nfs_laws.proofs.delegations.returned_delegations_are_gone.Goals as goal

pub returns-clause-told : goal.returns-clause-told
returns-clause-told c = return_told

pub returns-clause-exactly : goal.returns-clause-exactly
returns-clause-exactly c = return_exactly

pub returns-clause-stateid : goal.returns-clause-stateid
returns-clause-stateid c = returned_gone

pub returns-clause-cache : goal.returns-clause-cache
returns-clause-cache c = returned_uncached
