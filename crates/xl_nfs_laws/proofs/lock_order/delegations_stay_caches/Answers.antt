use Rattle.xl_nfs_laws.proofs.CalmLockLaws.{lock_tied, release_tied, test_tied, unlock_tied}
use Rattle.xl_nfs_laws.proofs.lock_order.delegations_stay_caches.Goals as goal

pub returns-clause-locks : goal.returns-clause-locks
returns-clause-locks c = lock_tied

pub returns-clause-tests : goal.returns-clause-tests
returns-clause-tests c = test_tied

pub returns-clause-unlocks : goal.returns-clause-unlocks
returns-clause-unlocks c = unlock_tied

pub returns-clause-releases : goal.returns-clause-releases
returns-clause-releases c = release_tied
