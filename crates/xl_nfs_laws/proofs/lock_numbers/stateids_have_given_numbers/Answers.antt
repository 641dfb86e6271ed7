use Rattle.xl_nfs_laws.proofs.LockNumberLaws.{lock_given, test_given, unlock_given, release_given}
use Rattle.xl_nfs_laws.proofs.lock_numbers.stateids_have_given_numbers.Goals as goal

pub returns-clause-locks : goal.returns-clause-locks
returns-clause-locks c = lock_given

pub returns-clause-tests : goal.returns-clause-tests
returns-clause-tests c = test_given

pub returns-clause-unlocks : goal.returns-clause-unlocks
returns-clause-unlocks c = unlock_given

pub returns-clause-releases : goal.returns-clause-releases
returns-clause-releases c = release_given
