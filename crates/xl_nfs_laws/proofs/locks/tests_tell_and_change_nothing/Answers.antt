use Rattle.xl_nfs_laws.proofs.LockStatusLaws.{test_changes_nothing, test_exactly, test_denied}
use Rattle.xl_nfs_laws.proofs.locks.tests_tell_and_change_nothing.Goals as goal

pub returns-clause-nothing : goal.returns-clause-nothing
returns-clause-nothing c = test_changes_nothing

pub returns-clause-told : goal.returns-clause-told
returns-clause-told c = test_exactly

pub returns-clause-denied : goal.returns-clause-denied
returns-clause-denied c = test_denied
