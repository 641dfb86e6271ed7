use Rattle.xl_plan.proofs.PlanLaws.{kept_so}
use Rattle.xl_nfs_laws.specs.Orderly.{IsOrderly}
use Rattle.xl_nfs_laws.proofs.LockOrderLaws.{lock_keeps, release_keeps, test_keeps, unlock_keeps}
use Rattle.xl_nfs_locks.specs.FirstLocks.{lock}
use Rattle.xl_nfs_locks.specs.Releases.{release}
use Rattle.xl_nfs_locks.specs.Tests.{lock_test}
use Rattle.xl_nfs_locks.specs.Unlocks.{unlock}
use Rattle.xl_nfs_laws.proofs.lock_order.stateids_stay_orderly.Goals as goal

pub returns-clause-locks : goal.returns-clause-locks
returns-clause-locks c = λ n s l current a orderly. kept_so IsOrderly n s l (lock s l current a) orderly (lock_keeps s l current a orderly)

pub returns-clause-tests : goal.returns-clause-tests
returns-clause-tests c = λ n s l current a orderly. kept_so IsOrderly n s l (lock_test s l current a) orderly (test_keeps s l current a orderly)

pub returns-clause-unlocks : goal.returns-clause-unlocks
returns-clause-unlocks c = λ n s l current a orderly. kept_so IsOrderly n s l (unlock s l current a) orderly (unlock_keeps s l current a orderly)

pub returns-clause-releases : goal.returns-clause-releases
returns-clause-releases c = λ n s l current a orderly. kept_so IsOrderly n s l (release s l current a) orderly (release_keeps s l current a orderly)
