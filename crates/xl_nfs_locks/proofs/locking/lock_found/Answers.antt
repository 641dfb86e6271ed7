use Rattle.xl_nfs_locks.proofs.locking.lock_found.Goals as goal

pub returns-in-Passed-clause-done : goal.returns-in-Passed-clause-done
returns-in-Passed-clause-done g c = λ n. rw c.in-Passed.is (c.lock_passed.ensures.done n)
