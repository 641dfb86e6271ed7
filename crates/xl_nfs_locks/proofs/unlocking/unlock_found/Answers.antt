use Rattle.xl_nfs_locks.proofs.unlocking.unlock_found.Goals as goal

pub returns-in-Passed-clause-done : goal.returns-in-Passed-clause-done
returns-in-Passed-clause-done g c = λ n. rw c.in-Passed.is (c.unlock_passed.ensures.done n)
