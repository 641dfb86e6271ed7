use Rattle.xl_nfs_locks.proofs.joining.join_checked.Goals as goal

pub returns-in-Passed-clause-done : goal.returns-in-Passed-clause-done
returns-in-Passed-clause-done g c = λ n. rw c.in-Passed.is (c.join_passed.ensures.done n)
