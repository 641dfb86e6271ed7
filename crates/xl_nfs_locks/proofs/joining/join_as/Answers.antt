use Rattle.xl_nfs_locks.proofs.joining.join_as.Goals as goal

pub returns-in-Joins-clause-done : goal.returns-in-Joins-clause-done
returns-in-Joins-clause-done g c = λ n. rw c.in-Joins.is (c.join_in.ensures.done n)
