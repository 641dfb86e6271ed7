use Rattle.xl_nfs_locks.proofs.joining.join_granted.Goals as goal

pub returns-in_ok-told-in-Some-clause-done : goal.returns-in_ok-told-in-Some-clause-done
returns-in_ok-told-in-Some-clause-done c = λ n current. rw c.in-Some.is (c.in_ok-told-in-Some.ensures.done n current)

pub returns-in_ok-told-in-None-clause-done : goal.returns-in_ok-told-in-None-clause-done
returns-in_ok-told-in-None-clause-done c = λ n current. rw c.in-None.is (c.in_ok-told-in-None.ensures.done n current)
