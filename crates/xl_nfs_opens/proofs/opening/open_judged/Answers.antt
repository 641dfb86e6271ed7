use Rattle.xl_nfs_opens.proofs.opening.open_judged.Goals as goal

pub returns-in_ok-done-in-Repeats-clause-done : goal.returns-in_ok-done-in-Repeats-clause-done
returns-in_ok-done-in-Repeats-clause-done g c = λ n may. rw c.in-Repeats.is (c.in_ok-done-in-Repeats.ensures.done n)

pub returns-in_ok-done-in-Anew-clause-done : goal.returns-in_ok-done-in-Anew-clause-done
returns-in_ok-done-in-Anew-clause-done g c = λ n may. rw c.in-Anew.is (c.in_ok-done-in-Anew.ensures.done n may)
