use Rattle.xl_smb_laws.proofs.RangeLaws.{unlocked_takes, unlocked_leaves, unlocked_tells, uncounted_refused}
use Rattle.xl_smb_laws.proofs.requests.unlocked_ranges_are_given_up.Goals as goal

pub returns-clause-done : goal.returns-clause-done
returns-clause-done c = λ n s files others l conn h client call session place number row of first good. unlocked_takes n s files others l conn h client call session place number row of first good

pub returns-clause-left : goal.returns-clause-left
returns-clause-left c = λ n s files others l conn h client call session place number row of first count good. unlocked_leaves n s files others l conn h client call session place number row of first count good

pub returns-clause-told : goal.returns-clause-told
returns-clause-told c = λ n s files others l conn h client call session place number row of first count good. unlocked_tells n s files others l conn h client call session place number row of first count good

pub returns-clause-uncounted : goal.returns-clause-uncounted
returns-clause-uncounted c = λ n s files others l conn h client call session place number row of count. uncounted_refused n s files others l conn h client call session place number row of count
