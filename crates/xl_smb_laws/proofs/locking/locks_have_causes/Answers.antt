use Rattle.xl_smb_laws.proofs.LockCauseLaws.{lock_apart, lock_closed, lock_flagged, lock_lost, lock_many, lock_one, lock_past, lock_several}
use Rattle.xl_smb_laws.proofs.locking.locks_have_causes.Goals as goal

pub returns-clause-lost : goal.returns-clause-lost
returns-clause-lost c = lock_lost

pub returns-clause-apart : goal.returns-clause-apart
returns-clause-apart c = lock_apart

pub returns-clause-closed : goal.returns-clause-closed
returns-clause-closed c = lock_closed

pub returns-clause-flags : goal.returns-clause-flags
returns-clause-flags c = λ n s files others l conn h client call session place number row of. lock_flagged n s files others l conn h client call session place number row of

pub returns-clause-many : goal.returns-clause-many
returns-clause-many c = λ n s files others l conn h client call session place number row of. lock_many n s files others l conn h client call session place number row of

pub returns-clause-past : goal.returns-clause-past
returns-clause-past c = λ n s files others l conn h client call session place number row of. lock_past n s files others l conn h client call session place number row of

pub returns-clause-one : goal.returns-clause-one
returns-clause-one c = λ n s files others l conn h client call session place number row e t of. lock_one n s files others l conn h client call session place number row of e t

pub returns-clause-several : goal.returns-clause-several
returns-clause-several c = λ n s files others l conn h client call session place number row of. lock_several n s files others l conn h client call session place number row of
