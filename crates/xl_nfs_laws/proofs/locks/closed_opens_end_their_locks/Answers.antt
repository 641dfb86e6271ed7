use Rattle.xl_nfs_laws.proofs.ClosedLockLaws.{closed_free, closed_alone}
use Rattle.xl_nfs_laws.proofs.locks.closed_opens_end_their_locks.Goals as goal

pub returns-clause-bytes : goal.returns-clause-bytes
returns-clause-bytes c = closed_free

pub returns-clause-stateids : goal.returns-clause-stateids
returns-clause-stateids c = closed_alone
