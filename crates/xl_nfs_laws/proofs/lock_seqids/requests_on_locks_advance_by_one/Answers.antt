use Rattle.xl_nfs_laws.proofs.LockSeqidLaws.{lock_counts, unlock_counts, lock_stays, unlock_stays}
use Rattle.xl_nfs_laws.proofs.lock_seqids.requests_on_locks_advance_by_one.Goals as goal

pub returns-clause-locks : goal.returns-clause-locks
returns-clause-locks c = lock_counts

pub returns-clause-unlocks : goal.returns-clause-unlocks
returns-clause-unlocks c = unlock_counts

pub returns-clause-locks_only : goal.returns-clause-locks_only
returns-clause-locks_only c = lock_stays

pub returns-clause-unlocks_only : goal.returns-clause-unlocks_only
returns-clause-unlocks_only c = unlock_stays
