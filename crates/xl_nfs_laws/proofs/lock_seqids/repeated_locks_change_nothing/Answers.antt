use Rattle.xl_nfs_laws.proofs.LockSeqidLaws.{lock_repeated, unlock_repeated, first_repeated}
use Rattle.xl_nfs_laws.proofs.lock_seqids.repeated_locks_change_nothing.Goals as goal

pub returns-clause-locks : goal.returns-clause-locks
returns-clause-locks c = lock_repeated

pub returns-clause-unlocks : goal.returns-clause-unlocks
returns-clause-unlocks c = unlock_repeated

pub returns-clause-first : goal.returns-clause-first
returns-clause-first c = first_repeated
