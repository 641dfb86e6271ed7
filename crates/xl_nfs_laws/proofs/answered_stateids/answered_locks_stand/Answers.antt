use Rattle.xl_nfs_laws.proofs.AnsweredLockLaws.{first_stands, first_told, lock_names, unlock_names}
use Rattle.xl_nfs_laws.proofs.answered_stateids.answered_locks_stand.Goals as goal

pub returns-clause-locks : goal.returns-clause-locks
returns-clause-locks c = lock_names

pub returns-clause-unlocks : goal.returns-clause-unlocks
returns-clause-unlocks c = unlock_names

pub returns-clause-first : goal.returns-clause-first
returns-clause-first c = first_stands

pub returns-clause-told : goal.returns-clause-told
returns-clause-told c = first_told
