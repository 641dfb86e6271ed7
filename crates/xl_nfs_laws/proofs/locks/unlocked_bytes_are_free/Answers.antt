use Rattle.xl_nfs_laws.proofs.LockStatusLaws.{unlock_frees, unlock_refused}
use Rattle.xl_nfs_laws.proofs.locks.unlocked_bytes_are_free.Goals as goal

pub returns-clause-free : goal.returns-clause-free
returns-clause-free c = unlock_frees

pub returns-clause-refused : goal.returns-clause-refused
returns-clause-refused c = unlock_refused
