use Rattle.xl_nfs_laws.proofs.LockStatusLaws.{known_exactly, first_exactly, first_full, known_denied, first_denied}
use Rattle.xl_nfs_laws.proofs.locks.lock_statuses_have_causes.Goals as goal

pub returns-clause-known : goal.returns-clause-known
returns-clause-known c = known_exactly

pub returns-clause-first : goal.returns-clause-first
returns-clause-first c = first_exactly

pub returns-clause-full : goal.returns-clause-full
returns-clause-full c = first_full

pub returns-clause-known_denied : goal.returns-clause-known_denied
returns-clause-known_denied c = known_denied

pub returns-clause-first_denied : goal.returns-clause-first_denied
returns-clause-first_denied c = first_denied
