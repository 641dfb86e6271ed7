use Rattle.xl_nfs_laws.proofs.LockedByteLaws.{first_failed, first_locked, first_refused, known_failed, known_locked, known_refused}
use Rattle.xl_nfs_laws.proofs.locks.granted_locks_are_held.Goals as goal

pub returns-clause-known : goal.returns-clause-known
returns-clause-known c = known_locked

pub returns-clause-first : goal.returns-clause-first
returns-clause-first c = first_locked

pub returns-clause-known_refused : goal.returns-clause-known_refused
returns-clause-known_refused c = known_refused

pub returns-clause-first_refused : goal.returns-clause-first_refused
returns-clause-first_refused c = first_refused

pub returns-clause-known_failed : goal.returns-clause-known_failed
returns-clause-known_failed c = known_failed

pub returns-clause-first_failed : goal.returns-clause-first_failed
returns-clause-first_failed c = first_failed
