use Rattle.xl_front_nlm.proofs.LeftLaws.{locks_are_held, nm_locks_are_held}
use Rattle.xl_front_nlm.proofs.call_laws.granted_locks_are_held.Goals as goal

pub returns-clause-locks : goal.returns-clause-locks
returns-clause-locks c = locks_are_held

pub returns-clause-nm_locks : goal.returns-clause-nm_locks
returns-clause-nm_locks c = nm_locks_are_held
