use Rattle.xl_nfs_laws.proofs.CheckStatusLaws.{close_refused, confirm_refused, downgrade_refused, first_refused, lock_refused, unlock_refused}
use Rattle.xl_nfs_laws.proofs.refusals.refusals_are_told.Goals as goal

pub returns-clause-confirms : goal.returns-clause-confirms
returns-clause-confirms c = confirm_refused

pub returns-clause-downgrades : goal.returns-clause-downgrades
returns-clause-downgrades c = downgrade_refused

pub returns-clause-closes : goal.returns-clause-closes
returns-clause-closes c = close_refused

pub returns-clause-locks : goal.returns-clause-locks
returns-clause-locks c = lock_refused

pub returns-clause-first : goal.returns-clause-first
returns-clause-first c = first_refused

pub returns-clause-unlocks : goal.returns-clause-unlocks
returns-clause-unlocks c = unlock_refused
