use Rattle.xl_nfs_laws.proofs.CheckStatusLaws.{close_faults, confirm_faults, downgrade_faults, first_faults, lock_faults, unlock_faults}
use Rattle.xl_nfs_laws.proofs.refusals.old_stateids_are_told.Goals as goal

pub returns-clause-confirms : goal.returns-clause-confirms
returns-clause-confirms c = confirm_faults

pub returns-clause-downgrades : goal.returns-clause-downgrades
returns-clause-downgrades c = downgrade_faults

pub returns-clause-closes : goal.returns-clause-closes
returns-clause-closes c = close_faults

pub returns-clause-locks : goal.returns-clause-locks
returns-clause-locks c = lock_faults

pub returns-clause-first : goal.returns-clause-first
returns-clause-first c = first_faults

pub returns-clause-unlocks : goal.returns-clause-unlocks
returns-clause-unlocks c = unlock_faults
