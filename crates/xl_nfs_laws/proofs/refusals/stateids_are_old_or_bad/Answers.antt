use Rattle.xl_nfs_laws.proofs.CheckStatusLaws.{bad_exactly, old_exactly}
use Rattle.xl_nfs_laws.proofs.refusals.stateids_are_old_or_bad.Goals as goal

pub returns-clause-old : goal.returns-clause-old
returns-clause-old c = old_exactly

pub returns-clause-bad : goal.returns-clause-bad
returns-clause-bad c = bad_exactly
