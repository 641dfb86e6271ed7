use Rattle.xl_nfs_laws.proofs.RangeStatusLaws.{inval_exactly, mode_exactly, no_range_exactly}
use Rattle.xl_nfs_laws.proofs.refusals.ranges_are_refused_so.Goals as goal

pub returns-clause-unlocks : goal.returns-clause-unlocks
returns-clause-unlocks c = no_range_exactly

pub returns-clause-inval : goal.returns-clause-inval
returns-clause-inval c = inval_exactly

pub returns-clause-mode : goal.returns-clause-mode
returns-clause-mode c = mode_exactly
