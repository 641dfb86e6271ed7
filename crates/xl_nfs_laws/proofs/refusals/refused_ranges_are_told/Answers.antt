use Rattle.xl_nfs_laws.proofs.RangeToldLaws.{first_range_told, foreign_exactly, foreign_told, lock_range_told, unlock_range_told}
use Rattle.xl_nfs_laws.proofs.refusals.refused_ranges_are_told.Goals as goal

pub returns-clause-locks : goal.returns-clause-locks
returns-clause-locks c = lock_range_told

pub returns-clause-first : goal.returns-clause-first
returns-clause-first c = first_range_told

pub returns-clause-unlocks : goal.returns-clause-unlocks
returns-clause-unlocks c = unlock_range_told

pub returns-clause-foreign : goal.returns-clause-foreign
returns-clause-foreign c = foreign_exactly

pub returns-clause-foreign_told : goal.returns-clause-foreign_told
returns-clause-foreign_told c = foreign_told
