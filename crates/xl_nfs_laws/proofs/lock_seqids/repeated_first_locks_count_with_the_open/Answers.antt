use Rattle.xl_nfs_laws.proofs.LockSeqidLaws.{last_again, first_again, stale_counts, foreign_counts, first_unkept}
use Rattle.xl_nfs_laws.proofs.lock_seqids.repeated_first_locks_count_with_the_open.Goals as goal

pub returns-clause-last : goal.returns-clause-last
returns-clause-last c = last_again

pub returns-clause-again : goal.returns-clause-again
returns-clause-again c = first_again

pub returns-clause-stale : goal.returns-clause-stale
returns-clause-stale c = stale_counts

pub returns-clause-foreign : goal.returns-clause-foreign
returns-clause-foreign c = foreign_counts

pub returns-clause-only : goal.returns-clause-only
returns-clause-only c = first_unkept
