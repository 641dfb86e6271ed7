use Rattle.xl_nfs_laws.proofs.LockOwnerLaws.{to_counts, to_stays}
use Rattle.xl_nfs_laws.proofs.lock_owners.first_locks_count_with_both.Goals as goal

pub returns-clause-counted : goal.returns-clause-counted
returns-clause-counted c = to_counts

pub returns-clause-only : goal.returns-clause-only
returns-clause-only c = to_stays
