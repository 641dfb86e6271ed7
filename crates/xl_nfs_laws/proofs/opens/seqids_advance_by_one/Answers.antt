use Rattle.xl_nfs_laws.proofs.OpenLaws.{passed_next, counted_seqids, left_alone}
use Rattle.xl_nfs_laws.proofs.opens.seqids_advance_by_one.Goals as goal

pub returns-clause-next : goal.returns-clause-next
returns-clause-next c = passed_next

pub returns-clause-counted : goal.returns-clause-counted
returns-clause-counted c = counted_seqids

pub returns-clause-only : goal.returns-clause-only
returns-clause-only c = left_alone
