use Rattle.xl_nfs_laws.proofs.OpenSeqidLaws.{confirm_counts, downgrade_counts, close_counts}
use Rattle.xl_nfs_laws.proofs.open_seqids.requests_on_opens_advance_by_one.Goals as goal

pub returns-clause-confirms : goal.returns-clause-confirms
returns-clause-confirms c = confirm_counts

pub returns-clause-downgrades : goal.returns-clause-downgrades
returns-clause-downgrades c = downgrade_counts

pub returns-clause-closes : goal.returns-clause-closes
returns-clause-closes c = close_counts
