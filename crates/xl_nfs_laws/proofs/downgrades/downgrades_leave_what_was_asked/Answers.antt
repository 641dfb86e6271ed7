use Rattle.xl_nfs_laws.proofs.DowngradeLaws.{downgrade_row, downgrade_share}
use Rattle.xl_nfs_laws.proofs.downgrades.downgrades_leave_what_was_asked.Goals as goal

pub returns-clause-row : goal.returns-clause-row
returns-clause-row c = downgrade_row

pub returns-clause-share : goal.returns-clause-share
returns-clause-share c = downgrade_share
