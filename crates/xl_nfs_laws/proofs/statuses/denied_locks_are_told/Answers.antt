use Rattle.xl_nfs_laws.proofs.StatusLaws.{denied_alone, denied_kinds, denied_reaches, denied_writes}
use Rattle.xl_nfs_laws.proofs.statuses.denied_locks_are_told.Goals as goal

pub returns-clause-bytes : goal.returns-clause-bytes
returns-clause-bytes c = denied_reaches

pub returns-clause-alone : goal.returns-clause-alone
returns-clause-alone c = denied_alone

pub returns-clause-writes : goal.returns-clause-writes
returns-clause-writes c = denied_writes

pub returns-clause-kinds : goal.returns-clause-kinds
returns-clause-kinds c = denied_kinds
