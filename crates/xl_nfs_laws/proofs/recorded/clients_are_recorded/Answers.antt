use Rattle.xl_nfs_laws.proofs.RecordedClientLaws.{first_recorded, known_recorded, open_failed, open_recorded}
use Rattle.xl_nfs_laws.proofs.recorded.clients_are_recorded.Goals as goal

pub returns-clause-opens : goal.returns-clause-opens
returns-clause-opens c = open_recorded

pub returns-clause-failed : goal.returns-clause-failed
returns-clause-failed c = open_failed

pub returns-clause-known : goal.returns-clause-known
returns-clause-known c = known_recorded

pub returns-clause-first : goal.returns-clause-first
returns-clause-first c = first_recorded
