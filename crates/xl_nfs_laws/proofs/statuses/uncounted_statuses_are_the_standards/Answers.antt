use Rattle.xl_nfs_laws.proofs.StatusLaws.{uncounted_exactly}
use Rattle.xl_nfs_laws.proofs.statuses.uncounted_statuses_are_the_standards.Goals as goal

pub returns : goal.returns
returns c = uncounted_exactly
