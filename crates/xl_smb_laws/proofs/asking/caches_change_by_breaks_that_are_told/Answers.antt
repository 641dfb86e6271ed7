use Rattle.xl_smb_laws.proofs.AskedRowLaws.{creates_only, locks_only}
use Rattle.xl_smb_laws.proofs.asking.caches_change_by_breaks_that_are_told.Goals as goal

pub returns-clause-locks : goal.returns-clause-locks
returns-clause-locks c = locks_only

pub returns-clause-creates : goal.returns-clause-creates
returns-clause-creates c = creates_only
