use Rattle.xl_smb_laws.proofs.GraceLaws.{creates_wait, locks_wait}
use Rattle.xl_smb_laws.proofs.in_grace.requests_wait_for_the_end_of_grace.Goals as goal

pub returns-clause-creates : goal.returns-clause-creates
returns-clause-creates c = creates_wait

pub returns-clause-locks : goal.returns-clause-locks
returns-clause-locks c = locks_wait
