use Rattle.xl_nfs_laws.proofs.EnteredOpenLaws.{close_marks}
use Rattle.xl_nfs_laws.proofs.opens.closed_opens_are_marked.Goals as goal

pub returns : goal.returns
returns c = close_marks
