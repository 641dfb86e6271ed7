use Rattle.xl_nfs_laws.proofs.HandleLaws.{due_go}
use Rattle.xl_nfs_laws.proofs.requests.records_go_in_time.Goals as goal

pub returns : goal.returns
returns c = due_go
