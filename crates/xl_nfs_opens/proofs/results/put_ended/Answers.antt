use Rattle.xl_nfs_opens.proofs.ResultLaws.{ended_grown}
use Rattle.xl_nfs_opens.proofs.results.put_ended.Goals as goal

pub returns-clause-little : goal.returns-clause-little
returns-clause-little c = ended_grown _ _ _ _ _ c.ended_as.ensures c.in_ok-write_result.ensures.ok
