use Rattle.xl_nfs_opens.proofs.ResultLaws.{handle_grown}
use Rattle.xl_nfs_opens.proofs.results.put_handle.Goals as goal

pub returns-clause-little : goal.returns-clause-little
returns-clause-little c = handle_grown _ _ _ _ c.handle_of.ensures c.in_ok-write_result.ensures.ok
