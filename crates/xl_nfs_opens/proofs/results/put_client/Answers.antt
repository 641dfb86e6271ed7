use Rattle.std.proofs.Common.{rules}
use Rattle.xl_nfs_opens.proofs.ResultLaws.{client_grown}
use Rattle.xl_nfs_opens.proofs.results.put_client.Goals as goal

pub returns-clause-little : goal.returns-clause-little
returns-clause-little c = client_grown _ _ c.args.confirm (search rules) c.in_ok-write_result.ensures.ok
