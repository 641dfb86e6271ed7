use Rattle.std.proofs.Common.{rules}
use Rattle.xl_nfs_opens.proofs.ResultLaws.{open_grown}
use Rattle.xl_nfs_opens.proofs.results.put_opened.Goals as goal

pub returns-clause-little : goal.returns-clause-little
returns-clause-little c = open_grown _ _ _ c.args.stateid c.args.flags c.args.delegation (search rules) (search rules) c.opened_as.ensures c.in_ok-write_result.ensures.ok
