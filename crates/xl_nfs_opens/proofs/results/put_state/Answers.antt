use Rattle.std.proofs.Common.{rules}
use Rattle.xl_nfs_opens.proofs.ResultLaws.{state_grown}
use Rattle.xl_nfs_opens.proofs.results.put_state.Goals as goal

pub returns-clause-little : goal.returns-clause-little
returns-clause-little c = state_grown _ _ _ c.args.number c.args.stateid (search rules) c.state_as.ensures c.in_ok-write_result.ensures.ok
