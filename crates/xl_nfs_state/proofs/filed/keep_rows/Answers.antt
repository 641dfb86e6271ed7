use Rattle.std.proofs.Common.{rules}
use Rattle.xl_nfs_state.proofs.FiledLaws.{retained_left}
use Rattle.xl_nfs_state.proofs.filed.keep_rows.Goals as goal

pub returns : goal.returns
returns g c = retained_left _ (g.P.Picks.picks c.args.which.now) _ (λ at x keep y next h. search rules) _ _ 0 c.retain.ensures.retained
