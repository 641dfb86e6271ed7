use Rattle.xl_nfs_opens.proofs.LeaveLaws.{all_gives_told}
use Rattle.xl_plan.proofs.KeeperLaws.{quiet_then}
use Rattle.xl_nfs_opens.proofs.shares.+give_all.Goals as goal

pub returns-clause-told : goal.returns-clause-told
returns-clause-told t c = λ n. all_gives_told n c.args.core.now c.args.opener.now c.args.rows.now

pub returns-clause-quiet : goal.returns-clause-quiet
returns-clause-quiet t c = quiet_then _ _ _ c.give.ensures.quiet c.in_ok-give_all.ensures.quiet
