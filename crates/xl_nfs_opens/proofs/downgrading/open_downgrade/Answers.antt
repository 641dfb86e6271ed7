use Rattle.std.proofs.Common.{◌∙◌, sym, ap}
use Rattle.xl_plan.proofs.KeeperLaws.{quiet_then}
use Rattle.xl_nfs_opens.specs.Plans.{carried}
use Rattle.xl_nfs_opens.specs.Renewing.{state_client}
use Rattle.xl_nfs_opens.specs.declared.opener.Checked.{Checked}
use Rattle.xl_nfs_opens.proofs.BehindLaws.{renewing_done}
use Rattle.xl_nfs_opens.specs.Closing.{checked}
use Rattle.xl_nfs_opens.specs.Downgrades.{downgrade_by, open_downgrade}
use Rattle.xl_nfs_opens.proofs.downgrading.open_downgrade.Goals as goal

pub returns-clause-done : goal.returns-clause-done
unfolding open_downgrade
returns-clause-done c = λ n.
    renewing_done n c.args.core.now c.renew_for.new.core c.args.state.now c.state_client-client.result (state_client c.args.core.now c.args.state.now c.args.args.now.stateid) (λ t. downgrade_by t c.args.state.now c.args.current c.args.args.now (checked t c.args.state.now c.args.current 21 c.args.args.now.seqid c.args.args.now.stateid)) _ c.state_client-client.ensures (c.in_ok-renew_for.ensures.done n) (c.in_ok-renew_for.ensures.told n)
    (ap (λ (x : Checked). carried n c.renew_for.new.core c.args.state.now (downgrade_by c.renew_for.new.core c.args.state.now c.args.current c.args.args.now x)) (sym c.check-found.ensures) ∙ c.in_ok-done.ensures.done n)

pub returns-clause-quiet : goal.returns-clause-quiet
returns-clause-quiet c = quiet_then _ _ _ c.in_ok-renew_for.ensures.quiet c.in_ok-done.ensures.quiet
