use Rattle.std.proofs.Common.{◌∙◌, sym, ap}
use Rattle.xl_plan.proofs.KeeperLaws.{quiet_then}
use Rattle.xl_nfs_opens.specs.Plans.{carried}
use Rattle.xl_nfs_opens.specs.Renewing.{state_client}
use Rattle.xl_nfs_opens.proofs.BehindLaws.{renewing_done}
use Rattle.xl_nfs_opens.specs.Closing.{Returning, deleg_return, return_done, returned}
use Rattle.xl_nfs_opens.proofs.closing.deleg_return.Goals as goal

pub returns-clause-done : goal.returns-clause-done
unfolding deleg_return
returns-clause-done c = λ n.
    renewing_done n c.args.core.now c.renew_for.new.core c.args.state.now c.state_client-client.result (state_client c.args.core.now c.args.state.now c.args.stateid.now) (λ t. return_done t c.args.state.now c.args.current (returned t c.args.state.now c.args.current c.args.stateid.now)) _ c.state_client-client.ensures (c.in_ok-renew_for.ensures.done n) (c.in_ok-renew_for.ensures.told n)
    (ap (λ (x : Returning). carried n c.renew_for.new.core c.args.state.now (return_done c.renew_for.new.core c.args.state.now c.args.current x)) (sym c.returned-found.ensures) ∙ c.in_ok-done.ensures.done n)

pub returns-clause-quiet : goal.returns-clause-quiet
returns-clause-quiet c = quiet_then _ _ _ c.in_ok-renew_for.ensures.quiet c.in_ok-done.ensures.quiet
