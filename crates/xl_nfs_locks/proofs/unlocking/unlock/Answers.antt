use Rattle.std.proofs.Common.{◌∙◌, sym, ap}
use Rattle.xl_nfs_opens.specs.Plans.{carried}
use Rattle.xl_nfs_opens.specs.Renewing.{state_client}
use Rattle.xl_nfs_opens.specs.declared.opener.Checked.{Checked}
use Rattle.xl_nfs_opens.proofs.BehindLaws.{renewing_done}
use Rattle.xl_nfs_locks.specs.Checks.{locks_found}
use Rattle.xl_nfs_locks.specs.Unlocks.{unlock, unlock_found}
use Rattle.xl_nfs_locks.proofs.unlocking.unlock.Goals as goal

pub returns-clause-done : goal.returns-clause-done
unfolding unlock
returns-clause-done g c = λ n may.
    renewing_done n c.args.core.now c.renew_for.new.core c.args.state.now c.state_client-client.result (state_client c.args.core.now c.args.state.now c.args.args.now.stateid) (λ t. unlock_found t c.args.state.now c.args.current c.args.args.now (locks_found t c.args.state.now c.args.current 14 c.args.args.now.seqid c.args.args.now.stateid)) _ c.state_client-client.ensures (c.in_ok-renew_for.ensures.done n) (c.in_ok-renew_for.ensures.told n)
    (ap (λ (x : Checked). carried n c.renew_for.new.core c.args.state.now (unlock_found c.renew_for.new.core c.args.state.now c.args.current c.args.args.now x)) (sym c.check-found.ensures) ∙ c.in_ok-done.ensures.done n may)

pub returns-clause-keeper : goal.returns-clause-keeper
returns-clause-keeper g c = λ before told. c.in_ok-done.ensures.keeper before (c.in_ok-renew_for.ensures.quiet before _ told)
