use Rattle.std.proofs.Common.{◌∙◌, sym, ap}
use Rattle.xl_nfs.specs.Locks.{shown_lock_args}
use Rattle.xl_nfs_opens.specs.Plans.{carried}
use Rattle.xl_nfs_opens.specs.Renewing.{state_client}
use Rattle.xl_nfs_opens.specs.declared.opener.Checked.{Checked}
use Rattle.xl_nfs_opens.proofs.BehindLaws.{renewing_done}
use Rattle.xl_nfs_locks.specs.Checks.{locks_found}
use Rattle.xl_nfs_locks.specs.Locks.{lock_known, lock_found}
use Rattle.xl_nfs_locks.proofs.locking.lock_known.Goals as goal

pub returns-clause-done : goal.returns-clause-done
unfolding lock_known
returns-clause-done g c = λ n may. (let a = shown_lock_args c.args.args.now in
    let x = c.args.known.now in
    renewing_done n c.args.core.now c.renew_for.new.core c.args.state.now c.state_client-client.result (state_client c.args.core.now c.args.state.now x.stateid) (λ t. lock_found t c.args.state.now c.args.current a x (locks_found t c.args.state.now c.args.current 12 x.seqid x.stateid)) _ c.state_client-client.ensures (c.in_ok-renew_for.ensures.done n) (c.in_ok-renew_for.ensures.told n)
    (ap (λ (y : Checked). carried n c.renew_for.new.core c.args.state.now (lock_found c.renew_for.new.core c.args.state.now c.args.current a x y)) (sym c.check-found.ensures) ∙ c.in_ok-done.ensures.done n may))

pub returns-clause-keeper : goal.returns-clause-keeper
returns-clause-keeper g c = λ before told. c.in_ok-done.ensures.keeper before (c.in_ok-renew_for.ensures.quiet before _ told)
