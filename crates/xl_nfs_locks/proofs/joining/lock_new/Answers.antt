use Rattle.xl_nfs.specs.Locks.{shown_lock_args, shown_new_locker}
use Rattle.xl_nfs_opens.specs.Renewing.{state_client}
use Rattle.xl_nfs_opens.proofs.BehindLaws.{renewing_done}
use Rattle.xl_nfs_locks.specs.FirstLocks.{lock_new, lock_named}
use Rattle.xl_nfs_locks.proofs.joining.lock_new.Goals as goal

pub returns-clause-done : goal.returns-clause-done
unfolding lock_new
returns-clause-done g c = λ n may. (let a = shown_lock_args c.args.args.now in
    let x = shown_new_locker c.args.given.now in
    renewing_done n c.args.core.now c.renew_for.new.core c.args.state.now c.state_client-client.result (state_client c.args.core.now c.args.state.now x.open_stateid) (λ t. lock_named t c.args.state.now c.args.current a x) _ c.state_client-client.ensures (c.in_ok-renew_for.ensures.done n) (c.in_ok-renew_for.ensures.told n) (c.in_ok-done.ensures.done n may))

pub returns-clause-keeper : goal.returns-clause-keeper
returns-clause-keeper g c = λ before told. c.in_ok-done.ensures.keeper before (c.in_ok-renew_for.ensures.quiet before _ told)
