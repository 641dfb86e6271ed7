use Rattle.std.proofs.Common.{◌∙◌, sym, ap}
use Rattle.xl_nfs.specs.Locks.{shown_lock_args, shown_new_locker}
use Rattle.xl_nfs_opens.specs.Closing.{checked}
use Rattle.xl_core.specs.Ids.{number_in}
use Rattle.xl_nfs_opens.specs.Plans.{carried}
use Rattle.xl_nfs_opens.specs.declared.opener.Checked.{Checked}
use Rattle.xl_nfs_opens.proofs.BehindLaws.{renewing_done}
use Rattle.xl_nfs_locks.specs.FirstLocks.{lock_named, join_checked}
use Rattle.xl_nfs_locks.proofs.joining.lock_named.Goals as goal

pub returns-clause-done : goal.returns-clause-done
unfolding lock_named
returns-clause-done g c = λ n may. (let a = shown_lock_args c.args.args.now in
    let x = shown_new_locker c.args.given.now in
    renewing_done n c.args.core.now c.renew_for.new.core c.args.state.now c.number_in-client.result (number_in c.args.core.now x.owner.clientid) (λ t. join_checked t c.args.state.now c.args.current a x (checked t c.args.state.now c.args.current 12 x.open_seqid x.open_stateid)) _ c.number_in-client.ensures (c.in_ok-renew_for.ensures.done n) (c.in_ok-renew_for.ensures.told n)
    (ap (λ (y : Checked). carried n c.renew_for.new.core c.args.state.now (join_checked c.renew_for.new.core c.args.state.now c.args.current a x y)) (sym c.check-found.ensures) ∙ c.in_ok-done.ensures.done n may))

pub returns-clause-keeper : goal.returns-clause-keeper
returns-clause-keeper g c = λ before told. c.in_ok-done.ensures.keeper before (c.in_ok-renew_for.ensures.quiet before _ told)
