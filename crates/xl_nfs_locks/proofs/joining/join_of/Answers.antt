use Rattle.std.proofs.Common.{◌∙◌, Option, sym, ap}
use Rattle.xl_nfs.specs.Locks.{shown_lock_args, shown_new_locker}
use Rattle.xl_nfs_state.specs.declared.client.ClientRow.{ClientRow}
use Rattle.xl_nfs_opens.specs.Plans.{carried}
use Rattle.xl_nfs_opens.specs.declared.opener.Opener.{Opener}
use Rattle.xl_nfs_locks.specs.FirstLocks.{join_of, locker_under}
use Rattle.xl_nfs_locks.proofs.joining.join_of.Goals as goal

pub returns-in_default-clause-done : goal.returns-in_default-clause-done
returns-in_default-clause-done g c = λ n may.
    let r = c.args.turn.now.above in
    let found = sym c.in_default.is ∙ c.in_ok-locker.ensures ∙ ap (λ (y : Option ClientRow). locker_under r c.args.turn.now.asked.given.now.owner.owner.now y) c.client_in-client.ensures in
    ap (λ (o : Option Opener). carried n c.args.core.now c.args.state.now (join_of c.args.state.now c.args.turn.now.asked.current (shown_lock_args c.args.turn.now.asked.args.now) (shown_new_locker c.args.turn.now.asked.given.now) c.args.turn.now.both r o)) (sym found)
    ∙ c.in_ok-done.ensures.done n c.args.core.now
