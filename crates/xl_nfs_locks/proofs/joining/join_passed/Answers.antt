use Rattle.std.proofs.Common.{◌∙◌, Option, sym, ap}
use Rattle.xl_nfs.specs.Locks.{shown_lock_args, shown_new_locker}
use Rattle.xl_nfs.specs.declared.status.NfsStatus.{NfsStatus}
use Rattle.xl_nfs_opens.specs.Plans.{carried}
use Rattle.xl_nfs_locks.specs.FirstLocks.{join_standing}
use Rattle.xl_nfs_locks.proofs.joining.join_passed.Goals as goal

pub returns-in-Some-clause-done : goal.returns-in-Some-clause-done
returns-in-Some-clause-done g c = λ n may. ap (λ (o : Option NfsStatus). carried n c.args.core.now c.args.state.now (join_standing c.args.core.now c.args.state.now c.args.turn.now.asked.current (shown_lock_args c.args.turn.now.asked.args.now) (shown_new_locker c.args.turn.now.asked.given.now) c.args.turn.now.both c.args.turn.now.above o)) (sym c.in-Some.ensures.value) ∙ c.in_ok-done.ensures.done n c.args.core.now
