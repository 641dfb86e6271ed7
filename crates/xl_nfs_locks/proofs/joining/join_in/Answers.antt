use Rattle.std.proofs.Common.{◌∙◌, ℕ, Result, sym, ap}
use Rattle.xl_nfs.specs.Locks.{shown_lock_args}
use Rattle.xl_nfs.specs.declared.status.NfsStatus.{NfsStatus}
use Rattle.xl_nfs_opens.specs.Plans.{carried}
use Rattle.xl_nfs_locks.specs.FirstLocks.{join_to}
use Rattle.xl_nfs_locks.proofs.joining.join_in.Goals as goal

pub returns-in_ok-ended-in-Err-clause-done : goal.returns-in_ok-ended-in-Err-clause-done
returns-in_ok-ended-in-Err-clause-done g c = λ n may.
    rw c.beside.ensures
    (ap (λ (o : Result ℕ NfsStatus). carried n c.args.core.now c.args.state.now (join_to c.args.state.now c.args.on.now.turn.asked.current (shown_lock_args c.args.on.now.turn.asked.args.now) c.args.on.now.turn.both c.args.on.now.locker.now c.args.on.now.turn.above c.args.on.now.had o)) (sym c.in-Err.ensures.value)
    ∙ c.in_ok-ended-in-Err.ensures n c.args.core.now)
