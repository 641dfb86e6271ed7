use Rattle.std.proofs.Common.{◌∙◌, ℕ, Result, sym, ap}
use Rattle.xl_nfs.specs.Locks.{shown_lock_args}
use Rattle.xl_nfs.specs.declared.status.NfsStatus.{NfsStatus}
use Rattle.xl_nfs_opens.specs.Plans.{carried}
use Rattle.xl_nfs_locks.specs.Locks.{lock_to}
use Rattle.xl_nfs_locks.proofs.locking.lock_to.Goals as goal

pub returns-in_ok-done-in-Err-clause-done : goal.returns-in_ok-done-in-Err-clause-done
returns-in_ok-done-in-Err-clause-done g c = λ n may. ap (λ (o : Result ℕ NfsStatus). carried n c.args.core.now c.args.state.now (lock_to c.args.state.now c.args.turn.now.asked.current (shown_lock_args c.args.turn.now.asked.args.now) c.args.turn.now.found.row c.args.turn.now.found.owner c.args.turn.now.found.seqids c.args.turn.now.asked.known.now.seqid o)) (sym c.in-Err.ensures.value) ∙ c.in_ok-done-in-Err.ensures.done n c.args.core.now
