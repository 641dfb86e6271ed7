use Rattle.std.proofs.Common.{◌∙◌, Option, sym, ap}
use Rattle.xl_nfs.specs.Locks.{shown_lock_args}
use Rattle.xl_nfs.specs.declared.status.NfsStatus.{NfsStatus}
use Rattle.xl_nfs_opens.specs.Plans.{carried}
use Rattle.xl_nfs_locks.specs.Locks.{lock_standing}
use Rattle.xl_nfs_locks.proofs.locking.lock_passed.Goals as goal

pub returns-in-Some-clause-done : goal.returns-in-Some-clause-done
returns-in-Some-clause-done g c = λ n may. ap (λ (o : Option NfsStatus). carried n c.args.core.now c.args.state.now (lock_standing c.args.state.now c.args.turn.now.asked.current (shown_lock_args c.args.turn.now.asked.args.now) c.args.turn.now.found.row c.args.turn.now.found.owner c.args.turn.now.found.seqids c.args.turn.now.asked.known.now.seqid o)) (sym c.in-Some.ensures.value) ∙ c.in_ok-done.ensures.done n c.args.core.now
