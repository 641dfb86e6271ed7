use Rattle.std.proofs.Common.{◌∙◌, sym, ap}
use Rattle.xl_nfs_opens.specs.Plans.{carried}
use Rattle.xl_nfs_opens.specs.declared.told.Told.{Told}
use Rattle.xl_nfs_locks.specs.Locks.{lock_refused}
use Rattle.xl_nfs_locks.proofs.locking.lock_answered.Goals as goal

pub returns-then-not-is_granted : goal.returns-then-not-is_granted
returns-then-not-is_granted c = λ n. rw (sym c.is_granted.ensures ∙ c.if-not-is_granted.true)
    (ap (λ (t : Told). carried n c.args.core.now c.args.state.now (lock_refused c.args.state.now c.args.turn.now.asked.current c.args.turn.now.found.owner c.args.turn.now.found.seqids c.args.turn.now.asked.known.now.seqid t)) (sym c.in_ok-told.ensures) ∙ c.in_ok-ended.ensures n c.args.core.now)
