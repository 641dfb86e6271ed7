use Rattle.std.proofs.Common.{◌∙◌, sym, ap}
use Rattle.xl_nfs_opens.specs.Plans.{carried}
use Rattle.xl_nfs_opens.specs.declared.told.Told.{Told}
use Rattle.xl_nfs_locks.specs.FirstLocks.{both_refused}
use Rattle.xl_nfs_locks.proofs.joining.join_answered.Goals as goal

pub returns-then-not-is_granted-clause-done : goal.returns-then-not-is_granted-clause-done
returns-then-not-is_granted-clause-done c = λ n. rw (sym c.is_granted.ensures ∙ c.if-not-is_granted.true)
    (ap (λ (t : Told). carried n c.args.core.now c.args.state.now (both_refused c.args.state.now c.args.on.now.turn.asked.current c.args.on.now.turn.both c.args.on.now.locker.now t)) (sym c.in_ok-told.ensures) ∙ c.in_ok-ended.ensures n c.args.core.now)
