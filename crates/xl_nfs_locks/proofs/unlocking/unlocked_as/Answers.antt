use Rattle.std.proofs.Common.{[], ◌∙◌, sym, ap}
use Rattle.xl_nfs_opens.specs.Plans.{Outcome}
use Rattle.xl_nfs_locks.proofs.unlocking.unlocked_as.Goals as goal

pub returns-then-not-is_ok : goal.returns-then-not-is_ok
returns-then-not-is_ok c = λ n. rw (sym c.is_ok.ensures ∙ c.if-not-is_ok.true) (ap (λ (x : Outcome). (x.0, x.1, [], x.3, x.4)) (c.in_ok-done.ensures.done n c.args.core.now))
