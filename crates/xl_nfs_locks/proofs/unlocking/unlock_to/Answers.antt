use Rattle.std.proofs.Common.{◌∙◌, ℕ, Option, sym, ap}
use Rattle.xl_nfs_opens.specs.Plans.{carried}
use Rattle.xl_nfs_locks.specs.Unlocks.{unlock_to}
use Rattle.xl_nfs_locks.proofs.unlocking.unlock_to.Goals as goal

pub returns-in_default-clause-done : goal.returns-in_default-clause-done
returns-in_default-clause-done g c = λ n may. ap (λ (o : Option ℕ). carried n c.args.core.now c.args.state.now (unlock_to c.args.state.now c.args.turn.now.current c.args.turn.now.args.now c.args.turn.now.found.row c.args.turn.now.found.owner c.args.turn.now.found.seqids o)) (sym c.in_default.ensures.value) ∙ c.in_ok-done.ensures.done n c.args.core.now
