use Rattle.std.proofs.Common.{◌∙◌, Option, sym, ap}
use Rattle.xl_nfs.specs.declared.status.NfsStatus.{NfsStatus}
use Rattle.xl_nfs_opens.specs.Plans.{carried}
use Rattle.xl_nfs_locks.specs.Unlocks.{unlock_standing}
use Rattle.xl_nfs_locks.proofs.unlocking.unlock_passed.Goals as goal

pub returns-in-Some-clause-done : goal.returns-in-Some-clause-done
returns-in-Some-clause-done g c = λ n may. ap (λ (o : Option NfsStatus). carried n c.args.core.now c.args.state.now (unlock_standing c.args.state.now c.args.turn.now.current c.args.turn.now.args.now c.args.turn.now.found.row c.args.turn.now.found.owner c.args.turn.now.found.seqids o)) (sym c.in-Some.ensures.value) ∙ c.in_ok-done.ensures.done n c.args.core.now
