use Rattle.std.proofs.Common.{◌∙◌, Option, sym, ap}
use Rattle.xl_nfs.specs.declared.status.NfsStatus.{NfsStatus}
use Rattle.xl_nfs_opens.specs.Plans.{carried}
use Rattle.xl_nfs_opens.specs.Closing.{confirm_done}
use Rattle.xl_nfs_opens.proofs.closing.confirm_passed.Goals as goal

pub returns-in-Some : goal.returns-in-Some
returns-in-Some c = record { done = λ n. ap (λ (o : Option NfsStatus). carried n c.args.core.now c.args.state.now (confirm_done c.args.core.now c.args.state.now c.args.current c.args.args.now c.args.found.now.row c.args.found.now.owner c.args.found.now.seqids o)) (sym c.in-Some.ensures.value) ∙ c.in_ok-done.ensures.done n c.args.core.now }
