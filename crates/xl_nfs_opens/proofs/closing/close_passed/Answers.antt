use Rattle.std.proofs.Common.{◌∙◌, Option, sym, ap}
use Rattle.xl_nfs.specs.declared.status.NfsStatus.{NfsStatus}
use Rattle.xl_nfs_opens.specs.Plans.{carried}
use Rattle.xl_nfs_opens.specs.Closing.{close_done}
use Rattle.xl_nfs_opens.proofs.closing.close_passed.Goals as goal

pub returns-in-Some-clause-done : goal.returns-in-Some-clause-done
returns-in-Some-clause-done g c = λ n. ap (λ (o : Option NfsStatus). carried n c.args.core.now c.args.state.now (close_done c.args.core.now c.args.state.now c.args.current c.args.args.now c.args.found.now.row c.args.found.now.owner c.args.found.now.seqids o)) (sym c.in-Some.ensures.value) ∙ c.in_ok-done.ensures.done n c.args.core.now

pub returns-clause-keeper : goal.returns-clause-keeper
returns-clause-keeper g c = λ before told. c.in_ok-done-2.ensures.quiet before _ (c.in_ok-end_locks.ensures.keeper before told)
