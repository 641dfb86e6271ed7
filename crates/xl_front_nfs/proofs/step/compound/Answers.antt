use Rattle.std.proofs.Common.{◌∙◌}
use Rattle.std.proofs.lemmas.Result.{IfOk-weaker}
use Rattle.xl_nfs.specs.Compounds.{compound_head, shown_compound_head}
use Rattle.xl_front_nfs.proofs.StepLaws.{compound_read}
use Rattle.xl_front_nfs.proofs.step.compound.Goals as goal

pub returns-clause-done : goal.returns-clause-done
unfolding compound_head
returns-clause-done g c = λ n. IfOk-weaker c.done.result _ _
    (λ r is may. compound_read n c.args.exported.now.files.now c.args.exported.now.others c.args.front.now c.args.core.now c.args.request.now.xid c.args.request.now.arguments.rest.now c.read_head.new.args.rest.now (shown_compound_head c.in-Ok.head) c.in-Ok.ensures.exact c.if-head-ne-MINOR_VERSION.false c.if-head-gt-MOST_OPS.false ∙ is may)
    (c.done.ensures.done n)
