use Rattle.std.proofs.Common.{List, ◌∙◌, sym, ap}
use Rattle.xl_core.specs.declared.ask.Effect.{Effect}
use Rattle.xl_plan.specs.Plans.{carried, told_behind}
use Rattle.xl_front_nfs.specs.Courses.{course_of}
use Rattle.xl_front_nfs.specs.Steps.{compound, steps_in}
use Rattle.xl_front_nfs.proofs.StepLaws.{course_done}
use Rattle.xl_front_nfs.proofs.step.done.Goals as goal

pub returns-clause-done : goal.returns-clause-done
returns-clause-done g c = λ n may.
    let f = c.args.front.now in
    let first = course_of c.begun-progress.result in
    let steps = steps_in c.args.call.now.head.count c.args.call.now.args.rest.now in
    course_done n c.args.exported.now.files.now c.args.exported.now.others f c.args.core.now c.run_ops.new.core c.args.call.now.xid c.args.call.now.head.tag.now steps first (course_of c.run_ops.new.progress) c.run_ops.new.progress.effects c.run_ops.new.state c.in_ok-reply.reply.items c.begun-progress.ensures.begun
    (ap (λ (e : List Effect). told_behind e (carried n c.args.core.now f.state (compound c.args.exported.now.files.now c.args.exported.now.others first c.args.core.now f.state steps))) (sym c.begun-progress.ensures.none.2) ∙ c.in_ok-run_ops.ensures.course n may)
    c.in_ok-reply.ensures.reply
