use Rattle.std.proofs.Common.{◌-◌, ◌∙◌, sym}
use Rattle.xl_nfs.specs.Ops.{shown_op}
use Rattle.xl_front_nfs.specs.Courses.{course_of}
use Rattle.xl_front_nfs.specs.Steps.{Runs, steps_in}
use Rattle.xl_front_nfs.proofs.CourseLaws.{next_read, course_unread, course_ends, course_goes}
use Rattle.xl_plan.proofs.BudgetLaws.{may_before}
use Rattle.xl_front_nfs.proofs.compound.+run_ops.Goals as goal

pub returns-clause-course : goal.returns-clause-course
returns-clause-course g t c = λ n may.
    let before = may_before n _ c.do_op.new.core c.run_ops.new.core c.in_ok-run_ops.ensures.leaves may in
    let op = shown_op c.in-Ok.op in
    let bytes = c.args.ops.now.bytes.rest.now in
    let rest = c.next_op.new.args.rest.now in
    course_goes n c.args.exported.now.files.now c.args.exported.now.others (course_of c.args.progress.now) c.args.core.now c.args.state.now c.args.progress.now.effects (Runs op) (steps_in (c.args.ops.now.count - 1) rest) (steps_in c.args.ops.now.count bytes) (course_of c.do_op.new.progress, c.do_op.new.progress.effects, c.do_op.new.state, c.do_op.new.core) _
    (next_read c.args.ops.now.count bytes rest op c.if-ops-eq0.false c.in-Ok.ensures.exact) (c.in_ok-more.ensures.done n before) (sym c.in_ok-more.ensures.more ∙ c.if-not-more.false) (c.in_ok-run_ops.ensures.course n may)

pub returns-in_default-clause-course : goal.returns-in_default-clause-course
returns-in_default-clause-course g t c = λ n may.
    course_unread n c.args.exported.now.files.now c.args.exported.now.others (course_of c.args.progress.now) (course_of c.refuse_rest.new.progress) c.args.core.now c.args.state.now c.args.progress.now.effects c.refuse_rest.new.progress.effects c.args.ops.now.count c.args.ops.now.bytes.rest.now _
    c.if-ops-eq0.false c.in_default.ensures.exact.0 (c.in_ok-refuse_rest.ensures.done n c.args.exported.now.files.now c.args.exported.now.others c.args.state.now c.args.core.now) c.in_ok-refuse_rest.ensures.told c.in_ok-refuse_rest.ensures.ends

pub returns-then-not-more-clause-course : goal.returns-then-not-more-clause-course
returns-then-not-more-clause-course g t c = λ n may.
    course_ends n c.args.exported.now.files.now c.args.exported.now.others (course_of c.args.progress.now) (course_of c.do_op.new.progress) c.args.core.now c.do_op.new.core c.args.state.now c.do_op.new.state c.args.progress.now.effects c.do_op.new.progress.effects c.args.ops.now.count c.args.ops.now.bytes.rest.now c.next_op.new.args.rest.now (shown_op c.in-Ok.op) c.in_ok-more.more
    c.if-ops-eq0.false c.in-Ok.ensures.exact (c.in_ok-more.ensures.done n may) c.in_ok-more.ensures.more c.if-not-more.true

pub returns-clause-keeper : goal.returns-clause-keeper
returns-clause-keeper g t c = λ before told. c.in_ok-run_ops.ensures.keeper before (c.in_ok-more.ensures.keeper before told)
