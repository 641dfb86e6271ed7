use Rattle.xl_nfs.specs.Ops.{shown_op}
use Rattle.xl_front_nfs.specs.Courses.{course_of}
use Rattle.xl_front_nfs.proofs.CourseLaws.{told_fits_op, op_ran}
use Rattle.xl_nfs_opens.proofs.LeaveLaws.{may_be_made}
use Rattle.xl_front_nfs.proofs.compound.do_op.Goals as goal

pub note-requires-clause-fits : goal.note-requires-clause-fits
note-requires-clause-fits g c =
    let t = c.serve.new.core in
    told_fits_op t.made c.args.exported.now.files.now c.args.exported.now.others c.args.core.now t c.args.state.now c.serve.new.state c.args.progress.now.current c.in_ok-done.done.1 (shown_op c.args.op.now) c.number.result c.in_ok-done.done.0 c.in_ok-done.done.2 c.requires.fits c.number.ensures (c.in_ok-done.ensures.done t.made (may_be_made t))

pub returns-clause-done : goal.returns-clause-done
returns-clause-done g c = λ n may.
    op_ran n c.args.exported.now.files.now c.args.exported.now.others (course_of c.args.progress.now) (course_of c.note.new.progress) c.args.core.now c.serve.new.core c.args.state.now c.serve.new.state c.in_ok-done.done.1 (shown_op c.args.op.now) c.number.result c.in_ok-done.done.0 c.args.progress.now.effects c.in_ok-done.done.2 c.note.new.progress.effects c.number.ensures
    (c.in_ok-done.ensures.done n may) c.in_ok-more.ensures.noted c.in_ok-more.ensures.told
