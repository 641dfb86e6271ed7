use Rattle.std.proofs.Common.{◌∙◌, ℕ, List, Option, ◌++◌, ap, append-nil}
use Rattle.xl_core.specs.declared.ask.Effect.{Effect}
use Rattle.xl_front_nfs.specs.Courses.{course_of}
use Rattle.xl_front_nfs.specs.Steps.{noted}
use Rattle.xl_nfs_opens.specs.declared.told.Told.{Told}
use Rattle.xl_front_nfs.proofs.PlanLaws.{garbled_fits}
use Rattle.xl_front_nfs.proofs.compound.refuse.Goals as goal

pub note-requires-clause-fits : goal.note-requires-clause-fits
note-requires-clause-fits c = rw c.ended_as-done.ensures (garbled_fits c.args.number c.ranges.number.fits)

pub returns-clause-noted : goal.returns-clause-noted
returns-clause-noted c = c.in_ok-note.ensures.noted ∙ ap (λ (d : Told × Option ℕ × List Effect). noted (course_of c.args.progress.now) c.args.number (d.0, d.1)) c.ended_as-done.ensures

pub returns-clause-told : goal.returns-clause-told
returns-clause-told c = c.in_ok-note.ensures.told ∙ ap (λ (d : Told × Option ℕ × List Effect). c.args.progress.now.effects ++ d.2) c.ended_as-done.ensures ∙ append-nil c.args.progress.now.effects
