-- What was read of the input is what is looked at of it.
use Rattle.std.proofs.Common.{◌≡◌, ◌∙◌, ap, sym}
use Rattle.xl_capture.specs.Show.{shown}
use Rattle.xl_top.specs.Job.{capped}
use Rattle.xl_top.proofs.ReadLaws.{shown_whole}
use Rattle.xl_top.proofs.JobLaws.{adds_as, begins_as}
use Rattle.xl_top.proofs.top.show_input.Goals as goal

pub returns-clause-written : goal.returns-clause-written
returns-clause-written g c = λ all told status.
    let same : shown c.deref.result.now ≡ shown (capped all) = ap shown c.deref.ensures.value ∙ sym (shown_whole _ _ all _ told c.in-Ok.ensures.took c.in-Ok.ensures.most c.in-Ok.ensures.ended) in
    adds_as _ _ _ _ same (c.show_given.ensures.written status)

pub returns-clause-began : goal.returns-clause-began
returns-clause-began g c = λ all told status.
    let same : shown c.deref.result.now ≡ shown (capped all) = ap shown c.deref.ensures.value ∙ sym (shown_whole _ _ all _ told c.in-Ok.ensures.took c.in-Ok.ensures.most c.in-Ok.ensures.ended) in
    begins_as _ _ _ _ same (c.show_given.ensures.began status)

pub returns-clause-bad : goal.returns-clause-bad
returns-clause-bad g c = λ all told status.
    shown_whole _ _ all _ told c.in-Ok.ensures.took c.in-Ok.ensures.most c.in-Ok.ensures.ended ∙ ap shown (sym c.deref.ensures.value) ∙ c.show_given.ensures.bad status
