use Rattle.std.proofs.Common.{rules, Err, ap, sym, ◌∙◌}
use Rattle.xl_top.specs.Job.{exported}
use Rattle.xl_top.proofs.ServeLaws.{exported_bad, exported_whole}
use Rattle.xl_top.proofs.top.exports_of.Goals as goal

pub returns-in-Ok-exports_in-clause-exported : goal.returns-in-Ok-exports_in-clause-exported
returns-in-Ok-exports_in-clause-exported g c = λ all told.
    exported_whole _ _ all _ told c.in-Ok.ensures.took c.in-Ok.ensures.most c.in-Ok.ensures.ended ∙ ap exported (sym c.deref.ensures.value) ∙ c.in-Ok-exports_in.ensures

pub returns-in-Err-BadLine-clause-bad : goal.returns-in-Err-BadLine-clause-bad
returns-in-Err-BadLine-clause-bad g c = λ all told status.
    exported_whole _ _ all _ told c.in-Ok.ensures.took c.in-Ok.ensures.most c.in-Ok.ensures.ended ∙ ap exported (sym c.deref.ensures.value)
    ∙ exported_bad c.in-Err-BadLine.field-0 c.in-Err-BadLine.line (exported c.deref.result.now) (search rules) c.in-Err-BadLine.ensures ∙ ap (λ r. Err r.line) (sym c.idle-in-Err-BadLine.ensures)
