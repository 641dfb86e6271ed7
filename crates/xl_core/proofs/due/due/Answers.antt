use Rattle.std.proofs.Common.{List, map, ap, ◌∙◌}
use Rattle.std.specs.List.{filter}
use Rattle.xl_base.specs.Lists.{sorted}
use Rattle.xl_matrix.specs.declared.claim.Claim.{Claim}
use Rattle.xl_table.specs.Flat.{is_due}
use Rattle.xl_core.specs.BreakAnswers.{due_row, row_due_before, due}
use Rattle.xl_core.specs.declared.due.DueRow.{DueRow}
use Rattle.xl_core.proofs.DueLaws.{rows_due}
use Rattle.xl_core.proofs.due.due.Goals as goal

pub returns : goal.returns
unfolding due
returns c =
    let names = c.args.parts.now.names in
    let held = c.deref.ensures.value ∙ c.in_ok-caches.ensures in
    ap (λ (rows : List DueRow). map (λ r. r.cache) rows) (c.in_ok-rows.ensures ∙ ap (λ (rows : List DueRow). sorted row_due_before rows) (c.in_ok-due_rows.ensures ∙ ap (λ (cs : List Claim). map (due_row names) cs) held))
    ∙ rows_due names (filter (is_due c.args.parts.now.clock) c.args.parts.now.table)
