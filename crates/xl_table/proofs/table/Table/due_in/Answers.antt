use Rattle.std.proofs.Common.{List, ◌+◌, ◌≤◌, length, sym, ap, subst, ◌∙◌}
use Rattle.std.specs.List.{filter}
use Rattle.xl_matrix.specs.declared.claim.Claim.{Claim}
use Rattle.xl_table.specs.Files.{joined}
use Rattle.xl_table.specs.Flat.{is_due}
use Rattle.xl_table.proofs.IndexedLaws.{none_counted, few_due}
use Rattle.xl_table.proofs.table.Table.due_in.Goals as goal

pub returns-then-count_due-eq0-clause-due : goal.returns-then-count_due-eq0-clause-due
returns-then-count_due-eq0-clause-due g c =
    let inner = joined c.self.inside.lists.items in
    c.new.ensures.items
    ∙ sym (none_counted c.args.now inner c.count_due.result (c.count_due.ensures.count inner c.self.invariant.2) c.if-count_due-eq0.true)
    ∙ ap (λ (cs : List Claim). filter (λ held. is_due c.args.now held) cs) c.self.view_is

pub returns-clause-few : goal.returns-clause-few
returns-clause-few g c =
    let inner = joined c.self.inside.lists.items in
    subst (λ (cs : List Claim). c.count_due.new.steps ≤ c.args.steps.now + length (filter (λ held. is_due c.args.now held) cs) + 1) c.self.view_is
    (few_due c.args.now inner c.count_due.result c.args.steps.now c.count_due.new.steps (c.count_due.ensures.count inner c.self.invariant.2) c.count_due.ensures.few)
