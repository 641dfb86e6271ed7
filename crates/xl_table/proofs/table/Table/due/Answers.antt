use Rattle.std.proofs.Common.{List, sym, ap, ◌∙◌}
use Rattle.std.specs.List.{filter}
use Rattle.xl_matrix.specs.declared.claim.Claim.{Claim}
use Rattle.xl_table.specs.Files.{joined}
use Rattle.xl_table.specs.Flat.{is_due}
use Rattle.xl_table.proofs.IndexedLaws.{none_due}
use Rattle.xl_table.proofs.table.Table.due.Goals as goal

pub returns-then-not-has_due : goal.returns-then-not-has_due
returns-then-not-has_due c =
    let inner = joined c.self.inside.lists.items in
    c.new.ensures.items
    ∙ sym (none_due c.args.now inner c.has_due.result (c.has_due.ensures inner c.self.invariant.2) c.if-not-has_due.true)
    ∙ ap (λ (cs : List Claim). filter (λ held. is_due c.args.now held) cs) c.self.view_is
