use Rattle.std.proofs.Common.{List, subst}
use Rattle.xl_matrix.specs.declared.claim.Claim.{Claim}
use Rattle.xl_table.specs.Bounds.{AreWithin}
use Rattle.xl_table.proofs.WithinLaws.{page_asleep}
use Rattle.xl_table.proofs.page.Page.push_due.Goals as goal

pub returns-then-is_asleep : goal.returns-then-is_asleep
returns-then-is_asleep c =
    page_asleep c.args.now c.args.self.now c.args.due.now.items c.is_asleep.result c.self.inside.bounds
    (subst (λ (cs : List Claim). AreWithin c.self.inside.bounds cs) c.self.view_is c.self.invariant) c.is_asleep.ensures c.if-is_asleep.true
