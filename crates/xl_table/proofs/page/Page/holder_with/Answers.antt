use Rattle.std.proofs.Common.{List, subst}
use Rattle.xl_matrix.specs.declared.claim.Claim.{Claim}
use Rattle.xl_table.specs.Bounds.{AreWithin}
use Rattle.xl_table.proofs.ClearLaws.{past_holds_none}
use Rattle.xl_table.proofs.page.Page.holder_with.Goals as goal

pub returns-then-is_past : goal.returns-then-is_past
returns-then-is_past c =
    past_holds_none c.args.least c.args.file c.args.byte c.args.self.now c.is_past.result c.self.inside.bounds
    (subst (λ (cs : List Claim). AreWithin c.self.inside.bounds cs) c.self.view_is c.self.invariant) c.is_past.ensures c.if-is_past.true
