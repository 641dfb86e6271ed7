use Rattle.std.proofs.Common.{List, subst}
use Rattle.xl_matrix.specs.declared.claim.Claim.{Claim}
use Rattle.xl_table.specs.Bounds.{AreWithin}
use Rattle.xl_table.proofs.ClearLaws.{past_obstructs_none}
use Rattle.xl_table.proofs.page.Page.push_obstacles.Goals as goal

pub returns-then-is_past : goal.returns-then-is_past
returns-then-is_past c =
    past_obstructs_none c.args.ask.now c.args.self.now c.args.found.now.items c.is_past.result c.self.inside.bounds
    (subst (λ (cs : List Claim). AreWithin c.self.inside.bounds cs) c.self.view_is c.self.invariant) c.is_past.ensures c.if-is_past.true
