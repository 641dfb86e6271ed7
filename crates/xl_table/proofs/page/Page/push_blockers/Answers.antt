use Rattle.std.proofs.Common.{List, subst}
use Rattle.xl_matrix.specs.declared.claim.Claim.{Claim}
use Rattle.xl_table.specs.Bounds.{AreWithin}
use Rattle.xl_table.proofs.ClearLaws.{quiet_is_none}
use Rattle.xl_table.proofs.page.Page.push_blockers.Goals as goal

pub returns-then-is_quiet-clause-found : goal.returns-then-is_quiet-clause-found
returns-then-is_quiet-clause-found g c =
    quiet_is_none c.args.ask.now c.args.self.now c.args.found.now.items c.is_quiet.result c.self.inside.bounds
    (subst (λ (cs : List Claim). AreWithin c.self.inside.bounds cs) c.self.view_is c.self.invariant) c.is_quiet.ensures c.if-is_quiet.true
