use Rattle.std.proofs.Common.{List, sym, subst}
use Rattle.xl_matrix.specs.declared.claim.Claim.{Claim}
use Rattle.xl_table.specs.Elements.{CameLast}
use Rattle.xl_table.specs.Files.{joined}
use Rattle.xl_table.specs.Held.{IsKept}
use Rattle.xl_table.proofs.IndexedLaws.{has_last, index_back}
use Rattle.xl_table.proofs.ElementLaws.{last_kept}
use Rattle.xl_table.proofs.table.Table.take_back.Goals as goal

pub leave-requires : goal.leave-requires
leave-requires c =
    let claim = c.args.claim.now in
    record { index = has_last c.self.inside.index claim (joined c.self.inside.lists.items) c.self.invariant.2 (subst (λ (cs : List Claim). CameLast claim cs) (sym c.self.view_is) c.requires.last) }

pub invariant_of-self : goal.invariant_of-self
invariant_of-self c =
    let claim = c.args.claim.now in
    let inner = joined c.self.inside.lists.items in
    let last : CameLast claim inner = subst (λ (cs : List Claim). CameLast claim cs) (sym c.self.view_is) c.requires.last in
    let claims = c.take_back.ensures.claims in (
      c.take_back.ensures.filed,
      subst IsKept (sym claims) (last_kept claim inner last),
      index_back c.self.inside.index c.leave.new.self claim inner (joined c.take_back.new.lists.items) c.self.invariant.2 last c.leave.ensures claims,
    )
