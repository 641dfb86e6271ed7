use Rattle.std.proofs.Common.{◌≡◌, List, sym, ap, subst, ◌∙◌, arith}
use Rattle.xl_matrix.specs.declared.claim.Claim.{Claim}
use Rattle.xl_table.specs.Files.{joined}
use Rattle.xl_table.specs.Flat.{inserted}
use Rattle.xl_table.specs.Held.{IsSound, IsKept}
use Rattle.xl_table.proofs.IndexedLaws.{index_inserted}
use Rattle.xl_table.proofs.KeptLaws.{kept_inserted}
use Rattle.xl_table.proofs.table.Table.insert.Goals as goal

pub invariant_of-self-in_default : goal.invariant_of-self-in_default
invariant_of-self-in_default c =
    let claim = c.args.claim in
    let inner = joined c.self.inside.lists.items in
    let sound : IsSound (inserted claim inner) = subst (λ (cs : List Claim). IsSound (inserted claim cs)) (sym c.self.view_is) c.requires in
    let claims : joined c.put.new.lists.items ≡ inserted claim inner = c.in_default.ensures.ok ∙ ap (λ (cs : List Claim). inserted claim cs) c.open_file.ensures.same in (
      c.put.ensures.filed,
      subst IsKept (sym claims) (kept_inserted claim inner c.self.invariant.1 sound (omega (arith, c.len.ensures.length inner c.self.invariant.2, c.if-len-ge-CLAIMS.false))),
      index_inserted c.self.inside.index c.enter.new.self claim inner (joined c.put.new.lists.items) c.self.invariant.2 c.in_ok-enter.ensures.ok claims,
    )
