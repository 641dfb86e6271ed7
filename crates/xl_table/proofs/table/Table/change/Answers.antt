use Rattle.std.proofs.Common.{List, sym, subst}
use Rattle.xl_matrix.specs.declared.claim.Claim.{Claim}
use Rattle.xl_base.specs.Lists.{IsIn}
use Rattle.xl_table.specs.Files.{joined}
use Rattle.xl_table.specs.Flat.{changed}
use Rattle.xl_table.specs.Held.{IsSound, IsKept}
use Rattle.xl_table.proofs.IndexedLaws.{has_held, index_changed}
use Rattle.xl_table.proofs.KeptLaws.{kept_changed}
use Rattle.xl_table.proofs.table.Table.change.Goals as goal

pub recast-requires : goal.recast-requires
recast-requires c =
    let claim = c.args.claim.now in
    let inner = joined c.self.inside.lists.items in
    record { index = has_held c.self.inside.index claim inner c.self.invariant.2 (subst (λ (cs : List Claim). IsIn claim cs) (sym c.self.view_is) c.requires.held) }

pub invariant_of-self : goal.invariant_of-self
invariant_of-self c =
    let claim = c.args.claim.now in
    let to = c.args.to in
    let inner = joined c.self.inside.lists.items in
    let held : IsIn claim inner = subst (λ (cs : List Claim). IsIn claim cs) (sym c.self.view_is) c.requires.held in
    let sound : IsSound (changed claim to inner) = subst (λ (cs : List Claim). IsSound (changed claim to cs)) (sym c.self.view_is) c.requires.sound in
    let claims = c.replace.ensures.claims in (
      c.replace.ensures.filed,
      subst IsKept (sym claims) (kept_changed claim to inner c.self.invariant.1 held sound),
      index_changed c.self.inside.index c.recast.new.self claim to inner (joined c.replace.new.lists.items) c.self.invariant.2 held c.recast.ensures claims,
    )
