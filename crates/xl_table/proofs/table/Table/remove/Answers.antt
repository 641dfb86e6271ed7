use Rattle.std.proofs.Common.{◌≡◌, true, sym, subst, ◌∙◌}
use Rattle.std.specs.List.{list_any}
use Rattle.xl_matrix.specs.Equal.{same_claims}
use Rattle.xl_table.specs.Files.{joined}
use Rattle.xl_table.specs.Held.{IsKept}
use Rattle.xl_table.proofs.IndexedLaws.{has_equal, index_removed}
use Rattle.xl_table.proofs.KeptLaws.{kept_removed}
use Rattle.xl_table.proofs.table.Table.remove.Goals as goal

pub leave-requires : goal.leave-requires
leave-requires c =
    record { index = has_equal c.self.inside.index c.args.claim.now (joined c.self.inside.lists.items) c.self.invariant.2 (sym c.take_out.ensures.held ∙ c.if-take_out.true) }

pub invariant_of-self : goal.invariant_of-self
invariant_of-self c =
    let claim = c.args.claim.now in
    let inner = joined c.self.inside.lists.items in
    let held : list_any (λ d. same_claims d claim) inner ≡ true = sym c.take_out.ensures.held ∙ c.if-take_out.true in
    let claims = c.take_out.ensures.claims in (
      c.take_out.ensures.filed,
      subst IsKept (sym claims) (kept_removed claim inner c.self.invariant.1),
      index_removed c.self.inside.index c.leave.new.self claim inner (joined c.take_out.new.lists.items) c.self.invariant.2 held c.leave.ensures claims,
    )
