use Rattle.std.proofs.Common.{List, subst, sym, rules}
use Rattle.std.specs.List.{filter}
use Rattle.xl_index.proofs.MomentLaws.{row}
use Rattle.xl_index.specs.Index.{Has, HasLeft}
use Rattle.xl_matrix.specs.declared.claim.Claim.{Claim}
use Rattle.xl_table.specs.Leaving.{goes}
use Rattle.xl_table.proofs.LeavingLaws.{claim_first, claim_both, claim_rest}
use Rattle.xl_table.proofs.leaving.+leave_page.Goals as goal

pub leave_one-requires : goal.leave_one-requires
leave_one-requires t c =
    claim_first c.args.leaver _ _ c.args.index.now
    (subst (λ (cs : List Claim). Has c.args.index.now (filter (goes c.args.leaver) cs)) (row c.args.claims.now _ c.in-len1-up.len_at_least) c.requires)

pub leave_page-requires : goal.leave_page-requires
leave_page-requires t c = (
  search rules,
  claim_rest c.args.leaver _ _ c.args.index.now c.leave_one.new.index
      (subst (λ (cs : List Claim). Has c.args.index.now (filter (goes c.args.leaver) cs)) (row c.args.claims.now _ c.in-len1-up.len_at_least) c.requires) c.leave_one.ensures,
)

pub returns-in-len1-up : goal.returns-in-len1-up
returns-in-len1-up t c =
    subst (λ (cs : List Claim). HasLeft c.args.index.now c.leave_page.new.index (filter (goes c.args.leaver) cs)) (sym (row c.args.claims.now _ c.in-len1-up.len_at_least))
    (claim_both c.args.leaver _ _ c.args.index.now c.leave_one.new.index c.leave_page.new.index c.leave_one.ensures c.leave_page.ensures)
