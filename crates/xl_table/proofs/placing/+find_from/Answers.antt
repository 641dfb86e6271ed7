use Rattle.std.proofs.Common.{◌-◌, ◌+◌, ◌<◌, ◌≡◌, ◌++◌, true, take, drop, length, List, subst, sym, ap, ◌∙◌, arith}
use Rattle.std.specs.List.{list_any}
use Rattle.xl_matrix.specs.declared.claim.Claim.{Claim}
use Rattle.xl_matrix.specs.Equal.{same_claims}
use Rattle.xl_table.specs.Flat.{removed}
use Rattle.xl_table.specs.Pages.{paged, IsFoundAt}
use Rattle.xl_table.proofs.PageLaws.{first_and_rest}
use Rattle.xl_table.proofs.PlaceLaws.{found_early, found_late}
use Rattle.xl_table.proofs.placing.+find_from.Goals as goal

pub returns-in-Some-clause-found : goal.returns-in-Some-clause-found
returns-in-Some-clause-found k c =
    let pages = c.args.pages.now in
    let claim = c.args.claim.now in
    subst (λ (cs : List Claim). IsFoundAt claim c.in-Some.i cs) (first_and_rest pages c.page-item.result (omega (arith, c.in-len1-up.len_at_least)) c.page-item.is)
    (found_early claim c.in-Some.i c.page-item.result (paged (take (length pages - 1) (drop 1 pages)))
    (subst (λ (cs : List Claim). (c.in-Some.i < length cs) × (list_any (λ held. same_claims held claim) cs ≡ true) × (removed claim cs ≡ take c.in-Some.i cs ++ drop (c.in-Some.i + 1) cs)) c.as_slice.ensures c.in-Some.ensures.found))

pub returns-in-Some-find_from-clause-found : goal.returns-in-Some-find_from-clause-found
returns-in-Some-find_from-clause-found k c =
    let pages = c.args.pages.now in
    let claim = c.args.claim.now in
    subst (λ (cs : List Claim). IsFoundAt claim (c.len.result + c.in-Some-find_from.i) cs) (first_and_rest pages c.page-item.result (omega (arith, c.in-len1-up.len_at_least)) c.page-item.is)
    (found_late claim c.in-Some-find_from.i c.len.result c.page-item.result (paged (take (length pages - 1) (drop 1 pages)))
    (ap (λ (cs : List Claim). list_any (λ held. same_claims held claim) cs) (sym c.as_slice.ensures) ∙ c.in-None.ensures.none) c.len.ensures c.in-Some-find_from.ensures.found)
