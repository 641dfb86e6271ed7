use Rattle.std.proofs.Common.{List, sym, ap, subst, ◌∙◌, ◌≡◌, ◌++◌, ◌∷◌, take, drop}
use Rattle.std.specs.List.{list_any, remove}
use Rattle.xl_matrix.specs.declared.claim.Claim.{Claim}
use Rattle.xl_matrix.specs.Equal.{same_claims}
use Rattle.xl_table.specs.Flat.{inserted, with_what}
use Rattle.xl_table.specs.Pages.{paged, IsFoundAt}
use Rattle.xl_table.proofs.FlatLaws.{held_found}
use Rattle.xl_table.proofs.PlaceLaws.{found_changed}
use Rattle.xl_table.proofs.placing.replace_in.Goals as goal

pub returns-in-Some-clause-changed : goal.returns-in-Some-clause-changed
returns-in-Some-clause-changed c =
    let claim = c.args.claim.now in
    let pages = c.args.pages.now.items in
    let place = c.in-Some.place in
    let there = c.place_without-there.result in
    let moved = with_what claim c.args.to in
    found_changed claim c.args.to place there (paged pages) (paged c.move_claim.new.pages.items)
    (subst (λ (ps : List (List Claim)). IsFoundAt claim place (paged ps)) c.as_slice.ensures.value c.in-Some.ensures.found)
    (subst (λ (ps : List (List Claim)). inserted moved (remove (paged ps) place) ≡ take there (remove (paged ps) place) ++ moved ∷ drop there (remove (paged ps) place)) c.as_slice-in-Some.ensures.value c.place_without-there.ensures.place)
    c.move_claim.ensures.moved

pub returns-in_default-clause-changed : goal.returns-in_default-clause-changed
returns-in_default-clause-changed c =
    let claim = c.args.claim.now in
    absurd (held_found claim (paged c.args.pages.now.items) c.requires.held (ap (λ (ps : List (List Claim)). list_any (λ d. same_claims d claim) (paged ps)) (sym c.as_slice.ensures.value) ∙ c.in_default.ensures.none))
