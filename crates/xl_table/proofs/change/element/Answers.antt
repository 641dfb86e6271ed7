use Rattle.std.proofs.Common.{arith, sym, subst, refl, ◌∙◌, List, [], ◌∷◌}
use Rattle.std.proofs.lemmas.Bool.{eq-eqb}
use Rattle.xl_matrix.specs.declared.claim.Claim.{Claim}
use Rattle.xl_table.specs.Files.{AreOn}
use Rattle.xl_table.specs.Pages.{paged}
use Rattle.xl_table.proofs.ChangeLaws.{is_on, spliced_is}
use Rattle.xl_table.proofs.PlaceLaws.{placed_at}
use Rattle.xl_table.proofs.change.element.Goals as goal

pub returns-clause-claims : goal.returns-clause-claims
returns-clause-claims c =
    let claim = c.args.claim.now in
    let claims = (paged c.args.pages.now) in
    spliced_is c.make_change.result claims (claim ∷ []) c.place_of-place.result c.place_of-place.result c.make_change.ensures.start c.make_change.ensures.end (c.make_change.ensures.entered ∙ c.in_ok-entered.ensures)
    ∙ sym (placed_at claim claims c.place_of-place.result c.place_of-place.ensures.count)

pub returns-clause-on : goal.returns-clause-on
returns-clause-on c =
    let claim = c.args.claim.now in
    is_on claim.file c.args.count c.place_of-place.result c.place_of-place.result (paged c.args.pages.now) c.in_ok-entered.entered.items c.make_change.result
    c.make_change.ensures.file c.make_change.ensures.start c.make_change.ensures.end c.make_change.ensures.entered c.make_change.ensures.held
    (omega arith) c.place_of-place.ensures.within
    (subst (λ (ds : List Claim). AreOn claim.file ds) (sym c.in_ok-entered.ensures) (eq-eqb claim.file claim.file refl, tt))
