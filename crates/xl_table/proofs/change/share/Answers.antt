use Rattle.std.proofs.Common.{ap, sym, subst, refl, ◌==◌, ◌≡◌, ◌∙◌, List, [], ◌∷◌}
use Rattle.xl_matrix.specs.declared.claim.Claim.{Claim}
use Rattle.xl_table.specs.Changes.{spliced}
use Rattle.xl_table.specs.Relock.{shared_in}
use Rattle.std.proofs.lemmas.Bool.{eq-eqb}
use Rattle.xl_table.specs.Files.{AreOn}
use Rattle.xl_table.specs.Pages.{paged}
use Rattle.xl_table.proofs.ChangeLaws.{is_on, share_is, united_is, spliced_is}
use Rattle.xl_table.proofs.change.share.Goals as goal

pub returns-clause-claims : goal.returns-clause-claims
returns-clause-claims c =
    let claim = c.args.claim.now in
    let claims = (paged c.args.pages.now) in
    let places = c.group_places-start.ensures in
    let one = united_is claim c.united.result claims c.deref.result.now _ _ c.requires.kept places.start places.end (c.deref.ensures.value ∙ c.in_ok-old.ensures) c.united.ensures in
    let is : spliced c.make_change.result claims ≡ shared_in claim claims =
    spliced_is c.make_change.result claims c.in_ok-entered.entered.items c.group_places-start.result.0 c.group_places-start.result.1 c.make_change.ensures.start c.make_change.ensures.end c.make_change.ensures.entered
    ∙ share_is claim claims c.in_ok-entered.entered.items _ _ c.requires.kept c.requires.share places.start places.end
    (c.in_ok-entered.ensures ∙ ap (λ (d : Claim). d ∷ []) one) in
    is

pub returns-clause-on : goal.returns-clause-on
returns-clause-on c =
    let claim = c.args.claim.now in
    let places = c.group_places-start.ensures in
    is_on claim.file c.args.count c.group_places-start.result.0 c.group_places-start.result.1 (paged c.args.pages.now) c.in_ok-entered.entered.items c.make_change.result
    c.make_change.ensures.file c.make_change.ensures.start c.make_change.ensures.end c.make_change.ensures.entered c.make_change.ensures.held
    places.order places.within
    (subst (λ (ds : List Claim). AreOn claim.file ds) (sym c.in_ok-entered.ensures) (ap (λ (d : Claim). d.file == claim.file) c.united.ensures ∙ eq-eqb claim.file claim.file refl, tt))
