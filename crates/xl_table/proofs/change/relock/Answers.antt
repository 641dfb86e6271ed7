use Rattle.std.proofs.Common.{sym, ap, subst, map, ◌≡◌, ◌∙◌, ◌-◌, ℕ, List, arith}
use Rattle.std.specs.List.{prefix_len, slice_range}
use Rattle.xl_matrix.specs.declared.claim.Claim.{Claim}
use Rattle.xl_spans.specs.Spans.{IsCanonical, relocked}
use Rattle.xl_table.specs.Changes.{spliced}
use Rattle.xl_table.specs.Pages.{paged, passes}
use Rattle.xl_table.specs.Relock.{range_claim, relocked_in}
use Rattle.xl_table.specs.Sections.{group, spans_in}
use Rattle.xl_table.specs.Files.{AreOn}
use Rattle.xl_table.specs.declared.marks.Mark.TheVariants.{Ending, Beginning}
use Rattle.xl_table.proofs.AloneLaws.{ranges_on}
use Rattle.xl_table.proofs.ChangeLaws.{is_on, spliced_is}
use Rattle.xl_table.proofs.TouchLaws.{touched}
use Rattle.xl_table.proofs.change.relock.Goals as goal

pub touched_places-near-requires-clause-ending : goal.touched_places-near-requires-clause-ending
touched_places-near-requires-clause-ending c = (touched c.args.ask.now c.args.first c.args.last (paged c.args.pages.now) c.requires.kept c.requires.posix c.requires.range c.requires.ends c.requires.party).ending

pub touched_places-near-requires-clause-beginning : goal.touched_places-near-requires-clause-beginning
touched_places-near-requires-clause-beginning c = (touched c.args.ask.now c.args.first c.args.last (paged c.args.pages.now) c.requires.kept c.requires.posix c.requires.range c.requires.ends c.requires.party).beginning

pub touched_places-near-requires-clause-order : goal.touched_places-near-requires-clause-order
touched_places-near-requires-clause-order c = (touched c.args.ask.now c.args.first c.args.last (paged c.args.pages.now) c.requires.kept c.requires.posix c.requires.range c.requires.ends c.requires.party).order

pub between-requires-clause-order : goal.between-requires-clause-order
between-requires-clause-order c =
    omega (arith, c.touched_places-near.ensures.start, c.touched_places-near.ensures.end, (touched c.args.ask.now c.args.first c.args.last (paged c.args.pages.now) c.requires.kept c.requires.posix c.requires.range c.requires.ends c.requires.party).order)

pub fresh_claims-requires-clause-canonical : goal.fresh_claims-requires-clause-canonical
fresh_claims-requires-clause-canonical c =
    let facts = touched c.args.ask.now c.args.first c.args.last (paged c.args.pages.now) c.requires.kept c.requires.posix c.requires.range c.requires.ends c.requires.party in
    let part = c.deref.ensures.value ∙ c.in_ok-touched.ensures
    ∙ ap (λ (n : ℕ). slice_range (paged c.args.pages.now) n c.touched_places-near.result.1) c.touched_places-near.ensures.start
    ∙ ap (λ (n : ℕ). slice_range (paged c.args.pages.now) (prefix_len (passes (Ending (c.args.first - 1)) (group c.args.ask.now.file 1 c.args.ask.now.owner)) (paged c.args.pages.now)) n) c.touched_places-near.ensures.end in
    subst (λ (cs : List Claim). IsCanonical (spans_in cs)) (sym part) facts.canonical

pub make_change-requires-clause-order : goal.make_change-requires-clause-order
make_change-requires-clause-order c =
    omega (arith, c.touched_places-near.ensures.start, c.touched_places-near.ensures.end, (touched c.args.ask.now c.args.first c.args.last (paged c.args.pages.now) c.requires.kept c.requires.posix c.requires.range c.requires.ends c.requires.party).order)

pub returns-clause-claims : goal.returns-clause-claims
returns-clause-claims c =
    let file = c.args.ask.now.file in
    let owner = c.args.ask.now.owner in
    let party = c.args.ask.now.party in
    let claims = paged c.args.pages.now in
    let facts = touched c.args.ask.now c.args.first c.args.last claims c.requires.kept c.requires.posix c.requires.range c.requires.ends c.requires.party in
    let near = prefix_len (passes (Ending (c.args.first - 1)) (group file 1 owner)) claims in
    let far = prefix_len (passes (Beginning c.args.last) (group file 1 owner)) claims in
    let part = c.deref.ensures.value ∙ c.in_ok-touched.ensures
    ∙ ap (λ (n : ℕ). slice_range claims n c.touched_places-near.result.1) c.touched_places-near.ensures.start
    ∙ ap (λ (n : ℕ). slice_range claims near n) c.touched_places-near.ensures.end in
    let is : spliced c.make_change.result claims ≡ relocked_in file owner party c.args.first c.args.last c.args.mode claims =
    spliced_is c.make_change.result claims c.in_ok-entered.entered.items near far (c.make_change.ensures.start ∙ c.touched_places-near.ensures.start) (c.make_change.ensures.end ∙ c.touched_places-near.ensures.end) c.make_change.ensures.entered
    ∙ facts.done c.args.mode c.in_ok-entered.entered.items
    (c.in_ok-entered.ensures ∙ ap (λ (ds : List Claim). map (range_claim file owner party) (relocked (spans_in ds) c.args.first c.args.last c.args.mode)) part) in
    is

pub returns-clause-on : goal.returns-clause-on
returns-clause-on c =
    let file = c.args.ask.now.file in
    let owner = c.args.ask.now.owner in
    let party = c.args.ask.now.party in
    let claims = paged c.args.pages.now in
    let facts = touched c.args.ask.now c.args.first c.args.last claims c.requires.kept c.requires.posix c.requires.range c.requires.ends c.requires.party in
    let spans = relocked (spans_in c.deref.result.now) c.args.first c.args.last c.args.mode in
    is_on file c.args.count c.touched_places-near.result.0 c.touched_places-near.result.1 claims c.in_ok-entered.entered.items c.make_change.result
    c.make_change.ensures.file c.make_change.ensures.start c.make_change.ensures.end c.make_change.ensures.entered c.make_change.ensures.held
    (omega (arith, c.touched_places-near.ensures.start, c.touched_places-near.ensures.end, facts.order)) c.touched_places-near.ensures.within
    (subst (λ (ds : List Claim). AreOn file ds) (sym c.in_ok-entered.ensures) (ranges_on file owner party spans))
