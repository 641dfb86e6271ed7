use Rattle.std.proofs.Common.{◌≡◌, Bool, not, ◌||◌, List, ap, sym, subst, ◌∙◌}
use Rattle.std.specs.List.{filter}
use Rattle.xl_base.specs.Lists.{Pairwise}
use Rattle.xl_base.proofs.Members.{pairwise_filter}
use Rattle.xl_index.specs.Index.{Has, HasLeft}
use Rattle.xl_matrix.specs.declared.claim.Claim.{Claim}
use Rattle.xl_table.specs.Leaving.{in_group, owned, all_owned}
use Rattle.xl_table.specs.Order.{goes_first}
use Rattle.xl_table.specs.Pages.{paged}
use Rattle.xl_table.specs.Sections.{party_group}
use Rattle.xl_table.proofs.DropLaws.{first_has, second_has, both_left, both_kept, short_still}
use Rattle.xl_table.proofs.leaving.drop_all_owned.Goals as goal

pub drop_owned-requires-clause-has : goal.drop_owned-requires-clause-has
drop_owned-requires-clause-has c =
    first_has (owned c.args.file c.args.number) (in_group (party_group c.args.file c.args.party)) c.args.index.now (paged c.args.pages.now.items) c.requires.has

pub drop_group-requires : goal.drop_group-requires
drop_group-requires c =
    let own = owned c.args.file c.args.number in
    let g = c.party_group.result in
    let cs = paged c.args.pages.now.items in
    let same : (λ (x : Claim). own x || in_group g x) ≡ all_owned c.args.file c.args.number c.args.party = λ i x. own x || in_group (c.party_group.ensures i) x in
    record {
      ordered = subst (λ (ds : List Claim). Pairwise goes_first ds) (sym c.drop_owned.ensures.claims) (pairwise_filter goes_first (λ x. not (own x)) cs c.requires.ordered);
      full = c.drop_owned.ensures.full;
      room = short_still (λ x. not (own x)) cs (paged c.drop_owned.new.pages.items) _ c.drop_owned.ensures.claims c.requires.room;
      has = second_has own (in_group g) c.args.index.now c.drop_owned.new.index cs (paged c.drop_owned.new.pages.items) (subst (λ (p : Claim → Bool). Has c.args.index.now (filter p cs)) (sym same) c.requires.has) c.drop_owned.ensures.claims c.drop_owned.ensures.index;
    }

pub returns-clause-claims : goal.returns-clause-claims
returns-clause-claims c =
    let own = owned c.args.file c.args.number in
    let g = c.party_group.result in
    let cs = paged c.args.pages.now.items in
    let same : (λ (x : Claim). own x || in_group g x) ≡ all_owned c.args.file c.args.number c.args.party = λ i x. own x || in_group (c.party_group.ensures i) x in
    subst (λ (p : Claim → Bool). paged c.drop_group.new.pages.items ≡ filter (λ x. not (p x)) cs) same
    (c.drop_group.ensures.claims ∙ ap (λ (ds : List Claim). filter (λ x. not (in_group g x)) ds) c.drop_owned.ensures.claims ∙ both_kept own (in_group g) cs)

pub returns-clause-index : goal.returns-clause-index
returns-clause-index c =
    let own = owned c.args.file c.args.number in
    let g = c.party_group.result in
    let cs = paged c.args.pages.now.items in
    let same : (λ (x : Claim). own x || in_group g x) ≡ all_owned c.args.file c.args.number c.args.party = λ i x. own x || in_group (c.party_group.ensures i) x in
    subst (λ (p : Claim → Bool). HasLeft c.args.index.now c.drop_group.new.index (filter p cs)) same
    (both_left own (in_group g) c.args.index.now c.drop_owned.new.index c.drop_group.new.index cs (paged c.drop_owned.new.pages.items) c.drop_owned.ensures.claims c.drop_owned.ensures.index c.drop_group.ensures.index)
