use Rattle.std.proofs.Common.{◌≡◌, Bool, not, ◌||◌, List, ap, sym, subst, ◌∙◌}
use Rattle.std.specs.List.{filter}
use Rattle.xl_base.specs.Lists.{Pairwise}
use Rattle.xl_base.proofs.Members.{pairwise_filter}
use Rattle.xl_index.specs.Index.{Has, HasLeft}
use Rattle.xl_matrix.specs.declared.claim.Claim.{Claim}
use Rattle.xl_table.specs.Leaving.{in_group, owned}
use Rattle.xl_table.specs.Order.{goes_first}
use Rattle.xl_table.specs.Pages.{paged}
use Rattle.xl_table.specs.Sections.{group}
use Rattle.xl_base.specs.declared.name.Owner.TheVariants as owners
use Rattle.xl_table.proofs.DropLaws.{first_has, second_has, both_left, both_kept, short_still}
use Rattle.xl_table.proofs.leaving.drop_owned.Goals as goal

pub drop_group-requires-clause-has : goal.drop_group-requires-clause-has
drop_group-requires-clause-has c =
    let f = c.group_of.result in
    let g = group c.args.file 1 (owners.Open c.args.number) in
    let cs = paged c.args.pages.now.items in
    let same : (λ (x : Claim). in_group f x || in_group g x) ≡ owned c.args.file c.args.number = λ i x. in_group (c.group_of.ensures i) x || in_group g x in
    first_has (in_group f) (in_group g) c.args.index.now cs (subst (λ (p : Claim → Bool). Has c.args.index.now (filter p cs)) (sym same) c.requires.has)

pub drop_group-requires-2 : goal.drop_group-requires-2
drop_group-requires-2 c =
    let f = c.group_of.result in
    let g = c.group_of-2.result in
    let cs = paged c.args.pages.now.items in
    let same : (λ (x : Claim). in_group f x || in_group g x) ≡ owned c.args.file c.args.number = λ i x. in_group (c.group_of.ensures i) x || in_group (c.group_of-2.ensures i) x in
    record {
      ordered = subst (λ (ds : List Claim). Pairwise goes_first ds) (sym c.drop_group.ensures.claims) (pairwise_filter goes_first (λ x. not (in_group f x)) cs c.requires.ordered);
      full = c.drop_group.ensures.full;
      room = short_still (λ x. not (in_group f x)) cs (paged c.drop_group.new.pages.items) _ c.drop_group.ensures.claims c.requires.room;
      has = second_has (in_group f) (in_group g) c.args.index.now c.drop_group.new.index cs (paged c.drop_group.new.pages.items) (subst (λ (p : Claim → Bool). Has c.args.index.now (filter p cs)) (sym same) c.requires.has) c.drop_group.ensures.claims c.drop_group.ensures.index;
    }

pub returns-clause-claims : goal.returns-clause-claims
returns-clause-claims c =
    let f = c.group_of.result in
    let g = c.group_of-2.result in
    let cs = paged c.args.pages.now.items in
    let same : (λ (x : Claim). in_group f x || in_group g x) ≡ owned c.args.file c.args.number = λ i x. in_group (c.group_of.ensures i) x || in_group (c.group_of-2.ensures i) x in
    subst (λ (p : Claim → Bool). paged c.drop_group-2.new.pages.items ≡ filter (λ x. not (p x)) cs) same
    (c.drop_group-2.ensures.claims ∙ ap (λ (ds : List Claim). filter (λ x. not (in_group g x)) ds) c.drop_group.ensures.claims ∙ both_kept (in_group f) (in_group g) cs)

pub returns-clause-index : goal.returns-clause-index
returns-clause-index c =
    let f = c.group_of.result in
    let g = c.group_of-2.result in
    let cs = paged c.args.pages.now.items in
    let same : (λ (x : Claim). in_group f x || in_group g x) ≡ owned c.args.file c.args.number = λ i x. in_group (c.group_of.ensures i) x || in_group (c.group_of-2.ensures i) x in
    subst (λ (p : Claim → Bool). HasLeft c.args.index.now c.drop_group-2.new.index (filter p cs)) same
    (both_left (in_group f) (in_group g) c.args.index.now c.drop_group.new.index c.drop_group-2.new.index cs (paged c.drop_group.new.pages.items) c.drop_group.ensures.claims c.drop_group.ensures.index c.drop_group-2.ensures.index)
