use Rattle.std.proofs.Common.{refl}
use Rattle.xl_table.proofs.DropLaws.{group_has, group_left, group_out}
use Rattle.xl_table.proofs.leaving.drop_group.Goals as goal

pub drop_between-requires-clause-has : goal.drop_between-requires-clause-has
drop_between-requires-clause-has c =
    group_has c.args.front.now c.args.pages.now.items c.as_slice.result.now c.args.pages.now.items _ _ c.as_slice.ensures.value refl c.requires.ordered c.few_places-start.ensures.start c.few_places-start.ensures.end c.args.index.now c.requires.has

pub returns-clause-claims : goal.returns-clause-claims
returns-clause-claims c =
    group_out c.args.front.now c.args.pages.now.items c.as_slice.result.now c.args.pages.now.items _ _ c.as_slice.ensures.value refl c.requires.ordered c.few_places-start.ensures.start c.few_places-start.ensures.end _ c.drop_between.ensures.taken

pub returns-clause-index : goal.returns-clause-index
returns-clause-index c =
    group_left c.args.front.now c.args.pages.now.items c.as_slice.result.now c.args.pages.now.items _ _ c.as_slice.ensures.value refl c.requires.ordered c.few_places-start.ensures.start c.few_places-start.ensures.end c.args.index.now c.drop_between.new.index c.drop_between.ensures.index
