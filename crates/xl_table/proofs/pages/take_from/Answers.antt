use Rattle.xl_table.proofs.PageLaws.{take_is, there_within, there_fits}
use Rattle.xl_table.proofs.pages.take_from.Goals as goal

pub returns-clause-taken : goal.returns-clause-taken
returns-clause-taken c =
    λ start sum.
    let pages = c.args.pages.now.items in
    take_is pages c.args.at c.args.from c.args.to start c.index_mut.result.now c.take_out.new.self (there_within pages c.args.at c.args.to c.requires.there) c.index_mut.ensures.value c.requires.order
    (there_fits pages c.args.at c.args.to c.index_mut.result.now c.requires.there c.index_mut.ensures.value) sum c.take_out.ensures
