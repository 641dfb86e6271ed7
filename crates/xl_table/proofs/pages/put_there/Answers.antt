use Rattle.xl_table.proofs.PageLaws.{put_is, there_within, there_fits}
use Rattle.xl_table.proofs.pages.put_there.Goals as goal

pub returns-clause-ok : goal.returns-clause-ok
returns-clause-ok c =
    λ place sum.
    let pages = c.args.pages.now.items in
    put_is pages c.args.at c.args.left place c.index_mut.result.now c.put.new.self c.args.entered.now (there_within pages c.args.at c.args.left c.requires.there) c.index_mut.ensures.value
    (there_fits pages c.args.at c.args.left c.index_mut.result.now c.requires.there c.index_mut.ensures.value) sum c.in_ok-put.ensures.ok
