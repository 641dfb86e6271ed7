use Rattle.xl_table.proofs.PageLaws.{set_is, inside_len}
use Rattle.xl_table.proofs.pages.set_there.Goals as goal

pub returns-clause-set : goal.returns-clause-set
returns-clause-set c =
    λ place sum.
    let pages = c.args.pages.now.items in
    set_is pages c.args.at c.args.left place c.index_mut.result.now c.set.new.self c.args.claim c.requires.at c.index_mut.ensures.value
    (inside_len pages c.args.at c.args.left c.index_mut.result.now c.requires.inside c.index_mut.ensures.value) sum c.set.ensures
