use Rattle.std.proofs.Common.{◌≡◌, ◌+◌, arith}
use Rattle.std.proofs.lemmas.List.Sums.{prefix_len-le-length}
use Rattle.std.specs.List.{prefix_len}
use Rattle.xl_table.specs.Pages.{paged, passes}
use Rattle.xl_table.proofs.PageLaws.{count_done}
use Rattle.xl_table.proofs.pages.count_passing.Goals as goal

pub overflow_add-result : goal.overflow_add-result
overflow_add-result c =
    let p = passes c.args.mark c.args.front.now in
    let pages = c.args.pages.now in
    let is : c.count_front.result + c.count_at.result ≡ prefix_len p (paged pages) = count_done p pages _ _ _ c.requires.full c.requires.parted c.count_whole-at.ensures.count c.count_front.ensures c.count_at.ensures.count in
    omega (arith, is, prefix_len-le-length p (paged pages), c.requires.room)

pub returns-clause-count : goal.returns-clause-count
returns-clause-count c = count_done (passes c.args.mark c.args.front.now) c.args.pages.now _ _ _ c.requires.full c.requires.parted c.count_whole-at.ensures.count c.count_front.ensures c.count_at.ensures.count

pub returns-clause-within : goal.returns-clause-within
returns-clause-within c =
    let p = passes c.args.mark c.args.front.now in
    let pages = c.args.pages.now in
    let is : c.count_front.result + c.count_at.result ≡ prefix_len p (paged pages) = count_done p pages _ _ _ c.requires.full c.requires.parted c.count_whole-at.ensures.count c.count_front.ensures c.count_at.ensures.count in
    omega (arith, is, prefix_len-le-length p (paged pages))
