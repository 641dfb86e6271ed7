use Rattle.std.proofs.Common.{◌≡◌, ◌+◌, arith}
use Rattle.std.proofs.lemmas.List.Sums.{prefix_len-le-length}
use Rattle.std.specs.List.{prefix_len}
use Rattle.xl_table.specs.Pages.{paged, passes}
use Rattle.xl_table.proofs.PageLaws.{count_done}
use Rattle.xl_table.proofs.pages.count_both.Goals as goal

pub overflow_add-known : goal.overflow_add-known
overflow_add-known c =
    let p = passes c.args.near c.args.front.now in
    let pages = c.args.pages.now in
    let is : c.count_front.result + c.count_at-left.result ≡ prefix_len p (paged pages) = count_done p pages _ _ _ c.requires.full c.requires.near c.count_whole-at.ensures.count c.count_front.ensures c.count_at-left.ensures.count in
    omega (arith, is, prefix_len-le-length p (paged pages), c.requires.room)

pub count_on-requires-clause-known : goal.count_on-requires-clause-known
count_on-requires-clause-known c =
    let p = passes c.args.near c.args.front.now in
    let pages = c.args.pages.now in
    let is : c.count_front.result + c.count_at-left.result ≡ prefix_len p (paged pages) = count_done p pages _ _ _ c.requires.full c.requires.near c.count_whole-at.ensures.count c.count_front.ensures c.count_at-left.ensures.count in
    omega (arith, is, c.requires.order)

pub returns-clause-near : goal.returns-clause-near
returns-clause-near c = count_done (passes c.args.near c.args.front.now) c.args.pages.now _ _ _ c.requires.full c.requires.near c.count_whole-at.ensures.count c.count_front.ensures c.count_at-left.ensures.count
