use Rattle.std.proofs.Common.{◌≡◌, ◌++◌, ◌-◌, take, drop, length, List, subst, arith}
use Rattle.std.specs.List.{slice_range}
use Rattle.xl_matrix.specs.declared.claim.Claim.{Claim}
use Rattle.xl_table.specs.Pages.{paged}
use Rattle.xl_table.proofs.PageLaws.{range_late_by, range_across_by, first_and_rest}
use Rattle.xl_table.proofs.pages.+push_between.Goals as goal

pub returns-in_ok-push_between-in-len1-up : goal.returns-in_ok-push_between-in-len1-up
returns-in_ok-push_between-in-len1-up k c =
    let pages = c.args.pages.now in
    let found = c.args.found.now.items in
    let new = c.push_between.new.found.items in
    subst (λ (cs : List Claim). new ≡ found ++ slice_range cs c.args.start c.args.end) (first_and_rest pages c.page-item.result (omega (arith, c.in-len1-up.len_at_least)) c.page-item.is)
    (range_late_by c.page-item.result (paged (take (length pages - 1) (drop 1 pages))) found new c.args.start c.args.end c.len-len.result c.len-len.ensures (omega (arith, c.if-len-start.true)) c.requires.order c.in_ok-push_between-in-len1-up.ensures)

pub returns-in_ok-push_between-in-len1-up-2 : goal.returns-in_ok-push_between-in-len1-up-2
returns-in_ok-push_between-in-len1-up-2 k c =
    let pages = c.args.pages.now in
    let found = c.args.found.now.items in
    let new = c.push_between-else-end-len.new.found.items in
    subst (λ (cs : List Claim). new ≡ found ++ slice_range cs c.args.start c.args.end) (first_and_rest pages c.page-item.result (omega (arith, c.in-len1-up.len_at_least)) c.page-item.is)
    (range_across_by c.page-item.result (paged (take (length pages - 1) (drop 1 pages))) found c.push_tail.new.found.items new c.args.start c.args.end c.len-len.result c.len-len.ensures (omega (arith, c.if-len-start.false)) (omega (arith, c.if-end-len.false)) c.in_ok-push_tail-in-len1-up.ensures c.in_ok-push_between-in-len1-up-2.ensures)
