use Rattle.std.proofs.Common.{◌-◌, length, take, drop, List, rules, sym, ap, subst, ◌∙◌, arith}
use Rattle.std.specs.List.{slice_range}
use Rattle.xl_index.specs.Index.{Has, HasLeft}
use Rattle.xl_matrix.specs.declared.claim.Claim.{Claim}
use Rattle.xl_table.specs.Pages.{paged}
use Rattle.xl_table.proofs.DropLaws.{rest_is, late_of, across_of, rest_long, front_has, back_has, whole_left}
use Rattle.xl_table.proofs.leaving.+leave_between.Goals as goal

pub leave_between-requires : goal.leave_between-requires
leave_between-requires t c =
    let pages = c.args.pages.now in
    let page = c.page-item.result in (
      search rules,
      (
        omega (arith, c.requires.order),
        (
          rest_long pages page c.args.end c.len-len.result c.in-len1-up.len_at_least c.page-item.is c.len-len.ensures c.requires.within,
          subst (λ (cs : List Claim). Has c.args.index.now cs) (sym (late_of pages page c.args.start c.args.end c.len-len.result c.in-len1-up.len_at_least c.page-item.is c.len-len.ensures (omega (arith, c.if-len-start.true)) c.requires.order)) c.requires.has,
        ),
      ),
    )

pub leave_all-requires-else-end-len : goal.leave_all-requires-else-end-len
leave_all-requires-else-end-len t c =
    let pages = c.args.pages.now in
    let page = c.page-item.result in
    let rest = slice_range (paged (take (length pages - 1) (drop 1 pages))) 0 (c.args.end - c.len-len.result) in
    let whole = across_of pages page c.args.start c.args.end c.len-len.result c.in-len1-up.len_at_least c.page-item.is c.len-len.ensures (omega (arith, c.if-len-start.false)) (omega (arith, c.if-end-len.false)) in
    subst (λ (cs : List Claim). Has c.args.index.now cs) (sym (rest_is c.as_slice-else-end-len.result.now c.args.start ∙ ap (λ (cs : List Claim). drop c.args.start cs) c.as_slice-else-end-len.ensures))
    (front_has c.args.index.now (drop c.args.start page) rest (subst (λ (cs : List Claim). Has c.args.index.now cs) (sym whole) c.requires.has))

pub leave_between-requires-else-end-len : goal.leave_between-requires-else-end-len
leave_between-requires-else-end-len t c =
    let pages = c.args.pages.now in
    let page = c.page-item.result in
    let rest = slice_range (paged (take (length pages - 1) (drop 1 pages))) 0 (c.args.end - c.len-len.result) in
    let whole = across_of pages page c.args.start c.args.end c.len-len.result c.in-len1-up.len_at_least c.page-item.is c.len-len.ensures (omega (arith, c.if-len-start.false)) (omega (arith, c.if-end-len.false)) in
    let tail = rest_is c.as_slice-else-end-len.result.now c.args.start ∙ ap (λ (cs : List Claim). drop c.args.start cs) c.as_slice-else-end-len.ensures in (
      search rules,
      (
        omega arith,
        (
          rest_long pages page c.args.end c.len-len.result c.in-len1-up.len_at_least c.page-item.is c.len-len.ensures c.requires.within,
          back_has c.args.index.now c.leave_all-else-end-len.new.index (drop c.args.start page) rest (subst (λ (cs : List Claim). Has c.args.index.now cs) (sym whole) c.requires.has)
              (subst (λ (cs : List Claim). HasLeft c.args.index.now c.leave_all-else-end-len.new.index cs) tail c.leave_all-else-end-len.ensures),
        ),
      ),
    )

pub returns-then-len-start : goal.returns-then-len-start
returns-then-len-start t c =
    subst (λ (cs : List Claim). HasLeft c.args.index.now c.leave_between.new.index cs)
    (late_of c.args.pages.now c.page-item.result c.args.start c.args.end c.len-len.result c.in-len1-up.len_at_least c.page-item.is c.len-len.ensures (omega (arith, c.if-len-start.true)) c.requires.order) c.leave_between.ensures

pub returns-else-end-len : goal.returns-else-end-len
returns-else-end-len t c =
    let pages = c.args.pages.now in
    let page = c.page-item.result in
    let rest = slice_range (paged (take (length pages - 1) (drop 1 pages))) 0 (c.args.end - c.len-len.result) in
    let whole = across_of pages page c.args.start c.args.end c.len-len.result c.in-len1-up.len_at_least c.page-item.is c.len-len.ensures (omega (arith, c.if-len-start.false)) (omega (arith, c.if-end-len.false)) in
    let tail = rest_is c.as_slice-else-end-len.result.now c.args.start ∙ ap (λ (cs : List Claim). drop c.args.start cs) c.as_slice-else-end-len.ensures in
    subst (λ (cs : List Claim). HasLeft c.args.index.now c.leave_between-else-end-len.new.index cs) whole
    (whole_left c.args.index.now c.leave_all-else-end-len.new.index c.leave_between-else-end-len.new.index (drop c.args.start page) rest (subst (λ (cs : List Claim). HasLeft c.args.index.now c.leave_all-else-end-len.new.index cs) tail c.leave_all-else-end-len.ensures)
    c.leave_between-else-end-len.ensures)
