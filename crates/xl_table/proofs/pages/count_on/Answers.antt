use Rattle.std.proofs.Common.{◌+◌, arith}
use Rattle.xl_table.specs.Pages.{paged, passes}
use Rattle.xl_table.proofs.AlongLaws.{along_page, there_fits, page_fits, prefix_within}
use Rattle.xl_table.proofs.pages.count_on.Goals as goal

pub overflow_add-left : goal.overflow_add-left
overflow_add-left c =
    let ps = c.args.pages.now in
    omega (arith, c.count_from-more.ensures.within, page_fits ps c.args.at c.index-pages-at.result c.if-at-pages.true c.index-pages-at.is, c.requires.room)

pub overflow_add-result : goal.overflow_add-result
overflow_add-result c =
    let ps = c.args.pages.now in
    let page = c.index-pages-at.result in
    let inside = c.if-at-pages.true in
    omega (
      arith,
      c.requires.room,
      prefix_within (passes c.args.mark c.args.front.now) (paged ps) (c.args.known + c.count_from-more.result) (along_page (passes c.args.mark c.args.front.now) ps c.args.at c.args.left c.args.known c.count_from-more.result page
          c.requires.sum inside c.index-pages-at.is (there_fits ps c.args.at c.args.left page (c.requires.there inside) c.index-pages-at.is)
          c.count_from-more.ensures.count (omega (arith, c.if-left-more.true, c.len.ensures)) c.requires.known),
    )

pub returns-then-left-more-clause-count : goal.returns-then-left-more-clause-count
returns-then-left-more-clause-count c =
    let ps = c.args.pages.now in
    let page = c.index-pages-at.result in
    let inside = c.if-at-pages.true in
    along_page (passes c.args.mark c.args.front.now) ps c.args.at c.args.left c.args.known c.count_from-more.result page
    c.requires.sum inside c.index-pages-at.is (there_fits ps c.args.at c.args.left page (c.requires.there inside) c.index-pages-at.is)
    c.count_from-more.ensures.count (omega (arith, c.if-left-more.true, c.len.ensures)) c.requires.known

pub returns-then-left-more-clause-within : goal.returns-then-left-more-clause-within
returns-then-left-more-clause-within c =
    let ps = c.args.pages.now in
    let page = c.index-pages-at.result in
    let inside = c.if-at-pages.true in
    prefix_within (passes c.args.mark c.args.front.now) (paged ps) (c.args.known + c.count_from-more.result) (along_page (passes c.args.mark c.args.front.now) ps c.args.at c.args.left c.args.known c.count_from-more.result page
    c.requires.sum inside c.index-pages-at.is (there_fits ps c.args.at c.args.left page (c.requires.there inside) c.index-pages-at.is)
    c.count_from-more.ensures.count (omega (arith, c.if-left-more.true, c.len.ensures)) c.requires.known)
