use Rattle.std.proofs.Common.{ℕ, ◌+◌, ◌-◌, take, length, refl, sym, ap, ◌∙◌, arith}
use Rattle.xl_table.specs.Pages.{paged}
use Rattle.xl_table.proofs.PageLaws.{last_sum}
use Rattle.xl_table.proofs.pages.find_seat.Goals as goal

pub returns-clause-sum : goal.returns-clause-sum
returns-clause-sum c =
    let pages = c.args.pages.now in
    last_sum pages c.locate-at.result.0 (length pages - 1) c.args.place c.locate-at.result.1 c.index-pages-last.result (omega (arith, c.if-at-pages.false)) c.requires.some refl c.index-pages-last.is c.locate-at.ensures.sum c.requires.within
    ∙ ap (λ (n : ℕ). length (paged (take (length pages - 1) pages)) + n) (sym c.len.ensures)
