use Rattle.std.proofs.Common.{◌≤◌, ℕ, subst, sym}
use Rattle.std.specs.List.{prefix_len}
use Rattle.xl_table.specs.Pages.{paged}
use Rattle.xl_table.specs.Sections.{is_before}
use Rattle.xl_table.proofs.SectionLaws.{section_order}
use Rattle.xl_table.proofs.section.few_places.Goals as goal

pub count_both-requires-clause-order : goal.count_both-requires-clause-order
count_both-requires-clause-order c = section_order c.args.front.now (paged c.args.pages.now) c.requires.ordered

pub returns-clause-order : goal.returns-clause-order
returns-clause-order c =
    let claims = paged c.args.pages.now in
    subst (λ (n : ℕ). n ≤ c.count_both.result.1) (sym c.count_both.ensures.near)
    (subst (λ (n : ℕ). prefix_len (is_before c.args.front.now) claims ≤ n) (sym c.count_both.ensures.far) (section_order c.args.front.now claims c.requires.ordered))
