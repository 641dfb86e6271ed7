use Rattle.std.proofs.Common.{ℕ, None, Some, ap, slice_get, sym, ◌∙◌}
use Rattle.xl_wait.specs.Lines.{standing}
use Rattle.xl_wait.proofs.LineLaws.{nth_is}
use Rattle.xl_wait.proofs.line.nth_on.Goals as goal

pub returns-in_default : goal.returns-in_default
returns-in_default c = nth_is c.args.line.now c.args.file c.args.count None c.requires.line (sym c.in_default.is ∙ c.nth_place.ensures)

pub returns : goal.returns
returns c =
    let l = c.args.line.now in
    c.nth.ensures ∙ ap (λ (k : ℕ). slice_get (standing l) k) c.saturating_sub.ensures ∙ nth_is l c.args.file c.args.count (Some c.in-Some.place) c.requires.line (sym c.in-Some.is ∙ c.nth_place.ensures)
