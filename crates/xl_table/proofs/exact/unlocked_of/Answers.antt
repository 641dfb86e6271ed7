use Rattle.std.proofs.Common.{sym, ap, ◌∙◌}
use Rattle.xl_exact.specs.Elements.{Elements}
use Rattle.xl_table.proofs.ExactLaws.{unlocked_there}
use Rattle.xl_table.proofs.exact.unlocked_of.Goals as goal

pub returns-in-Some-take_out : goal.returns-in-Some-take_out
returns-in-Some-take_out c =
    unlocked_there c.args.extent c.in-Some.element c.args.ranges.now c.from_vec-exact.result.elements c.take_out.result c.in-Some-take_out.place c.claim_at.result
    c.requires.ranges (sym c.element_of.ensures.value ∙ c.in-Some.is) (ap (λ (v : Elements). v.elements) c.from_vec-exact.ensures ∙ c.in_ok-elements_in.ensures.elements)
    c.take_out.ensures.value c.in-Some-take_out.is c.claim_at.ensures
