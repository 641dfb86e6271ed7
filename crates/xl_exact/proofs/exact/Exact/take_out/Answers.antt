use Rattle.std.proofs.Common.{not, ap, ◌∙◌}
use Rattle.std.specs.List.{filter}
use Rattle.xl_exact.specs.declared.element.Element.{Element}
use Rattle.xl_exact.specs.Elements.{Elements, has_range}
use Rattle.xl_exact.proofs.ElementLaws.{others_unlocked}
use Rattle.xl_exact.proofs.exact.Exact.take_out.Goals as goal

pub returns-clause-others : goal.returns-clause-others
returns-clause-others c =
    let keeps = λ (e : Element). not (has_range c.args.first c.args.len e) in
    ap (filter keeps) c.take_out.ensures.items
    ∙ others_unlocked c.args.first c.args.len c.self.inside.items.items
    ∙ ap (λ (v : Elements). filter keeps v.elements) c.self.view_is
