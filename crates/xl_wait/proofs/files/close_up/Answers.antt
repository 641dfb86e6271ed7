use Rattle.std.proofs.Common.{ℕ, ◌==◌, not, List, map, ap, rules, ◌∙◌}
use Rattle.std.proofs.lemmas.Fn.{filter_same}
use Rattle.xl_wait.specs.Waiting.{nearer, closed_up}
use Rattle.xl_wait.proofs.files.close_up.Goals as goal

pub returns : goal.returns
returns c =
    let at : ℕ = c.args.at in
    c.from_vec.ensures
    ∙ c.bring_nearer.ensures
    ∙ ap (λ (ps : List ℕ). map (nearer at) ps) (filter_same _ (λ p. not (p == at)) _ (λ x b f' k. search rules) _ _ c.retain.ensures.filtered)
    ∙ ap (λ (ps : List ℕ). closed_up at ps) c.into_vec-places.ensures
