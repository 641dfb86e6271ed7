use Rattle.std.proofs.Common.{rules, ◌==◌, not, List, sym, ap, ◌∙◌, filter}
use Rattle.std.proofs.lemmas.Fn.{filter_same}
use Rattle.xl_smb_frames.specs.declared.frame.Paused.{Paused}
use Rattle.xl_house.specs.Machine.{paused_after}
use Rattle.xl_house.proofs.frames.end_paused.Goals as goal

pub returns-in-End : goal.returns-in-End
returns-in-End c =
    c.from_vec.ensures
    ∙ filter_same _ _ _ (λ x b f' k. search rules) _ _ c.retain.ensures.filtered
    ∙ ap (λ (ps : List Paused). filter (λ p. not (p.conn == c.in-End.number)) ps) c.into_vec-all.ensures
    ∙ ap (λ e. paused_after c.args.paused e) (sym c.in-End.is)
