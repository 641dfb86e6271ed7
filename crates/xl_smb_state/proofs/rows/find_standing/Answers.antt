use Rattle.std.proofs.Common.{sym, ap, ◌∙◌}
use Rattle.std.specs.Option.{option_copied}
use Rattle.xl_smb_state.specs.Filed.{flat}
use Rattle.xl_smb_state.proofs.StandingLaws.{found_standing}
use Rattle.xl_smb_state.proofs.rows.find_standing.Goals as goal

pub returns-in_err-get : goal.returns-in_err-get
returns-in_err-get g c =
    ap option_copied c.from_residual.ensures ∙ sym (found_standing g.K.PartialEq.eq g.met.K.Eq.laws c.args.key.now c.args.places.now.entries c.len.ensures.unique ∙ ap flat (sym c.in_err-get.ensures.value))

pub returns : goal.returns
returns g c =
    c.as_ref.ensures.value ∙ sym (found_standing g.K.PartialEq.eq g.met.K.Eq.laws c.args.key.now c.args.places.now.entries c.len.ensures.unique ∙ ap flat (sym c.in_ok-get.ensures.value))
