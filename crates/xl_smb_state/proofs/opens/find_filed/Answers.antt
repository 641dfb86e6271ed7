use Rattle.std.proofs.Common.{sym, ap, ◌∙◌, get_or, None}
use Rattle.std.specs.Option.{option_and_then, option_copied}
use Rattle.xl_smb_state.proofs.FiledLaws.{find_is}
use Rattle.xl_smb_state.proofs.opens.find_filed.Goals as goal

pub returns-in_err-slot : goal.returns-in_err-slot
returns-in_err-slot c =
    let slots = c.args.rows.now.slots in
    ap option_copied c.from_residual.ensures ∙ sym (find_is c.args.number c.args.places.now slots c.requires ∙ ap (option_and_then (λ k. get_or slots k None)) (sym c.in_err-slot.ensures))

pub returns : goal.returns
returns c =
    let slots = c.args.rows.now.slots in
    c.get.ensures ∙ sym (find_is c.args.number c.args.places.now slots c.requires ∙ ap (option_and_then (λ k. get_or slots k None)) (sym c.in_ok-slot.ensures))
