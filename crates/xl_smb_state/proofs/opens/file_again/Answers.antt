use Rattle.std.proofs.Common.{sym, ap, is_some, None, get_or, ◌∙◌}
use Rattle.std.specs.Option.{option_and_then}
use Rattle.std.proofs.lemmas.Bool.{false≢true}
use Rattle.xl_smb_state.proofs.FiledLaws.{filed_set, is_filed_set, find_is, slot_there}
use Rattle.xl_smb_state.proofs.opens.file_again.Goals as goal

pub index_mut-requires : goal.index_mut-requires
index_mut-requires c = slot_there c.args.number c.in-Some.slot.now c.args.places.now c.args.rows.now.slots c.requires.filed (sym c.in-Some.ensures)

pub returns-in-Some-clause-value : goal.returns-in-Some-clause-value
returns-in-Some-clause-value c = filed_set c.args.number c.in-Some.slot.now c.args.row c.args.places.now c.args.rows.now.slots c.requires.filed (sym c.in-Some.ensures)

pub returns-in-Some-clause-filed : goal.returns-in-Some-clause-filed
returns-in-Some-clause-filed c = is_filed_set c.args.number c.in-Some.slot.now c.args.row c.args.places.now c.args.rows.now.slots c.requires.filed (sym c.in-Some.ensures)

pub returns-in_default-clause-value : goal.returns-in_default-clause-value
returns-in_default-clause-value c =
    let slots = c.args.rows.now.slots in
    absurd (false≢true (sym (ap is_some (find_is c.args.number c.args.places.now slots c.requires.filed ∙ ap (option_and_then (λ k. get_or slots k None)) (sym c.in_default.ensures))) ∙ c.requires.there))
