use Rattle.std.proofs.Common.{nat_eq, sym, ap, subst, ◌∙◌}
use Rattle.xl_smb_state.specs.Filed.{filed, IsFiled}
use Rattle.xl_smb_state.proofs.FiledLaws.{filed_removed, is_filed_removed, removed_none, slot_there}
use Rattle.xl_smb_state.proofs.RowLaws.{none_out}
use Rattle.xl_smb_state.proofs.opens.take_out.Goals as goal

pub remove-requires : goal.remove-requires
remove-requires c = slot_there c.args.number c.in-Some.slot c.args.places.now c.args.rows.now.slots c.requires (sym c.in-Some.ensures.row)

pub returns-in-Some-clause-value : goal.returns-in-Some-clause-value
returns-in-Some-clause-value c = filed_removed c.args.number c.in-Some.slot c.args.places.now c.take.new.self c.args.rows.now.slots c.remove.new.self.slots c.requires (sym c.in-Some.ensures.row) c.take.ensures.rest c.remove.ensures.updates.others

pub returns-in-Some-clause-filed : goal.returns-in-Some-clause-filed
returns-in-Some-clause-filed c = is_filed_removed c.args.number c.in-Some.slot c.args.places.now c.take.new.self c.args.rows.now.slots c.remove.new.self.slots c.requires (sym c.in-Some.ensures.row) c.take.ensures.rest c.remove.ensures.updates.others c.remove.ensures.len

pub returns-in_default-clause-value : goal.returns-in_default-clause-value
returns-in_default-clause-value c =
    let slots = c.args.rows.now.slots in
    ap (λ es. filed es slots) (c.take.ensures.rest ∙ none_out (nat_eq c.args.number) c.args.places.now (sym c.in_default.ensures.row))
    ∙ sym (removed_none c.args.number c.args.places.now slots c.requires (sym c.in_default.ensures.row))

pub returns-in_default-clause-filed : goal.returns-in_default-clause-filed
returns-in_default-clause-filed c =
    subst (λ es. IsFiled es c.args.rows.now.slots) (sym (c.take.ensures.rest ∙ none_out (nat_eq c.args.number) c.args.places.now (sym c.in_default.ensures.row))) c.requires
