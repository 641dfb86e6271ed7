use Rattle.std.proofs.Common.{◌≡◌, ◌++◌}
use Rattle.xl_smb_state.specs.declared.row.Open.{Open}
use Rattle.xl_smb_state.specs.Filed.{filed, standing}
use Rattle.xl_smb_state.specs.State.{keys_where, covers_holder}
use Rattle.xl_smb_state.proofs.opens.list_filed.Given as goal

abbrev pub invariant-rows : goal.invariant-rows
invariant-rows l =
    l.numbers.items ++ keys_where (λ (r : Open). covers_holder l.scope r.holder) (filed (standing l.number-iterator) l.rows.slots) ≡ keys_where (λ (r : Open). covers_holder l.scope r.holder) (filed (standing l.places.entries) l.rows.slots)
