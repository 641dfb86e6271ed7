use Rattle.std.proofs.Common.{◌≡◌, ◌++◌}
use Rattle.xl_smb_state.specs.declared.row.Waiting.{Waiting}
use Rattle.xl_smb_state.specs.State.{keys_where, covers}
use Rattle.xl_smb_state.proofs.listing.waiting_under.Given as goal

abbrev pub invariant-rows : goal.invariant-rows
invariant-rows l = l.numbers.items ++ keys_where (λ (r : Waiting). covers l.scope r.place) l.number-iterator ≡ keys_where (λ (r : Waiting). covers l.scope r.place) l.waiting.entries
