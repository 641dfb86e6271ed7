use Rattle.std.proofs.Common.{◌≡◌, ℕ}
use Rattle.std.specs.List.{find}
use Rattle.xl_smb_state.specs.declared.row.Waiting.{Waiting}
use Rattle.xl_smb_state.specs.State.{is_message}
use Rattle.xl_smb_state.proofs.listing.waiting_by_message.Given as goal

abbrev pub invariant-rows : goal.invariant-rows
invariant-rows l = find (λ (e : ℕ × Waiting). is_message l.connection l.message e.1) l.number-iterator ≡ find (λ (e : ℕ × Waiting). is_message l.connection l.message e.1) l.waiting.entries
