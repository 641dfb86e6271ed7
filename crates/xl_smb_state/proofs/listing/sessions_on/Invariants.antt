use Rattle.std.proofs.Common.{◌≡◌, ◌++◌}
use Rattle.std.specs.Prelude.{◌==◌}
use Rattle.xl_smb_state.specs.declared.row.Session.{Session}
use Rattle.xl_smb_state.specs.State.{keys_where}
use Rattle.xl_smb_state.proofs.listing.sessions_on.Given as goal

abbrev pub invariant-rows : goal.invariant-rows
invariant-rows l = l.numbers.items ++ keys_where (λ (r : Session). r.connection == l.connection) l.number-iterator ≡ keys_where (λ (r : Session). r.connection == l.connection) l.sessions.entries
