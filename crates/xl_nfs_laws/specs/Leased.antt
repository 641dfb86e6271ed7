-- That the clients whose record is confirmed are those whose lease runs (RFC 7530 9.1.1, 9.5).
use Rattle.std.specs.Prelude.{◌≡◌, ℕ, Bool, true, false, bytes_eq, List, is_some}
use Rattle.std.specs.List.{find, list_any}
use Rattle.xl_base.specs.Lists.{IsIn}
use Rattle.xl_nfs_state.specs.State.{NfsLists, is_client_named}
use Rattle.xl_nfs_state.specs.declared.client.ClientRow.{ClientRow}
use Rattle.xl_core.specs.Leases.{Lease}
use Rattle.xl_core.specs.State.{CoreState}

-- the client of this id string has a lease
abbrev pub has_lease : List Lease → List ℕ → Bool
has_lease leases id = list_any (λ l. bytes_eq id l.0) leases

-- it has a confirmed record
abbrev pub is_confirmed : List ClientRow → List ℕ → Bool
is_confirmed clients id = is_some (find (is_client_named id true) clients)

-- each client has a lease exactly if its record is confirmed
abbrev pub AreLeased : CoreState → NfsLists → Type 0
AreLeased s l = (id : List ℕ) → has_lease s.leases id ≡ is_confirmed l.clients id

-- the same while these clients have expired, of which the front wasn't told yet: their leases are over
pub record AreLeasedBut (gone : List (List ℕ)) (s : CoreState) (l : NfsLists) : Type 0 where
  pub over : (id : List ℕ) → IsIn id gone → has_lease s.leases id ≡ false
  pub leased : (id : List ℕ) → (IsIn id gone → ⊥) → has_lease s.leases id ≡ is_confirmed l.clients id
