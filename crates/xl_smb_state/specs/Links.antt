-- What holds between the lists at all times: what a row names is there, and no list outgrows its limit.
use Rattle.std.specs.Prelude.{◌≡◌, ℕ, ◌==◌, nat_eq, ◌≤◌, ◌&&◌, Bool, true, false, bytes_eq, List, length, Option, Some, None, is_some}
use Rattle.std.specs.List.{AllByRecursion, IsDistinct, list_any}
use Rattle.std.specs.Map.{keys_of}
use Rattle.xl_base.specs.Limits.{most_waiters}
pub use Rattle.xl_base.specs.Limits.{most_connections, most_opens}
use Rattle.xl_smb_state.specs.declared.row.Place.{Place}
use Rattle.xl_smb_state.specs.declared.row.Session.{Session}
use Rattle.xl_smb_state.specs.declared.row.Tree.{Tree}
use Rattle.xl_smb_state.specs.declared.row.Holder.{Holder}
use Rattle.xl_smb_state.specs.declared.row.Holder.TheVariants as holder
use Rattle.xl_smb_state.specs.declared.row.Open.{Open}
use Rattle.xl_smb_state.specs.declared.row.LeaseKey.{LeaseKey}
use Rattle.xl_smb_state.specs.declared.row.Lease.{Lease}
use Rattle.xl_smb_state.specs.State.{Lists, nothing, same_lease, is_empty, client_of, session_of, sessions_on, tree_of, trees_on, open_of, is_key}

-- most rows of a list, and most sessions and tree connects of one connection (STATE-10)
abbrev pub most_sessions : ℕ
most_sessions = 16

abbrev pub most_trees : ℕ
most_trees = 16

abbrev pub most_waiting : ℕ
most_waiting = most_waiters

-- the session's connection is there, and its client has negotiated
abbrev pub IsSessionLinked : Lists → Session → Type 0
IsSessionLinked s row = is_some (client_of row.connection s) ≡ true

-- the tree connect's session is there, on its connection
abbrev pub IsTreeLinked : Lists → Tree → Type 0
IsTreeLinked s row = session_of row.session s ≡ Some (record { connection = row.connection })

-- the place's tree connect is there, of its session and on its connection
abbrev pub IsPlace : Lists → Place → Type 0
IsPlace s place = tree_of place.tree s ≡ Some (record { connection = place.connection; session = place.session })

-- the tree connect of the place, as it is found
abbrev pub is_tree_at : Place → Option Tree → Bool
is_tree_at place None = false
is_tree_at place (Some row) = row.connection == place.connection && row.session == place.session

-- the client, as it is found
abbrev pub is_client : List ℕ → Option (List ℕ) → Bool
is_client client None = false
is_client client (Some guid) = bytes_eq guid client

-- the place is there, on a connection of the client
abbrev pub has_place : Place → List ℕ → Lists → Bool
has_place place client s = is_tree_at place (tree_of place.tree s) && is_client client (client_of place.connection s)

-- what holds an open of the client is there: its tree connect, on a connection of the client
abbrev pub IsHolderLinked : Lists → List ℕ → Holder → Type 0
IsHolderLinked s client (holder.Tree place) = IsPlace s place × (client_of place.connection s ≡ Some client)
IsHolderLinked s client (holder.Nobody until) = Unit {0}

abbrev pub IsOpenLinked : Lists → Open → Type 0
IsOpenLinked s row = IsHolderLinked s row.client row.holder

-- the open is there, under the lease and on its file
abbrev pub is_under : LeaseKey → ℕ → Option Open → Bool
is_under key file None = false
is_under key file (Some row) = row.file == file && is_key key row.client row.lease

-- the lease has an open, and each of its opens is there, under it and on its file
abbrev pub IsLeaseLinked : Lists → LeaseKey → Lease → Type 0
IsLeaseLinked s key row = (is_empty row.opens ≡ false) × AllByRecursion (λ n. is_under key row.file (open_of n s) ≡ true) row.opens

-- these opens and nothing else
abbrev pub only_opens : List (ℕ × Open) → Lists
only_opens opens = record nothing { opens = opens }

-- no lease except that of the key lists the open, and each has one
abbrev pub ListsOnly : LeaseKey → ℕ → LeaseKey × Lease → Type 0
ListsOnly key number e = (same_lease key e.0 ≡ false → list_any (nat_eq number) e.1.opens ≡ false) × (is_empty e.1.opens ≡ false)

-- the row is of the open's file and client, and under the same lease (STATE-9)
abbrev pub KeepsLease : Option Open → Open → Type 0
KeepsLease None row = ⊥
KeepsLease (Some old) row = (row.file ≡ old.file) × (row.client ≡ old.client) × (row.lease ≡ old.lease)

pub record IsSound (s : Lists) : Type 0 where
  pub sessions : AllByRecursion (λ e. IsSessionLinked s e.1) s.sessions
  pub trees : AllByRecursion (λ e. IsTreeLinked s e.1) s.trees
  pub opens : AllByRecursion (λ e. IsOpenLinked s e.1) s.opens
  pub leases : AllByRecursion (λ e. IsLeaseLinked s e.0 e.1) s.leases
  pub connections_most : length s.connections ≤ most_connections
  pub sessions_most : (connection : ℕ) → length (sessions_on connection s) ≤ most_sessions
  pub trees_most : (connection : ℕ) → length (trees_on connection s) ≤ most_trees
  pub opens_most : length s.opens ≤ most_opens
  pub waiting_most : length s.waiting ≤ most_waiting

-- no two rows of a list have one key
pub record AreDistinct (s : Lists) : Type 0 where
  pub connections : IsDistinct nat_eq (keys_of s.connections)
  pub sessions : IsDistinct nat_eq (keys_of s.sessions)
  pub trees : IsDistinct nat_eq (keys_of s.trees)
  pub opens : IsDistinct nat_eq (keys_of s.opens)
  pub leases : IsDistinct same_lease (keys_of s.leases)
  pub waiting : IsDistinct nat_eq (keys_of s.waiting)
