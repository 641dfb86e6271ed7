-- The lists of an SMB server (MS-SMB2 3.3.1), each in the order in which its rows came, and what changes them.
use Rattle.std.specs.Prelude.{ℕ, ◌==◌, nat_eq, nat_lt, Bool, true, false, not, ◌&&◌, bytes_eq, if◌then◌else◌, List, [], ◌∷◌, ◌++◌, filter, Option, Some, None, option_map}
use Rattle.std.specs.List.{list_all, list_any, filter_map, find}
use Rattle.std.specs.Map.{keys_of, lookup, remove_entry, set_value}
use Rattle.std.specs.Option.{option_and_then}
use Rattle.xl_base.specs.Leasts.{least_by}
use Rattle.xl_smb_state.specs.declared.row.Place.{Place}
use Rattle.xl_smb_state.specs.declared.row.Connection.{Connection}
use Rattle.xl_smb_state.specs.declared.row.Session.{Session}
use Rattle.xl_smb_state.specs.declared.row.Tree.{Tree}
use Rattle.xl_smb_state.specs.declared.row.Holder.{Holder}
use Rattle.xl_smb_state.specs.declared.row.Holder.TheVariants as holder
use Rattle.xl_smb_state.specs.declared.row.Open.{Open}
use Rattle.xl_smb_state.specs.declared.row.LeaseKey.{LeaseKey}
use Rattle.xl_smb_state.specs.declared.row.Lease.{Lease}
use Rattle.xl_smb_state.specs.declared.row.Request.{Request}
use Rattle.xl_smb_state.specs.declared.row.Request.TheVariants as request
use Rattle.xl_smb_state.specs.declared.row.Waiting.{Waiting}
use Rattle.xl_smb_state.specs.declared.row.Scope.{Scope}
use Rattle.xl_smb_state.specs.declared.row.Scope.TheVariants as scope

-- the lists, each of rows under their keys, in the order in which they came (STATE-8)
pub record Lists : Type 0 where
  pub connections : List (ℕ × Connection)
  pub sessions : List (ℕ × Session)
  pub trees : List (ℕ × Tree)
  pub opens : List (ℕ × Open)
  pub leases : List (LeaseKey × Lease)
  pub waiting : List (ℕ × Waiting)

abbrev pub nothing : Lists
nothing = record { connections = []; sessions = []; trees = []; opens = []; leases = []; waiting = [] }

-- ---- one list of rows

abbrev pub is_empty : {X : Type 0} → List X → Bool
is_empty [] = true
is_empty (x ∷ xs) = false

-- two keys of leases are one
abbrev pub same_lease : LeaseKey → LeaseKey → Bool
same_lease a b = bytes_eq a.client b.client && bytes_eq a.key b.key

-- the keys of the rows that pass, in their order
abbrev pub keys_where : {K X : Type 0} → (X → Bool) → List (K × X) → List K
keys_where test rows = keys_of (filter (λ e. test e.1) rows)

-- ---- connections

abbrev pub connection_of : ℕ → Lists → Option Connection
connection_of number s = lookup (nat_eq number) s.connections

-- the guid of the client on a connection, once that has negotiated
abbrev pub client_of : ℕ → Lists → Option (List ℕ)
client_of number s = option_and_then (λ c. c.client) (connection_of number s)

abbrev pub connection_added : ℕ → Connection → Lists → Lists
connection_added number row s = record s { connections = s.connections ++ (number, row) ∷ [] }

abbrev pub connection_changed : ℕ → Connection → Lists → Lists
connection_changed number row s = record s { connections = set_value (nat_eq number) s.connections row }

abbrev pub connection_dropped : ℕ → Lists → Lists
connection_dropped number s = record s { connections = remove_entry (nat_eq number) s.connections }

-- ---- sessions

abbrev pub session_of : ℕ → Lists → Option Session
session_of number s = lookup (nat_eq number) s.sessions

abbrev pub session_added : ℕ → Session → Lists → Lists
session_added number row s = record s { sessions = s.sessions ++ (number, row) ∷ [] }

abbrev pub session_changed : ℕ → Session → Lists → Lists
session_changed number row s = record s { sessions = set_value (nat_eq number) s.sessions row }

abbrev pub session_dropped : ℕ → Lists → Lists
session_dropped number s = record s { sessions = remove_entry (nat_eq number) s.sessions }

-- the sessions on a connection
abbrev pub sessions_on : ℕ → Lists → List ℕ
sessions_on connection s = keys_where (λ r. r.connection == connection) s.sessions

-- ---- tree connects

abbrev pub tree_of : ℕ → Lists → Option Tree
tree_of number s = lookup (nat_eq number) s.trees

abbrev pub tree_added : ℕ → Tree → Lists → Lists
tree_added number row s = record s { trees = s.trees ++ (number, row) ∷ [] }

abbrev pub tree_changed : ℕ → Tree → Lists → Lists
tree_changed number row s = record s { trees = set_value (nat_eq number) s.trees row }

abbrev pub tree_dropped : ℕ → Lists → Lists
tree_dropped number s = record s { trees = remove_entry (nat_eq number) s.trees }

-- the tree connects of a session, and those on a connection
abbrev pub trees_of : ℕ → Lists → List ℕ
trees_of session s = keys_where (λ r. r.session == session) s.trees

abbrev pub trees_on : ℕ → Lists → List ℕ
trees_on connection s = keys_where (λ r. r.connection == connection) s.trees

-- ---- opens

abbrev pub open_of : ℕ → Lists → Option Open
open_of number s = lookup (nat_eq number) s.opens

abbrev pub open_added : ℕ → Open → Lists → Lists
open_added number row s = record s { opens = s.opens ++ (number, row) ∷ [] }

abbrev pub open_changed : ℕ → Open → Lists → Lists
open_changed number row s = record s { opens = set_value (nat_eq number) s.opens row }

abbrev pub open_dropped : ℕ → Lists → Lists
open_dropped number s = record s { opens = remove_entry (nat_eq number) s.opens }

-- a place lies under a connection, a session or a tree connect
abbrev pub covers : Scope → Place → Bool
covers (scope.Connection number) place = place.connection == number
covers (scope.Session number) place = place.session == number
covers (scope.Tree number) place = place.tree == number

-- what somebody holds lies under it; what nobody holds lies under nothing (STATE-11)
abbrev pub covers_holder : Scope → Holder → Bool
covers_holder under (holder.Tree place) = covers under place
covers_holder under (holder.Nobody until) = false

-- the opens under it
abbrev pub opens_under : Scope → Lists → List ℕ
opens_under under s = keys_where (λ r. covers_holder under r.holder) s.opens

-- ---- leases

abbrev pub lease_of : LeaseKey → Lists → Option Lease
lease_of key s = lookup (same_lease key) s.leases

abbrev pub lease_added : LeaseKey → Lease → Lists → Lists
lease_added key row s = record s { leases = s.leases ++ (key, row) ∷ [] }

abbrev pub lease_changed : LeaseKey → Lease → Lists → Lists
lease_changed key row s = record s { leases = set_value (same_lease key) s.leases row }

abbrev pub lease_dropped : LeaseKey → Lists → Lists
lease_dropped key s = record s { leases = remove_entry (same_lease key) s.leases }

abbrev pub grown_row : ℕ → Lease → Lease
grown_row number row = record { file = row.file; opens = row.opens ++ number ∷ [] }

-- the leases once an open came behind the others of the one of this key, if there is one
abbrev pub joined : ℕ → Option Lease → LeaseKey → List (LeaseKey × Lease) → List (LeaseKey × Lease)
joined number None key leases = leases
joined number (Some row) key leases = set_value (same_lease key) leases (grown_row number row)

abbrev pub lease_joined : LeaseKey → ℕ → Lists → Lists
lease_joined key number s = record s { leases = joined number (lease_of key s) key s.leases }

-- the opens of a lease without one
abbrev pub without : ℕ → List ℕ → List ℕ
without number opens = filter (λ n. not (n == number)) opens

abbrev pub left_row : ℕ → Lease → Lease
left_row number row = record { file = row.file; opens = without number row.opens }

-- the lease without the open, if it has another
abbrev pub kept_lease : ℕ → LeaseKey × Lease → Option (LeaseKey × Lease)
kept_lease number e = if is_empty (without number e.1.opens) then None else Some (e.0, left_row number e.1)

-- the open leaves its lease, which goes with its last open (STATE-12)
abbrev pub lease_left : ℕ → Lists → Lists
lease_left number s = record s { leases = filter_map (kept_lease number) s.leases }

-- the open leaves its lease, and goes
abbrev pub closed : ℕ → Lists → Lists
closed number s = open_dropped number (lease_left number s)

-- some lease has the open among its own
abbrev pub is_listed : ℕ → Lists → Bool
is_listed number s = list_any (λ e. list_any (nat_eq number) e.1.opens) s.leases

-- somebody holds the open
abbrev pub is_by_tree : Holder → Bool
is_by_tree (holder.Tree place) = true
is_by_tree (holder.Nobody until) = false

abbrev pub is_held : Option Open → Bool
is_held None = false
is_held (Some row) = is_by_tree row.holder

-- the lowest number, if there is any
abbrev pub lowest : List ℕ → Option ℕ
lowest ns = least_by nat_lt ns

-- the key of the lease that an open is under, if it is under one
abbrev pub key_of : Option Open → Option LeaseKey
key_of None = None
key_of (Some row) = option_map (λ key. record { client = row.client; key = key }) row.lease

-- the lowest of the opens of a lease that somebody holds, which breaks of the lease are sent to (STATE-12)
abbrev pub lowest_open : LeaseKey → Lists → Option ℕ
lowest_open key s = option_and_then (λ r. lowest (filter (λ n. is_held (open_of n s)) r.opens)) (lease_of key s)

-- no other open than this is under the lease, if it is there
abbrev pub is_last : ℕ → Option Lease → Bool
is_last number None = true
is_last number (Some row) = list_all (λ n. n == number) row.opens

-- the open is under no lease, or no other open is under its lease
abbrev pub is_last_under : ℕ → Option LeaseKey → Lists → Bool
is_last_under number None s = true
is_last_under number (Some key) s = is_last number (lease_of key s)

abbrev pub is_last_open : ℕ → Lists → Bool
is_last_open number s = is_last_under number (key_of (open_of number s)) s

-- an open of this file may come under the lease: it is new, or on that file
abbrev pub is_of_file : ℕ → Option Lease → Bool
is_of_file file None = true
is_of_file file (Some row) = row.file == file

-- The open comes under the lease of this key, which it begins if there is none. If that is on another file it comes
-- under none: a CREATE is refused there.
abbrev pub lease_begun : ℕ → ℕ → LeaseKey → Option Lease → Lists → Lists
lease_begun number file key None s = lease_added key (record { file = file; opens = number ∷ [] }) s
lease_begun number file key (Some row) s = if row.file == file then lease_joined key number s else s

abbrev pub come_under : ℕ → ℕ → Option LeaseKey → Lists → Lists
come_under number file None s = s
come_under number file (Some key) s = lease_begun number file key (lease_of key s) s

-- the open is added, and comes under the lease that it asks for, if it does
abbrev pub with_open : ℕ → Open → Lists → Lists
with_open number row s = come_under number row.file (key_of (Some row)) (open_added number row s)

-- ---- requests that wait

abbrev pub waiting_of : ℕ → Lists → Option Waiting
waiting_of number s = lookup (nat_eq number) s.waiting

abbrev pub waiting_added : ℕ → Waiting → Lists → Lists
waiting_added number row s = record s { waiting = s.waiting ++ (number, row) ∷ [] }

abbrev pub waiting_changed : ℕ → Waiting → Lists → Lists
waiting_changed number row s = record s { waiting = set_value (nat_eq number) s.waiting row }

abbrev pub waiting_dropped : ℕ → Lists → Lists
waiting_dropped number s = record s { waiting = remove_entry (nat_eq number) s.waiting }

-- the requests that wait under it
abbrev pub waiting_under : Scope → Lists → List ℕ
waiting_under under s = keys_where (λ r. covers under r.place) s.waiting

-- the request waits to make an open under it
abbrev pub makes_open : Request → Bool
makes_open (request.Create row) = true
makes_open request.Lock = false

abbrev pub makes_under : Scope → Waiting → Bool
makes_under under row = makes_open row.request && covers under row.place

-- the numbers of the opens that these wait to make under it, in order
abbrev pub made_in : Scope → List (ℕ × Waiting) → List ℕ
made_in under [] = []
made_in under (e ∷ es) = if makes_under under e.1 then e.1.opened ∷ made_in under es else made_in under es

abbrev pub creates_under : Scope → Lists → List ℕ
creates_under under s = made_in under s.waiting

-- the request came by the connection under this message number
abbrev pub is_message : ℕ → ℕ → Waiting → Bool
is_message connection message row = row.place.connection == connection && row.header.message_id == message

-- the first such request (STATE-13)
abbrev pub waiting_by_message : ℕ → ℕ → Lists → Option ℕ
waiting_by_message connection message s = option_map (λ e. e.0) (find (λ e. is_message connection message e.1) s.waiting)

-- the key of an open is this key of this client
abbrev pub is_key : LeaseKey → List ℕ → Option (List ℕ) → Bool
is_key key client None = false
is_key key client (Some name) = bytes_eq key.client client && bytes_eq key.key name

-- the file of the open that a request waits to make under the lease
abbrev pub file_for : LeaseKey → Request → Option ℕ
file_for key (request.Create row) = if is_key key row.client row.lease then Some row.file else None
file_for key request.Lock = None

abbrev pub or_else : Option ℕ → Option ℕ → Option ℕ
or_else None other = other
or_else (Some file) other = Some file

-- the file of the first such request
abbrev pub waiting_file : LeaseKey → List (ℕ × Waiting) → Option ℕ
waiting_file key [] = None
waiting_file key (e ∷ es) = or_else (file_for key e.1.request) (waiting_file key es)

-- the file on which a lease key is in use: that of its lease, or else that of the first open which waits to be made
-- under it (STATE-12)
abbrev pub key_file : LeaseKey → Lists → Option ℕ
key_file key s = or_else (option_map (λ r. r.file) (lease_of key s)) (waiting_file key s.waiting)
