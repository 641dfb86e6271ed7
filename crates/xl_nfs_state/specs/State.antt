-- What an NFSv4.0 server remembers of its clients: four lists, each in order of arrival (RFC 7530 9.1).
use Rattle.std.specs.Prelude.{◌≡◌, ℕ, ◌+◌, ◌<◌, ◌≤◌, ◌^◌, Bool, true, false, not, ◌&&◌, ◌||◌, ◌==◌, if◌then◌else◌, nat_lt, List, [], ◌∷◌, length, Option, Some, None, is_some}
use Rattle.std.specs.List.{AllByRecursion, filter, find, list_any}
pub use Rattle.xl_base.specs.Limits.{most_owners, most_opens}
use Rattle.xl_base.specs.declared.event.Moment.{Moment}
use Rattle.xl_nfs_state.specs.declared.client.ClientRow.{ClientRow}
use Rattle.xl_nfs_state.specs.declared.kept.KeptRow.{KeptRow}
use Rattle.xl_nfs_state.specs.declared.owner.OwnerKind.{OwnerKind}
use Rattle.xl_nfs_state.specs.declared.owner.OwnerKind.TheVariants.{Open as Opens, Lock as Locks}
use Rattle.xl_nfs_state.specs.declared.owner.OwnerRow.{OwnerRow}
use Rattle.xl_nfs_state.specs.declared.stateid.Holder.{Holder}
use Rattle.xl_nfs_state.specs.declared.stateid.Holder.TheVariants.{Open, Lock, Delegation}
use Rattle.xl_nfs_state.specs.declared.stateid.Place.TheVariants.{Owned, Delegated}
use Rattle.xl_nfs_state.specs.declared.stateid.StateidRow.{StateidRow}
use Rattle.xl_nfs_state.specs.declared.stateid.Whose.{Whose}
use Rattle.xl_nfs_state.specs.declared.stateid.Whose.TheVariants as whose
use Rattle.xl_nfs_state.specs.Keys.{client_key, client_name, same_client_key, same_client_name, same_kind, same_owner_name, place_of, same_place}

pub record NfsLists : Type 0 where
  pub clients : List ClientRow
  pub owners : List OwnerRow
  pub stateids : List StateidRow
  pub kept : List KeptRow

-- the lists at a start
abbrev pub no_lists : NfsLists
no_lists = record { clients = []; owners = []; stateids = []; kept = [] }

-- one list in place of what it was, the other three as they were
abbrev pub with_clients : NfsLists → List ClientRow → NfsLists
with_clients l clients = record { clients = clients; owners = l.owners; stateids = l.stateids; kept = l.kept }

abbrev pub with_owners : NfsLists → List OwnerRow → NfsLists
with_owners l owners = record { clients = l.clients; owners = owners; stateids = l.stateids; kept = l.kept }

abbrev pub with_stateids : NfsLists → List StateidRow → NfsLists
with_stateids l stateids = record { clients = l.clients; owners = l.owners; stateids = stateids; kept = l.kept }

abbrev pub with_kept : NfsLists → List KeptRow → NfsLists
with_kept l kept = record { clients = l.clients; owners = l.owners; stateids = l.stateids; kept = kept }

-- The rows that are meant.

-- the record of this number, confirmed or not (STATE-1)
abbrev pub is_client : ℕ → Bool → ClientRow → Bool
is_client number confirmed r = same_client_key (record { number = number; confirmed = confirmed }) (client_key r)

-- the record of this id string, confirmed or not
abbrev pub is_client_named : List ℕ → Bool → ClientRow → Bool
is_client_named id confirmed r = same_client_name (record { id = id; confirmed = confirmed }) (client_name r)

abbrev pub is_owner : ℕ → OwnerRow → Bool
is_owner number o = number == o.number

-- the client's owner of this kind and these bytes
abbrev pub is_owner_named : ℕ → OwnerKind → List ℕ → OwnerRow → Bool
is_owner_named client kind bytes o = same_owner_name (record { client = client; kind = kind; owner = bytes }) o.name

abbrev pub is_stateid : ℕ → StateidRow → Bool
is_stateid number s = number == s.number

-- what the owner has on the file, and the client's delegation there (STATE-5)
abbrev pub owned_on : ℕ → ℕ → StateidRow → Bool
owned_on owner file s = same_place (Owned owner file) (place_of s)

abbrev pub delegated_on : ℕ → ℕ → StateidRow → Bool
delegated_on client file s = same_place (Delegated client file) (place_of s)

abbrev pub is_kept : ℕ → KeptRow → Bool
is_kept owner k = owner == k.owner

-- the elements that fail the test
abbrev pub without : {A : Type 0} → (A → Bool) → List A → List A
without test xs = filter (λ x. not (test x)) xs

-- Room.

abbrev pub most_clients : ℕ
most_clients = 256

abbrev pub is_open : Holder → Bool
is_open (Open owner) = true
is_open (Lock owner under opener) = false
is_open (Delegation write) = false

-- an open that wasn't closed (STATE-4)
abbrev pub is_live : StateidRow → Bool
is_live s = is_open s.holder && not s.standing.closed

-- how many opens there are
abbrev pub opens : List StateidRow → ℕ
opens ss = length (filter is_live ss)

-- the number of the last owner that came, or 0
abbrev pub last_number : List OwnerRow → ℕ
last_number [] = 0
last_number (o ∷ []) = o.number
last_number (o ∷ p ∷ os) = last_number (p ∷ os)

-- the number that a new owner takes; None if there is no room, or no further number (STATE-2)
abbrev pub next_owner : List OwnerRow → Option ℕ
next_owner os = if nat_lt (length os) most_owners && nat_lt (last_number os + 1) (2 ^ 64) then Some (last_number os + 1) else None

-- What hangs on what.

abbrev pub has_client : ℕ → List ClientRow → Bool
has_client number clients = list_any (is_client number true) clients

abbrev pub fits_owner : ℕ → ℕ → OwnerKind → OwnerRow → Bool
fits_owner number client kind o = number == o.number && (client == o.name.client && same_kind kind o.name.kind)

-- the client has this owner, of this kind
abbrev pub has_owner : ℕ → ℕ → OwnerKind → List OwnerRow → Bool
has_owner number client kind owners = list_any (fits_owner number client kind) owners

abbrev pub is_open_by : ℕ → Holder → Bool
is_open_by owner (Open by) = owner == by
is_open_by owner (Lock by under opener) = false
is_open_by owner (Delegation write) = false

abbrev pub fits_open : ℕ → ℕ → ℕ → ℕ → StateidRow → Bool
fits_open number owner client file s = number == s.number && (is_open_by owner s.holder && (client == s.client && file == s.file))

-- the client's owner has this open, on this file
abbrev pub has_open : ℕ → ℕ → ℕ → ℕ → List StateidRow → Bool
has_open number owner client file stateids = list_any (fits_open number owner client file) stateids

-- a stateid's client is confirmed; its owner is the client's, and of its kind; and locks hang under an open of the
-- client's on their file
abbrev pub holder_hangs : NfsLists → ℕ → ℕ → Holder → Bool
holder_hangs l client file (Open owner) = has_owner owner client Opens l.owners
holder_hangs l client file (Lock owner under opener) = has_owner owner client Locks l.owners && has_open under opener client file l.stateids
holder_hangs l client file (Delegation write) = true

abbrev pub hangs : NfsLists → StateidRow → Bool
hangs l s = has_client s.client l.clients && holder_hangs l s.client s.file s.holder

-- the owner's own, or under an open of the owner's
abbrev pub hangs_on : ℕ → Holder → Bool
hangs_on owner (Open by) = owner == by
hangs_on owner (Lock by under opener) = owner == by || owner == opener
hangs_on owner (Delegation write) = false

abbrev pub is_under : ℕ → Holder → Bool
is_under number (Open by) = false
is_under number (Lock by under opener) = number == under
is_under number (Delegation write) = false

-- nothing hangs on the client, the owner, the open
abbrev pub IsIdleClient : ℕ → NfsLists → Type 0
IsIdleClient number l = (list_any (λ o. number == o.name.client) l.owners ≡ false) × (list_any (λ s. number == s.client) l.stateids ≡ false)

abbrev pub IsIdleOwner : ℕ → NfsLists → Type 0
IsIdleOwner number l = (list_any (λ s. hangs_on number s.holder) l.stateids ≡ false) × (list_any (is_kept number) l.kept ≡ false)

abbrev pub IsIdleStateid : ℕ → NfsLists → Type 0
IsIdleStateid number l = list_any (λ s. is_under number s.holder) l.stateids ≡ false

-- the same of a stateid that comes, by what is found: the owner of that number, and the open
abbrev pub owner_fits : ℕ → OwnerKind → Option OwnerRow → Bool
owner_fits client kind None = false
owner_fits client kind (Some o) = client == o.name.client && same_kind kind o.name.kind

abbrev pub open_fits : ℕ → ℕ → ℕ → Option StateidRow → Bool
open_fits owner client file None = false
open_fits owner client file (Some s) = is_open_by owner s.holder && (client == s.client && file == s.file)

abbrev pub holder_can_hang : NfsLists → ℕ → ℕ → Holder → Bool
holder_can_hang l client file (Open owner) = owner_fits client Opens (find (is_owner owner) l.owners)
holder_can_hang l client file (Lock owner under opener) = owner_fits client Locks (find (is_owner owner) l.owners) && open_fits opener client file (find (is_stateid under) l.stateids)
holder_can_hang l client file (Delegation write) = true

abbrev pub can_hang : NfsLists → StateidRow → Bool
can_hang l s = is_some (find (is_client s.client true) l.clients) && holder_can_hang l s.client s.file s.holder

-- each number is above those before it
abbrev pub IsRising : List OwnerRow → Type 0
IsRising [] = Unit {0}
IsRising (o ∷ os) = AllByRecursion (λ p. o.number < p.number) os × IsRising os

-- what holds of the lists at all times
pub record IsSound (l : NfsLists) : Type 0 where
  pub clients_room : length l.clients ≤ most_clients
  pub owners_room : length l.owners ≤ most_owners
  pub opens_room : opens l.stateids ≤ most_opens
  pub rising : IsRising l.owners
  pub owners : AllByRecursion (λ o. has_client o.name.client l.clients ≡ true) l.owners
  pub stateids : AllByRecursion (λ s. hangs l s ≡ true) l.stateids
  pub kept : AllByRecursion (λ k. list_any (is_owner k.owner) l.owners ≡ true) l.kept

-- Stateids in bulk.

-- which stateids are meant
abbrev pub is_whose : Whose → StateidRow → Bool
is_whose (whose.Owner owner) s = hangs_on owner s.holder
is_whose (whose.Stateid number) s = number == s.number || is_under number s.holder
is_whose (whose.Under number) s = is_under number s.holder
is_whose (whose.Client client) s = client == s.client
is_whose (whose.ClientFile client file) s = client == s.client && file == s.file

-- All that belongs to an owner, and to a client.

-- without the owner, what hangs on it and its kept result (STATE-6)
abbrev pub without_owner : ℕ → NfsLists → NfsLists
without_owner number l =
    record {
      clients = l.clients;
      owners = without (is_owner number) l.owners;
      stateids = without (λ s. hangs_on number s.holder) l.stateids;
      kept = without (is_kept number) l.kept;
    }

-- the owners of other clients, and the results that are kept for these
abbrev pub other_owners : ℕ → List OwnerRow → List OwnerRow
other_owners client owners = without (λ o. client == o.name.client) owners

abbrev pub without_owners : ℕ → NfsLists → NfsLists
without_owners client l =
    record {
      clients = l.clients;
      owners = other_owners client l.owners;
      stateids = l.stateids;
      kept = filter (λ k. list_any (is_owner k.owner) (other_owners client l.owners)) l.kept;
    }

-- without the confirmed record of this number, and all that is the client's (STATE-6)
abbrev pub without_client : ℕ → NfsLists → NfsLists
without_client client l =
    record {
      clients = without (is_client client true) l.clients;
      owners = other_owners client l.owners;
      stateids = without (λ s. client == s.client) l.stateids;
      kept = filter (λ k. list_any (is_owner k.owner) (other_owners client l.owners)) l.kept;
    }

-- Time.

-- the record isn't confirmed, and its time has come (STATE-7)
abbrev pub is_due : Moment → ClientRow → Bool
is_due now r = not r.confirmed && not (nat_lt now.0 r.details.time.0)
