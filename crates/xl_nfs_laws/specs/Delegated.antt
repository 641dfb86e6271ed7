-- That a client has a delegation on a file exactly if it has a cache there (RFC 7530 10.4): what the front remembers of
-- each cache that the core holds.
use Rattle.std.specs.Prelude.{◌≡◌, ◌≤◌, ℕ, Bool, true, not, ◌&&◌, ◌||◌, ◌==◌, bytes_eq, List, Option, Some, None, option_map, IfSome}
use Rattle.std.specs.List.{AllByRecursion, find}
use Rattle.std.specs.Option.{option_and_then}
use Rattle.xl_base.specs.Lists.{IsIn, Pairwise}
use Rattle.xl_nfs_state.specs.State.{NfsLists, delegated_on, is_client_named, is_open}
use Rattle.xl_nfs_state.specs.declared.client.ClientRow.{ClientRow}
use Rattle.xl_nfs_state.specs.declared.owner.OwnerRow.{OwnerRow}
use Rattle.xl_nfs_state.specs.declared.stateid.Holder.{Holder}
use Rattle.xl_nfs_state.specs.declared.stateid.Holder.TheVariants as holders
use Rattle.xl_nfs_state.specs.declared.stateid.StateidRow.{StateidRow}
use Rattle.xl_core.specs.State.{CoreState}
use Rattle.xl_nfs_laws.specs.StateidNumbers.{AreGivenOut}
use Rattle.xl_nfs_opens.specs.Opens.{cache_held, delegation_in}
use Rattle.xl_nfs_laws.specs.Orderly.{closes}

-- ---- a client's delegation on a file

-- whether it is for writing, of a stateid that is one
abbrev pub written_by : Holder → Option Bool
written_by (holders.Open owner) = None
written_by (holders.Lock owner under opener) = None
written_by (holders.Delegation write) = Some write

-- that of the client of this number
abbrev pub delegation_numbered : List StateidRow → ℕ → ℕ → Option Bool
delegation_numbered stateids file number = option_and_then (λ r. written_by r.holder) (find (delegated_on number file) stateids)

-- the number of the confirmed client of this id string
abbrev pub number_confirmed : List ClientRow → List ℕ → Option ℕ
number_confirmed clients id = option_map (λ r. r.number) (find (is_client_named id true) clients)

-- what the front remembers of that client's delegation on the file: whether it is for writing
abbrev pub delegation_kept : NfsLists → List ℕ → ℕ → Option Bool
delegation_kept l id file = option_and_then (delegation_numbered l.stateids file) (number_confirmed l.clients id)

-- and what its cache there is, which counts at its full kind while a break of it runs
abbrev pub delegation_held : CoreState → List ℕ → ℕ → Option Bool
delegation_held s id file = delegation_in (cache_held s id file)

-- Each client has on each file just the delegation that its cache there is: if it has a cache its record is confirmed
-- and it has a stateid for that, and if it has such a stateid it has the cache, both of one kind.
abbrev pub AreDelegated : CoreState → NfsLists → Type 0
AreDelegated s l = (id : List ℕ) (file : ℕ) → delegation_held s id file ≡ delegation_kept l id file

-- ---- what keeps it so

-- of confirmed clients no two have one number, nor one id string
abbrev pub clients_apart : ClientRow → ClientRow → Bool
clients_apart a b = not (a.confirmed && (b.confirmed && (a.number == b.number || bytes_eq a.id b.id)))

-- records of one number are of one id string
abbrev pub is_one_client : ClientRow → ClientRow → Bool
is_one_client a b = not (a.number == b.number) || bytes_eq a.id b.id

-- the records, if this number was given out last: each has one that was given out
pub record AreClients (last : ℕ) (clients : List ClientRow) : Type 0 where
  pub apart : Pairwise clients_apart clients
  pub one : Pairwise is_one_client clients
  pub given : AllByRecursion (λ r. r.number ≤ last) clients

-- the stateid is of an open, or is none that a request closed
abbrev pub is_open_still : Option ℕ → StateidRow → Bool
is_open_still closed r = is_open r.holder || not (closes closed r.number)

-- what an owner's last request closed has a number that was given out, and is an open: neither locks nor a delegation
pub record IsShut (last : ℕ) (stateids : List StateidRow) (closed : Option ℕ) : Type 0 where
  pub given : IfSome closed (λ number. number ≤ last)
  pub other : AllByRecursion (λ r. is_open_still closed r ≡ true) stateids

abbrev pub AreShut : ℕ → List StateidRow → List OwnerRow → Type 0
AreShut last stateids owners = AllByRecursion (λ o. IsShut last stateids o.seqids.closed) owners

-- what holds of the lists themselves, if this number was given out last
pub record AreSet (last : ℕ) (l : NfsLists) : Type 0 where
  pub given : AreGivenOut last l
  pub shut : AreShut last l.stateids l.owners
  pub clients : AreClients last l.clients

-- of the front and the core together
pub record AreTied (s : CoreState) (l : NfsLists) : Type 0 where
  pub set : AreSet s.counter l
  pub delegated : AreDelegated s l

-- the same while these clients have expired, of which the front wasn't told yet: they have no cache left
pub record AreTiedBut (gone : List (List ℕ)) (s : CoreState) (l : NfsLists) : Type 0 where
  pub set : AreSet s.counter l
  pub left : (id : List ℕ) → IsIn id gone → (file : ℕ) → delegation_held s id file ≡ None
  pub delegated : (id : List ℕ) → (IsIn id gone → ⊥) → (file : ℕ) → delegation_held s id file ≡ delegation_kept l id file
