-- Requests that wait, in the front's lists and in the core.
use Rattle.std.specs.Prelude.{◌≡◌, ◌↔◌, ℕ, nat_eq, ◌-◌, ◌==◌, ◌<◌, ◌≤◌, Bool, true, false, not, ◌&&◌, List, [], ◌∷◌, length, Some, is_some}
use Rattle.std.specs.List.{AllByRecursion, list_any, slice_get}
use Rattle.xl_base.specs.Lists.{IsIn}
use Rattle.xl_matrix.specs.Blocks.{is_share}
use Rattle.xl_matrix.specs.declared.claim.Claim.{Claim}
use Rattle.xl_base.specs.Stable.{same_protocol}
use Rattle.xl_base.specs.declared.name.Owner.TheVariants as owners
use Rattle.xl_base.specs.declared.name.Party.{Party}
use Rattle.xl_base.specs.declared.name.Protocol.TheVariants.{Smb}
use Rattle.xl_smb_state.specs.Links.{has_place, most_opens}
use Rattle.xl_smb_state.specs.State.{Lists, file_for, is_key, open_of, same_lease, waiting_of, makes_open}
use Rattle.xl_smb_state.specs.declared.row.Holder.TheVariants as holder
use Rattle.xl_smb_state.specs.declared.row.Lease.{Lease}
use Rattle.xl_smb_state.specs.declared.row.LeaseKey.{LeaseKey}
use Rattle.xl_smb_state.specs.declared.row.Open.{Open}
use Rattle.xl_smb_state.specs.declared.row.Request.{Request}
use Rattle.xl_smb_state.specs.declared.row.Request.TheVariants as request
use Rattle.xl_smb_state.specs.declared.row.Waiting.{Waiting}
use Rattle.xl_wait.specs.declared.waiter.Rooms.{Rooms}
use Rattle.xl_wait.specs.declared.waiter.Waiter.{Waiter}
use Rattle.xl_core.specs.Askers.{is_named}
use Rattle.xl_core.specs.Deeds.{Deed, Asks, Cancels, Closes, Ends, Serves}
use Rattle.xl_core.specs.Settle.{settle, waits_as}
use Rattle.xl_core.specs.State.{CoreState}
use Rattle.xl_core.specs.Told.{party_protocol}
use Rattle.xl_core.specs.declared.ask.Answer.TheVariants.{Granted}
use Rattle.xl_core.specs.declared.ask.Effect.{Effect}
use Rattle.xl_core.specs.declared.ask.Effect.TheVariants as effects
use Rattle.xl_front_smb.specs.Checks.{is_open_on}

-- a lease of this key is on this file
abbrev pub IsOnFile : LeaseKey → ℕ → LeaseKey × Lease → Type 0
IsOnFile key file e = same_lease key e.0 ≡ true → e.1.file ≡ file

-- the key of a lease is in use on this file alone: by the lease, if it is there, and by each open that a request waits to make
-- under it
pub record IsUsedOn (key : LeaseKey) (file : ℕ) (l : Lists) : Type 0 where
  pub leases : AllByRecursion (IsOnFile key file) l.leases
  pub waiting : (x : ℕ × Waiting) → IsIn x l.waiting → (other : ℕ) → file_for key x.1.request ≡ Some other → other ≡ file

-- The open that this request waits to make may stand: its tree connect is to be the one that the request came by, which
-- is there, on a connection of the open's client; no open is under its number, which was given out before the request's
-- own; no other request waits to make an open of this number; and the key of the lease that it asks for, if it does, is
-- in use on its file alone.
pub record MayStand (l : Lists) (e : ℕ × Waiting) (made : Open) : Type 0 where
  pub held : made.holder ≡ holder.Tree e.1.place
  pub place : has_place e.1.place made.client l ≡ true
  pub free : is_some (open_of e.1.opened l) ≡ false
  pub earlier : e.1.opened < e.0
  pub single : (x : ℕ × Waiting) → IsIn x l.waiting → makes_open x.1.request ≡ true → x.1.opened ≡ e.1.opened → x.0 ≡ e.0
  pub keyed : (key : LeaseKey) → is_key key made.client made.lease ≡ true → IsUsedOn key made.file l

-- the open whose ranges a request waits for is under the connection that it came by; an open that it waits to make may
-- stand once it is granted
abbrev pub IsUnder : Lists → ℕ × Waiting → Request → Type 0
IsUnder l e request.Lock = is_open_on e.1.place.connection (open_of e.1.opened l) ≡ true
IsUnder l e (request.Create made) = MayStand l e made

-- the waiter asks for one share, of the file and by the open of this number, which takes one of the rows of opens
pub record AsksToOpen (w : Waiter) (number : ℕ) (made : Open) : Type 0 where
  pub claim : Claim
  pub asked : w.asked ≡ claim ∷ []
  pub share : is_share claim.what ≡ true
  pub file : claim.file ≡ made.file
  pub owner : claim.owner ≡ owners.Open number
  pub row : w.rows.opens ≡ 1

abbrev pub IsAskerOf : Waiter → ℕ → Request → Type 0
IsAskerOf w number request.Lock = Unit {0}
IsAskerOf w number (request.Create made) = AsksToOpen w number made

-- a party of SMB waits, for claims of its own
pub record IsOfSmb (w : Waiter) : Type 0 where
  pub party : party_protocol w.party ≡ Smb
  pub claims : AllByRecursion (λ c. c.party ≡ w.party) w.asked

-- The request of this row waits in the core: a waiter of its number asks for claims of the row's open, and of no other,
-- which is the share alone if the request makes the open; and the open is under the connection that the request came
-- by, or may stand once it is made. The waiter is SMB's.
pub record IsAwaited (s : CoreState) (l : Lists) (e : ℕ × Waiting) : Type 0 where
  pub waiter : Waiter
  pub waits : IsIn waiter s.waiters
  pub number : waiter.id ≡ e.0
  pub own : waits_as e.1.opened waiter ≡ true
  pub alone : (k : ℕ) → waits_as k waiter ≡ true → k ≡ e.1.opened
  pub smb : IsOfSmb waiter
  pub asker : IsAskerOf waiter e.1.opened e.1.request
  pub under : IsUnder l e e.1.request

-- so does each
abbrev pub AreAwaited : CoreState → Lists → Type 0
AreAwaited s l = AllByRecursion (IsAwaited s l) l.waiting

-- The waiter has its row, if it asks for claims of an SMB open: a row of its number, of that open.
abbrev pub IsKept : Lists → Waiter → Type 0
IsKept l w = (k : ℕ) → waits_as k w ≡ true → (row : Waiting) × (waiting_of w.id l ≡ Some row) × (row.opened ≡ k)

-- so has each
abbrev pub AreKept : CoreState → Lists → Type 0
AreKept s l = AllByRecursion (IsKept l) s.waiters

-- the deed is an ask by an SMB open
abbrev pub is_open_ask : Deed → Bool
is_open_ask (Asks left a) = not (is_named a.owner)
is_open_ask deed = false

-- of the requests that wait just those stay that wait for none of these opens
abbrev pub AreLeft : List ℕ → Lists → Lists → Type 0
AreLeft numbers old new = (e : ℕ × Waiting) → IsIn e new.waiting ↔ (IsIn e old.waiting × (list_any (nat_eq e.1.opened) numbers ≡ false))

-- A turn, in which there is no more room for opens than those of SMB leave, serves the CREATE of this row, which waits to make this
-- open, and grants its party this claim.
pub record IsGranted (n : ℕ) (left : Rooms) (s t : CoreState) (l : Lists) (party : Party) (id : ℕ) (row : Waiting) (made : Open) (claim : Claim) : Type 0 where
  pub told : List Effect
  pub turn : settle n left s ≡ Some (told, t)
  pub served : IsIn (effects.Served party id (Granted claim)) told
  pub waits : waiting_of id l ≡ Some row
  pub makes : row.request ≡ request.Create made
  pub room : left.opens ≤ most_opens - length l.opens

-- the effect tells that this request waits no more
abbrev pub ends_wait : ℕ → Effect → Bool
ends_wait id (effects.Served party other answer) = other == id
ends_wait id (effects.Cancelled party other) = other == id
ends_wait id effect = false

-- the effect, which SMB's front hears of, tells that this request is served
abbrev pub serves_request : ℕ → Effect → Bool
serves_request id (effects.Served party other answer) = same_protocol (party_protocol party) Smb && other == id
serves_request id effect = false

-- The deed leaves each waiter of SMB's waiting: it cancels none whose claims are a party's of SMB, ends no such party,
-- closes no open, and is no turn.
abbrev pub SparesSmb : CoreState → Deed → Type 0
SparesSmb s (Cancels id) = (w : Waiter) (c : Claim) → IsIn w s.waiters → w.id ≡ id → slice_get w.asked 0 ≡ Some c → party_protocol c.party ≡ Smb → ⊥
SparesSmb s (Ends party) = party_protocol party ≡ Smb → ⊥
SparesSmb s (Closes number party) = ⊥
SparesSmb s (Serves left) = ⊥
SparesSmb s deed = Unit {0}
