-- Words of the laws of LOCK and CANCEL.
use Rattle.std.specs.Prelude.{◌≡◌, ℕ, Bool, not, ◌&&◌, ◌||◌, true, false, if◌then◌else◌, List, [], ◌∷◌, ◌++◌, map, Option, Some, None, is_some}
use Rattle.std.specs.List.{AllByRecursion}
use Rattle.xl_base.specs.declared.name.Owner.TheVariants as owners
use Rattle.xl_matrix.specs.declared.claim.Extent.{Extent}
use Rattle.xl_matrix.specs.declared.claim.What.{What}
use Rattle.xl_matrix.specs.declared.claim.What.TheVariants.{Range}
use Rattle.xl_smb.specs.declared.file.FileId.{FileId}
use Rattle.xl_smb.specs.declared.head.SmbHead.{SmbHead}
use Rattle.xl_smb.specs.declared.lock.LockElement.{LockElement}
use Rattle.xl_smb_state.specs.State.{Lists, open_of}
use Rattle.xl_smb_state.specs.declared.row.Open.{Open}
use Rattle.xl_smb_state.specs.declared.row.Place.{Place}
use Rattle.xl_table.specs.Elements.{is_among, unlocked_elements}
use Rattle.xl_wait.specs.declared.waiter.Waiter.{Waiter}
use Rattle.xl_core.specs.BreaksBegun.{others_of}
use Rattle.xl_core.specs.State.{CoreState}
use Rattle.xl_smb_locks.specs.Elements.{extent_of, is_exclusive, unlock_fault}
use Rattle.xl_smb_locks.specs.declared.status.SmbStatus.{SmbStatus}
use Rattle.xl_smb_locks.specs.declared.status.SmbStatus.TheVariants.{RangeNotLocked}
use Rattle.xl_front_smb.specs.Checks.{open_named}
use Rattle.xl_front_smb.specs.Laws.{IsOnTree}
use Rattle.xl_front_smb.specs.declared.told.Told.{Told}
use Rattle.xl_front_smb.specs.declared.told.Told.TheVariants.{Locked, Failed}

-- the request is of this client, in a session, on a tree connect of it, and of this open under the connection
abbrev pub IsOfOpen : CoreState → Lists → ℕ → SmbHead → List ℕ → FileId → ℕ → Place → ℕ → Open → Type 0
IsOfOpen s l conn h client id session place number row = IsOnTree s l conn h client session place × (open_named s l conn id ≡ Some number) × (open_of number l ≡ Some row)

-- a range as it is held once it is locked
abbrev pub held_as : LockElement → What
held_as e = Range (extent_of e) (is_exclusive e)

-- No share or range changed; and behind those who waited one waits, under this number, for all these ranges of the open on the file, in
-- order.
pub record OnlyWaits (s : CoreState) (file number id : ℕ) (es : List LockElement) (t : CoreState) : Type 0 where
  pub claims : others_of t.claims ≡ others_of s.claims
  pub waiter : Waiter
  pub waiters : t.waiters ≡ s.waiters ++ waiter ∷ []
  pub number_is : waiter.id ≡ id
  pub ranges : map (λ c. c.what) waiter.asked ≡ map held_as es
  pub own : AllByRecursion (λ c. (c.file ≡ file) × (c.owner ≡ owners.Open number)) waiter.asked

-- what is held after these are unlocked, one after the other: each takes out one that is equal, exclusive before shared
abbrev pub all_unlocked : List LockElement → List What → List What
all_unlocked [] held = held
all_unlocked (e ∷ es) held = all_unlocked es (unlocked_elements (extent_of e) held)

-- one of these is of this range, exclusive or shared
abbrev pub has_range : Extent → List What → Bool
has_range extent held = is_among (Range extent true) held || is_among (Range extent false) held

-- the unlock is in order, and if these are held one is of its range
abbrev pub may_unlock : LockElement → List What → Bool
may_unlock e held = not (is_some (unlock_fault e)) && has_range (extent_of e) held

-- of unlocks that meet these, those before the first that can't be done
abbrev pub before_fault : List LockElement → List What → List LockElement
before_fault [] held = []
before_fault (e ∷ es) held = if may_unlock e held then e ∷ before_fault es (unlocked_elements (extent_of e) held) else []

abbrev pub fails_or : Option SmbStatus → Told → Told
fails_or None rest = rest
fails_or (Some status) rest = Failed status

-- what they are answered: that they are done, or why the first can't be that can't
abbrev pub unlocks_told : List LockElement → List What → Told
unlocks_told [] held = Locked
unlocks_told (e ∷ es) held = fails_or (unlock_fault e) (if has_range (extent_of e) held then unlocks_told es (unlocked_elements (extent_of e) held) else Failed RangeNotLocked)
