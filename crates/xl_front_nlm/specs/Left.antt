-- What calls leave: the bytes that they name, who waits for just these, and what a reply repeats.
use Rattle.std.specs.Prelude.{◌≡◌, ℕ, ℤ, ◌^◌, ◌<◌, ◌≤◌, Bool, false, List, Option, Some, None}
use Rattle.std.specs.List.{slice_get}
use Rattle.xl_base.specs.declared.name.Owner.TheVariants as owners
use Rattle.xl_base.specs.declared.name.Protocol.TheVariants.{Nlm}
use Rattle.xl_matrix.specs.declared.claim.Claim.{Claim}
use Rattle.xl_matrix.specs.declared.claim.Extent.TheVariants.{Bytes}
use Rattle.xl_matrix.specs.declared.claim.What.TheVariants.{Range}
use Rattle.xl_names.specs.declared.name.Name.{Name}
use Rattle.xl_names.specs.declared.name.Name.TheVariants.{NlmRange}
use Rattle.xl_nlm.specs.Items.{LockItem, TestArgsItem, UnlockArgsItem, CallItem, Test, Lock, Cancel, Unlock, Share, Unshare, NmLock, HolderItem, ReplyItem, Void, TestAnswer, Answer as ResAnswer, ShareAnswer}
use Rattle.xl_wait.specs.declared.waiter.Waiter.{Waiter}
use Rattle.xl_core.specs.Askers.{known_claim}
use Rattle.xl_core.specs.State.{CoreState}
use Rattle.xl_front_nlm.specs.Aims.{last_of}
use Rattle.xl_front_nlm.specs.Asks.{owner_of, test_ask, unlock_ask}
use Rattle.xl_front_nlm.specs.declared.aim.Aim.{Aim}

-- ---- what a call names

-- the bytes that an UNLOCK gives up
abbrev pub unlock_claim : CoreState → UnlockArgsItem → Aim → Claim
unlock_claim s a at = known_claim (unlock_ask a at) (Bytes at.first at.last) false s.names

-- the lock that a TEST is for
abbrev pub test_claim : CoreState → TestArgsItem → Aim → Claim
test_claim s a at = known_claim (test_ask a at) (Bytes at.first at.last) a.exclusive s.names

-- one waits for just the lock that is named, of the same owner, file, range and mode; of several claims for the first
pub record IsForThat (s : CoreState) (l : LockItem) (exclusive : Bool) (at : Aim) (w : Waiter) : Type 0 where
  pub claim : Claim
  pub first : slice_get w.asked 0 ≡ Some claim
  pub file : claim.file ≡ at.file
  pub what : claim.what ≡ Range (Bytes at.first at.last) exclusive
  pub number : ℕ
  pub owner : claim.owner ≡ owners.Name Nlm number
  pub named : slice_get s.names number ≡ Some (owner_of l)

-- ---- what a reply repeats

-- the cookie of a call, if its results have one (XNFS C702, cookie)
abbrev pub cookie_of : CallItem → Option (List ℕ)
cookie_of (Test a) = Some a.cookie
cookie_of (Lock a) = Some a.cookie
cookie_of (Cancel a) = Some a.cookie
cookie_of (Unlock a) = Some a.cookie
cookie_of (Share a) = Some a.cookie
cookie_of (Unshare a) = Some a.cookie
cookie_of (NmLock a) = Some a.cookie
cookie_of _ = None

abbrev pub cookie_told : ReplyItem → Option (List ℕ)
cookie_told Void = None
cookie_told (TestAnswer r) = Some r.cookie
cookie_told (ResAnswer r) = Some r.cookie
cookie_told (ShareAnswer r) = Some r.cookie

-- ---- the holder that a denied TEST gives

-- it has the mode and the bytes of the claim, by an offset and a length, and the process and the handle of its owner, if
-- that is an owner of NLM ranges (XNFS C702, nlm4_holder)
pub record IsHolder (names : List Name) (c : Claim) (h : HolderItem) : Type 0 where
  pub mode : (first last : ℕ) (exclusive : Bool) → c.what ≡ Range (Bytes first last) exclusive → h.exclusive ≡ exclusive
  pub offset : (first last : ℕ) (exclusive : Bool) → c.what ≡ Range (Bytes first last) exclusive → h.l_offset ≡ first
  pub length : (first last : ℕ) (exclusive : Bool) → c.what ≡ Range (Bytes first last) exclusive → first ≤ last → last < 2 ^ 64 → last_of h.l_offset h.l_len ≡ Some last
  pub process : (number : ℕ) (caller : List ℕ) (svid : ℤ) (oh : List ℕ) → c.owner ≡ owners.Name Nlm number → slice_get names number ≡ Some (NlmRange caller svid oh) → h.svid ≡ svid
  pub handle : (number : ℕ) (caller : List ℕ) (svid : ℤ) (oh : List ℕ) → c.owner ≡ owners.Name Nlm number → slice_get names number ≡ Some (NlmRange caller svid oh) → h.oh ≡ oh
