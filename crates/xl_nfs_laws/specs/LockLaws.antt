-- What is said of locks.
use Rattle.std.specs.Prelude.{◌≡◌, ℕ, Bool, true, false, ◌&&◌, if◌then◌else◌, List, [], ◌∷◌, Some}
use Rattle.xl_base.specs.Lists.{IsIn}
use Rattle.xl_base.specs.RecordFile.{with_name}
use Rattle.xl_base.specs.declared.event.Moment.{Moment}
use Rattle.xl_base.specs.declared.name.Owner.{Owner}
use Rattle.xl_matrix.specs.declared.claim.Claim.{Claim}
use Rattle.xl_matrix.specs.declared.claim.Extent.TheVariants.{Bytes}
use Rattle.xl_matrix.specs.declared.claim.What.{What}
use Rattle.xl_matrix.specs.declared.claim.What.TheVariants as whats
use Rattle.xl_nfs.specs.declared.basics.LockType.{LockType}
use Rattle.xl_nfs.specs.declared.status.NfsStatus.{NfsStatus}
use Rattle.xl_nfs.specs.declared.status.NfsStatus.TheVariants as statuses
use Rattle.xl_nfs_state.specs.State.{NfsLists}
use Rattle.xl_spans.specs.Spans.{within}
use Rattle.xl_table.specs.Flat.{blocks}
use Rattle.xl_table.specs.Held.{is_of}
use Rattle.xl_table.specs.Least.{least}
use Rattle.xl_names.specs.declared.name.Name.{Name}
use Rattle.xl_names.specs.declared.name.Name.TheVariants.{NfsRange}
use Rattle.xl_core.specs.Askers.{asked_claim, known_claim, known_owner}
use Rattle.xl_core.specs.Blockers.{blocker, test_blockers}
use Rattle.xl_core.specs.Causes.{IsClaimDue, IsTestDue, stands_against, IsBarring}
use Rattle.xl_core.specs.Decide.{way}
use Rattle.xl_core.specs.Places.{ByteOf, held_at}
use Rattle.xl_core.specs.State.{CoreState}
use Rattle.xl_core.specs.Stores.{store_failed}
use Rattle.xl_core.specs.declared.ask.Answer.TheVariants as answers
use Rattle.xl_core.specs.declared.ask.Ask.{Ask}
use Rattle.xl_core.specs.declared.ask.Who.TheVariants.{Named}
use Rattle.xl_nfs_locks.specs.Denials.{held_lock}
use Rattle.xl_nfs_locks.specs.Ranges.{is_exclusive, lock_ask, test_ask}
use Rattle.xl_nfs_opens.specs.Asks.{unlock_ask}
use Rattle.xl_nfs_opens.specs.Opens.{all_rooms}
use Rattle.xl_nfs_opens.specs.declared.opener.Opener.{Opener}
use Rattle.xl_nfs_opens.specs.declared.told.HeldLock.{HeldLock}
use Rattle.xl_nfs_laws.specs.OwnersRecorded.{recorded_for}

-- ---- the claims

-- the lock that a LOCK of these bytes is for
abbrev pub lock_claim : CoreState → Opener → ℕ → LockType → ℕ → ℕ → Claim
lock_claim s o file kind first last = asked_claim (lock_ask o file kind false first last) (whats.Range (Bytes first last) (is_exclusive kind)) s.names

-- the state in which that LOCK is judged: the breaks have begun that it begins
abbrev pub lock_way : CoreState → Opener → ℕ → LockType → Bool → ℕ → ℕ → CoreState
lock_way s o file kind reclaim first last = (way all_rooms s (lock_ask o file kind reclaim first last)).1

-- the store of the record with this owner's client failed, and the client's verifier
abbrev pub unstored_for : Opener → CoreState → CoreState
unstored_for o s = store_failed (with_name (recorded_for o) s.stable) s

-- the claim of a LOCKT, and the bytes that a LOCKU gives up
abbrev pub test_claim : CoreState → Opener → ℕ → LockType → ℕ → ℕ → Claim
test_claim s o file kind first last = known_claim (test_ask o file kind first last) (Bytes first last) (is_exclusive kind) s.names

abbrev pub unlock_claim : CoreState → Opener → ℕ → ℕ → ℕ → Claim
unlock_claim s o file first last = known_claim (unlock_ask o file first last) (Bytes first last) false s.names

-- who the lock owner is in the core
abbrev pub owner_of : List Name → Opener → Owner
owner_of names o = known_owner (Named (NfsRange o.id o.owner)) names

-- ---- what is held at a byte by an owner

-- at each byte from the first to the last this is held by the claim's owner on its file, and what was held before at each
-- other byte, by each other owner and on each other file
abbrev pub AreBytes : Claim → ℕ → ℕ → (ℕ → List What) → CoreState → CoreState → Type 0
AreBytes c first last has s t =
    (file : ℕ) (owner : Owner) (byte : ℕ) → held_at t (ByteOf file owner byte) ≡ (if is_of file owner c && within first last byte then has byte else held_at s (ByteOf file owner byte))

-- the lock of that byte
abbrev pub byte_lock : Bool → ℕ → List What
byte_lock exclusive byte = whats.Range (Bytes byte byte) exclusive ∷ []

abbrev pub AreLocked : Opener → ℕ → LockType → ℕ → ℕ → CoreState → CoreState → Type 0
AreLocked o file kind first last s t = AreBytes (lock_claim s o file kind first last) first last (byte_lock (is_exclusive kind)) s t

abbrev pub AreFree : Opener → ℕ → ℕ → ℕ → CoreState → CoreState → Type 0
AreFree o file first last s t = AreBytes (unlock_claim s o file first last) first last (λ _. []) s t

-- ---- why a LOCK or a LOCKT is answered so

-- OK if grace lets the lock in, neither what is held nor, unless it reclaims, the range of one who waits stands against it, there
-- is room for it, and its client is recorded or can be, if n stores of the step succeed; DENIED if something stands against it for
-- good, and RECLAIM_CONFLICT if anything does against a reclaim; DELAY if a cache keeps it off, and RESOURCE if a limit is passed,
-- that of the record too; GRACE while grace runs, for what is no reclaim, and NO_GRACE for a reclaim while none runs; RECLAIM_BAD
-- for a reclaim of a client that isn't recorded, or is with another verifier; and SERVERFAULT if it would be OK, but the store
-- fails that records its client. Nothing else is answered (RFC 7530 9.6.2).
abbrev pub IsLockTold : ℕ → CoreState → Ask → Claim → NfsStatus → Type 0
IsLockTold n s a claim statuses.Ok = IsClaimDue n all_rooms s a claim (answers.Granted claim)
IsLockTold n s a claim statuses.Denied = (a.reclaim ≡ false) × ((c : Claim) × IsClaimDue n all_rooms s a claim (answers.Conflict c))
IsLockTold n s a claim statuses.ReclaimConflict = (a.reclaim ≡ true) × ((c : Claim) × IsClaimDue n all_rooms s a claim (answers.Conflict c))
IsLockTold n s a claim statuses.Delay = (c : Claim) × IsClaimDue n all_rooms s a claim (answers.Recall c)
IsLockTold n s a claim statuses.Resource = (limit : ℕ) × IsClaimDue n all_rooms s a claim (answers.Full limit)
IsLockTold n s a claim statuses.Grace = (until : Moment) × IsClaimDue n all_rooms s a claim (answers.Grace until)
IsLockTold n s a claim statuses.NoGrace = IsClaimDue n all_rooms s a claim (answers.NoGrace s.clock)
IsLockTold n s a claim statuses.ReclaimBad = IsClaimDue n all_rooms s a claim answers.NotRecorded
IsLockTold n s a claim statuses.ServerFault = IsClaimDue n all_rooms s a claim answers.StoreFailed
IsLockTold n s a claim _ = ⊥

-- OK if no range that is held stands against it, DENIED if one does, and GRACE while grace runs
abbrev pub IsTestTold : CoreState → Ask → Claim → NfsStatus → Type 0
IsTestTold s a claim statuses.Ok = IsTestDue s a claim (answers.Granted claim)
IsTestTold s a claim statuses.Denied = (c : Claim) × IsTestDue s a claim (answers.Conflict c)
IsTestTold s a claim statuses.Grace = (until : Moment) × IsTestDue s a claim (answers.Grace until)
IsTestTold s a claim _ = ⊥

-- what is answered is a claim that is held and stands against the lock, the least of those that do; or, if none does, the first range
-- of those who wait that does
pub record IsDenial (s : CoreState) (l : NfsLists) (claim : Claim) (held : HeldLock) : Type 0 where
  pub by : Claim
  pub barring : IsBarring s.waiters s claim by
  pub named : blocker s.waiters s claim ≡ Some by
  pub told : held ≡ held_lock s l by

-- the same of a LOCKT: it is a range
pub record IsTestDenial (s : CoreState) (l : NfsLists) (claim : Claim) (held : HeldLock) : Type 0 where
  pub by : Claim
  pub is_held : IsIn by s.claims
  pub against : stands_against claim by ≡ true
  pub least : least s.names (test_blockers s claim) ≡ Some by
  pub told : held ≡ held_lock s l by
