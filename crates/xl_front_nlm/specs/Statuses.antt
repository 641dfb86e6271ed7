-- Why a call is answered with its status, exactly, by procedure (XNFS C702, nlm4_stats).
use Rattle.std.specs.Prelude.{◌≡◌, ℕ, ◌+◌, Bool, true, false, ◌⊎◌, List, Option, Some, None}
use Rattle.xl_base.specs.declared.event.Moment.{Moment}
use Rattle.xl_matrix.specs.declared.claim.Claim.{Claim}
use Rattle.xl_matrix.specs.declared.claim.Extent.TheVariants.{Bytes}
use Rattle.xl_matrix.specs.declared.claim.What.TheVariants as whats
use Rattle.xl_nlm.specs.Items.{LockItem, LockArgsItem, CallItem, Test, Lock, Cancel, Unlock, Share, Unshare, NmLock}
use Rattle.xl_nlm.specs.declared.item.NlmStatus.{NlmStatus}
use Rattle.xl_nlm.specs.declared.item.NlmStatus.TheVariants as stats
use Rattle.xl_wait.specs.declared.waiter.Rooms.{Rooms}
use Rattle.xl_table.specs.Relock.{most_claims}
use Rattle.xl_core.specs.Askers.{asked_claim, known_claim}
use Rattle.xl_core.specs.Causes.{IsClaimDue, IsTestDue, IsUnlockDue}
use Rattle.xl_core.specs.Decide.{way}
use Rattle.xl_core.specs.State.{CoreState}
use Rattle.xl_core.specs.declared.ask.Answer.TheVariants as answers
use Rattle.xl_core.specs.declared.ask.Ask.{Ask}
use Rattle.xl_front_nlm.specs.Aims.{exported, last_of}
use Rattle.xl_front_nlm.specs.Asks.{test_ask, lock_ask, unlock_ask, rights_of, share_ask}
use Rattle.xl_front_nlm.specs.Hosts.{rooms, host_rows}
use Rattle.xl_front_nlm.specs.Results.{status_of}
use Rattle.xl_front_nlm.specs.Standing.{waiter_for, does_wait}
use Rattle.xl_front_nlm.specs.declared.aim.Aim.{Aim}
use Rattle.xl_front_nlm.specs.declared.outcome.Outcome.{Outcome}

-- the status that a reply has, if the call's results have one
abbrev pub status_told : CallItem → Outcome → Option NlmStatus
status_told (Test a) outcome = Some (status_of outcome)
status_told (Lock a) outcome = Some (status_of outcome)
status_told (Cancel a) outcome = Some (status_of outcome)
status_told (Unlock a) outcome = Some (status_of outcome)
status_told (Share a) outcome = Some (status_of outcome)
status_told (Unshare a) outcome = Some (status_of outcome)
status_told (NmLock a) outcome = Some (status_of outcome)
status_told _ outcome = None

-- ---- by what the core is due to answer

-- A lock or a share, by the state that it is judged in, if n stores of the step succeed: granted if grace lets it in, nothing stands
-- against it, there is room, and its caller is recorded or can be. Denied if something stands against it for good, a cache keeps it
-- off, or it reclaims in grace and its caller isn't recorded; or blocked if it may wait for what stands against it and there is room
-- for the wait (NLM-8). No locks if the least limit that it passes is answered, that of the record too. Denied for grace if one runs
-- and it doesn't reclaim, or it reclaims and none runs (NLM-7). Failed if it would be granted, but the store fails that records its
-- caller.
abbrev pub IsClaimTold : ℕ → Rooms → CoreState → Ask → Claim → NlmStatus → Type 0
IsClaimTold n left s a claim stats.Granted = IsClaimDue n left s a claim (answers.Granted claim)
IsClaimTold n left s a claim stats.Denied = ((c : Claim) × IsClaimDue n left s a claim (answers.Conflict c)) ⊎ (((c : Claim) × IsClaimDue n left s a claim (answers.Recall c)) ⊎ IsClaimDue n left s a claim answers.NotRecorded)
IsClaimTold n left s a claim stats.DeniedNolocks = (limit : ℕ) × IsClaimDue n left s a claim (answers.Full limit)
IsClaimTold n left s a claim stats.Blocked = IsClaimDue n left s a claim (answers.Queued (s.counter + 1))
IsClaimTold n left s a claim stats.DeniedGracePeriod = ((until : Moment) × IsClaimDue n left s a claim (answers.Grace until)) ⊎ IsClaimDue n left s a claim (answers.NoGrace s.clock)
IsClaimTold n left s a claim stats.Failed = IsClaimDue n left s a claim answers.StoreFailed
IsClaimTold n left s a claim _ = ⊥

-- it is judged once its breaks run: a cache that needs no answer is out of its way by then, and another keeps it
-- off until the break is answered
abbrev pub IsAskTold : ℕ → Rooms → CoreState → Ask → Claim → NlmStatus → Type 0
IsAskTold n left s a claim status = IsClaimTold n left (way left s a).1 a claim status

-- a test: denied if a held range stands against it, and denied for grace while one runs
abbrev pub IsTestTold : CoreState → Ask → Claim → NlmStatus → Type 0
IsTestTold s a claim stats.Granted = IsTestDue s a claim (answers.Granted claim)
IsTestTold s a claim stats.Denied = (c : Claim) × IsTestDue s a claim (answers.Conflict c)
IsTestTold s a claim stats.DeniedGracePeriod = (until : Moment) × IsTestDue s a claim (answers.Grace until)
IsTestTold s a claim _ = ⊥

-- an unlock: granted whether the bytes were held or not, and no locks if it cuts a range in two and there is no room (NLM-18)
abbrev pub IsUnlockTold : CoreState → Claim → ℕ → ℕ → NlmStatus → Type 0
IsUnlockTold s claim first last stats.Granted = IsUnlockDue s claim first last (answers.Granted claim) ⊎ IsUnlockDue s claim first last answers.NotHeld
IsUnlockTold s claim first last stats.DeniedNolocks = IsUnlockDue s claim first last (answers.Full most_claims)
IsUnlockTold s claim first last _ = ⊥

-- ---- by what is named

-- FBIG if the range would pass the last byte, else what the rest says
abbrev pub IsLastTold : LockItem → ℕ → (Aim → NlmStatus → Type 0) → Option ℕ → NlmStatus → Type 0
IsLastTold l file told None status = status ≡ stats.Fbig
IsLastTold l file told (Some last) status = told (record { file = file; first = l.l_offset; last = last }) status

-- STALE_FH exactly if the handle names no exported file, FBIG exactly if the range passes the last byte
abbrev pub IsRangeTold : LockItem → (Aim → NlmStatus → Type 0) → Option ℕ → NlmStatus → Type 0
IsRangeTold l told None status = status ≡ stats.StaleFh
IsRangeTold l told (Some file) status = IsLastTold l file told (last_of l.l_offset l.l_len) status

-- STALE_FH if the handle is of no file, else what the rest says
abbrev pub IsFileTold : (ℕ → NlmStatus → Type 0) → Option ℕ → NlmStatus → Type 0
IsFileTold told None status = status ≡ stats.StaleFh
IsFileTold told (Some file) status = told file status

-- who waits for the same already is blocked, whatever else it asks
abbrev pub IsLockTold : Bool → ℕ → Rooms → CoreState → Ask → Claim → NlmStatus → Type 0
IsLockTold true n left s a claim status = status ≡ stats.Blocked
IsLockTold false n left s a claim status = IsAskTold n left s a claim status

-- a cancel is granted exactly if there is such a waiter
abbrev pub IsCancelTold : Option ℕ → NlmStatus → Type 0
IsCancelTold None status = status ≡ stats.Denied
IsCancelTold (Some id) status = status ≡ stats.Granted

-- the claim that a LOCK or an NM_LOCK asks for
abbrev pub lock_claim : List (List ℕ) → CoreState → LockArgsItem → Aim → Claim
lock_claim hosts s a at = asked_claim (lock_ask true (host_rows a.lock.caller_name hosts) a at) (whats.Range (Bytes at.first at.last) a.exclusive) s.names

-- what a lock is answered, of a caller who is monitored or not, by what it meets in the core
abbrev pub IsLockingTold : Bool → ℕ → List (List ℕ) → CoreState → LockArgsItem → Aim → NlmStatus → Type 0
IsLockingTold monitored n hosts s a at status = IsLockTold (does_wait s a at) n (rooms hosts) s (lock_ask monitored (host_rows a.lock.caller_name hosts) a at) (lock_claim hosts s a at) status

-- why each call is answered with its status, if so many files are exported and n stores of the step succeed
abbrev pub IsStatusDue : ℕ → ℕ → List (List ℕ) → CoreState → CallItem → NlmStatus → Type 0
IsStatusDue n count hosts s (Test a) status =
    IsRangeTold a.lock (λ at. IsTestTold s (test_ask a at) (known_claim (test_ask a at) (Bytes at.first at.last) a.exclusive s.names)) (exported count a.lock.fh) status
IsStatusDue n count hosts s (Lock a) status = IsRangeTold a.lock (λ at. IsLockingTold true n hosts s a at) (exported count a.lock.fh) status
IsStatusDue n count hosts s (NmLock a) status = IsRangeTold a.lock (λ at. IsLockingTold false n hosts s a at) (exported count a.lock.fh) status
IsStatusDue n count hosts s (Cancel a) status = IsRangeTold a.lock (λ at. IsCancelTold (waiter_for s a.lock a.exclusive at)) (exported count a.lock.fh) status
IsStatusDue n count hosts s (Unlock a) status =
    IsRangeTold a.lock (λ at. IsUnlockTold s (known_claim (unlock_ask a at) (Bytes at.first at.last) false s.names) at.first at.last) (exported count a.lock.fh) status
IsStatusDue n count hosts s (Share a) status =
    IsFileTold (λ file. IsAskTold n (rooms hosts) s (share_ask (host_rows a.caller_name hosts) a file) (asked_claim (share_ask (host_rows a.caller_name hosts) a file) (whats.Share (rights_of a.access) (rights_of a.mode)) s.names)) (exported count a.fh) status
IsStatusDue n count hosts s (Unshare a) status = IsFileTold (λ file told. told ≡ stats.Granted) (exported count a.fh) status
IsStatusDue n count hosts s _ status = ⊥
