-- Words of the laws of why LOCK is answered so (MS-SMB2 2.2.26.1, 3.3.5.14).
use Rattle.std.specs.Prelude.{◌≡◌, ℕ, Bool, true, false, List, map}
use Rattle.xl_base.specs.declared.name.Owner.TheVariants as owners
use Rattle.xl_matrix.specs.declared.claim.Claim.{Claim}
use Rattle.xl_names.specs.declared.name.Name.{Name}
use Rattle.xl_smb.specs.declared.lock.LockElement.{LockElement}
use Rattle.xl_smb_state.specs.declared.row.Open.{Open}
use Rattle.xl_wait.specs.Waiting.{no_rows}
use Rattle.xl_core.specs.Askers.{party_in}
use Rattle.xl_core.specs.Causes.{IsClaimDue}
use Rattle.xl_core.specs.Decide.{way}
use Rattle.xl_core.specs.Dues.{IsRangesDue}
use Rattle.xl_core.specs.State.{CoreState}
use Rattle.xl_core.specs.declared.ask.Answer.{Answer}
use Rattle.xl_core.specs.declared.ask.Answer.TheVariants as answers
use Rattle.xl_core.specs.declared.ask.Ask.{Ask}
use Rattle.xl_smb_locks.specs.Elements.{is_exclusive, is_lock, is_unlock, may_wait}
use Rattle.xl_smb_locks.specs.Levels.{party_for}
use Rattle.xl_smb_locks.specs.Locks.{lock_ask, range_of}
use Rattle.xl_smb_locks.specs.declared.status.SmbStatus.TheVariants as status
use Rattle.xl_front_smb.specs.declared.told.Told.{Told}
use Rattle.xl_front_smb.specs.declared.told.Told.TheVariants as told
use Rattle.xl_smb_laws.specs.LockLaws.{held_as}

-- a range with these flags is just a lock that is exclusive, and that may wait
pub record IsLockOf (exclusive waits : Bool) (e : LockElement) : Type 0 where
  pub lock : is_lock e ≡ true
  pub unlock : is_unlock e ≡ false
  pub exclusive_is : is_exclusive e ≡ exclusive
  pub waits_is : may_wait e ≡ waits

-- the claim of a range by the open of this number: on its file, for the lease that it is under, or for itself
abbrev pub range_claim : List Name → ℕ → Open → LockElement → Claim
range_claim names number row e = record { file = row.file; owner = owners.Open number; party = party_in (party_for number row) names; what = held_as e }

-- why one lock is answered so, by what is held once its breaks began and by who waits: locked if the core is due to grant it; pending
-- if it is due to let it wait, as it does while grace runs; LOCK_NOT_GRANTED if something stands against it for good,
-- INSUFFICIENT_RESOURCES if it passes a limit
abbrev pub IsOneDue : ℕ → CoreState → Ask → Claim → Told → Type 0
IsOneDue n s a claim told.Locked = IsClaimDue n no_rows s a claim (answers.Granted claim)
IsOneDue n s a claim (told.Pending id) = IsClaimDue n no_rows s a claim (answers.Queued id)
IsOneDue n s a claim (told.Failed status.LockNotGranted) = (c : Claim) × IsClaimDue n no_rows s a claim (answers.Conflict c)
IsOneDue n s a claim (told.Failed status.InsufficientResources) = (limit : ℕ) × IsClaimDue n no_rows s a claim (answers.Full limit)
IsOneDue n s a claim other = ⊥

-- neither granted, nor waiting, nor kept off by something that is held or waited for
abbrev pub is_short : Answer → Bool
is_short (answers.Granted c) = false
is_short (answers.Queued id) = false
is_short (answers.Conflict c) = false
is_short answer = true

-- why several are answered so, each judged once those before it are held; while grace runs all of them wait
abbrev pub AreDue : ℕ → CoreState → Ask → List LockElement → Told → Type 0
AreDue n s a es told.Locked = (c : Claim) × IsRangesDue n no_rows s a (map range_of es) (answers.Granted c)
AreDue n s a es (told.Pending id) = IsRangesDue n no_rows s a (map range_of es) (answers.Queued id)
AreDue n s a es (told.Failed status.LockNotGranted) = (c : Claim) × IsRangesDue n no_rows s a (map range_of es) (answers.Conflict c)
AreDue n s a es (told.Failed status.InsufficientResources) = (answer : Answer) × (is_short answer ≡ true) × IsRangesDue n no_rows s a (map range_of es) answer
AreDue n s a es other = ⊥

-- the ask for these locks, and the state once its breaks began
abbrev pub once_asked : CoreState → ℕ → ℕ → Open → List LockElement → CoreState
once_asked s conn number row es = (way no_rows s (lock_ask conn number row es)).1
