-- A status and what stands behind it (RFC 7531).
use Rattle.std.specs.Prelude.{◌≡◌, Bool, true, false, Result, Ok, Err}
use Rattle.std.proofs.Common.{refl, subst}
use Rattle.xl_base.specs.Formats.{Format, Cases, others, when, Chosen, chosen, spelled, is_listed, IsMade}
use Rattle.xl_base.proofs.FormatLaws.{read_unlisted}
use Rattle.xl_rpc.specs.declared.fault.RpcBad.{RpcBad}
use Rattle.xl_format.specs.Formats.{nothing, just, standing, tagged, contradiction}
use Rattle.xl_nfs.specs.Locks.{DeniedItem, shown_denied, denied}
use Rattle.xl_nfs.specs.declared.status.NfsStatus.{NfsStatus}
use Rattle.xl_nfs.specs.declared.status.NfsStatus.TheVariants as statuses
use Rattle.xl_nfs.specs.Statuses.{status}
use Rattle.xl_nfs.specs.declared.outcome.LockFault.{LockFault}
use Rattle.xl_nfs.specs.declared.outcome.LockFault.TheVariants as wire

abbrev pub is_ok : NfsStatus → Bool
is_ok statuses.Ok = true
is_ok _ = false

pub ok_is : (s : NfsStatus) → is_ok s ≡ true → s ≡ statuses.Ok
ok_is statuses.Ok is = refl
ok_is _ is = contradiction is

abbrev pub is_denied : NfsStatus → Bool
is_denied statuses.Denied = true
is_denied _ = false

pub denied_is : (s : NfsStatus) → is_denied s ≡ true → s ≡ statuses.Denied
denied_is statuses.Denied is = refl
denied_is _ is = contradiction is

-- ---- what stands behind the status Ok; behind another nothing

abbrev pub shown_outcome : {X Y : Type 0} → (X → Y) → Result X NfsStatus → Result Y NfsStatus
shown_outcome view (Ok x) = Ok (view x)
shown_outcome view (Err s) = Err s

abbrev pub outcome_status : {A : Type 0} → Result A NfsStatus → NfsStatus
outcome_status (Ok x) = statuses.Ok
outcome_status (Err s) = s

-- what follows a status: the body if it is OK, nothing else
abbrev pub outcomes : {A : Type 0} → Format A RpcBad → Cases NfsStatus (Result A NfsStatus) RpcBad
outcomes f = when is_ok statuses.Ok ok_is Ok f (others (λ s. just (Err s)))

-- an error is not Ok
abbrev pub outcome_case : {A : Type 0} → Format A RpcBad → Result A NfsStatus → Chosen NfsStatus (Result A NfsStatus) RpcBad
outcome_case f (Ok x) = chosen statuses.Ok Ok f x
outcome_case f (Err s) = standing s (Err s) (is_ok s ≡ false)

pub outcome_made : {A : Type 0} (f : Format A RpcBad) (x : Result A NfsStatus) → IsMade (outcomes f) x (outcome_case f x)
outcome_made f (Ok x) = (refl, λ _ _. refl)
outcome_made f (Err s) = (refl, λ fit bytes. read_unlisted (outcomes f) s fit bytes)

-- nfsstat4, and the body if it is OK
unfoldable pub outcome : {A : Type 0} → Format A RpcBad → Format (Result A NfsStatus) RpcBad
outcome {A} f = tagged status (outcomes f) (outcome_case f)
    (λ _. refl, (λ s failed x same. subst (λ (y : Result A NfsStatus). (spelled (outcome_case f y) ≡ nothing.spell tt) × (((outcome_case f y).key ≡ s) × (outcome_case f y).Fit)) same (refl, (refl, failed)), tt))
    (outcome_made f)

-- ---- LOCK4res, LOCKT4res: the lock that stands against it is given behind the status Denied

pub data LockFaultItem : Type 0 where
  DeniedBy : DeniedItem → LockFaultItem
  OtherFault : NfsStatus → LockFaultItem

abbrev pub shown_lock_fault : LockFault → LockFaultItem
shown_lock_fault (wire.Denied x) = DeniedBy (shown_denied x)
shown_lock_fault (wire.Other s) = OtherFault s

abbrev pub shown_lock_outcome : {A : Type 0} → Result A LockFault → Result A LockFaultItem
shown_lock_outcome (Ok x) = Ok x
shown_lock_outcome (Err f) = Err (shown_lock_fault f)

abbrev pub lock_outcome_status : {A : Type 0} → Result A LockFaultItem → NfsStatus
lock_outcome_status (Ok x) = statuses.Ok
lock_outcome_status (Err (DeniedBy x)) = statuses.Denied
lock_outcome_status (Err (OtherFault s)) = s

-- the same of a lock, with who holds it if it is denied
abbrev pub lock_outcomes : {A : Type 0} → Format A RpcBad → Cases NfsStatus (Result A LockFaultItem) RpcBad
lock_outcomes f = when is_ok statuses.Ok ok_is Ok f (when is_denied statuses.Denied denied_is (λ x. Err (DeniedBy x)) denied (others (λ s. just (Err (OtherFault s)))))

-- another fault is neither Ok nor Denied
abbrev pub lock_outcome_case : {A : Type 0} → Format A RpcBad → Result A LockFaultItem → Chosen NfsStatus (Result A LockFaultItem) RpcBad
lock_outcome_case f (Ok x) = chosen statuses.Ok Ok f x
lock_outcome_case f (Err (DeniedBy x)) = chosen statuses.Denied (λ x. Err (DeniedBy x)) denied x
lock_outcome_case f (Err (OtherFault s)) = standing s (Err (OtherFault s)) (is_listed (lock_outcomes f) s ≡ false)

pub lock_outcome_made : {A : Type 0} (f : Format A RpcBad) (x : Result A LockFaultItem) → IsMade (lock_outcomes f) x (lock_outcome_case f x)
lock_outcome_made f (Ok x) = (refl, λ _ _. refl)
lock_outcome_made f (Err (DeniedBy x)) = (refl, λ _ _. refl)
lock_outcome_made f (Err (OtherFault s)) = (refl, λ fit bytes. read_unlisted (lock_outcomes f) s fit bytes)

-- LOCK4res
unfoldable pub lock_outcome : {A : Type 0} → Format A RpcBad → Format (Result A LockFaultItem) RpcBad
lock_outcome {A} f = tagged status (lock_outcomes f) (lock_outcome_case f)
    (λ _. refl, (λ _. refl, (λ s failed x same. subst (λ (y : Result A LockFaultItem). (spelled (lock_outcome_case f y) ≡ nothing.spell tt) × (((lock_outcome_case f y).key ≡ s) × (lock_outcome_case f y).Fit)) same (refl, (refl, failed)), tt)))
    (lock_outcome_made f)
