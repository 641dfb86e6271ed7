-- Ranges: the arguments of LOCK, LOCKT and LOCKU, and who holds what LOCK and LOCKT asked for (RFC 7531).
use Rattle.std.specs.Prelude.{ℕ, Bool, true, false, not}
use Rattle.std.proofs.Common.{refl}
use Rattle.std.proofs.lemmas.Bool.{not-true}
use Rattle.xl_base.specs.Formats.{Format, Cases, when, Chosen, chosen, IsMade}
use Rattle.xl_rpc.specs.declared.fault.RpcBad.{RpcBad}
use Rattle.xl_rpc.specs.declared.fault.RpcBad.TheVariants as bad
use Rattle.xl_format.specs.Formats.{u32, u64, flag, ◌⋆◌, seen, otherwise, none_else, tagged}
use Rattle.xl_nfs.specs.Basics.{stateid, OwnerItem, shown_owner, owner, lock_type}
use Rattle.xl_nfs.specs.declared.basics.Stateid.{Stateid}
use Rattle.xl_nfs.specs.declared.basics.LockType.{LockType}
use Rattle.xl_nfs.specs.declared.locks.NewLocker.{NewLocker}
use Rattle.xl_nfs.specs.declared.locks.KnownLocker.{KnownLocker}
use Rattle.xl_nfs.specs.declared.locks.Locker.{Locker}
use Rattle.xl_nfs.specs.declared.locks.Locker.TheVariants as wire
use Rattle.xl_nfs.specs.declared.locks.LockArgs.{LockArgs}
use Rattle.xl_nfs.specs.declared.locks.LockTestArgs.{LockTestArgs}
use Rattle.xl_nfs.specs.declared.locks.UnlockArgs.{UnlockArgs}
use Rattle.xl_nfs.specs.declared.locks.Denied.{Denied}

-- open_to_lock_owner4
pub record NewLockerItem : Type 0 where
  pub open_seqid : ℕ
  pub open_stateid : Stateid
  pub lock_seqid : ℕ
  pub owner : OwnerItem

abbrev pub shown_new_locker : NewLocker → NewLockerItem
shown_new_locker x = record { open_seqid = x.open_seqid; open_stateid = x.open_stateid; lock_seqid = x.lock_seqid; owner = shown_owner x.owner }

-- open_to_lock_owner4
unfoldable pub new_locker : Format NewLockerItem RpcBad
new_locker = seen (λ x. record { open_seqid = x.0; open_stateid = x.1.0; lock_seqid = x.1.1.0; owner = x.1.1.1 })
    (λ x. (x.open_seqid, (x.open_stateid, (x.lock_seqid, x.owner)))) (u32 ⋆ stateid ⋆ u32 ⋆ owner) (λ _. refl) (λ _. refl)

-- exist_lock_owner4
unfoldable pub known_locker : Format KnownLocker RpcBad
known_locker = seen (λ x. record { stateid = x.0; seqid = x.1 }) (λ x. (x.stateid, x.seqid)) (stateid ⋆ u32) (λ _. refl) (λ _. refl)

-- locker4
pub data LockerItem : Type 0 where
  New : NewLockerItem → LockerItem
  Known : KnownLocker → LockerItem

abbrev pub shown_locker : Locker → LockerItem
shown_locker (wire.New x) = New (shown_new_locker x)
shown_locker (wire.Known x) = Known x

abbrev pub lockers : Cases Bool LockerItem RpcBad
lockers = when (λ b. b) true (λ b holds. holds) New new_locker (when not false not-true Known known_locker (otherwise bad.Value))

abbrev pub locker_case : LockerItem → Chosen Bool LockerItem RpcBad
locker_case (New x) = chosen true New new_locker x
locker_case (Known x) = chosen false Known known_locker x

pub locker_made : (x : LockerItem) → IsMade lockers x (locker_case x)
locker_made (New x) = (refl, λ _ _. refl)
locker_made (Known x) = (refl, λ _ _. refl)

-- locker4
unfoldable pub locker : Format LockerItem RpcBad
locker = tagged flag lockers locker_case (λ _. refl, (λ _. refl, none_else locker_case _ bad.Value)) locker_made

-- LOCK4args
pub record LockArgsItem : Type 0 where
  pub kind : LockType
  pub reclaim : Bool
  pub offset : ℕ
  pub len : ℕ
  pub locker : LockerItem

abbrev pub shown_lock_args : LockArgs → LockArgsItem
shown_lock_args x = record { kind = x.kind; reclaim = x.reclaim; offset = x.offset; len = x.len; locker = shown_locker x.locker }

-- LOCK4args
unfoldable pub lock_args : Format LockArgsItem RpcBad
lock_args = seen (λ x. record { kind = x.0; reclaim = x.1.0; offset = x.1.1.0; len = x.1.1.1.0; locker = x.1.1.1.1 })
    (λ x. (x.kind, (x.reclaim, (x.offset, (x.len, x.locker))))) (lock_type ⋆ flag ⋆ u64 ⋆ u64 ⋆ locker) (λ _. refl) (λ _. refl)

-- LOCKT4args
pub record LockTestArgsItem : Type 0 where
  pub kind : LockType
  pub offset : ℕ
  pub len : ℕ
  pub owner : OwnerItem

abbrev pub shown_lock_test_args : LockTestArgs → LockTestArgsItem
shown_lock_test_args x = record { kind = x.kind; offset = x.offset; len = x.len; owner = shown_owner x.owner }

-- LOCKT4args
unfoldable pub lock_test_args : Format LockTestArgsItem RpcBad
lock_test_args = seen (λ x. record { kind = x.0; offset = x.1.0; len = x.1.1.0; owner = x.1.1.1 })
    (λ x. (x.kind, (x.offset, (x.len, x.owner)))) (lock_type ⋆ u64 ⋆ u64 ⋆ owner) (λ _. refl) (λ _. refl)

-- LOCKU4args
unfoldable pub unlock_args : Format UnlockArgs RpcBad
unlock_args = seen (λ x. record { kind = x.0; seqid = x.1.0; stateid = x.1.1.0; offset = x.1.1.1.0; len = x.1.1.1.1 })
    (λ x. (x.kind, (x.seqid, (x.stateid, (x.offset, x.len))))) (lock_type ⋆ u32 ⋆ stateid ⋆ u64 ⋆ u64) (λ _. refl) (λ _. refl)

-- LOCK4denied
pub record DeniedItem : Type 0 where
  pub offset : ℕ
  pub len : ℕ
  pub kind : LockType
  pub owner : OwnerItem

abbrev pub shown_denied : Denied → DeniedItem
shown_denied x = record { offset = x.offset; len = x.len; kind = x.kind; owner = shown_owner x.owner }

-- LOCK4denied
unfoldable pub denied : Format DeniedItem RpcBad
denied = seen (λ x. record { offset = x.0; len = x.1.0; kind = x.1.1.0; owner = x.1.1.1 })
    (λ x. (x.offset, (x.len, (x.kind, x.owner)))) (u64 ⋆ u64 ⋆ lock_type ⋆ owner) (λ _. refl) (λ _. refl)
