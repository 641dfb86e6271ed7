-- The ranges that a LOCK names, and the checks on them (MS-SMB2 2.2.26.1, 3.3.5.14.1, 3.3.5.14.2).
use Rattle.std.specs.Prelude.{ℕ, ◌+◌, ◌-◌, ◌^◌, ◌==◌, nat_lt, Bool, false, not, ◌&&◌, ◌||◌, if◌then◌else◌, List, [], ◌∷◌, length, Option, Some, None}
use Rattle.std.specs.List.{list_any}
use Rattle.xl_matrix.specs.declared.claim.Extent.{Extent}
use Rattle.xl_matrix.specs.declared.claim.Extent.TheVariants.{Bytes, Empty}
use Rattle.xl_smb.specs.Heads.{is_set}
use Rattle.xl_smb.specs.declared.lock.LockElement.{LockElement}
use Rattle.xl_smb_locks.specs.declared.status.SmbStatus.{SmbStatus}
use Rattle.xl_smb_locks.specs.declared.status.SmbStatus.TheVariants.{InvalidParameter, InvalidLockRange}

-- ---- a range

-- the greatest number of a byte
abbrev pub last_byte : ℕ
last_byte = 2 ^ 64 - 1

-- it reaches past the last byte that there is; a range without bytes never does (EXACT-5)
abbrev pub wraps : LockElement → Bool
wraps e = not (e.length == 0) && (nat_lt last_byte e.length || nat_lt last_byte (e.offset + (e.length - 1)))

abbrev pub extent_of : LockElement → Extent
extent_of e = if e.length == 0 then Empty e.offset else Bytes e.offset (e.offset + (e.length - 1))

-- ---- flags: SHARED_LOCK 1, EXCLUSIVE_LOCK 2, UNLOCK 4, FAIL_IMMEDIATELY 0x10

-- it unlocks
abbrev pub is_unlock : LockElement → Bool
is_unlock e = is_set 4 e.flags

-- it locks too
abbrev pub is_locking : LockElement → Bool
is_locking e = is_set 1 e.flags || is_set 2 e.flags

-- just a lock, shared or exclusive, which waits or fails immediately
abbrev pub is_lock : LockElement → Bool
is_lock e = (e.flags == 1 || e.flags == 2) || (e.flags == 0x11 || e.flags == 0x12)

abbrev pub is_exclusive : LockElement → Bool
is_exclusive e = is_set 2 e.flags

abbrev pub may_wait : LockElement → Bool
may_wait e = not (is_set 0x10 e.flags)

-- ---- a request

-- there are 1 to 64 ranges (SMB-22)
abbrev pub is_count : ℕ → Bool
is_count count = not (count == 0) && nat_lt count 65

-- the first range says whether all are unlocks or all are locks (SMB-22)
abbrev pub unlocks_first : List LockElement → Bool
unlocks_first [] = false
unlocks_first (e ∷ es) = is_unlock e

abbrev pub any_waits : List LockElement → Bool
any_waits es = list_any may_wait es

-- why an unlock is refused before it is asked for, if it is (SMB-23)
unfoldable pub unlock_fault : LockElement → Option SmbStatus
unlock_fault e = if is_locking e then Some InvalidParameter else if wraps e then Some InvalidLockRange else None

-- why locks are refused before they are asked for, if they are: each is just a lock, several don't wait, and none reaches
-- past the last byte (SMB-24)
unfoldable pub lock_fault : List LockElement → Option SmbStatus
lock_fault es =
    if list_any (λ e. not (is_lock e)) es then Some InvalidParameter
    else if nat_lt 1 (length es) && any_waits es then Some InvalidParameter
    else if list_any wraps es then Some InvalidLockRange
    else None
