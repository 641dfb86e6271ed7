-- The lock that a refused LOCK or LOCKT is answered (RFC 7531, LOCK4denied).
use Rattle.std.specs.Prelude.{◌≡◌, ℕ, ◌+◌, ◌-◌, ◌^◌, ◌≤◌, ◌<◌, ◌⊎◌}
use Rattle.xl_nfs_opens.specs.declared.told.HeldLock.{HeldLock}

-- The byte is one of the lock as it is sent: it isn't before the offset, and the length reaches it, which is all ones if
-- the lock reaches the last byte that there is.
abbrev pub Reaches : HeldLock → ℕ → Type 0
Reaches h byte = (h.offset ≤ byte) × ((h.len ≡ 2 ^ 64 - 1) ⊎ (byte < h.offset + h.len))
