-- Ranges of bytes, and what the core is asked for them (RFC 7530 16.10.4).
use Rattle.std.specs.Prelude.{ℕ, ◌+◌, ◌-◌, ◌||◌, ◌==◌, nat_le, nat_lt, if◌then◌else◌, Bool, true, false, [], ◌∷◌, Option, Some, None}
use Rattle.xl_matrix.specs.declared.claim.Extent.TheVariants.{Bytes}
use Rattle.xl_nfs.specs.declared.basics.LockType.{LockType}
use Rattle.xl_nfs.specs.declared.basics.LockType.TheVariants as types
use Rattle.xl_core.specs.declared.ask.Act.TheVariants as acts
use Rattle.xl_core.specs.declared.ask.Ask.{Ask}
use Rattle.xl_nfs_opens.specs.Asks.{all_ones, range_ask}
use Rattle.xl_nfs_opens.specs.Opens.{rights_of}
use Rattle.xl_nfs_opens.specs.declared.opener.Opener.{Opener}

-- the last byte of a range: a length of 0 names none, nor does an offset past the last, and no other length but all ones
-- passes it (NFS-27)
unfoldable pub last_byte : ℕ → ℕ → Option ℕ
last_byte offset len =
    if (len == 0) || nat_lt all_ones offset then None
    else if len == all_ones then Some all_ones
    else if nat_le (offset + len) all_ones then Some (offset + len - 1)
    else None

-- the length by which a range is sent (NFS-27)
abbrev pub length_of : ℕ → ℕ → ℕ
length_of first last = if last == all_ones then all_ones else last + 1 - first

-- WRITE_LT and WRITEW_LT are exclusive (NFS-27)
abbrev pub is_exclusive : LockType → Bool
is_exclusive types.Write = true
is_exclusive types.WriteWaiting = true
is_exclusive _ = false

-- an open for reading has shared locks, one for writing exclusive ones (NFS-27)
abbrev pub may_lock : LockType → ℕ → Bool
may_lock kind access = if is_exclusive kind then (rights_of access).w else (rights_of access).r

abbrev pub lock_ask : Opener → ℕ → LockType → Bool → ℕ → ℕ → Ask
lock_ask o file kind reclaim first last = range_ask o file (acts.Ranges ((Bytes first last, is_exclusive kind) ∷ [])) reclaim

abbrev pub test_ask : Opener → ℕ → LockType → ℕ → ℕ → Ask
test_ask o file kind first last = range_ask o file (acts.Test (Bytes first last) (is_exclusive kind)) false
