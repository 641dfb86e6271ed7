-- Paths and names in UTF-16LE: units of two bytes, the lower one first.
use Rattle.std.specs.Prelude.{ℕ, ◌+◌, ◌^◌, Bool, true, false, ◌&&◌, ◌==◌, nat_le, nat_lt, if◌then◌else◌, List, [], ◌∷◌, Option, Some, None, position}
use Rattle.std.specs.Option.{option_and_then}

-- an ASCII capital made small (SMB-15)
abbrev pub small : ℕ → ℕ
small byte = if nat_le 65 byte && nat_le byte 90 then byte + 32 else byte

-- a unit is this byte, in any case; one above 127 is none (SMB-15)
abbrev pub is_unit : ℕ → ℕ → ℕ → Bool
is_unit low high byte = (high == 0) && (nat_lt low 128 && (small low == byte))

-- the text is this one, of which no letter is a capital; half a unit is nothing of it
abbrev pub spells : List ℕ → List ℕ → Bool
spells [] [] = true
spells (low ∷ high ∷ more) (byte ∷ bytes) = is_unit low high byte && spells more bytes
spells _ _ = false

abbrev pub is_backslash : ℕ → ℕ → Bool
is_backslash low high = (low == 0x5C) && (high == 0)

-- what stands behind the last backslash, if this part is what stands behind the one before
abbrev pub part_behind : List ℕ → List ℕ → List ℕ
part_behind part (low ∷ high ∷ more) = if is_backslash low high then part_behind more more else part_behind part more
part_behind part _ = part

-- the last part of a path; a path without a backslash is its own (SMB-15)
unfoldable pub last_part : List ℕ → List ℕ
last_part path = part_behind path path

-- the path's last part is the name of the share, `xl` (SMB-15)
unfoldable pub is_share : List ℕ → Bool
is_share path = spells (last_part path) (120 ∷ 108 ∷ [])

-- files have numbers from 1 on, below 2^32
abbrev pub number_at : ℕ → Option ℕ
number_at place = if nat_lt (place + 1) (2 ^ 32) then Some (place + 1) else None

-- the number of the first file of this name
unfoldable pub file_spelled : List (List ℕ) → List ℕ → Option ℕ
file_spelled files name = option_and_then number_at (position (spells name) files)
