-- Files that are exported, by name.
use Rattle.std.specs.Prelude.{ℕ, ◌+◌, ◌^◌, nat_lt, bytes_eq, if◌then◌else◌, List, Option, Some, None, position}
use Rattle.std.specs.Option.{option_and_then}

-- the root as the current handle
abbrev pub root : ℕ
root = 0

-- a handle has numbers below 2^32
abbrev pub file_number : ℕ → Option ℕ
file_number place = if nat_lt (place + 1) (2 ^ 32) then Some (place + 1) else None

-- the number of the first file of this name
unfoldable pub file_named : List (List ℕ) → List ℕ → Option ℕ
file_named files name = option_and_then file_number (position (bytes_eq name) files)
