-- What stands at a place of bytes. Numbers are little-endian.
use Rattle.std.specs.Prelude.{ℕ, zero, suc, ◌+◌, ◌/◌, ◌==◌, ◌||◌, Bool, not, List, [], ◌∷◌, ◌++◌, length, take, drop, replicate, nat_lt}
use Rattle.std.specs.Int.{w16, w32, w64, from_le_bytes}

-- so many bytes
abbrev pub bytes_at : ℕ → ℕ → List ℕ → List ℕ
bytes_at count place bytes = take count (drop place bytes)

-- numbers of two, four and eight bytes
unfoldable pub u16_at : ℕ → List ℕ → ℕ
u16_at place bytes = from_le_bytes w16 (bytes_at 2 place bytes)

unfoldable pub u32_at : ℕ → List ℕ → ℕ
u32_at place bytes = from_le_bytes w32 (bytes_at 4 place bytes)

unfoldable pub u64_at : ℕ → List ℕ → ℕ
u64_at place bytes = from_le_bytes w64 (bytes_at 8 place bytes)

-- whether so many bytes at a place lie within these; no bytes lie within any
unfoldable pub lies : ℕ → ℕ → List ℕ → Bool
lies start count bytes = (count == 0) || not (nat_lt (length bytes) (start + count))

-- the texts, one behind the other
abbrev pub joined : List (List ℕ) → List ℕ
joined [] = []
joined (text ∷ texts) = text ++ joined texts

-- so many zero bytes
abbrev pub zeros : ℕ → List ℕ
zeros count = replicate count 0

-- so many things of a size, one behind the other, and as many of them as the bytes hold whole
unfoldable pub each_of : {A : Type 0} → (List ℕ → A) → ℕ → ℕ → List ℕ → List A
each_of at size zero bytes = []
each_of at size (suc count) bytes = at bytes ∷ each_of at size count (drop size bytes)

abbrev pub whole_of : {A : Type 0} → (List ℕ → A) → ℕ → List ℕ → List A
whole_of at size bytes = each_of at size (length bytes / size) bytes
