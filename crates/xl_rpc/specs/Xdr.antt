-- XDR (RFC 4506): the spelling of each item, and its reading with the first fault met.
use Rattle.std.specs.Prelude.{◌≡◌, ℕ, ℤ, ◌+◌, ◌-◌, ◌*◌, ◌/◌, ◌%◌, ◌^◌, ◌<◌, ◌≤◌, ◌==◌, Bool, List, [], ◌++◌, length, take, drop, replicate, Result, Ok, OnOk, nat_lt, nat_le, if◌then◌else◌}
use Rattle.std.specs.Int.{w32, w64, cast_signed, cast_unsigned}
use Rattle.std.specs.Int.RustNames.{FitsSigned}
use Rattle.std.specs.List.{list_all}
use Rattle.xl_base.specs.Codec.{big_endian, as_at, guard_at, tagged_at, big_endian_at, fixed_at}
use Rattle.xl_rpc.specs.declared.fault.RpcBad.{RpcBad}
use Rattle.xl_rpc.specs.declared.fault.RpcBad.TheVariants as bad

-- ---- spelling

-- an unsigned integer (4.2), an unsigned hyper integer (4.5), an integer (4.1), a bool (4.4)
abbrev pub unsigned : ℕ → List ℕ
unsigned n = big_endian w32 n

abbrev pub hyper : ℕ → List ℕ
hyper n = big_endian w64 n

abbrev pub signed : ℤ → List ℕ
signed z = unsigned (cast_unsigned w32 z)

abbrev pub boolean : Bool → List ℕ
boolean b = unsigned (if b then 1 else 0)

-- nothing (4.16)
unfoldable pub void : List ℕ
void = []

-- how many zero bytes fill n bytes to whole units of four (3)
unfoldable pub pad : ℕ → ℕ
pad n = (4 - n % 4) % 4

-- opaque data of a fixed length (4.9), and of a variable one (4.10)
unfoldable pub fixed : List ℕ → List ℕ
fixed bytes = bytes ++ replicate (pad (length bytes)) 0

unfoldable pub opaque : List ℕ → List ℕ
opaque bytes = unsigned (length bytes) ++ fixed bytes

-- an array of unsigned integers (4.13), seen as the bytes of its words
unfoldable pub words : List ℕ → List ℕ
words bytes = unsigned (length bytes / 4) ++ bytes

-- ---- what has a spelling

abbrev pub UnsignedFits : ℕ → Type 0
UnsignedFits n = n < 2 ^ 32

abbrev pub HyperFits : ℕ → Type 0
HyperFits n = n < 2 ^ 64

abbrev pub SignedFits : ℤ → Type 0
SignedFits z = FitsSigned w32 z

-- each bool has one
abbrev pub BooleanFits : Bool → Type 0
BooleanFits b = Unit {0}

-- opaque data of at most so many bytes
abbrev pub OpaqueFits : ℕ → List ℕ → Type 0
OpaqueFits most bytes = length bytes ≤ most

-- whole words, of which a count has a spelling
abbrev pub WordsFit : List ℕ → Type 0
WordsFit bytes = UnsignedFits (length bytes / 4) × (length bytes % 4 ≡ 0)

-- ---- reading

unfoldable pub unsigned_at : List ℕ → Result (ℕ × List ℕ) RpcBad
unsigned_at bytes = big_endian_at bad.Short w32 bytes

unfoldable pub hyper_at : List ℕ → Result (ℕ × List ℕ) RpcBad
hyper_at bytes = big_endian_at bad.Short w64 bytes

unfoldable pub signed_at : List ℕ → Result (ℤ × List ℕ) RpcBad
signed_at bytes = as_at (cast_signed w32) unsigned_at bytes

unfoldable pub boolean_at : List ℕ → Result (Bool × List ℕ) RpcBad
boolean_at bytes = as_at (λ n. n == 1) (guard_at (λ n. nat_lt n 2) bad.Bool unsigned_at) bytes

-- whole units of which the first n bytes are data and the others zero
abbrev pub is_padded : ℕ → List ℕ → Bool
is_padded n units = list_all (λ b. b == 0) (drop n units)

-- opaque data of a fixed length, whose padding is judged once all of it is there (RPC-1)
unfoldable pub opaque_fixed_at : ℕ → List ℕ → Result (List ℕ × List ℕ) RpcBad
opaque_fixed_at n bytes = as_at (take n) (guard_at (is_padded n) bad.Pad (fixed_at bad.Short (n + pad n))) bytes

-- opaque data of at most so many bytes
unfoldable pub opaque_at : ℕ → List ℕ → Result (List ℕ × List ℕ) RpcBad
opaque_at most bytes = tagged_at (guard_at (λ n. nat_le n most) bad.TooLong unsigned_at) opaque_fixed_at bytes

unfoldable pub words_at : List ℕ → Result (List ℕ × List ℕ) RpcBad
words_at bytes = tagged_at unsigned_at (λ n. fixed_at bad.Short (n * 4)) bytes

-- ---- writing

-- the bytes begin with this front
unfoldable pub Begins : List ℕ → List ℕ → Type 0
Begins front bytes = (rest : List ℕ) × (bytes ≡ front ++ rest)

-- what stood in front stands there still
abbrev pub Keeps : List ℕ → List ℕ → Type 0
Keeps old new = (front : List ℕ) → Begins front old → Begins front new

-- Behind what was written before, this was written; if memory ran out within it, all that stood before stands still.
abbrev pub Puts : {E : Type 0} → Result (Unit {0}) E → List ℕ → List ℕ → List ℕ → Type 0
Puts result old new text = OnOk result (new ≡ old ++ text) × Keeps old new

-- behind what was written before stands what is read as this value, whatever follows
abbrev pub IsReadAgain : {A E : Type 0} → (List ℕ → Result (A × List ℕ) E) → A → List ℕ → List ℕ → Type 0
IsReadAgain at v old new = (rest : List ℕ) → at (drop (length old) new ++ rest) ≡ Ok (v, rest)
