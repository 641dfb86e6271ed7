-- Formats of many fields: how a value is spelled, and how it is read from the front of bytes with the first fault met.
-- A reader is a function on lists: it gives a value and the bytes after it, or a fault.
use Rattle.std.specs.Prelude.{◌≡◌, ℕ, ◌<◌, ◌==◌, Bool, List, ◌++◌, length, take, drop, get_or, Result, Ok, Err, nat_lt, if◌then◌else◌}
use Rattle.std.specs.Int.{Width, byte_len, to_be_bytes, from_be_bytes, to_le_bytes}

-- ---- spelling

-- the number in so many bits, the highest byte first, and the lowest byte first
unfoldable pub big_endian : Width → ℕ → List ℕ
big_endian w n = to_be_bytes w n

unfoldable pub little_endian : Width → ℕ → List ℕ
little_endian w n = to_le_bytes w n

-- ---- reading

-- goes on with what was read, or hands on the fault
infixl 10 ◌>>=◌
abbrev pub ◌>>=◌ : {A B E : Type 0} → Result A E → (A → Result B E) → Result B E
(Ok x) >>= f = f x
(Err e) >>= f = Err e

-- two things in a row, of which the second may depend on the first
abbrev pub pair_at : {A B E : Type 0} → (List ℕ → Result (A × List ℕ) E) → (A → List ℕ → Result (B × List ℕ) E) → List ℕ → Result ((A × B) × List ℕ) E
pair_at first second bytes = first bytes >>= λ a. second a.0 a.1 >>= λ b. Ok ((a.0, b.0), b.1)

-- the same thing, seen otherwise
abbrev pub as_at : {A B E : Type 0} → (A → B) → (List ℕ → Result (A × List ℕ) E) → List ℕ → Result (B × List ℕ) E
as_at to at bytes = at bytes >>= λ a. Ok (to a.0, a.1)

-- a thing that has to pass a test
abbrev pub guard_at : {A E : Type 0} → (A → Bool) → E → (List ℕ → Result (A × List ℕ) E) → List ℕ → Result (A × List ℕ) E
guard_at test fault at bytes = at bytes >>= λ a. if test a.0 then Ok a else Err fault

-- a number that has to stand here, and what stands behind it
abbrev pub exactly_at : {A E : Type 0} → ℕ → E → (List ℕ → Result (ℕ × List ℕ) E) → (List ℕ → Result (A × List ℕ) E) → List ℕ → Result (A × List ℕ) E
exactly_at n fault number at bytes = number bytes >>= λ m. if m.0 == n then at m.1 else Err fault

-- a tag, and what it says stands behind it
abbrev pub tagged_at : {K A E : Type 0} → (List ℕ → Result (K × List ℕ) E) → (K → List ℕ → Result (A × List ℕ) E) → List ℕ → Result (A × List ℕ) E
tagged_at key at bytes = key bytes >>= λ tag. at tag.0 tag.1

-- one thing if the tag is n, and another if it isn't
abbrev pub if_at : {A E : Type 0} → ℕ → ℕ → (List ℕ → Result (A × List ℕ) E) → (List ℕ → Result (A × List ℕ) E) → List ℕ → Result (A × List ℕ) E
if_at tag n this other bytes = if tag == n then this bytes else other bytes

-- one thing if the test holds, and another if it doesn't
abbrev pub choose_at : {A E : Type 0} → Bool → (List ℕ → Result (A × List ℕ) E) → (List ℕ → Result (A × List ℕ) E) → List ℕ → Result (A × List ℕ) E
choose_at test this other bytes = if test then this bytes else other bytes

-- nothing at all, and what is never there
abbrev pub nothing_at : {E : Type 0} → List ℕ → Result (Unit {0} × List ℕ) E
nothing_at bytes = Ok (tt, bytes)

abbrev pub never_at : {A E : Type 0} → E → List ℕ → Result (A × List ℕ) E
never_at fault bytes = Err fault

-- so many bytes as they are
abbrev pub fixed_at : {E : Type 0} → E → ℕ → List ℕ → Result (List ℕ × List ℕ) E
fixed_at short n bytes = if nat_lt (length bytes) n then Err short else Ok (take n bytes, drop n bytes)

-- a number in so many bits
abbrev pub big_endian_at : {E : Type 0} → E → Width → List ℕ → Result (ℕ × List ℕ) E
big_endian_at short w bytes = if nat_lt (length bytes) (byte_len w) then Err short else Ok (from_be_bytes w (take (byte_len w) bytes), drop (byte_len w) bytes)

-- ---- what a reader and a spelling are to each other

-- each element is a byte
abbrev pub IsBytes : List ℕ → Type 0
IsBytes bytes = (i : ℕ) → get_or bytes i 0 < 256

-- the bytes are a text and a rest, which is bytes
pub record Takes (bytes text rest : List ℕ) : Type 0 where
  pub parts : bytes ≡ text ++ rest
  pub rest_is : IsBytes rest

-- The reader and the spelling undo each other on the values that fit: what is read is spelled so and fits, and what
-- fits is read from its spelling again, whatever follows.
pub record IsCodec {A E : Type 0} (at : List ℕ → Result (A × List ℕ) E) (spell : A → List ℕ) (Fit : A → Type 0) : Type 0 where
  pub takes : (bytes : List ℕ) (x : A × List ℕ) → IsBytes bytes → at bytes ≡ Ok x → Takes bytes (spell x.0) x.1 × Fit x.0
  pub again : (v : A) (rest : List ℕ) → Fit v → at (spell v ++ rest) ≡ Ok (v, rest)

-- What a reading method returned and left: the value, seen by view, and the rest are what the definition gives; after
-- a fault nothing is taken (WIRE-3).
abbrev pub Advances : {X Y E : Type 0} → (X → Y) → Result X E → List ℕ → List ℕ → Result (Y × List ℕ) E → Type 0
Advances view (Ok x) old new given = given ≡ Ok (view x, new)
Advances view (Err e) old new given = (given ≡ Err e) × (new ≡ old)
