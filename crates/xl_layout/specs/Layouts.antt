-- Layouts: how a value is read at a place of a body, how it is spelled, and which values have a spelling, field by field.
-- The fields stand one behind the other in the fixed part of a body, and the parts that they name behind it. The bytes
-- that no field names are free when they are read, and zeros when they are written.
use Rattle.std.specs.Prelude.{◌≡◌, ℕ, ◌+◌, ◌-◌, ◌*◌, ◌/◌, ◌%◌, ◌^◌, ◌<◌, Bool, true, ◌&&◌, ◌==◌, List, [], ◌∷◌, length, take, slice_index, Option, Some, None, if◌then◌else◌}
use Rattle.std.specs.Int.{Width, w16, w32, w64, byte_len}
use Rattle.std.specs.List.{list_all}
use Rattle.xl_base.specs.Codec.{little_endian}
use Rattle.xl_layout.specs.Places.{bytes_at, u16_at, u32_at, u64_at, lies, zeros}

-- ---- fields

-- a number of two, four or eight bytes
pub data Unsigned : Type 0 where
  U16 : Unsigned
  U32 : Unsigned
  U64 : Unsigned

abbrev pub width : Unsigned → Width
width U16 = w16
width U32 = w32
width U64 = w64

abbrev pub size : Unsigned → ℕ
size n = byte_len (width n)

abbrev pub limit : Unsigned → ℕ
limit n = 2 ^ (8 * size n)

abbrev pub number_at : Unsigned → ℕ → List ℕ → ℕ
number_at U16 place bytes = u16_at place bytes
number_at U32 place bytes = u32_at place bytes
number_at U64 place bytes = u64_at place bytes

-- a field: so many bytes that mean nothing, a byte, a number, or so many bytes
pub data Field : Type 0 where
  unused : ℕ → Field
  octet : Field
  number : Unsigned → Field
  octets : ℕ → Field

abbrev pub Value : Field → Type 0
Value (unused n) = Unit {0}
Value octet = ℕ
Value (number n) = ℕ
Value (octets n) = List ℕ

abbrev pub breadth : Field → ℕ
breadth (unused n) = n
breadth octet = 1
breadth (number n) = size n
breadth (octets n) = n

abbrev pub value_at : (f : Field) → ℕ → List ℕ → Value f
value_at (unused n) place bytes = tt
value_at octet place bytes = slice_index bytes place
value_at (number n) place bytes = number_at n place bytes
value_at (octets n) place bytes = bytes_at n place bytes

abbrev pub text : (f : Field) → Value f → List ℕ
text (unused n) v = zeros n
text octet v = v ∷ []
text (number n) v = little_endian (width n) v
text (octets n) v = v

abbrev pub Holds : (f : Field) → Value f → Type 0
Holds (unused n) v = Unit {0}
Holds octet v = Unit {0}
Holds (number n) v = v < limit n
Holds (octets n) v = length v ≡ n

-- ---- parts

-- How a part is named: by its offset in the frame and its length; whether the offset of a part of no bytes is 0, and not
-- where it would stand; and a test that the part has to pass.
pub record Naming : Type 0 where
  pub offset : Unsigned
  pub count : Unsigned
  pub empty_at_0 : Bool
  pub test : Option (List ℕ → Bool)

abbrev pub passes : Option (List ℕ → Bool) → List ℕ → Bool
passes None bytes = true
passes (Some test) bytes = test bytes

-- whether the part of so many bytes at a place lies within the frame and passes the test
abbrev pub stands : Option (List ℕ → Bool) → ℕ → ℕ → List ℕ → Bool
stands None start count frame = lies start count frame
stands (Some test) start count frame = lies start count frame && test (bytes_at count start frame)

-- the offset of a part of so many bytes that stands at this place or, if it has no bytes, nowhere
unfoldable pub place_if_any : ℕ → ℕ → ℕ
place_if_any start count = if count == 0 then 0 else start

abbrev pub offset_of : Naming → ℕ → ℕ → ℕ
offset_of n start count = if n.empty_at_0 then place_if_any start count else start

-- how many zeros stand before a part of so many bytes that begins at a multiple of 8 from this place on; none before no part
unfoldable pub padding : ℕ → ℕ → ℕ
padding start count = if count == 0 then 0 else (8 - start % 8) % 8

-- whole elements of so many bytes, of which a number of two bytes counts them
abbrev pub IsCounted : ℕ → List ℕ → Type 0
IsCounted unit bytes = (length bytes % unit ≡ 0) × (length bytes / unit < 2 ^ 16)

-- ---- layouts

-- The fields of an A in their order: each says what it holds of a value, and which fields stand behind it if it holds this.
pub data Layout (A : Type 0) : Type 0 where
  -- no more field: this is the value
  made : A → Layout A
  field : (f : Field) → (A → Value f) → (Value f → Layout A) → Layout A
  -- the count, in two bytes, of the elements of so many bytes that stand behind the fixed part, first of all parts
  array : ℕ → (A → List ℕ) → (List ℕ → Layout A) → Layout A
  -- offset and length of a part
  part : Naming → (A → List ℕ) → (List ℕ → Layout A) → Layout A
  -- no field: the next part, which is this of a value, begins at a multiple of 8
  aligned : (A → List ℕ) → Layout A → Layout A

abbrev pub reserved : {A : Type 0} → ℕ → Layout A → Layout A
reserved n l = field (unused n) (λ _. tt) (λ _. l)

abbrev pub byte : {A : Type 0} → (A → ℕ) → (ℕ → Layout A) → Layout A
byte get rest = field octet get rest

abbrev pub u16 : {A : Type 0} → (A → ℕ) → (ℕ → Layout A) → Layout A
u16 get rest = field (number U16) get rest

abbrev pub u32 : {A : Type 0} → (A → ℕ) → (ℕ → Layout A) → Layout A
u32 get rest = field (number U32) get rest

abbrev pub u64 : {A : Type 0} → (A → ℕ) → (ℕ → Layout A) → Layout A
u64 get rest = field (number U64) get rest

abbrev pub raw : {A : Type 0} → ℕ → (A → List ℕ) → (List ℕ → Layout A) → Layout A
raw n get rest = field (octets n) get rest

-- ---- reading

-- the value whose fields go on at this place of a body, of which so many bytes are fixed, in its frame
abbrev pub read : {A : Type 0} → Layout A → ℕ → ℕ → List ℕ → List ℕ → A
read (made a) place fixed frame body = a
read (field f get rest) place fixed frame body = read (rest (value_at f place body)) (place + breadth f) fixed frame body
read (array unit get rest) place fixed frame body = read (rest (bytes_at (unit * u16_at place body) fixed body)) (place + 2) fixed frame body
read (part n get rest) place fixed frame body =
    read (rest (bytes_at (number_at n.count (place + size n.offset) body) (number_at n.offset place body) frame)) (place + size n.offset + size n.count) fixed frame body
read (aligned get l) place fixed frame body = read l place fixed frame body

-- whether each part that the fields name stands in the frame, and each array in the body
abbrev pub parts_at : {A : Type 0} → Layout A → ℕ → ℕ → List ℕ → List ℕ → List Bool
parts_at (made a) place fixed frame body = []
parts_at (field f get rest) place fixed frame body = parts_at (rest (value_at f place body)) (place + breadth f) fixed frame body
parts_at (array unit get rest) place fixed frame body =
    lies fixed (unit * u16_at place body) body ∷ parts_at (rest (bytes_at (unit * u16_at place body) fixed body)) (place + 2) fixed frame body
parts_at (part n get rest) place fixed frame body =
    stands n.test (number_at n.offset place body) (number_at n.count (place + size n.offset) body) frame
    ∷ parts_at (rest (bytes_at (number_at n.count (place + size n.offset) body) (number_at n.offset place body) frame)) (place + size n.offset + size n.count) fixed frame body
parts_at (aligned get l) place fixed frame body = parts_at l place fixed frame body

abbrev pub all_stand : List Bool → Bool
all_stand parts = list_all (λ stands. stands) parts

-- ---- spelling

-- how many bytes the fields take
abbrev pub extent : {A : Type 0} → Layout A → A → ℕ
extent (made b) a = 0
extent (field f get rest) a = breadth f + extent (rest (get a)) a
extent (array unit get rest) a = 2 + extent (rest (get a)) a
extent (part n get rest) a = size n.offset + size n.count + extent (rest (get a)) a
extent (aligned get l) a = extent l a

-- the fields, if the next part begins at this place of the frame
abbrev pub fields : {A : Type 0} → Layout A → ℕ → A → List (List ℕ)
fields (made b) start a = []
fields (field f get rest) start a = text f (get a) ∷ fields (rest (get a)) start a
fields (array unit get rest) start a = little_endian w16 (length (get a) / unit) ∷ fields (rest (get a)) (start + length (get a)) a
fields (part n get rest) start a =
    little_endian (width n.offset) (offset_of n start (length (get a))) ∷ little_endian (width n.count) (length (get a)) ∷ fields (rest (get a)) (start + length (get a)) a
fields (aligned get l) start a = fields l (start + padding start (length (get a))) a

-- the parts, which begin at this place of the frame
abbrev pub parts : {A : Type 0} → Layout A → ℕ → A → List (List ℕ)
parts (made b) start a = []
parts (field f get rest) start a = parts (rest (get a)) start a
parts (array unit get rest) start a = get a ∷ parts (rest (get a)) (start + length (get a)) a
parts (part n get rest) start a = get a ∷ parts (rest (get a)) (start + length (get a)) a
parts (aligned get l) start a = take (padding start (length (get a))) (zeros 8) ∷ parts l (start + padding start (length (get a))) a

-- ---- what has a spelling

-- each field holds what it is of the value, and the value is made of them
abbrev pub Fit : {A : Type 0} → Layout A → A → Type 0
Fit (made b) a = b ≡ a
Fit (field f get rest) a = Holds f (get a) × Fit (rest (get a)) a
Fit (array unit get rest) a = IsCounted unit (get a) × Fit (rest (get a)) a
Fit (part n get rest) a = (length (get a) < limit n.count) × (passes n.test (get a) ≡ true) × Fit (rest (get a)) a
Fit (aligned get l) a = Fit l a
