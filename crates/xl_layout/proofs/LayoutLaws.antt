-- What is spelled by a layout is read again, and what holds of all that is read.
use Rattle.std.proofs.Common.{◌≡◌, ℕ, ◌+◌, ◌-◌, ◌*◌, ◌/◌, ◌^◌, ◌<◌, ◌≤◌, Bool, true, false, ◌&&◌, ltb, eqb, List, [], ◌∷◌, ◌++◌, length, take, drop, get_or, Option, Some, None, refl, sym, ap, ◌∙◌, append_assoc, inl, inr, arith}
use Rattle.std.specs.Int.{w16, w32, w64, to_le_bytes, from_le_bytes}
use Rattle.std.proofs.Math.Nat.{div-add-mod, mul-le-mul_left}
use Rattle.std.proofs.lemmas.Bool.{cases_Bool, and_parts, eqb-true, eqb-false, ltb-true, ltb-false, le-ltb}
use Rattle.std.proofs.lemmas.Bool.Decides.{nat_tests}
use Rattle.std.proofs.lemmas.List.{take_at, drop_at, drop-drop, get_or-drop, length-append, length-take, length-drop, length-replicate}
use Rattle.std.proofs.lemmas.Nat.{from_le_bytes-to_le_bytes_2 as half_again, from_le_bytes-to_le_bytes_4 as word_again, from_le_bytes-to_le_bytes_8 as long_again}
use Rattle.xl_base.specs.Codec.{little_endian, IsBytes}
use Rattle.xl_base.proofs.CodecLaws.{IsBytes-take, IsBytes-drop}
use Rattle.xl_layout.specs.Places.{bytes_at, u16_at, u32_at, u64_at, lies, joined, zeros}
use Rattle.xl_layout.specs.Layouts.{Unsigned, U16, U32, U64, width, size, limit, number_at, Field, unused, octet, number, octets, Value, breadth, value_at, text, Holds, Naming, passes, stands, place_if_any, offset_of, padding, Layout, made, field, array, part, aligned, read, parts_at, all_stand, extent, fields, parts, Fit}

-- ---- texts at places

-- what stands behind a text of this length, and the text
pub next : (n place : ℕ) (text more rest bytes : List ℕ) → length text ≡ n → drop place bytes ≡ (text ++ more) ++ rest → drop (place + n) bytes ≡ more ++ rest
next n place text more rest bytes len is = sym (drop-drop n place bytes) ∙ ap (λ (t : List ℕ). drop n t) (is ∙ append_assoc text more rest) ∙ drop_at text (more ++ rest) n len

front : (n place : ℕ) (text more rest bytes : List ℕ) → length text ≡ n → drop place bytes ≡ (text ++ more) ++ rest → bytes_at n place bytes ≡ text
front n place text more rest bytes len is = ap (λ (t : List ℕ). take n t) (is ∙ append_assoc text more rest) ∙ take_at text (more ++ rest) n len

pub number_length : (n : Unsigned) (v : ℕ) → length (little_endian (width n) v) ≡ size n
unfolding little_endian
number_length U16 v = refl
number_length U32 v = refl
number_length U64 v = refl

pub number_again : (n : Unsigned) (v place : ℕ) (more rest bytes : List ℕ) → v < limit n → drop place bytes ≡ (little_endian (width n) v ++ more) ++ rest → number_at n place bytes ≡ v
unfolding little_endian u16_at u32_at u64_at
number_again U16 v place more rest bytes fits is = ap (from_le_bytes w16) (front 2 place (to_le_bytes w16 v) more rest bytes refl is) ∙ half_again v fits
number_again U32 v place more rest bytes fits is = ap (from_le_bytes w32) (front 4 place (to_le_bytes w32 v) more rest bytes refl is) ∙ word_again v fits
number_again U64 v place more rest bytes fits is = ap (from_le_bytes w64) (front 8 place (to_le_bytes w64 v) more rest bytes refl is) ∙ long_again v fits

text_length : (f : Field) (v : Value f) → Holds f v → length (text f v) ≡ breadth f
text_length (unused n) v holds = length-replicate n 0
text_length octet v holds = refl
text_length (number n) v holds = number_length n v
text_length (octets n) v holds = holds

value_again : (f : Field) (v : Value f) (place : ℕ) (more rest bytes : List ℕ) → Holds f v → drop place bytes ≡ (text f v ++ more) ++ rest → value_at f place bytes ≡ v
value_again (unused n) v place more rest bytes holds is = refl
value_again octet v place more rest bytes holds is =
    let here : place ≡ place + 0 = omega arith in
    ap (λ (n : ℕ). get_or bytes n 0) here ∙ sym (get_or-drop place bytes 0 0) ∙ ap (λ (t : List ℕ). get_or t 0 0) is
value_again (number n) v place more rest bytes holds is = number_again n v place more rest bytes holds is
value_again (octets n) v place more rest bytes holds is = front n place v more rest bytes holds is

-- a part that stands at a place is read there
pub part_there : (start : ℕ) (b rest bytes : List ℕ) → drop start bytes ≡ b ++ rest → (lies start (length b) bytes ≡ true) × (bytes_at (length b) start bytes ≡ b)
unfolding lies
part_there start b rest bytes there =
    let left : length bytes - start ≡ length b + length rest = sym (length-drop start bytes) ∙ ap length there ∙ length-append b rest in (
      elim (cases_Bool (eqb (length b) 0)) [
        | inl none ↦ rw none refl
        | inr some ↦ let whole : ltb (length bytes) (start + length b) ≡ false = le-ltb _ _ (omega (arith, left, eqb-false _ _ some)) in rw (some, whole) refl
      ],
      ap (λ (t : List ℕ). take (length b) t) there ∙ take_at b rest (length b) refl,
    )

offset_there : (n : Naming) (start : ℕ) (b rest bytes : List ℕ) → drop start bytes ≡ b ++ rest
    → (lies (offset_of n start (length b)) (length b) bytes ≡ true) × (bytes_at (length b) (offset_of n start (length b)) bytes ≡ b)
unfolding place_if_any lies
offset_there n start [] rest bytes there = (refl, refl)
offset_there n start (x ∷ b) rest bytes there =
    let some : eqb (length (x ∷ b)) 0 ≡ false = grind (arith, nat_tests) in
    let at_start : offset_of n start (length (x ∷ b)) ≡ start = elim (cases_Bool n.empty_at_0) [ inl at_0 ↦ rw (at_0, some) refl | inr other ↦ rw other refl ] in
    rw at_start (part_there start (x ∷ b) rest bytes there)

standing : (test : Option (List ℕ → Bool)) (start count : ℕ) (bytes : List ℕ) → lies start count bytes ≡ true → passes test (bytes_at count start bytes) ≡ true → stands test start count bytes ≡ true
standing None start count bytes there passed = there
standing (Some test) start count bytes there passed = rw there passed

offset_small : (n : Naming) (start count most : ℕ) → start < most → offset_of n start count < most
unfolding place_if_any
offset_small n start count most small = elim (cases_Bool n.empty_at_0) [ inl at_0 ↦ rw at_0 (grind (arith, nat_tests)) | inr other ↦ rw other small ]

padding_short : (start count : ℕ) → padding start count < 8
unfolding padding
padding_short start count = grind (arith, nat_tests)

pub padding_length : (start count : ℕ) → length (take (padding start count) (zeros 8)) ≡ padding start count
padding_length start count = omega (arith, length-take (padding start count) (zeros 8), padding_short start count)

-- ---- what is spelled is read again

pub fields_length : {A : Type 0} (l : Layout A) (start : ℕ) (a : A) → Fit l a → length (joined (fields l start a)) ≡ extent l a
fields_length (made b) start a fit = refl
fields_length (field f get rest) start a fit = length-append (text f (get a)) _ ∙ rw (text_length f (get a) fit.0, fields_length (rest (get a)) start a fit.1) refl
fields_length (array unit get rest) start a fit = length-append (little_endian w16 (length (get a) / unit)) _ ∙ rw (number_length U16 (length (get a) / unit), fields_length (rest (get a)) (start + length (get a)) a fit.1) refl
fields_length (part n get rest) start a fit =
    let count = length (get a) in
    let more = fields (rest (get a)) (start + count) a in
    omega (arith, length-append (little_endian (width n.offset) (offset_of n start count)) (little_endian (width n.count) count ++ joined more), length-append (little_endian (width n.count) count) (joined more), number_length n.offset (offset_of n start count), number_length n.count count, fields_length (rest (get a)) (start + count) a fit.2)
fields_length (aligned get l) start a fit = fields_length l (start + padding start (length (get a))) a fit

-- Whether the offset of each part can be told, if the body begins at this place of the frame and has so many fixed bytes, its
-- parts begin here at the earliest, and the next one so many bytes later at most; and whether an array stands where the
-- fixed part ends, as it is read there.
abbrev pub can_tell : {A : Type 0} → Layout A → (before fixed first later : ℕ) → A → Bool
can_tell (made b) before fixed first later a = true
can_tell (field f get rest) before fixed first later a = can_tell (rest (get a)) before fixed first later a
can_tell (array unit get rest) before fixed first later a = eqb first (before + fixed) && (eqb later 0 && can_tell (rest (get a)) before fixed first (later + unit * 2 ^ 16) a)
can_tell (part n get rest) before fixed first later a = ltb (first + later) (limit n.offset) && can_tell (rest (get a)) before fixed first (later + limit n.count) a
can_tell (aligned get l) before fixed first later a = can_tell l before fixed first (later + 8) a

-- The fields stand at a place of the body, which begins before the fixed part, and the parts from a place of the frame on.
pub again : {A : Type 0} (l : Layout A) (a : A) (before fixed first later place start : ℕ) (frame rest behind : List ℕ)
    → Fit l a → can_tell l before fixed first later a ≡ true → first ≤ start → start ≤ first + later
    → drop place (drop before frame) ≡ joined (fields l start a) ++ rest → drop start frame ≡ joined (parts l start a) ++ behind
    → (all_stand (parts_at l place fixed frame (drop before frame)) ≡ true) × (read l place fixed frame (drop before frame) ≡ a)
again (made b) a before fixed first later place start frame rest behind fit told low high here there = (refl, fit)
again (field f get more) a before fixed first later place start frame rest behind fit told low high here there =
    let others = joined (fields (more (get a)) start a) in
    rw (value_again f (get a) place others rest (drop before frame) fit.0 here)
    (again (more (get a)) a before fixed first later (place + breadth f) start frame rest behind fit.1 told low high (next (breadth f) place (text f (get a)) others rest (drop before frame) (text_length f (get a) fit.0) here) there)
again (array unit get more) a before fixed first later place start frame rest behind fit told low high here there =
    let b = get a in
    let count = length b / unit in
    let others = joined (fields (more b) (start + length b) a) in
    let parts_behind = joined (parts (more b) (start + length b) a) in
    let ends = and_parts (eqb first (before + fixed)) _ told in
    let alone = and_parts (eqb later 0) _ ends.1 in
    let at_end : before + fixed ≡ start = omega (arith, low, high, eqb-true _ _ ends.0, eqb-true _ _ alone.0) in
    let whole : unit * count ≡ length b = omega (arith, div-add-mod (length b) unit, fit.0.0) in
    let most : unit * count ≤ unit * 2 ^ 16 = mul-le-mul_left unit (omega (arith, fit.0.1)) in
    let stand = part_there fixed b (parts_behind ++ behind) (drop before frame) (drop-drop fixed before frame ∙ ap (λ (n : ℕ). drop n frame) at_end ∙ there ∙ append_assoc b parts_behind behind) in
    rw (number_again U16 count place others rest (drop before frame) fit.0.1 here, whole, stand.0, stand.1)
    (again (more b) a before fixed first (later + unit * 2 ^ 16) (place + 2) (start + length b) frame rest behind fit.1 alone.1 (omega (arith, low)) (omega (arith, high, whole, most))
    (next 2 place (little_endian w16 count) others rest (drop before frame) (number_length U16 count) here) (next (length b) start b parts_behind behind frame refl there))
again (part n get more) a before fixed first later place start frame rest behind fit told low high here there =
    let b = get a in
    let count = length b in
    let offset = offset_of n start count in
    let others = joined (fields (more b) (start + count) a) in
    let parts_behind = joined (parts (more b) (start + count) a) in
    let telling = and_parts (ltb (first + later) (limit n.offset)) _ told in
    let small : offset < limit n.offset = offset_small n start count (limit n.offset) (omega (arith, high, ltb-true _ _ telling.0)) in
    let counted = next (size n.offset) place (little_endian (width n.offset) offset) (little_endian (width n.count) count ++ others) rest (drop before frame) (number_length n.offset offset) here in
    let stand = offset_there n start b (parts_behind ++ behind) frame (there ∙ append_assoc b parts_behind behind) in
    rw (number_again n.offset offset place (little_endian (width n.count) count ++ others) rest (drop before frame) small here, number_again n.count count (place + size n.offset) others rest (drop before frame) fit.0 counted, standing n.test offset count frame stand.0 (rw stand.1 fit.1), stand.1)
    (again (more b) a before fixed first (later + limit n.count) (place + size n.offset + size n.count) (start + count) frame rest behind fit.2 telling.1 (omega (arith, low)) (omega (arith, high, fit.0))
    (next (size n.count) (place + size n.offset) (little_endian (width n.count) count) others rest (drop before frame) (number_length n.count count) counted) (next count start b parts_behind behind frame refl there))
again (aligned get l) a before fixed first later place start frame rest behind fit told low high here there =
    let pad = padding start (length (get a)) in
    again l a before fixed first (later + 8) place (start + pad) frame rest behind fit told (omega (arith, low)) (omega (arith, high, padding_short start (length (get a)))) here
    (next pad start (take pad (zeros 8)) (joined (parts l (start + pad) a)) behind frame (padding_length start (length (get a))) there)

-- ---- what is read

-- P holds of each value that may be read: arrays have whole elements, and parts the lengths that their numbers hold
abbrev pub AllRead : {A : Type 0} → Layout A → (A → Type 0) → Type 0
AllRead (made a) P = P a
AllRead (field f get rest) P = (v : Value f) → AllRead (rest v) P
AllRead (array unit get rest) P = (b : List ℕ) (count : ℕ) → length b ≡ unit * count → count < 2 ^ 16 → AllRead (rest b) P
AllRead (part n get rest) P = (b : List ℕ) → length b < limit n.count → passes n.test b ≡ true → AllRead (rest b) P
AllRead (aligned get l) P = AllRead l P

number_below : (n : Unsigned) (place : ℕ) (bytes : List ℕ) → IsBytes bytes → number_at n place bytes < limit n
unfolding u16_at u32_at u64_at
number_below U16 place bytes is = let here = IsBytes-take 2 (drop place bytes) (IsBytes-drop place bytes is) in omega (arith, here 0, here 1)
number_below U32 place bytes is = let here = IsBytes-take 4 (drop place bytes) (IsBytes-drop place bytes is) in omega (arith, here 0, here 1, here 2, here 3)
number_below U64 place bytes is = let here = IsBytes-take 8 (drop place bytes) (IsBytes-drop place bytes is) in omega (arith, here 0, here 1, here 2, here 3, here 4, here 5, here 6, here 7)

part_length : (start count : ℕ) (bytes : List ℕ) → lies start count bytes ≡ true → length (bytes_at count start bytes) ≡ count
unfolding lies
part_length start count bytes there =
    elim (cases_Bool (eqb count 0)) [
      | inl none ↦ omega (arith, length-take count (drop start bytes), eqb-true _ _ none)
      | inr some ↦ let long : ltb (length bytes) (start + count) ≡ false = grind (arith, nat_tests) in omega (arith, length-take count (drop start bytes), length-drop start bytes, ltb-false _ _ long)
    ]

stands_for : (test : Option (List ℕ → Bool)) (start count : ℕ) (bytes : List ℕ) → stands test start count bytes ≡ true → (lies start count bytes ≡ true) × (passes test (bytes_at count start bytes) ≡ true)
stands_for None start count bytes there = (there, refl)
stands_for (Some test) start count bytes there = and_parts (lies start count bytes) _ there

pub found : {A : Type 0} (l : Layout A) (P : A → Type 0) (place fixed : ℕ) (frame body : List ℕ) → IsBytes body → AllRead l P → all_stand (parts_at l place fixed frame body) ≡ true → P (read l place fixed frame body)
found (made b) P place fixed frame body is all stand = all
found (field f get rest) P place fixed frame body is all stand = found (rest (value_at f place body)) P (place + breadth f) fixed frame body is (all (value_at f place body)) stand
found (array unit get rest) P place fixed frame body is all stand =
    let count = u16_at place body in
    let b = bytes_at (unit * count) fixed body in
    let these = and_parts (lies fixed (unit * count) body) _ stand in
    found (rest b) P (place + 2) fixed frame body is (all b count (part_length fixed (unit * count) body these.0) (number_below U16 place body is)) these.1
found (part n get rest) P place fixed frame body is all stand =
    let start = number_at n.offset place body in
    let count = number_at n.count (place + size n.offset) body in
    let b = bytes_at count start frame in
    let these = and_parts (stands n.test start count frame) _ stand in
    let this = stands_for n.test start count frame these.0 in
    let short : length b < limit n.count = omega (arith, part_length start count frame this.0, number_below n.count (place + size n.offset) body is) in
    found (rest b) P (place + size n.offset + size n.count) fixed frame body is (all b short this.1) these.1
found (aligned get l) P place fixed frame body is all stand = found l P place fixed frame body is all stand
