-- What the parts of a frame are, one after the other; and what stands in a frame of messages.
use Rattle.std.proofs.Common.{◌≡◌, ℕ, zero, suc, ◌+◌, ◌-◌, ◌*◌, ◌/◌, ◌%◌, ◌^◌, ltb, eqb, cond, ◌<◌, ◌≤◌, Bool, true, false, List, [], ◌∷◌, ◌++◌, length, take, drop, map, Option, Some, None, Result, Ok, Err, refl, sym, ap, subst, ◌∙◌, append_assoc, arith, rules}
use Rattle.std.specs.List.{AllByRecursion}
use Rattle.std.specs.Int.{w32, from_le_bytes}
use Rattle.std.proofs.lemmas.List.{length-take-le, append-nil, map-append, take-append-le, drop-append-le, length-drop, drop-drop, length-append, take-append-drop, take_all}
use Rattle.std.proofs.lemmas.Nat.{mod_below, from_le_bytes-to_le_bytes_4 as word_again}
use Rattle.std.proofs.Math.Nat.{div-add-mod, add-mod-mod, mul-add-mod_self_left}
use Rattle.std.proofs.lemmas.Bool.{le-ltb, lt-ltb}
use Rattle.std.proofs.lemmas.Bool.Decides.{nat_tests}
use Rattle.std.proofs.Math.Seq.{take-append_seam, take-append-add, drop-append_seam, drop-append-add}
use Rattle.xl_base.specs.Codec.{little_endian}
use Rattle.xl_layout.specs.Places.{joined, bytes_at, zeros, u16_at, u32_at, u64_at}
use Rattle.xl_smb.specs.Compounds.{Rest, Last, Astray, Goes, Part, shown_rest, shown_part, leads_on, own_bytes, rest_at, part_of, part_by, part_at, next_of, next_at, with_rest, with_part, parts_from, parts_of, bytes_of, goes_over, is_over_from, is_over, gap, way, linked, compound, IsAlone, IsRequest, pieces, links, linked_head, parts_in}
use Rattle.xl_smb.specs.Heads.{is_reply, has_mark, head_fields, head_at, head_of}
use Rattle.xl_smb.specs.declared.fault.SmbBad.{SmbBad}
use Rattle.xl_smb.specs.declared.head.SmbHead.{SmbHead}
use native.Mathlib.Numerals.{unary_clauses}
use Rattle.xl_smb.specs.declared.compound.SmbPart.{SmbPart}

-- ---- the parts, one after the other

over_one : (n : ℕ) (bytes : List ℕ) → 0 < n → is_over_from n bytes ≡ goes_over (is_over_from (n - 1)) (next_at bytes)
unfolding is_over_from
over_one zero bytes some = absurd (omega arith)
over_one (suc n) bytes some = simp unary_clauses refl

pub over_out : (n : ℕ) (bytes : List ℕ) → (0 < n → ⊥) → is_over_from n bytes ≡ true
unfolding is_over_from
over_out zero bytes none = refl
over_out (suc n) bytes none = absurd (none (omega arith))

pub over_none : (n : ℕ) (bytes : List ℕ) → 0 < n → None ≡ next_at bytes → is_over_from n bytes ≡ false
over_none n bytes some there = over_one n bytes some ∙ ap (goes_over (is_over_from (n - 1))) (sym there)

pub over_goes : (n : ℕ) (bytes next : List ℕ) → 0 < n → Some next ≡ next_at bytes → is_over_from (n - 1) next ≡ is_over_from n bytes
over_goes n bytes next some there = sym (over_one n bytes some ∙ ap (goes_over (is_over_from (n - 1))) (sym there))

parts_one : (n : ℕ) (bytes : List ℕ) → 0 < n → parts_from n bytes ≡ with_part (parts_from (n - 1)) (part_at bytes)
unfolding parts_from
parts_one zero bytes some = absurd (omega arith)
parts_one (suc n) bytes some = simp unary_clauses refl

pub parts_out : (n : ℕ) (bytes : List ℕ) (ps : List SmbPart) → (0 < n → ⊥) → map shown_part ps ≡ map shown_part ps ++ parts_from n bytes
unfolding parts_from
parts_out zero bytes ps none = sym (append-nil (map shown_part ps))
parts_out (suc n) bytes ps none = absurd (none (omega arith))

pub parts_none : (n : ℕ) (bytes : List ℕ) (ps : List SmbPart) → 0 < n → None ≡ part_at bytes → map shown_part ps ≡ map shown_part ps ++ parts_from n bytes
parts_none n bytes ps some there =
    let none : parts_from n bytes ≡ [] = parts_one n bytes some ∙ ap (with_part (parts_from (n - 1))) (sym there) in
    sym (ap (λ (xs : List Part). map shown_part ps ++ xs) none ∙ append-nil (map shown_part ps))

pub parts_end : (n : ℕ) (bytes : List ℕ) (ps : List SmbPart) (p : SmbPart) → 0 < n → Some (shown_part p) ≡ part_at bytes → None ≡ next_of (shown_rest p.behind)
    → map shown_part (ps ++ p ∷ []) ≡ map shown_part ps ++ parts_from n bytes
parts_end n bytes ps p some there ends =
    let one : parts_from n bytes ≡ shown_part p ∷ [] = parts_one n bytes some ∙ ap (with_part (parts_from (n - 1))) (sym there) ∙ rw (sym ends) refl in
    map-append shown_part ps (p ∷ []) ∙ ap (λ (xs : List Part). map shown_part ps ++ xs) (sym one)

pub parts_go : (n : ℕ) (bytes next : List ℕ) (ps : List SmbPart) (p : SmbPart) → 0 < n → Some (shown_part p) ≡ part_at bytes → Some next ≡ next_of (shown_rest p.behind)
    → map shown_part (ps ++ p ∷ []) ++ parts_from (n - 1) next ≡ map shown_part ps ++ parts_from n bytes
parts_go n bytes next ps p some there goes =
    let more : parts_from n bytes ≡ shown_part p ∷ parts_from (n - 1) next = parts_one n bytes some ∙ ap (with_part (parts_from (n - 1))) (sym there) ∙ rw (sym goes) refl in
    ap (λ (xs : List Part). xs ++ parts_from (n - 1) next) (map-append shown_part ps (p ∷ [])) ∙ append_assoc (map shown_part ps) (shown_part p ∷ []) (parts_from (n - 1) next) ∙ ap (λ (xs : List Part). map shown_part ps ++ xs) (sym more)

-- ---- the parts are a beginning of the frame

part_is : (bytes : List ℕ) (p : Part) → part_at bytes ≡ Some p → (h : SmbHead) × (p ≡ part_of h bytes)
unfolding part_at
part_is bytes p is = by_head (head_of bytes) is
  where
    by_reply : (h : SmbHead) (b : Bool) → cond b None (Some (part_of h bytes)) ≡ Some p → (k : SmbHead) × (p ≡ part_of k bytes)
    by_reply h true eq = absurd cc
    by_reply h false eq = (h, search)

    by_head : (r : Result SmbHead SmbBad) → part_by bytes r ≡ Some p → (k : SmbHead) × (p ≡ part_of k bytes)
    by_head (Err fault) eq = absurd cc
    by_head (Ok h) eq = by_reply h (is_reply h) eq

-- what stands behind a part, if that is read
abbrev on_from : Rest → List ℕ
on_from Last = []
on_from Astray = []
on_from (Goes bytes) = bytes

whole_at : (w : ℕ) (bytes : List ℕ) → own_bytes w bytes ++ on_from (rest_at w bytes) ≡ bytes
whole_at w bytes = by_tests (leads_on w (length bytes)) (eqb w 0)
  where
    by_tests : (on none : Bool) → cond on (take w bytes) bytes ++ on_from (cond on (Goes (drop w bytes)) (cond none Last Astray)) ≡ bytes
    by_tests true none = take-append-drop w bytes
    by_tests false true = append-nil bytes
    by_tests false false = append-nil bytes

beginning_step : (own next more : List ℕ) → take (length more) next ≡ more → take (length (own ++ more)) (own ++ next) ≡ own ++ more
beginning_step own next more is = ap (λ (k : ℕ). take k (own ++ next)) (length-append own more) ∙ take-append-add own next (length more) ∙ ap (λ (t : List ℕ). own ++ t) is

abbrev Begins : List ℕ → List Part → Type 0
Begins bytes ps = take (length (bytes_of ps)) bytes ≡ bytes_of ps

rest_begins : (parts : List ℕ → List Part) → ((b : List ℕ) → Begins b (parts b)) → (r : Rest) → Begins (on_from r) (with_rest parts (next_of r))
rest_begins parts all Last = refl
rest_begins parts all Astray = refl
rest_begins parts all (Goes bytes) = all bytes

part_begins : (parts : List ℕ → List Part) → ((b : List ℕ) → Begins b (parts b)) → (bytes : List ℕ) (o : Option Part) → part_at bytes ≡ o → Begins bytes (with_part parts o)
part_begins parts all bytes None is = refl
part_begins parts all bytes (Some p) is =
    let h = (part_is bytes p is).0 in
    let r = rest_at h.next_command bytes in
    let own = own_bytes h.next_command bytes in
    let step : Begins (own ++ on_from r) (part_of h bytes ∷ with_rest parts (next_of r)) = beginning_step own (on_from r) (bytes_of (with_rest parts (next_of r))) (rest_begins parts all r) in
    let found : Begins bytes (part_of h bytes ∷ with_rest parts (next_of r)) = subst (λ (b : List ℕ). Begins b (part_of h bytes ∷ with_rest parts (next_of r))) (whole_at h.next_command bytes) step in
    subst (λ (q : Part). Begins bytes (q ∷ with_rest parts (next_of q.behind))) (sym (part_is bytes p is).1) found

beginning : (n : ℕ) (bytes : List ℕ) → Begins bytes (parts_from n bytes)
unfolding parts_from
beginning zero bytes = refl
beginning (suc n) bytes = part_begins (parts_from n) (beginning n) bytes (part_at bytes) refl

pub parts_begin : (frame : List ℕ) (ps : List Part) → ps ≡ parts_of frame → take (length (bytes_of ps)) frame ≡ bytes_of ps
parts_begin frame ps is = rw is (beginning 64 frame)

-- ---- a frame, one message after the other

pub compound_more : (message next out : List ℕ) (messages : List (List ℕ)) → (out ++ linked message) ++ compound (next ∷ messages) ≡ out ++ compound (message ∷ next ∷ messages)
compound_more message next out messages = append_assoc out (linked message) (compound (next ∷ messages))

-- ---- a message that is linked

bytes_front : (count place : ℕ) (xs ys : List ℕ) → place + count ≤ length xs → bytes_at count place (xs ++ ys) ≡ bytes_at count place xs
bytes_front count place xs ys within = ap (take count) (drop-append-le place xs ys (omega (arith, within))) ∙ take-append-le count (drop place xs) ys (omega (arith, within, length-drop place xs))

-- what stands before NextCommand
before : (count place : ℕ) (m rest : List ℕ) → 64 ≤ length m → place + count ≤ 20 → bytes_at count place (linked m ++ rest) ≡ bytes_at count place m
unfolding linked
before count place m rest long within =
    let front = take 20 m in
    let size : length front ≡ 20 = length-take-le 20 m (omega (arith, long)) in
    let more = joined (little_endian w32 (way (length m)) ∷ drop 24 m ∷ take (gap (length m)) (zeros 8) ∷ []) in
    ap (bytes_at count place) (append_assoc front more rest)
    ∙ bytes_front count place front (more ++ rest) (omega (arith, within, size))
    ∙ sym (bytes_front count place front (drop 20 m) (omega (arith, within, size)))
    ∙ ap (bytes_at count place) (take-append-drop 20 m)

-- what stands behind it
after : (count place : ℕ) (m rest : List ℕ) → 64 ≤ length m → 24 + place + count ≤ length m → bytes_at count (24 + place) (linked m ++ rest) ≡ bytes_at count (24 + place) m
unfolding linked little_endian
after count place m rest long within =
    let front = take 20 m in
    let word = little_endian w32 (way (length m)) in
    let pad = take (gap (length m)) (zeros 8) ++ [] in
    let size : length (front ++ word) ≡ 24 = length-append front word ∙ rw (length-take-le 20 m (omega (arith, long))) refl in
    let split : (front ++ (word ++ (drop 24 m ++ pad))) ++ rest ≡ (front ++ word) ++ (drop 24 m ++ (pad ++ rest)) = search (rules, append_assoc) in
    ap (bytes_at count (24 + place)) split
    ∙ ap (λ (n : ℕ). bytes_at count (n + place) ((front ++ word) ++ (drop 24 m ++ (pad ++ rest)))) (sym size)
    ∙ ap (take count) (drop-append-add (front ++ word) (drop 24 m ++ (pad ++ rest)) place)
    ∙ bytes_front count place (drop 24 m) (pad ++ rest) (omega (arith, within, length-drop 24 m))
    ∙ ap (take count) (drop-drop place 24 m)

-- NextCommand
next_there : (m rest : List ℕ) → 64 ≤ length m → way (length m) < 2 ^ 32 → u32_at 20 (linked m ++ rest) ≡ way (length m)
unfolding linked little_endian u32_at
next_there m rest long few =
    let front = take 20 m in
    let word = little_endian w32 (way (length m)) in
    let more = drop 24 m ++ (take (gap (length m)) (zeros 8) ++ []) in
    let size : length front ≡ 20 = length-take-le 20 m (omega (arith, long)) in
    let split : (front ++ (word ++ more)) ++ rest ≡ front ++ (word ++ (more ++ rest)) = search (rules, append_assoc) in
    let there : drop 20 ((front ++ (word ++ more)) ++ rest) ≡ word ++ (more ++ rest) = ap (drop 20) split ∙ ap (λ (n : ℕ). drop n (front ++ (word ++ (more ++ rest)))) (sym size) ∙ drop-append_seam front (word ++ (more ++ rest)) in
    ap (λ (t : List ℕ). from_le_bytes w32 (take 4 t)) there ∙ word_again (way (length m)) few

-- ---- lengths

gap_few : (count : ℕ) → gap count < 8
unfolding gap
gap_few count = mod_below (8 - count % 8) 8 (omega arith)

pub way_few : (count : ℕ) → count ≤ 65536 → way count < 2 ^ 32
way_few count few = omega (arith, few, gap_few count)

even_way : (count : ℕ) → way count % 8 ≡ 0
unfolding gap
even_way count =
    let less : count % 8 < 8 = mod_below count 8 (omega arith) in
    let whole : count + (8 - count % 8) ≡ 8 * (count / 8) + 8 = grind (arith, nat_tests, div-add-mod count 8, less) in
    add-mod-mod count (8 - count % 8) 8 ∙ ap (λ (n : ℕ). n % 8) whole ∙ mul-add-mod_self_left 8 (count / 8) 8

linked_length : (m : List ℕ) → 64 ≤ length m → length (linked m) ≡ way (length m)
unfolding linked little_endian
linked_length m long =
    let front = take 20 m in
    let word = little_endian w32 (way (length m)) in
    let pad = take (gap (length m)) (zeros 8) in
    let padded : length pad ≡ gap (length m) = length-take-le (gap (length m)) (zeros 8) (omega (arith, gap_few (length m))) in
    length-append front (word ++ (drop 24 m ++ (pad ++ []))) ∙ omega (arith, long, length-take-le 20 m (omega (arith, long)), length-append (drop 24 m) (pad ++ []), length-append pad [], padded, length-drop 24 m)

-- ---- the header of a message that is linked

head_linked : (m rest : List ℕ) → 64 ≤ length m → way (length m) < 2 ^ 32 → head_at (linked m ++ rest) ≡ linked_head m
unfolding head_at head_fields u16_at u32_at u64_at
head_linked m rest long few =
    let next : from_le_bytes w32 (bytes_at 4 20 (linked m ++ rest)) ≡ way (length m) = next_there m rest long few in
    rw (
      before 2 6 m rest long (omega arith),
      before 4 8 m rest long (omega arith),
      before 2 12 m rest long (omega arith),
      before 2 14 m rest long (omega arith),
      before 4 16 m rest long (omega arith),
      next,
      after 8 0 m rest long (omega (arith, long)),
      after 8 8 m rest long (omega (arith, long)),
      after 8 16 m rest long (omega (arith, long)),
      after 16 24 m rest long (omega (arith, long)),
    ) refl

mark_linked : (m rest : List ℕ) → 64 ≤ length m → has_mark (linked m ++ rest) ≡ has_mark m
unfolding has_mark
mark_linked m rest long = rw (before 6 0 m rest long (omega arith)) refl

pub head_there : (m rest : List ℕ) → IsAlone m → head_of (linked m ++ rest) ≡ Ok (linked_head m)
unfolding head_of
head_there m rest is =
    let long = is.whole.long in
    let few = way_few (length m) is.whole.short in
    let whole : ltb (length (linked m ++ rest)) 64 ≡ false = le-ltb _ _ (omega (arith, long, linked_length m long, length-append (linked m) rest)) in
    rw (whole, mark_linked m rest long, is.marked, head_linked m rest long few) refl

-- ---- requests in one frame are its parts

wholes : (ms : List (List ℕ)) → AllByRecursion IsRequest ms → AllByRecursion IsAlone ms
wholes [] all = tt
wholes (m ∷ ms) all = (all.0.alone, wholes ms all.1)

frame_long : (m : List ℕ) (ms : List (List ℕ)) → AllByRecursion IsAlone (m ∷ ms) → 64 ≤ length (compound (m ∷ ms))
frame_long m [] all = all.0.whole.long
frame_long m (next ∷ ms) all = omega (arith, length-append (linked m) (compound (next ∷ ms)), linked_length m all.0.whole.long, all.0.whole.long)

leads : (w count : ℕ) → w % 8 ≡ 0 → 64 ≤ w → w + 64 ≤ count → leads_on w count ≡ true
leads w count even long room = rw (even, le-ltb _ _ long, le-ltb _ _ room) refl

cut : (m rest : List ℕ) → 64 ≤ length m → take (way (length m)) (linked m ++ rest) ≡ linked m
cut m rest long = ap (λ (n : ℕ). take n (linked m ++ rest)) (sym (linked_length m long)) ∙ take-append_seam (linked m) rest

past : (m rest : List ℕ) → 64 ≤ length m → drop (way (length m)) (linked m ++ rest) ≡ rest
past m rest long = ap (λ (n : ℕ). drop n (linked m ++ rest)) (sym (linked_length m long)) ∙ drop-append_seam (linked m) rest

part_linked : (m next : List ℕ) (ms : List (List ℕ)) → AllByRecursion IsRequest (m ∷ next ∷ ms)
    → part_at (linked m ++ compound (next ∷ ms)) ≡ Some (record { head = linked_head m; bytes = linked m; behind = Goes (compound (next ∷ ms)) })
unfolding part_at
part_linked m next ms all =
    let rest = compound (next ∷ ms) in
    let long = all.0.alone.whole.long in
    let size : length (linked m ++ rest) ≡ way (length m) + length rest = length-append (linked m) rest ∙ ap (λ (n : ℕ). n + length rest) (linked_length m long) in
    let on : leads_on (way (length m)) (length (linked m ++ rest)) ≡ true = leads (way (length m)) (length (linked m ++ rest)) (even_way (length m)) (omega (arith, long)) (omega (arith, size, frame_long next ms (wholes (next ∷ ms) all.1))) in
    rw (head_there m rest all.0.alone, all.0.request, on, cut m rest long, past m rest long) refl

pub part_last : (m : List ℕ) → IsRequest m → part_at m ≡ Some (record { head = head_at m; bytes = m; behind = Last })
unfolding part_at head_of
part_last m is =
    let whole : ltb (length m) 64 ≡ false = le-ltb _ _ is.alone.whole.long in
    rw (whole, is.alone.marked, is.request, is.alone.alone) refl

part_none : part_at [] ≡ None
unfolding part_at head_of
part_none = refl

next_nothing : next_at [] ≡ None
unfolding next_at
next_nothing = rw part_none refl

parts_found : (n : ℕ) (ms : List (List ℕ)) → AllByRecursion IsRequest ms → parts_from n (compound ms) ≡ take n (parts_in ms)
unfolding parts_from
parts_found zero ms all = refl
parts_found (suc n) [] all = rw part_none refl
parts_found (suc n) (m ∷ []) all = rw (part_last m all.0, take_all {A = Part} n [] (omega arith)) refl
parts_found (suc n) (m ∷ next ∷ ms) all = rw (part_linked m next ms all) (ap (λ (ps : List Part). record { head = linked_head m; bytes = linked m; behind = Goes (compound (next ∷ ms)) } ∷ ps) (parts_found n (next ∷ ms) all.1))

over_found : (n : ℕ) (m : List ℕ) (ms : List (List ℕ)) → AllByRecursion IsRequest (m ∷ ms) → is_over_from n (compound (m ∷ ms)) ≡ ltb n (length (m ∷ ms))
unfolding is_over_from next_at
over_found zero m ms all = sym (lt-ltb 0 (length (m ∷ ms)) (omega arith))
over_found (suc n) m [] all = rw (part_last m all.0) (grind (arith, nat_tests))
over_found (suc n) m (next ∷ ms) all = rw (part_linked m next ms all) (over_found n next ms all.1 ∙ grind (arith, nat_tests))

pub parts_joined : (frame : List ℕ) (ms : List (List ℕ)) → frame ≡ compound ms → AllByRecursion IsRequest ms → parts_of frame ≡ take 64 (parts_in ms)
parts_joined frame ms is all = ap parts_of is ∙ parts_found 64 ms all

pub over_joined : (frame : List ℕ) (ms : List (List ℕ)) → frame ≡ compound ms → AllByRecursion IsRequest ms → is_over frame ≡ ltb 64 (length ms)
over_joined frame [] is all = ap is_over is ∙ over_none 64 [] (omega arith) (sym next_nothing)
over_joined frame (m ∷ ms) is all = ap is_over is ∙ over_found 64 m ms all

pub parts_alone : (frame : List ℕ) (ps : List Part) → ps ≡ parts_of frame → IsRequest frame → ps ≡ record { head = head_at frame; bytes = frame; behind = Last } ∷ []
parts_alone frame ps is alone = is ∙ parts_found 64 (frame ∷ []) (alone, tt)

-- ---- messages in one frame are found where NextCommand says

next_none : (m : List ℕ) → IsAlone m → u32_at 20 m ≡ 0
unfolding head_at head_fields
next_none m is = is.alone

pieces_found : (n : ℕ) (m : List ℕ) (ms : List (List ℕ)) → AllByRecursion IsAlone (m ∷ ms) → pieces n (compound (m ∷ ms)) ≡ take n (links (m ∷ ms))
unfolding pieces
pieces_found zero m ms all = refl
pieces_found (suc n) m [] all = rw (next_none m all.0, take_all {A = List ℕ} n [] (omega arith)) refl
pieces_found (suc n) m (next ∷ ms) all =
    let rest = compound (next ∷ ms) in
    let long = all.0.whole.long in
    let there : u32_at 20 (linked m ++ rest) ≡ way (length m) = next_there m rest long (way_few (length m) all.0.whole.short) in
    let some : eqb (way (length m)) 0 ≡ false = grind (arith, nat_tests) in
    rw (there, some, cut m rest long, past m rest long) (ap (λ (ps : List (List ℕ)). linked m ∷ ps) (pieces_found n next ms all.1))

links_length : (ms : List (List ℕ)) → length (links ms) ≡ length ms
links_length [] = refl
links_length (m ∷ []) = refl
links_length (m ∷ next ∷ ms) = ap suc (links_length (next ∷ ms))

pub pieces_joined : (frame : List ℕ) (ms : List (List ℕ)) → frame ≡ compound ms → AllByRecursion IsAlone ms → 0 < length ms → pieces (length ms) frame ≡ links ms
pieces_joined frame [] is all some = absurd (omega arith)
pieces_joined frame (m ∷ ms) is all some = ap (pieces (length (m ∷ ms))) is ∙ pieces_found (length (m ∷ ms)) m ms all ∙ take_all (length (m ∷ ms)) (links (m ∷ ms)) (omega (arith, links_length (m ∷ ms)))
