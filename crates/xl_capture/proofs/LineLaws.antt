-- The first line of a text, and the lines after it; the first words of a line.
use Rattle.std.proofs.Common.{◌≡◌, ℕ, suc, ◌+◌, ◌≤◌, Bool, true, false, cond, ltb, eqb, inl, inr, List, [], ◌∷◌, ◌++◌, length, map, take, drop, Option, Some, None, refl, sym, ap, ◌∙◌, arith}
use Rattle.std.proofs.Math.Seq.{take-length, drop-length}
use Rattle.std.specs.Prelude.{position}
use Rattle.std.specs.List.{slice_split, onto_first, position_or_len, before_first, after_first, last_or, All}
use Rattle.std.specs.Option.{option_and_then}
use Rattle.std.proofs.lemmas.Bool.{cases_Bool, ltb-true, ltb-false, ne_eqb}
use Rattle.std.proofs.lemmas.List.{map-append, take_all}
use Rattle.std.proofs.lemmas.List.Splits.{slice_split_first, slice_split_none}
use Rattle.std.proofs.lemmas.List.Sums.{fails_before_first}
use Rattle.xl_capture.specs.Capture.{most_bytes, looked_at, is_line_end, last_line, whole_lines, lines_of, is_last, with_words, with_entries, with_event, all_stores, said_stores, stores_of, all_but_last}
use Rattle.xl_capture.specs.declared.capture.Reading.{Reading}

-- there is always a first part
parts_of : (p : ℕ → Bool) (text : List ℕ) → (part : List ℕ) × (parts : List (List ℕ)) × (slice_split p text ≡ part ∷ parts)
parts_of p [] = ([], [], refl)
parts_of p (b ∷ bs) =
    let rest = parts_of p bs in
    elim (cases_Bool (p b)) [
      | inl ends ↦ ([], slice_split p bs, rw ends refl)
      | inr goes ↦ (b ∷ rest.0, rest.1, rw (goes, rest.2) refl)
    ]

behind : (part : List ℕ) (parts next : List (List ℕ)) (first : List ℕ) → next ≡ part ∷ parts → whole_lines (first ∷ next) ≡ first ∷ whole_lines next
behind part parts next first e = rw e refl

-- the first line, whose end is passed, and the lines of what stands behind it
pub more_lines : (line rest : List ℕ) → whole_lines (line ∷ slice_split is_line_end rest) ≡ line ∷ lines_of rest
more_lines line rest = let parts = parts_of is_line_end rest in behind parts.0 parts.1 (slice_split is_line_end rest) line parts.2

abbrev some : ℕ → Option ℕ
some n = Some n

some_is : (m n : ℕ) → some m ≡ some n → m ≡ n
some_is m n e = cc

found_at : (b : Bool) (m n : ℕ) → cond b (some m) None ≡ Some n → (b ≡ true) × (m ≡ n)
found_at true m n e = (refl, some_is m n e)
found_at false m n e = absurd cc

not_found : (b : Bool) (m : ℕ) → cond b (some m) None ≡ None → b ≡ false
not_found true m e = absurd cc
not_found false m e = refl

pub first_line : (text : List ℕ) (end : ℕ) → position is_line_end text ≡ Some end → lines_of text ≡ take end text ∷ lines_of (drop (end + 1) text)
first_line text end e =
    let at = found_at (ltb (position_or_len is_line_end text) (length text)) (position_or_len is_line_end text) end e in
    let cut = slice_split_first is_line_end text 0 (ltb-true _ _ at.0) in
    let rest = parts_of is_line_end (after_first is_line_end text) in
    ap whole_lines cut ∙ behind rest.0 rest.1 (slice_split is_line_end (after_first is_line_end text)) (before_first is_line_end text) rest.2
    ∙ ap (λ (n : ℕ). take n text ∷ lines_of (drop (n + 1) text)) at.1

line_alone : (text : List ℕ) → (text ≡ [] → ⊥) → last_line text ≡ text ∷ []
line_alone [] some = absurd (some refl)
line_alone (b ∷ bs) some = refl

pub only_line : (text : List ℕ) → position is_line_end text ≡ None → (text ≡ [] → ⊥) → lines_of text ≡ take (length text) text ∷ lines_of (drop (length text) text)
only_line text e some =
    let none : length text ≤ position_or_len is_line_end text = ltb-false _ _ (not_found (ltb (position_or_len is_line_end text) (length text)) (position_or_len is_line_end text) e) in
    let each : All (λ b. is_line_end b ≡ false) text = λ k d lt. fails_before_first is_line_end text k d (omega arith) in
    ap whole_lines (slice_split_none is_line_end text each) ∙ line_alone text some ∙ rw (take-length, drop-length) refl

lines_stand : (parts : List (List ℕ)) (b : ℕ) (bs : List ℕ) → is_last (whole_lines (onto_first b (bs ∷ parts))) ≡ false
lines_stand [] b bs = refl
lines_stand (next ∷ parts) b bs = refl

ends_stand : (part : List ℕ) (parts : List (List ℕ)) → is_last (whole_lines ([] ∷ part ∷ parts)) ≡ false
ends_stand part parts = refl

-- no line is left just where no byte is
pub is_last_line : (text : List ℕ) → is_last (lines_of text) ≡ eqb (length text) 0
is_last_line [] = refl
is_last_line (b ∷ bs) =
    let rest = parts_of is_line_end bs in
    let some : eqb (suc (length bs)) 0 ≡ false = ne_eqb (suc (length bs)) 0 (λ e. absurd (omega (arith, e))) in
    elim (cases_Bool (is_line_end b)) [
      | inl ends ↦ rw (ends, rest.2) (ends_stand rest.0 rest.1 ∙ sym some)
      | inr goes ↦ rw (goes, rest.2) (lines_stand rest.1 b rest.0 ∙ sym some)
    ]

-- a line of four words or more has no event, and one of five no header
too_many : (r : Reading) (a b d e f : List ℕ) (more : List (List ℕ)) (said : Option ℕ) → with_entries r (a ∷ b ∷ d ∷ e ∷ f ∷ more) said ≡ None
unfolding with_event
too_many r a b d e f more None = refl
too_many r a b d e f more (Some stores) = refl

-- five words tell as much as all
pub few_words : (r : Reading) (words : List (List ℕ)) → with_words r (take 5 words) ≡ with_words r words
unfolding with_words
few_words r [] = refl
few_words r (a ∷ []) = refl
few_words r (a ∷ b ∷ []) = refl
few_words r (a ∷ b ∷ d ∷ []) = refl
few_words r (a ∷ b ∷ d ∷ e ∷ []) = refl
few_words r (a ∷ b ∷ d ∷ e ∷ f ∷ more) =
    too_many r a b d e f [] (said_stores (a ∷ b ∷ d ∷ e ∷ f ∷ []))
    ∙ sym (too_many r a b d e f more (said_stores (a ∷ b ∷ d ∷ e ∷ f ∷ more)))

last_of : (o : Option (List ℕ)) (rest : List (List ℕ)) (last : List ℕ) → last_or o (rest ++ last ∷ []) ≡ Some last
last_of o [] last = refl
last_of o (word ∷ rest) last = last_of (Some word) rest last

before_last : (rest : List (List ℕ)) (last : List ℕ) → all_but_last (rest ++ last ∷ []) ≡ rest
before_last [] last = refl
before_last (word ∷ []) last = refl
before_last (word ∷ next ∷ rest) last = ap (λ (words : List (List ℕ)). word ∷ words) (before_last (next ∷ rest) last)

abbrev entries_of : Reading → List (List ℕ) → Option Reading
entries_of r words = with_entries r words (said_stores words)

-- a line without a word
pub no_entries : {A : Type 0} (f : A → List ℕ) (r : Reading) (words : List A) → length words ≡ 0 → with_entries r (map f words) (said_stores (map f words)) ≡ None
unfolding with_event
no_entries f r [] none = refl
no_entries f r (word ∷ words) none = absurd (omega (arith, none))

-- a line whose last word says how many stores succeed, and one whose last word doesn't
pub said_entries : {A : Type 0} (f : A → List ℕ) (r : Reading) (words rest : List A) (last : A) (n : ℕ) → words ≡ rest ++ last ∷ [] → stores_of (f last) ≡ Some n → with_entries r (map f words) (said_stores (map f words)) ≡ with_event r n (map f rest)
said_entries f r words rest last n e said =
    let mapped : map f words ≡ map f rest ++ f last ∷ [] = ap (map f) e ∙ map-append f rest (last ∷ []) in
    ap (entries_of r) mapped
    ∙ ap (with_entries r (map f rest ++ f last ∷ [])) (ap (option_and_then stores_of) (last_of None (map f rest) (f last)) ∙ said)
    ∙ ap (with_event r n) (before_last (map f rest) (f last))

pub unsaid_entries : {A : Type 0} (f : A → List ℕ) (r : Reading) (words rest : List A) (last : A) → words ≡ rest ++ last ∷ [] → stores_of (f last) ≡ None → with_entries r (map f words) (said_stores (map f words)) ≡ with_event r all_stores (map f words)
unsaid_entries f r words rest last e none =
    let mapped : map f words ≡ map f rest ++ f last ∷ [] = ap (map f) e ∙ map-append f rest (last ∷ []) in
    ap (with_entries r (map f words)) (ap said_stores mapped ∙ ap (option_and_then stores_of) (last_of None (map f rest) (f last)) ∙ none)

-- a text that doesn't go past its most bytes is looked at whole
pub looked_whole : (text : List ℕ) → length text ≤ most_bytes → text ≡ looked_at text
looked_whole text few = sym (take_all (most_bytes + 1) text (omega (arith, few)))
