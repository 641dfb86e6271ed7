-- A relock changes the spans that it touches, and leaves all others as they stand.
use Rattle.std.proofs.Common.{◌≡◌, ℕ, ◌+◌, ◌-◌, ◌<◌, ◌≤◌, suc, min, max, true, false, ltb, leb, eqb, ◌&&◌, List, [], ◌∷◌, ◌++◌, length, take, drop, zero, Option, Some, None, refl, sym, ap, subst, ◌∙◌, inl, inr, arith}
use Rattle.std.proofs.Math.Numerals.{one-add}
use Rattle.std.proofs.Math.Nat.{suc-sub-suc, sub-zero}
use Rattle.std.specs.List.{AllByRecursion, filter_map, cons_option, prefix_len, slice_get, slice_range}
use Rattle.std.specs.Option.{option_to_list}
use Rattle.std.proofs.lemmas.Bool.{cases_Bool, cases_lt, lt-ltb, le-ltb, leb-true, leb-false, le-leb, ne_eqb, and_left, false_from_ne_true}
use Rattle.std.proofs.lemmas.Bool.Decides.{nat_tests}
use Rattle.std.proofs.lemmas.List.{append-nil, append_assoc, take-append-drop, drop-take}
use Rattle.std.proofs.lemmas.List.Elements.{filter_map-append}
use Rattle.std.proofs.lemmas.Option.{same_Some}
use Rattle.xl_base.proofs.Members.{all_append, all_weaker}
use Rattle.xl_spans.specs.declared.span.Mode.{Mode}
use Rattle.xl_spans.specs.declared.span.Span.{Span}
use Rattle.xl_spans.specs.Spans.{within, mode_at, same_mode, joins, IsBefore, IsCanonical, EndsBelow, part_before, part_past, asked, joined, runs, relocked, ends_before, begins_by, left_part, right_part, listed, joined_behind}
use Rattle.xl_spans.proofs.Bytes.{touching, relocked_mode}
use Rattle.xl_spans.proofs.Chains.{IsChain, chain_weaker, before_ends, asked_ends, canonical_chain_all, canonical_rest, canonical_ranges, relocked_canonical}
use Rattle.xl_spans.proofs.SameBytes.{mode_inside, ends_there}

-- the first of these spans, if any, is not one run with a
abbrev pub IsLoose : Span → List Span → Type 0
IsLoose a [] = Unit {0}
IsLoose a (b ∷ bs) = joins a b ≡ false

joined_loose : (a : Span) (ss : List Span) → IsLoose a ss → joined a ss ≡ a ∷ ss
joined_loose a [] h = refl
joined_loose a (b ∷ bs) h = rw h refl

before_loose : (a : Span) (ss : List Span) → IsBefore a ss → IsLoose a ss
before_loose a [] h = tt
before_loose a (b ∷ bs) h = h.1

below : (f l x : ℕ) → x < f → (leb f x && leb x l) ≡ false
below f l x h = grind (arith, nat_tests)

-- a span that ends well below the range is loose from what a relock makes of those behind it
loose_relocked : (s : Span) (ss : List Span) (f l : ℕ) (mode : Option Mode) (rest : List Span) → rest ≡ relocked ss f l mode → IsCanonical (s ∷ ss) → s.last + 1 < f → f ≤ l → IsLoose s rest
loose_relocked s ss f l mode [] is c h k = tt
loose_relocked s ss f l mode (t ∷ ts) is c h k =
    false_from_ne_true (joins s t) (λ e.
    let both = touching s t e in
    let whole : IsCanonical (t ∷ ts) = subst IsCanonical (sym is) (relocked_canonical ss f l mode k c.2) in
    let here = mode_inside t ts (s.last + 1) (omega (arith, both.0)) (omega (arith, both.0, whole.0)) in
    let bytes = relocked_mode ss f l mode (s.last + 1) k (canonical_ranges ss c.2) in
    let out : within f l (s.last + 1) ≡ false = below f l (s.last + 1) h in
    let old : mode_at ss (s.last + 1) ≡ Some t.mode = sym (rw out at bytes) ∙ sym (ap (λ xs. mode_at xs (s.last + 1)) is) ∙ here in
    ends_there s ss c (old ∙ ap Some (sym both.1)))

-- a span that ends well below the range stays in front
relocked_front : (s : Span) (ss : List Span) (f l : ℕ) (mode : Option Mode) → f ≤ l → IsCanonical (s ∷ ss) → s.last + 1 < f → relocked (s ∷ ss) f l mode ≡ s ∷ relocked ss f l mode
unfolding relocked
relocked_front s ss f l mode h c k =
    let begins : ltb s.first f ≡ true = lt-ltb s.first f (omega (arith, c.0, k)) in
    let over : ltb l s.last ≡ false = le-ltb l s.last (omega (arith, k, h)) in
    let kept : min s.last (f - 1) ≡ s.last = omega (arith, k) in
    rw (begins, over, kept) (joined_loose s (relocked ss f l mode) (loose_relocked s ss f l mode (relocked ss f l mode) refl c k h))

-- spans from well past the range on are not cut
before_none : (f lo : ℕ) (ss : List Span) → f ≤ lo → IsChain lo ss → filter_map (part_before f) ss ≡ []
before_none f lo [] h c = refl
before_none f lo (s ∷ ss) h c = rw (le-ltb s.first f (omega (arith, h, c.0))) (before_none f (s.last + 1) ss (omega (arith, h, c.0, c.1)) c.2)

past_all : (l lo : ℕ) (ss : List Span) → l < lo → IsChain lo ss → filter_map (part_past l) ss ≡ ss
past_all l lo [] h c = refl
past_all l lo (s ∷ ss) h c =
    let ends : ltb l s.last ≡ true = lt-ltb l s.last (omega (arith, h, c.0, c.1)) in
    let begins : max s.first (l + 1) ≡ s.first = omega (arith, h, c.0) in
    rw (ends, begins) (λ i. s ∷ past_all l (s.last + 1) ss (omega (arith, h, c.0, c.1)) c.2 i)

-- maximal runs have no neighbours that join
runs_again : (ss : List Span) → IsCanonical ss → runs ss ≡ ss
runs_again [] c = refl
runs_again (s ∷ ss) c = ap (joined s) (runs_again ss c.2) ∙ joined_loose s ss (before_loose s ss c.1)

joined_append : (a : Span) (xs ys : List Span) → IsLoose a ys → joined a (xs ++ ys) ≡ joined a xs ++ ys
joined_append a [] ys h = joined_loose a ys h
joined_append a (x ∷ xs) ys h = elim (cases_Bool (joins a x)) [ inl e ↦ rw e refl | inr e ↦ rw e refl ]

-- runs behind spans that are loose from them stay as they are
runs_append : (xs ys : List Span) → IsCanonical ys → AllByRecursion (λ x. IsLoose x ys) xs → runs (xs ++ ys) ≡ runs xs ++ ys
runs_append [] ys c all = runs_again ys c
runs_append (x ∷ xs) ys c all = ap (joined x) (runs_append xs ys c all.1) ∙ joined_append x (runs xs) ys all.0

-- what ends well before a chain is loose from it
loose_far : (a : Span) (lo : ℕ) (ss : List Span) → a.last + 1 < lo → IsChain lo ss → IsLoose a ss
loose_far a lo [] h c = tt
loose_far a lo (s ∷ ss) h c = and_left (eqb (a.last + 1) s.first) (same_mode a.mode s.mode) (ne_eqb (a.last + 1) s.first (λ e. omega (arith, e, h, c.0)))

all_loose_far : (n lo : ℕ) (xs ss : List Span) → n < lo → EndsBelow n xs → IsChain lo ss → AllByRecursion (λ x. IsLoose x ss) xs
all_loose_far n lo [] ss h e c = tt
all_loose_far n lo (x ∷ xs) ss h e c = (loose_far x lo ss (omega (arith, h, e.0)) c, all_loose_far n lo xs ss h e.1 c)

chain_end : (lo : ℕ) (xs ys : List Span) → IsChain lo (xs ++ ys) → IsChain lo ys
chain_end lo [] ys c = c
chain_end lo (x ∷ xs) ys c = chain_weaker lo (x.last + 1) ys (omega (arith, c.0, c.1)) (chain_end (x.last + 1) xs ys c.2)

cut_loose : (s : Span) (first : ℕ) (ss : List Span) → IsLoose s ss → IsLoose (record { first = first; last = s.last; mode = s.mode }) ss
cut_loose s first [] h = tt
cut_loose s first (t ∷ ts) h = h

-- a span is loose from the end of a list of maximal runs
loose_end : (s : Span) (xs ys : List Span) → IsCanonical (s ∷ (xs ++ ys)) → IsLoose s ys
loose_end s [] ys c = before_loose s ys c.1
loose_end s (x ∷ xs) ys c = loose_far s (x.last + 1) ys (omega (arith, c.1.0, c.2.0)) (chain_end (x.last + 1) xs ys (canonical_rest x (xs ++ ys) c.2))

past_loose : (l : ℕ) (xs ys : List Span) → IsCanonical (xs ++ ys) → AllByRecursion (λ x. IsLoose x ys) (filter_map (part_past l) xs)
past_loose l [] ys c = tt
past_loose l (x ∷ xs) ys c =
    elim (cases_Bool (ltb l x.last)) [
      | inl h ↦ rw h (cut_loose x (max x.first (l + 1)) ys (loose_end x xs ys c), past_loose l xs ys c.2)
      | inr h ↦ rw h (past_loose l xs ys c.2)
    ]

canonical_end : (xs ys : List Span) → IsCanonical (xs ++ ys) → IsCanonical ys
canonical_end [] ys c = c
canonical_end (x ∷ xs) ys c = canonical_end xs ys c.2

-- spans from well past the range on stay behind
relocked_back : (xs ys : List Span) (f l : ℕ) (mode : Option Mode) → f ≤ l → IsCanonical (xs ++ ys) → IsChain (l + 2) ys → relocked (xs ++ ys) f l mode ≡ relocked xs f l mode ++ ys
unfolding relocked
relocked_back xs ys f l mode h c far =
    let before = filter_map (part_before f) xs in
    let middle = asked f l mode in
    let past = filter_map (part_past l) xs in
    let none : filter_map (part_before f) (xs ++ ys) ≡ before = filter_map-append (part_before f) xs ys ∙ ap (λ zs. before ++ zs) (before_none f (l + 2) ys (omega (arith, h)) far) ∙ append-nil before in
    let all : filter_map (part_past l) (xs ++ ys) ≡ past ++ ys = filter_map-append (part_past l) xs ys ∙ ap (λ zs. past ++ zs) (past_all l (l + 2) ys (omega arith) far) in
    let parted : before ++ (middle ++ (past ++ ys)) ≡ (before ++ (middle ++ past)) ++ ys = ap (λ zs. before ++ zs) (sym (append_assoc middle past ys)) ∙ sym (append_assoc before (middle ++ past) ys) in
    let Loose : Span → Type 0 = λ x. IsLoose x ys in
    let loose = all_append Loose before (middle ++ past) (all_loose_far f (l + 2) before ys (omega (arith, h)) (before_ends f xs) far) (all_append Loose middle past (all_loose_far (l + 1) (l + 2) middle ys (omega arith) (asked_ends f l mode) far) (past_loose l xs ys c)) in
    ap runs (ap (λ bs. bs ++ (middle ++ filter_map (part_past l) (xs ++ ys))) none ∙ ap (λ ps. before ++ (middle ++ ps)) all ∙ parted)
    ∙ runs_append (before ++ (middle ++ past)) ys (canonical_end xs ys c) loose

-- the spans that begin past byte t are a chain from there on
pub chain_rest : (t lo : ℕ) (ss : List Span) → IsChain lo ss → IsChain (t + 1) (drop (prefix_len (begins_by t) ss) ss)
chain_rest t lo [] c = tt
chain_rest t lo (s ∷ ss) c =
    elim (cases_Bool (leb s.first t)) [
      | inl h ↦ rw h (rw one-add (chain_rest t (s.last + 1) ss c.2))
      | inr h ↦ let far = leb-false s.first t h in rw h (omega (arith, far), c.1, c.2)
    ]

-- and there is none where no span reaches a later byte
no_rest : (t lo : ℕ) (ss : List Span) → IsChain lo ss → EndsBelow (t + 1) ss → drop (prefix_len (begins_by t) ss) ss ≡ []
no_rest t lo [] c e = refl
no_rest t lo (s ∷ ss) c e = rw (le-leb s.first t (omega (arith, c.1, e.0))) (rw one-add (no_rest t (s.last + 1) ss c.2 e.1))

-- the same from a place on
relocked_from : (ss : List Span) (f l j : ℕ) (mode : Option Mode) → f ≤ l → IsCanonical ss → IsChain (l + 2) (drop j ss) → relocked ss f l mode ≡ relocked (take j ss) f l mode ++ drop j ss
relocked_from ss f l j mode h c far =
    let whole = take-append-drop j ss in
    ap (λ xs. relocked xs f l mode) (sym whole) ∙ relocked_back (take j ss) (drop j ss) f l mode h (subst IsCanonical (sym whole) c) far

-- A relock in place: the spans that end before byte f - 1 stay, and so do those that begin past byte t, which is l + 1, or l where no byte comes after it.
pub relocked_in_place : (ss : List Span) (f l t : ℕ) (mode : Option Mode) → f ≤ l → l ≤ t → IsCanonical ss → IsChain (l + 2) (drop (prefix_len (begins_by t) ss) ss) → relocked ss f l mode ≡ take (prefix_len (ends_before (f - 1)) ss) ss ++ (relocked (slice_range ss (prefix_len (ends_before (f - 1)) ss) (prefix_len (begins_by t) ss)) f l mode ++ drop (prefix_len (begins_by t) ss) ss)
relocked_in_place [] f l t mode h k c far = sym (append-nil (relocked [] f l mode))
relocked_in_place (s ∷ ss) f l t mode h k c far =
    elim (cases_lt s.last (f - 1)) [
      | inl e ↦
          let ends : ltb s.last (f - 1) ≡ true = lt-ltb s.last (f - 1) e in
          let begins : leb s.first t ≡ true = le-leb s.first t (omega (arith, c.0, e, h, k)) in
          let i = prefix_len (ends_before (f - 1)) ss in
          let j = prefix_len (begins_by t) ss in
          let rest : IsChain (l + 2) (drop j ss) = rw (begins, one-add j) at far in
          rw (ends, begins, one-add i, one-add j, suc-sub-suc j i) (relocked_front s ss f l mode h c (omega (arith, e)) ∙ (λ n. s ∷ relocked_in_place ss f l t mode h k c.2 rest n))
      | inr e ↦
          let ends : ltb s.last (f - 1) ≡ false = le-ltb s.last (f - 1) e in
          rw (ends, sub-zero) (relocked_from (s ∷ ss) f l (prefix_len (begins_by t) (s ∷ ss)) mode h c far)
    ]

-- the first of these spans, if any, reaches byte b or past it
abbrev pub Reaches : ℕ → List Span → Type 0
Reaches b [] = Unit {0}
Reaches b (s ∷ ss) = b ≤ s.last

-- each of these spans begins by byte t
abbrev pub BeginBy : ℕ → List Span → Type 0
BeginBy t ss = AllByRecursion (λ s. s.first ≤ t) ss

as_list : (o : Option Span) → cons_option o [] ≡ option_to_list o
as_list None = refl
as_list (Some s) = refl

left_is : (f lo : ℕ) (ss : List Span) → IsChain lo ss → Reaches (f - 1) ss → filter_map (part_before f) ss ≡ option_to_list (left_part f ss)
left_is f lo [] c h = refl
left_is f lo (s ∷ ss) c h = ap (cons_option (part_before f s)) (before_none f (s.last + 1) ss (omega (arith, h)) c.2) ∙ as_list (part_before f s)

right_is : (l lo : ℕ) (ss : List Span) → IsChain lo ss → BeginBy (l + 1) ss → filter_map (part_past l) ss ≡ option_to_list (right_part l ss)
right_is l lo [] c h = refl
right_is l lo (s ∷ []) c h = as_list (part_past l s)
right_is l lo (s ∷ t ∷ ts) c h =
    let over : ltb l s.last ≡ false = le-ltb l s.last (omega (arith, c.2.0, h.1.0)) in
    let more : suc (suc (length ts)) - 1 ≡ suc (suc (length ts) - 1) = omega arith in
    rw (over, more) (right_is l (s.last + 1) (t ∷ ts) c.2 h.1)

chain_front : (lo : ℕ) (xs ys : List Span) → IsChain lo (xs ++ ys) → IsChain lo xs
chain_front lo [] ys c = tt
chain_front lo (x ∷ xs) ys c = (c.0, c.1, chain_front (x.last + 1) xs ys c.2)

pub reaches_rest : (b : ℕ) (ss : List Span) → Reaches b (drop (prefix_len (ends_before b) ss) ss)
reaches_rest b [] = tt
reaches_rest b (s ∷ ss) =
    elim (cases_lt s.last b) [
      | inl h ↦ rw (lt-ltb s.last b h, one-add) (reaches_rest b ss)
      | inr h ↦ rw (le-ltb s.last b h) h
    ]

pub reaches_take : (b n : ℕ) (ss : List Span) → Reaches b ss → Reaches b (take n ss)
reaches_take b zero ss h = tt
reaches_take b (suc n) [] h = tt
reaches_take b (suc n) (s ∷ ss) h = h

begin_front : (t : ℕ) (ss : List Span) → BeginBy t (take (prefix_len (begins_by t) ss) ss)
begin_front t [] = tt
begin_front t (s ∷ ss) =
    elim (cases_Bool (leb s.first t)) [
      | inl h ↦ rw (h, one-add) (leb-true s.first t h, begin_front t ss)
      | inr h ↦ rw h tt
    ]

begin_drop : (t n : ℕ) (ss : List Span) → BeginBy t ss → BeginBy t (drop n ss)
begin_drop t zero ss h = h
begin_drop t (suc n) [] h = tt
begin_drop t (suc n) (s ∷ ss) h = begin_drop t n ss h.1

-- what ends before byte b begins by byte t, where b is at most the byte past t
pub places_in_order : (b t : ℕ) (ss : List Span) → b ≤ t + 1 → IsCanonical ss → prefix_len (ends_before b) ss ≤ prefix_len (begins_by t) ss
places_in_order b t [] h c = omega arith
places_in_order b t (s ∷ ss) h c =
    elim (cases_lt s.last b) [
      | inl e ↦ rw (lt-ltb s.last b e, le-leb s.first t (omega (arith, c.0, e, h))) (omega (arith, places_in_order b t ss h c.2))
      | inr e ↦ rw (le-ltb s.last b e) (omega arith)
    ]

-- the spans that a relock touches
abbrev pub touched : ℕ → ℕ → List Span → List Span
touched b t ss = slice_range ss (prefix_len (ends_before b) ss) (prefix_len (begins_by t) ss)

pub touched_chain : (b t : ℕ) (ss : List Span) → IsCanonical ss → IsChain 0 (touched b t ss)
touched_chain b t ss c =
    let i = prefix_len (ends_before b) ss in
    let j = prefix_len (begins_by t) ss in
    let rest : IsChain 0 (drop i ss) = chain_end 0 (take i ss) (drop i ss) (subst (IsChain 0) (sym (take-append-drop i ss)) (canonical_chain_all ss c)) in
    chain_front 0 (take (j - i) (drop i ss)) (drop (j - i) (drop i ss)) (subst (IsChain 0) (sym (take-append-drop (j - i) (drop i ss))) rest)

pub touched_begin : (b t : ℕ) (ss : List Span) → b ≤ t + 1 → IsCanonical ss → BeginBy t (touched b t ss)
touched_begin b t ss h c =
    let i = prefix_len (ends_before b) ss in
    let j = prefix_len (begins_by t) ss in
    let m = j - i in
    let whole : i + m ≡ j = omega (arith, places_in_order b t ss h c) in
    let same : drop i (take j ss) ≡ take m (drop i ss) = ap (λ n. drop i (take n ss)) (sym whole) ∙ drop-take i m ss in
    subst (BeginBy t) same (begin_drop t i (take j ss) (begin_front t ss))

begin_weaker : (t u : ℕ) (ss : List Span) → t ≤ u → BeginBy t ss → BeginBy u ss
begin_weaker t u ss h all = all_weaker (λ s. s.first ≤ t) (λ s. s.first ≤ u) ss (λ s k. omega arith) all

-- of the spans that a relock touches the first alone leaves a part below the range, and the last alone one past it
pub relocked_touched : (ss : List Span) (f l t : ℕ) (mode : Option Mode) → f ≤ l → l ≤ t → t ≤ l + 1 → IsCanonical ss → relocked (touched (f - 1) t ss) f l mode ≡ runs (option_to_list (left_part f (touched (f - 1) t ss)) ++ (asked f l mode ++ option_to_list (right_part l (touched (f - 1) t ss))))
unfolding relocked
relocked_touched ss f l t mode h k u c =
    let some = touched (f - 1) t ss in
    let chain = touched_chain (f - 1) t ss c in
    let n = prefix_len (begins_by t) ss - prefix_len (ends_before (f - 1)) ss in
    let left = left_is f 0 some chain (reaches_take (f - 1) n (drop (prefix_len (ends_before (f - 1)) ss) ss) (reaches_rest (f - 1) ss)) in
    let right = right_is l 0 some chain (begin_weaker t (l + 1) some u (touched_begin (f - 1) t ss (omega (arith, h, k)) c)) in
    (λ i. runs (left i ++ (asked f l mode ++ right i)))

-- where the byte past the range is at most n, or no span reaches n
pub rest_far : (ss : List Span) (l n t : ℕ) → l < n → t ≡ min (l + 1) (n - 1) → IsCanonical ss → EndsBelow n ss → IsChain (l + 2) (drop (prefix_len (begins_by t) ss) ss)
rest_far ss l n t h e c below =
    let chain = canonical_chain_all ss c in
    elim (cases_lt (l + 1) n) [
      | inl k ↦ let at : t + 1 ≡ l + 2 = omega (arith, e, k) in subst (λ lo. IsChain lo (drop (prefix_len (begins_by t) ss) ss)) at (chain_rest t 0 ss chain)
      | inr k ↦ let at : t + 1 ≡ n = omega (arith, e, k, h) in rw (no_rest t 0 ss chain (subst (λ m. EndsBelow m ss) (sym at) below)) tt
    ]

runs_one : (o : Option Span) → runs (option_to_list o) ≡ option_to_list o
runs_one None = refl
runs_one (Some s) = refl

runs_behind : (left : Option Span) (ss : List Span) → runs (option_to_list left ++ ss) ≡ joined_behind left (runs ss)
runs_behind None ss = refl
runs_behind (Some s) ss = refl

-- joining to the right first, and then to the left
pub listed_runs : (left right : Option Span) (m : Span) (grown : Span) (after : Option Span) (before : Option Span) (whole : Span) → grown ∷ option_to_list after ≡ joined m (option_to_list right) → ((rest : List Span) → option_to_list before ++ whole ∷ rest ≡ joined_behind left (grown ∷ rest)) → listed before (Some whole) after ≡ runs (listed left (Some m) right)
listed_runs left right m grown after before whole first second =
    second (option_to_list after)
    ∙ ap (joined_behind left) (first ∙ ap (joined m) (sym (runs_one right)))
    ∙ sym (runs_behind left (m ∷ option_to_list right))

-- the whole, from what the code's steps give
pub relocked_by_parts : (ss new : List Span) (f l t : ℕ) (mode : Option Mode) (middle a b c : Option Span) → f ≤ l → l ≤ t → t ≤ l + 1 → IsCanonical ss → IsChain (l + 2) (drop (prefix_len (begins_by t) ss) ss) → option_to_list middle ≡ asked f l mode → listed a b c ≡ runs (listed (left_part f (touched (f - 1) t ss)) middle (right_part l (touched (f - 1) t ss))) → new ≡ take (prefix_len (ends_before (f - 1)) ss) ss ++ (listed a b c ++ drop (prefix_len (begins_by t) ss) ss) → new ≡ relocked ss f l mode
relocked_by_parts ss new f l t mode middle a b c h k u canonical far is parts put =
    let some = touched (f - 1) t ss in
    let pieces : listed a b c ≡ relocked some f l mode = parts ∙ ap (λ ms. runs (option_to_list (left_part f some) ++ (ms ++ option_to_list (right_part l some)))) is ∙ sym (relocked_touched ss f l t mode h k u canonical) in
    put
    ∙ ap (λ ms. take (prefix_len (ends_before (f - 1)) ss) ss ++ (ms ++ drop (prefix_len (begins_by t) ss) ss)) pieces
    ∙ sym (relocked_in_place ss f l t mode h k canonical far)

-- where the last span ends, all end
pub ends_from_last : (n : ℕ) (ss : List Span) (s : Span) → IsCanonical ss → Some s ≡ slice_get ss (length ss - 1) → s.last < n → EndsBelow n ss
ends_from_last n [] s c is h = tt
ends_from_last n (x ∷ []) s c is h = (rw (sym (ap (λ (t : Span). t.last) (same_Some s x is))) h, tt)
ends_from_last n (x ∷ y ∷ ys) s c is h =
    let more : suc (suc (length ys)) - 1 ≡ suc (suc (length ys) - 1) = omega arith in
    let rest = ends_from_last n (y ∷ ys) s c.2 (rw more at is) h in
    (omega (arith, c.1.0, c.2.0, rest.0), rest)
