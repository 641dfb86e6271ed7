-- What an unlock takes out of the list of an open's elements is what it takes out of the claims.
use Rattle.std.proofs.Common.{◌≡◌, ℕ, ◌+◌, ◌-◌, ◌^◌, suc, Bool, true, false, not, ◌&&◌, ◌==◌, nat_le, nat_lt, List, [], ◌∷◌, ◌++◌, length, Option, Some, None, is_some, refl, sym, ap, subst, ◌∙◌, inl, inr, arith}
use Rattle.std.specs.List.{AllByRecursion, filter, find, list_any, position, position_or_len, slice_get}
use Rattle.std.specs.Option.{option_or}
use Rattle.std.proofs.lemmas.Bool.{cases_Bool, both_ways, and_parts, or_parts, true≢false}
use Rattle.std.proofs.lemmas.Bool.Decides.{nat_tests}
use Rattle.std.proofs.lemmas.List.{append_assoc}
use Rattle.std.proofs.lemmas.List.Folds.{find_at}
use Rattle.std.proofs.lemmas.Option.{same_Some}
use Rattle.xl_base.specs.declared.name.Owner.{Owner}
use Rattle.xl_exact.specs.Elements.{has_range, is_exclusive_at, place_unlocked}
use Rattle.xl_exact.specs.declared.element.Element.{Element}
use Rattle.xl_matrix.specs.Equal.{same_flag, same_what}
use Rattle.xl_matrix.specs.Owners.{posix}
use Rattle.xl_matrix.specs.declared.claim.Claim.{Claim}
use Rattle.xl_matrix.specs.declared.claim.Extent.{Extent}
use Rattle.xl_matrix.specs.declared.claim.Extent.TheVariants.{Bytes, Empty}
use Rattle.xl_matrix.specs.declared.claim.What.{What}
use Rattle.xl_matrix.specs.declared.claim.What.TheVariants.{Share, Range, Cache}
use Rattle.xl_table.specs.Elements.{element_held}
use Rattle.xl_table.specs.Exact.{is_counted, element_of, with_element, elements_in, AreElements, first_unlocked}
use Rattle.xl_table.specs.Held.{is_range, is_real_by, is_real, IsKept}
use Rattle.xl_table.specs.Relock.{is_range_of}
use Rattle.xl_table.proofs.ElementLaws.{own_parts, what_is}

-- ---- the list is read

pub elements_more : (out new rest whole : List Element) (o : Option Element) → new ≡ out ++ with_element o [] → out ++ with_element o rest ≡ whole → new ++ rest ≡ whole
elements_more out new rest whole o e is = ap (λ (es : List Element). es ++ rest) e ∙ append_assoc out (with_element o []) rest ∙ ap (λ (es : List Element). out ++ es) (front o) ∙ is where
  front : (o : Option Element) → with_element o [] ++ rest ≡ with_element o rest
  front None = refl
  front (Some x) = refl

-- ---- equal ranges

none_some : {A : Type 0} {x : A} → None ≡ Some x → ⊥
none_some h = cc

bytes_are : (first last : ℕ) (exclusive : Bool) (e : Element) → element_of (Range (Bytes first last) exclusive) ≡ Some e → (record { first = first; len = last - first + 1; exclusive = exclusive } ≡ e) × (nat_le first last ≡ true)
bytes_are first last exclusive e is =
    elim (cases_Bool (is_counted first last)) [
      | inr none ↦ absurd (none_some (rw none at is))
      | inl counted ↦ (same_Some (record { first = first; len = last - first + 1; exclusive = exclusive }) e (rw counted at is), (and_parts (nat_le first last) (not ((first == 0) && (last == 2 ^ 64 - 1))) counted).0)
    ]

both_bytes : (f l g k : ℕ) → nat_le f l ≡ true → nat_le g k ≡ true → ((f == g) && (l == k)) ≡ ((f == g) && (l - f + 1 == k - g + 1))
both_bytes f l g k x y = grind (arith, nat_tests)

first_bytes : (f l g : ℕ) → false ≡ ((f == g) && (l - f + 1 == 0))
first_bytes f l g = grind (arith, nat_tests)

second_bytes : (f g k : ℕ) → false ≡ ((f == g) && (0 == k - g + 1))
second_bytes f g k = grind (arith, nat_tests)

no_bytes : (f g : ℕ) → (f == g) ≡ ((f == g) && (0 == 0))
no_bytes f g = grind (arith, nat_tests)

-- what is claimed is this range where its element is
same_range : (v : What) (extent : Extent) (m : Bool) (a b : Element) → element_of v ≡ Some a → element_of (Range extent false) ≡ Some b → same_what v (Range extent m) ≡ (has_range b.first b.len a && same_flag a.exclusive m)
unfolding same_what
same_range (Share access deny) extent m a b is at = absurd (none_some is)
same_range (Cache kind running) extent m a b is at = absurd (none_some is)
same_range (Range (Bytes f l) x) (Bytes g k) m a b is at =
    let p = bytes_are f l x a is in
    let q = bytes_are g k false b at in
    subst (λ (e : Element). ((f == g) && (l == k) && same_flag x m) ≡ (has_range b.first b.len e && same_flag e.exclusive m)) p.0
    (subst (λ (e : Element). (((f == g) && (l == k)) && same_flag x m) ≡ (((f == e.first) && (l - f + 1 == e.len)) && same_flag x m)) q.0 (ap (λ (t : Bool). t && same_flag x m) (both_bytes f l g k p.1 q.1)))
same_range (Range (Bytes f l) x) (Empty g) m a b is at =
    let p = bytes_are f l x a is in
    subst (λ (e : Element). false ≡ (has_range b.first b.len e && same_flag e.exclusive m)) p.0
    (subst (λ (e : Element). false ≡ (((f == e.first) && (l - f + 1 == e.len)) && same_flag x m)) (same_Some (record { first = g; len = 0; exclusive = false }) b at) (ap (λ (t : Bool). t && same_flag x m) (first_bytes f l g)))
same_range (Range (Empty f) x) (Bytes g k) m a b is at =
    let q = bytes_are g k false b at in
    subst (λ (e : Element). false ≡ (has_range b.first b.len e && same_flag e.exclusive m)) (same_Some (record { first = f; len = 0; exclusive = x }) a is)
    (subst (λ (e : Element). false ≡ (((f == e.first) && (0 == e.len)) && same_flag x m)) q.0 (ap (λ (t : Bool). t && same_flag x m) (second_bytes f g k)))
same_range (Range (Empty f) x) (Empty g) m a b is at =
    subst (λ (e : Element). ((f == g) && same_flag x m) ≡ (has_range b.first b.len e && same_flag e.exclusive m)) (same_Some (record { first = f; len = 0; exclusive = x }) a is)
    (subst (λ (e : Element). ((f == g) && same_flag x m) ≡ (((f == e.first) && (0 == e.len)) && same_flag x m)) (same_Some (record { first = g; len = 0; exclusive = false }) b at) (ap (λ (t : Bool). t && same_flag x m) (no_bytes f g)))

pub flag_true : (b : Bool) → same_flag b true ≡ b
flag_true true = refl
flag_true false = refl

pub flag_false : (h b : Bool) → (h && b) ≡ false → (h && same_flag b false) ≡ h
flag_false true true none = absurd (true≢false none)
flag_false true false none = refl
flag_false false b none = refl

-- ---- places in the two lists

-- the test of a claim is that of its element
abbrev Alike : (Claim → Bool) → (Element → Bool) → Claim → Type 0
Alike p q c = (e : Element) × (element_of c.what ≡ Some e) × (q e ≡ p c)

places : (p : Claim → Bool) (q : Element → Bool) (cs : List Claim) → AllByRecursion (Alike p q) cs → (position_or_len q (elements_in cs) ≡ position_or_len p cs) × (length (elements_in cs) ≡ length cs)
places p q [] all = (refl, refl)
places p q (c ∷ cs) all =
    let rest = places p q cs all.1 in
    rw (all.0.1, all.0.2, rest.0, rest.1) (refl, refl)

same_place : (p : Claim → Bool) (q : Element → Bool) (cs : List Claim) → AllByRecursion (Alike p q) cs → position q (elements_in cs) ≡ position p cs
same_place p q cs all = let two = places p q cs all in rw (two.0, two.1) refl

is_within : {A : Type 0} → (p : A → Bool) (xs : List A) → nat_lt (position_or_len p xs) (length xs) ≡ list_any p xs
is_within p [] = refl
is_within p (x ∷ xs) = elim (cases_Bool (p x)) [ inl h ↦ rw h (some (length xs)) | inr h ↦ rw h (more (position_or_len p xs) (length xs) ∙ is_within p xs) ] where
  some : (n : ℕ) → nat_lt 0 (suc n) ≡ true
  some n = grind (arith, nat_tests)

  more : (i n : ℕ) → nat_lt (1 + i) (suc n) ≡ nat_lt i n
  more i n = grind (arith, nat_tests)

-- what stands at a place, where there is one
abbrev at_place : List Claim → Option ℕ → Option Claim
at_place cs None = None
at_place cs (Some i) = slice_get cs i

some_found : (p : Claim → Bool) (cs : List Claim) → is_some (find p cs) ≡ list_any p cs
some_found p [] = refl
some_found p (c ∷ cs) = elim (cases_Bool (p c)) [ inl h ↦ rw h refl | inr h ↦ rw h (some_found p cs) ]

none_of : (o : Option Claim) → is_some o ≡ false → o ≡ None
none_of None h = refl
none_of (Some c) h = absurd (true≢false h)

or_first : (o x : Option Claim) → is_some o ≡ true → o ≡ option_or o x
or_first (Some c) x h = refl
or_first None x h = absurd (true≢false (sym h))

no_place : {A : Type 0} → (p : A → Bool) (xs : List A) → position p xs ≡ None → list_any p xs ≡ false
no_place p xs is =
    elim (cases_Bool (list_any p xs)) [
      | inr none ↦ none
      | inl some ↦ absurd (none_some (sym (rw (is_within p xs ∙ some) at is)))
    ]

a_place : {A : Type 0} → (p : A → Bool) (xs : List A) (i : ℕ) → position p xs ≡ Some i → (list_any p xs ≡ true) × (position_or_len p xs ≡ i)
a_place p xs i is =
    elim (cases_Bool (list_any p xs)) [
      | inl some ↦ (some, same_Some (position_or_len p xs) i (rw (is_within p xs ∙ some) at is))
      | inr none ↦ absurd (none_some (rw (is_within p xs ∙ none) at is))
    ]

found_at : (p r : Claim → Bool) (cs : List Claim) → at_place cs (option_or (position p cs) (position r cs)) ≡ option_or (find p cs) (find r cs)
found_at p r cs = by (position p cs) refl where
  at : (q : Claim → Bool) (o : Option ℕ) → position q cs ≡ o → at_place cs o ≡ find q cs
  at q (Some i) is = ap (slice_get cs) (sym (a_place q cs i is).1) ∙ sym (find_at q cs)
  at q None is = sym (none_of (find q cs) (some_found q cs ∙ no_place q cs is))

  by : (o : Option ℕ) → position p cs ≡ o → at_place cs (option_or (position p cs) (position r cs)) ≡ option_or (find p cs) (find r cs)
  by (Some i) is =
      ap (λ (o : Option ℕ). at_place cs (option_or o (position r cs))) is ∙ at p (Some i) is
      ∙ or_first (find p cs) (find r cs) (some_found p cs ∙ (a_place p cs i is).0)
  by None is =
      ap (λ (o : Option ℕ). at_place cs (option_or o (position r cs))) is ∙ at r (position r cs) refl
      ∙ ap (λ (o : Option Claim). option_or o (find r cs)) (at p None is)

-- ---- an unlock

an_element : (o : Option Element) → is_some o ≡ true → (e : Element) × (o ≡ Some e)
an_element (Some e) h = (e, refl)
an_element None h = absurd (true≢false (sym h))

unlocked_at : (extent : Extent) (b : Element) (cs : List Claim) → AreElements cs → element_of (Range extent false) ≡ Some b → at_place cs (place_unlocked b.first b.len (elements_in cs)) ≡ first_unlocked extent cs
unlocked_at extent b cs all at =
    ap (at_place cs) (by (position alone es) refl) ∙ found_at (λ c. same_what c.what (Range extent true)) (λ c. same_what c.what (Range extent false)) cs
  where
    es : List Element
    es = elements_in cs

    alone : Element → Bool
    alone = is_exclusive_at b.first b.len

    exclusive : (ds : List Claim) → AreElements ds → AllByRecursion (Alike (λ c. same_what c.what (Range extent true)) alone) ds
    exclusive [] each = tt
    exclusive (d ∷ ds) each =
        let e = an_element (element_of d.what) each.0 in
        ((e.0, e.1, sym (same_range d.what extent true e.0 b e.1 at ∙ ap (λ (t : Bool). has_range b.first b.len e.0 && t) (flag_true e.0.exclusive))), exclusive ds each.1)

    shared : (ds : List Claim) → AreElements ds → list_any alone (elements_in ds) ≡ false → AllByRecursion (Alike (λ c. same_what c.what (Range extent false)) (has_range b.first b.len)) ds
    shared [] each none = tt
    shared (d ∷ ds) each none =
        let e = an_element (element_of d.what) each.0 in
        let two = or_parts (alone e.0) (list_any alone (elements_in ds)) (rw e.1 at none) in
        ((e.0, e.1, sym (same_range d.what extent false e.0 b e.1 at ∙ flag_false (has_range b.first b.len e.0) e.0.exclusive two.0)), shared ds each.1 two.1)

    first : position alone es ≡ position (λ c. same_what c.what (Range extent true)) cs
    first = same_place (λ c. same_what c.what (Range extent true)) alone cs (exclusive cs all)

    by : (o : Option ℕ) → position alone es ≡ o → place_unlocked b.first b.len es ≡ option_or (position (λ c. same_what c.what (Range extent true)) cs) (position (λ c. same_what c.what (Range extent false)) cs)
    by (Some i) is =
        ap (λ (o : Option ℕ). option_or o (position (has_range b.first b.len) es)) is
        ∙ sym (ap (λ (o : Option ℕ). option_or o (position (λ (c : Claim). same_what c.what (Range extent false)) cs)) (sym first ∙ is))
    by None is =
        ap (λ (o : Option ℕ). option_or o (position (has_range b.first b.len) es)) first
        ∙ ap (λ (o : Option ℕ). option_or (position (λ (c : Claim). same_what c.what (Range extent true)) cs) o) (same_place (λ c. same_what c.what (Range extent false)) (has_range b.first b.len) cs (shared cs all (no_place alone es is)))

-- the claim at the place that the list tells
pub unlocked_there : (extent : Extent) (b : Element) (cs : List Claim) (es : List Element) (o : Option ℕ) (i : ℕ) (out : Option Claim) → AreElements cs → element_of (Range extent false) ≡ Some b → es ≡ elements_in cs → o ≡ place_unlocked b.first b.len es → o ≡ Some i → out ≡ slice_get cs i → out ≡ first_unlocked extent cs
unlocked_there extent b cs es o i out all at is place found got =
    got ∙ ap (at_place cs) (sym found ∙ place ∙ ap (λ (xs : List Element). place_unlocked b.first b.len xs) is) ∙ unlocked_at extent b cs all at

pub unlocked_nowhere : (extent : Extent) (b : Element) (cs : List Claim) (es : List Element) (o : Option ℕ) → AreElements cs → element_of (Range extent false) ≡ Some b → es ≡ elements_in cs → o ≡ place_unlocked b.first b.len es → o ≡ None → None ≡ first_unlocked extent cs
unlocked_nowhere extent b cs es o all at is place none =
    ap (at_place cs) (sym none ∙ place ∙ ap (λ (xs : List Element). place_unlocked b.first b.len xs) is) ∙ unlocked_at extent b cs all at

-- a range that is no element is among no elements
pub none_unlocked : (extent : Extent) (cs : List Claim) → AreElements cs → element_of (Range extent false) ≡ None → None ≡ first_unlocked extent cs
none_unlocked extent cs all none = sym (ap (λ (o : Option Claim). option_or o (find (λ c. same_what c.what (Range extent false)) cs)) (go true cs all) ∙ go false cs all) where
  by : (place : Extent) (m : Bool) → is_some (element_of (Range place m)) ≡ is_some (element_of (Range place false))
  by (Empty offset) m = refl
  by (Bytes first last) m = elim (cases_Bool (is_counted first last)) [ inl h ↦ rw h refl | inr h ↦ rw h refl ]

  go : (m : Bool) (ds : List Claim) → AreElements ds → find (λ c. same_what c.what (Range extent m)) ds ≡ None
  go m [] each = refl
  go m (d ∷ ds) each =
      elim (cases_Bool (same_what d.what (Range extent m))) [
        | inr other ↦ rw other (go m ds each.1)
        | inl same ↦
            let is : is_some (element_of d.what) ≡ false = ap (λ (w : What). is_some (element_of w)) (what_is d (Range extent m) same) ∙ by extent m ∙ ap (λ (o : Option Element). is_some o) none in
            absurd (both_ways (is_some (element_of d.what)) is each.0)
      ]

-- ---- an open's ranges on a file

-- each is an element
all_elements : (file : ℕ) (owner : Owner) (cs : List Claim) → AllByRecursion (λ c. is_real c ≡ true) cs → posix owner ≡ false → AreElements (filter (is_range_of file owner) cs)
all_elements file owner [] real unnamed = tt
all_elements file owner (c ∷ cs) real unnamed =
    elim (cases_Bool (is_range_of file owner c)) [
      | inr other ↦ rw other (all_elements file owner cs real.1 unnamed)
      | inl own ↦
          let parts = own_parts file owner c own in
          rw own (by c.what parts.2 (ap (λ (o : Owner). is_real_by o c.what) (sym parts.1) ∙ real.0), all_elements file owner cs real.1 unnamed)
    ]
  where
    by : (w : What) → is_range w ≡ true → is_real_by owner w ≡ true → is_some (element_of w) ≡ true
    by (Share access deny) h k = absurd (true≢false (sym h))
    by (Cache kind running) h k = absurd (true≢false (sym h))
    by (Range (Empty offset) exclusive) h k = refl
    by (Range (Bytes first last) exclusive) h k = let counted : is_counted first last ≡ true = rw unnamed at k in rw counted refl

pub opens_elements : (file : ℕ) (owner : Owner) (cs out : List Claim) → out ≡ filter (is_range_of file owner) cs → IsKept cs → posix owner ≡ false → AreElements out
opens_elements file owner cs out is kept unnamed = subst AreElements (sym is) (all_elements file owner cs kept.sound.real unnamed)

find_both : (q p : Claim → Bool) (cs : List Claim) → find p (filter q cs) ≡ find (λ c. q c && p c) cs
find_both q p [] = refl
find_both q p (c ∷ cs) = elim (cases_Bool (q c)) [
  | inr other ↦ rw other (find_both q p cs)
  | inl own ↦ elim (cases_Bool (p c)) [ inl here ↦ rw (own, here) refl | inr later ↦ rw (own, later) (find_both q p cs) ]
]

-- the first of them is the claim that is held
pub first_is_held : (ask : Claim) (extent : Extent) (cs out : List Claim) (found : Option Claim) → found ≡ first_unlocked extent out → out ≡ filter (is_range_of ask.file ask.owner) cs → found ≡ element_held ask extent cs
unfolding element_held
first_is_held ask extent cs out found e is =
    let q = is_range_of ask.file ask.owner in
    let both : first_unlocked extent (filter q cs) ≡ element_held ask extent cs =
    λ i. option_or (find_both q (λ c. same_what c.what (Range extent true)) cs i) (find_both q (λ c. same_what c.what (Range extent false)) cs i) in
    e ∙ ap (first_unlocked extent) is ∙ both
