-- A name has one number.
use Rattle.std.proofs.Common.{◌≡◌, ℕ, ◌+◌, zero, suc, Bool, true, false, cond, if◌then◌else◌, ltb, ◌&&◌, ◌↔◌, List, [], ◌∷◌, ◌++◌, length, slice_get, Some, None, refl, sym, ap, ◌∙◌, inl, inr, arith}
use Rattle.std.proofs.Math.Numerals.{one-add}
use Rattle.std.specs.Prelude.{bytes_eq}
use Rattle.std.specs.List.{list_any, position_or_len}
use Rattle.std.specs.Ordering.{int_eq}
use Rattle.std.specs.Cmp.Lexicographic.{bytes_decides}
use Rattle.std.proofs.lemmas.Bool.{cases_Bool, and_parts, and_from, or_parts, or_from, or_left, or_right, false_from_ne_true, false≢true, true≢false, lt-ltb}
use Rattle.std.proofs.lemmas.Bool.Decides.{Decides-int_eq, nat_tests}
use Rattle.std.proofs.lemmas.List.Folds.{list_any-append}
use Rattle.std.proofs.lemmas.Option.{same_Some}
use Rattle.xl_names.specs.declared.name.Name.{Name}
use Rattle.xl_names.specs.declared.name.Name.TheVariants.{NlmRange, NlmShare, NlmParty, NfsRange, NfsShare, NfsParty, SmbLease}
use Rattle.xl_names.specs.contracts.name.NamePartialEq.TheImpl.{eq-value}
use Rattle.xl_names.specs.Names.{same_name, number_of, is_kept, entered, place_of, AreDistinct}

bytes_are : (a b : List ℕ) → bytes_eq a b ≡ true → a ≡ b
bytes_are a b h = (bytes_decides a b).0 h

bytes_self : (a : List ℕ) → bytes_eq a a ≡ true
bytes_self a = (bytes_decides a a).1 refl

two_are : (a b c d : List ℕ) → (bytes_eq a c && bytes_eq b d) ≡ true → (a ≡ c) × (b ≡ d)
two_are a b c d h = let both = and_parts (bytes_eq a c) (bytes_eq b d) h in (bytes_are a c both.0, bytes_are b d both.1)

pub same_name_is : (a b : Name) → same_name a b ≡ true → a ≡ b
same_name_is (NlmRange a n b) (NlmRange c m d) h =
    let both = and_parts (bytes_eq a c) (int_eq n m && bytes_eq b d) h in
    let rest = and_parts (int_eq n m) (bytes_eq b d) both.1 in
    λ i. NlmRange (bytes_are a c both.0 i) ((Decides-int_eq n m).0 rest.0 i) (bytes_are b d rest.1 i)
same_name_is (NlmShare a b) (NlmShare c d) h = let both = two_are a b c d h in λ i. NlmShare (both.0 i) (both.1 i)
same_name_is (NlmParty a) (NlmParty b) h = ap NlmParty (bytes_are a b h)
same_name_is (NfsRange a b) (NfsRange c d) h = let both = two_are a b c d h in λ i. NfsRange (both.0 i) (both.1 i)
same_name_is (NfsShare a b) (NfsShare c d) h = let both = two_are a b c d h in λ i. NfsShare (both.0 i) (both.1 i)
same_name_is (NfsParty a) (NfsParty b) h = ap NfsParty (bytes_are a b h)
same_name_is (SmbLease a b) (SmbLease c d) h = let both = two_are a b c d h in λ i. SmbLease (both.0 i) (both.1 i)
same_name_is a b h = absurd (false≢true h)

two_self : (a b : List ℕ) → (bytes_eq a a && bytes_eq b b) ≡ true
two_self a b = and_from (bytes_eq a a) (bytes_eq b b) (bytes_self a) (bytes_self b)

pub same_name_self : (a : Name) → same_name a a ≡ true
same_name_self (NlmRange a n b) = and_from (bytes_eq a a) (int_eq n n && bytes_eq b b) (bytes_self a) (and_from (int_eq n n) (bytes_eq b b) ((Decides-int_eq n n).1 refl) (bytes_self b))
same_name_self (NlmShare a b) = two_self a b
same_name_self (NlmParty a) = bytes_self a
same_name_self (NfsRange a b) = two_self a b
same_name_self (NfsShare a b) = two_self a b
same_name_self (NfsParty a) = bytes_self a
same_name_self (SmbLease a b) = two_self a b

-- an element passes a test where the first place that does is within the list
one_more : (k n : ℕ) → ltb (1 + k) (suc n) ≡ ltb k n
one_more k n = grind (arith, nat_tests)

none_before : (n : ℕ) → true ≡ ltb 0 (suc n)
none_before n = sym (lt-ltb 0 (suc n) (omega arith))

any_within : (p : Name → Bool) (ns : List Name) → list_any p ns ≡ ltb (position_or_len p ns) (length ns)
any_within p [] = refl
any_within p (n ∷ ns) =
    elim (cases_Bool (p n)) [
      | inl h ↦ rw h (none_before (length ns))
      | inr h ↦ rw h (any_within p ns ∙ sym (one_more (position_or_len p ns) (length ns)))
    ]

-- a name's number is its place, where it is kept
pub number_is : (name : Name) (ns : List Name) → number_of name ns ≡ (cond (is_kept name ns) (Some (place_of name ns)) None)
number_is name ns = rw (any_within (same_name name) ns) refl

pub kept_from_number : (name : Name) (ns : List Name) (i : ℕ) → number_of name ns ≡ Some i → (is_kept name ns ≡ true) × (place_of name ns ≡ i)
kept_from_number name ns i h =
    elim (cases_Bool (is_kept name ns)) [
      | inl kept ↦ (kept, same_Some (place_of name ns) i (sym (rw kept at (number_is name ns)) ∙ h))
      | inr new ↦ let none : None ≡ Some i = sym (rw new at (number_is name ns)) ∙ h in absurd cc
    ]

pub new_from_none : (name : Name) (ns : List Name) → number_of name ns ≡ None → is_kept name ns ≡ false
new_from_none name ns h =
    elim (cases_Bool (is_kept name ns)) [
      | inl kept ↦ let none : Some (place_of name ns) ≡ None = sym (rw kept at (number_is name ns)) ∙ h in absurd cc
      | inr new ↦ new
    ]

pub place_new : (name : Name) (ns : List Name) → is_kept name ns ≡ false → place_of name ns ≡ length ns
place_new name [] h = refl
place_new name (n ∷ ns) h =
    let parts = or_parts (same_name name n) (is_kept name ns) h in
    rw parts.0 (omega (arith, place_new name ns parts.1))

pub same_name_sym : (a b : Name) → same_name a b ≡ false → same_name b a ≡ false
same_name_sym a b h =
    false_from_ne_true (same_name b a) (λ e. true≢false (sym (same_name_self a) ∙ ap (same_name a) (sym (same_name_is b a e)) ∙ h))

-- names at two places differ
pub distinct_push : (ns : List Name) (name : Name) → AreDistinct ns → is_kept name ns ≡ false → AreDistinct (ns ++ name ∷ [])
distinct_push [] name ok new = (refl, tt)
distinct_push (n ∷ ns) name ok new =
    let apart = or_parts (same_name name n) (is_kept name ns) new in
    let last : is_kept n (name ∷ []) ≡ false = or_from (same_name n name) false (same_name_sym name n apart.0) refl in
    (list_any-append (same_name n) ns (name ∷ []) ∙ or_from (is_kept n ns) (is_kept n (name ∷ [])) ok.0 last, distinct_push ns name ok.1 apart.1)

here : (name n : Name) → name ≡ n → same_name name n ≡ true
here name n e = ap (same_name name) (sym e) ∙ same_name_self name

pub kept_at : (ns : List Name) (name : Name) (i : ℕ) → slice_get ns i ≡ Some name → is_kept name ns ≡ true
kept_at [] name i h = cc
kept_at (n ∷ ns) name zero h = or_left (same_name name n) (is_kept name ns) (here name n (sym (same_Some n name h)))
kept_at (n ∷ ns) name (suc i) h = or_right (same_name name n) (is_kept name ns) (kept_at ns name i h)

place_at : (ns : List Name) (name : Name) (i : ℕ) → AreDistinct ns → slice_get ns i ≡ Some name → place_of name ns ≡ i
place_at [] name i ok h = cc
place_at (n ∷ ns) name zero ok h = rw (here name n (sym (same_Some n name h))) refl
place_at (n ∷ ns) name (suc i) ok h =
    let other : same_name name n ≡ false = false_from_ne_true (same_name name n) (λ e. true≢false (sym (kept_at ns name i h) ∙ ap (λ m. is_kept m ns) (same_name_is name n e) ∙ ok.0)) in
    rw (other, one-add) (ap suc (place_at ns name i ok.1 h))

-- of distinct names each has its place for a number
pub number_at : (ns : List Name) (name : Name) (i : ℕ) → AreDistinct ns → slice_get ns i ≡ Some name → number_of name ns ≡ Some i
number_at ns name i ok h = number_is name ns ∙ rw (kept_at ns name i h) (ap Some (place_at ns name i ok h))

-- where a name is kept it stands at its place
get_place : (ns : List Name) (name : Name) → is_kept name ns ≡ true → slice_get ns (place_of name ns) ≡ Some name
get_place [] name h = absurd (false≢true h)
get_place (n ∷ ns) name h =
    elim (cases_Bool (same_name name n)) [
      | inl e ↦ rw e (ap Some (sym (same_name_is name n e)))
      | inr e ↦ rw (e, one-add) (get_place ns name (rw e at h))
    ]

pub name_at : (ns : List Name) (name : Name) (i : ℕ) → number_of name ns ≡ Some i → slice_get ns i ≡ Some name
name_at ns name i h =
    let kept = kept_from_number name ns i h in
    ap (slice_get ns) (sym kept.1) ∙ get_place ns name kept.0

-- two names have one number exactly where they are equal
pub one_number : (ns : List Name) (a b : Name) (i : ℕ) → number_of a ns ≡ Some i → (number_of b ns ≡ Some i) ↔ (b ≡ a)
one_number ns a b i h = (
  λ k. same_Some b a (sym (name_at ns b i k) ∙ name_at ns a i h),
  λ e. ap (λ n. number_of n ns) e ∙ h,
)

-- a name that comes has its number from then on, and those before it keep theirs
push_place : (ns : List Name) (name m : Name) → is_kept m ns ≡ true → (is_kept m (ns ++ name ∷ []) ≡ true) × (place_of m (ns ++ name ∷ []) ≡ place_of m ns)
push_place [] name m h = absurd (false≢true h)
push_place (n ∷ ns) name m h =
    elim (cases_Bool (same_name m n)) [
      | inl e ↦ rw e (refl, refl)
      | inr e ↦ let rest = push_place ns name m (rw e at h) in rw e (rest.0, ap (λ k. 1 + k) rest.1)
    ]

push_new : (ns : List Name) (name : Name) → is_kept name ns ≡ false → (is_kept name (ns ++ name ∷ []) ≡ true) × (place_of name (ns ++ name ∷ []) ≡ length ns)
push_new [] name h = rw (same_name_self name) (refl, refl)
push_new (n ∷ ns) name h =
    let parts = or_parts (same_name name n) (is_kept name ns) h in
    let rest = push_new ns name parts.1 in
    rw parts.0 (rest.0, one-add (place_of name (ns ++ name ∷ [])) ∙ ap suc rest.1)

pub number_stays : (ns : List Name) (name m : Name) (i : ℕ) → number_of m ns ≡ Some i → number_of m (entered name ns) ≡ Some i
number_stays ns name m i h =
    let kept = kept_from_number m ns i h in
    elim (cases_Bool (is_kept name ns)) [
      | inl e ↦ rw e h
      | inr e ↦ let push = push_place ns name m kept.0 in rw e (number_is m (ns ++ name ∷ []) ∙ rw push.0 (ap Some (push.1 ∙ kept.1)))
    ]

pub number_entered : (ns : List Name) (name : Name) → number_of name (entered name ns) ≡ Some (place_of name ns)
number_entered ns name =
    elim (cases_Bool (is_kept name ns)) [
      | inl e ↦ rw e (number_is name ns ∙ rw e refl)
      | inr e ↦ let push = push_new ns name e in rw e (number_is name (ns ++ name ∷ []) ∙ rw push.0 (ap Some (push.1 ∙ sym (place_new name ns e))))
    ]

pub distinct_entered : (ns : List Name) (name : Name) → AreDistinct ns → AreDistinct (entered name ns)
distinct_entered ns name ok =
    elim (cases_Bool (is_kept name ns)) [
      | inl e ↦ rw e ok
      | inr e ↦ rw e (distinct_push ns name ok e)
    ]

-- the test of the derived comparison is the definition
pub eq_is : (a b : Name) → (eq-value).it a b ≡ same_name a b
eq_is (NlmRange a n b) (NlmRange c m d) = refl
eq_is (NlmShare a b) (NlmShare c d) = refl
eq_is (NlmParty a) (NlmParty b) = refl
eq_is (NfsRange a b) (NfsRange c d) = refl
eq_is (NfsShare a b) (NfsShare c d) = refl
eq_is (NfsParty a) (NfsParty b) = refl
eq_is (SmbLease a b) (SmbLease c d) = refl
eq_is a b = refl

pub eq_tests : (name : Name) → (eq-value).it name ≡ same_name name
eq_tests name = λ i other. eq_is name other i

-- what a set makes of a new name
pub added : (new ns : List Name) (name : Name) → is_kept name ns ≡ false → new ≡ (if list_any ((eq-value).it name) ns then ns else ns ++ name ∷ []) → new ≡ ns ++ name ∷ []
added new ns name fresh is =
    is ∙ ap (λ p. if list_any p ns then ns else ns ++ name ∷ []) (eq_tests name) ∙ rw fresh refl

pub added_place : (k : ℕ) (ns : List Name) (name : Name) → is_kept name ns ≡ false → k ≡ position_or_len ((eq-value).it name) ns → k ≡ length ns
added_place k ns name fresh is = is ∙ ap (λ p. position_or_len p ns) (eq_tests name) ∙ place_new name ns fresh

pub same_is_equal : (a b : Name) → (same_name a b ≡ true) ↔ (a ≡ b)
same_is_equal a b = (same_name_is a b, λ e. here a b e)

pub number_place : (ns : List Name) (name : Name) (i : ℕ) → AreDistinct ns → (number_of name ns ≡ Some i) ↔ (slice_get ns i ≡ Some name)
number_place ns name i ok = (name_at ns name i, number_at ns name i ok)

-- a new name's number
pub number_pushed : (new ns : List Name) (name : Name) (k : ℕ) → is_kept name ns ≡ false → new ≡ ns ++ name ∷ [] → k ≡ length ns → number_of name new ≡ Some k
number_pushed new ns name k fresh is at =
    let push = push_new ns name fresh in
    ap (number_of name) is ∙ number_is name (ns ++ name ∷ []) ∙ rw push.0 (ap Some (push.1 ∙ sym at))
