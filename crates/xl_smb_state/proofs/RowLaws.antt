-- Laws of lists of rows under keys.
use Rattle.std.proofs.Common.{◌≡◌, ℕ, ◌+◌, ◌≤◌, Bool, true, false, eqb, cond, List, [], ◌∷◌, ◌++◌, Option, Some, None, length, refl, sym, ap, subst, ◌∙◌, inl, inr, arith, Result, Ok, Err}
use Rattle.std.specs.Prelude.{nat_eq}
use Rattle.std.specs.List.{AllByRecursion, list_any, filter_map, cons_option}
use Rattle.std.specs.Map.{lookup, remove_entry, set_value}
use Rattle.std.specs.Result.{OnOk, OnErr}
use Rattle.std.proofs.lemmas.Bool.{cases_Bool, true≢false}
use Rattle.std.proofs.lemmas.Bool.Decides.{nat_tests}
use Rattle.xl_smb_state.specs.State.{keys_where}

pub some_none : {A : Type 0} {x : A} → Some x ≡ None → ⊥
some_none h = cc

pub same_Some : {A : Type 0} {x y : A} → Some x ≡ Some y → x ≡ y
same_Some h = cc

pub none_some : {A : Type 0} {x : A} → None ≡ Some x → ⊥
none_some h = cc

pub equal_from : (k j : ℕ) → eqb k j ≡ true → j ≡ k
equal_from k j h = grind (arith, nat_tests)

pub unequal_both : (k j : ℕ) → eqb k j ≡ false → eqb j k ≡ false
unequal_both k j h = grind (arith, nat_tests)

pub equal_self : (k : ℕ) → eqb k k ≡ true
equal_self k = grind (arith, nat_tests)

-- what holds of both results of a call holds of what it left
pub on_result : {A E X : Type 0} (r : Result A E) (P : X → Type 0) (new old added : X) → OnOk r (new ≡ added) → OnErr r (new ≡ old) → P added → P old → P new
on_result (Ok x) P new old added ok err h k = subst P (sym ok) h
on_result (Err e) P new old added ok err h k = subst P (sym err) k

-- what holds of a row that is found holds where the same row is found
pub row_kept : {X : Type 0} (P : Option X → Type 0) (before after : Option X) → (P None → ⊥) → ((x : X) → before ≡ Some x → after ≡ Some x) → P before → P after
row_kept P None after never keeps h = absurd (never h)
row_kept P (Some x) after never keeps h = subst P (sym (keeps x refl)) h

pub all_both : {A : Type 0} (P Q R : A → Type 0) (xs : List A) → ((x : A) → P x → Q x → R x) → AllByRecursion P xs → AllByRecursion Q xs → AllByRecursion R xs
all_both P Q R [] step left right = tt
all_both P Q R (x ∷ xs) step left right = (step x left.0 right.0, all_both P Q R xs step left.1 right.1)

pub none_any : {A : Type 0} (test : A → Bool) (xs : List A) → list_any test xs ≡ false → AllByRecursion (λ x. test x ≡ false) xs
none_any test [] h = tt
none_any test (x ∷ xs) h =
    elim (cases_Bool (test x)) [
      | inl k ↦ absurd (true≢false (rw k at h))
      | inr k ↦ (k, none_any test xs (rw k at h))
    ]

all_front : {B : Type 0} (Q : B → Type 0) (o : Option B) (ys : List B) → ((y : B) → o ≡ Some y → Q y) → AllByRecursion Q ys → AllByRecursion Q (cons_option o ys)
all_front Q None ys step rest = rest
all_front Q (Some y) ys step rest = (step y refl, rest)

pub all_mapped : {A B : Type 0} (P : A → Type 0) (Q : B → Type 0) (f : A → Option B) (xs : List A) → ((x : A) (y : B) → P x → f x ≡ Some y → Q y) → AllByRecursion P xs → AllByRecursion Q (filter_map f xs)
all_mapped P Q f [] step all = tt
all_mapped P Q f (x ∷ xs) step all = all_front Q (f x) (filter_map f xs) (λ y e. step x y all.0 e) (all_mapped P Q f xs step all.1)

module _ {K X : Type 0} where
  -- where no row has the key, nothing is taken out
  pub none_out : (t : K → Bool) (es : List (K × X)) → lookup t es ≡ None → remove_entry t es ≡ es
  none_out t [] h = refl
  none_out t (e ∷ es) h =
      elim (cases_Bool (t e.0)) [
        | inl k ↦ absurd (some_none (rw k at h))
        | inr k ↦ rw k (ap (λ (fs : List (K × X)). e ∷ fs) (none_out t es (rw k at h)))
      ]

  pub all_removed : (P : K × X → Type 0) (t : K → Bool) (es : List (K × X)) → AllByRecursion P es → AllByRecursion P (remove_entry t es)
  all_removed P t [] all = tt
  all_removed P t (e ∷ es) all = elim (cases_Bool (t e.0)) [ inl k ↦ rw k all.1 | inr k ↦ rw k (all.0, all_removed P t es all.1) ]

  pub all_set : (P : K × X → Type 0) (t : K → Bool) (es : List (K × X)) (w : X) → ((k : K) → t k ≡ true → P (k, w)) → AllByRecursion P es → AllByRecursion P (set_value t es w)
  all_set P t [] w new all = tt
  all_set P t (e ∷ es) w new all = elim (cases_Bool (t e.0)) [ inl k ↦ rw k (new e.0 k, all.1) | inr k ↦ rw k (all.0, all_set P t es w new all.1) ]

  -- what holds of each row holds of the one that is found
  pub lookup_all : (P : X → Type 0) (t : K → Bool) (es : List (K × X)) (x : X) → AllByRecursion (λ e. P e.1) es → lookup t es ≡ Some x → P x
  lookup_all P t [] x all h = absurd (none_some h)
  lookup_all P t (e ∷ es) x all h =
      elim (cases_Bool (t e.0)) [
        | inl k ↦ subst P (same_Some (rw k at h)) all.0
        | inr k ↦ lookup_all P t es x all.1 (rw k at h)
      ]

  pub none_where : (test : X → Bool) (es : List (K × X)) → keys_where test es ≡ [] → AllByRecursion (λ e. test e.1 ≡ false) es
  none_where test [] h = tt
  none_where test (e ∷ es) h =
      elim (cases_Bool (test e.1)) [
        | inl k ↦ absurd (filled (rw k at h))
        | inr k ↦ (k, none_where test es (rw k at h))
      ]
    where
      filled : {k : K} {ks : List K} → k ∷ ks ≡ [] → ⊥
      filled e = cc

  -- a row that is found is found when another is added
  pub lookup_added : (t : K → Bool) (es fs : List (K × X)) (x : X) → lookup t es ≡ Some x → lookup t (es ++ fs) ≡ Some x
  lookup_added t [] fs x h = absurd (none_some h)
  lookup_added t (e ∷ es) fs x h = elim (cases_Bool (t e.0)) [ inl k ↦ rw k (rw k at h) | inr k ↦ rw k (lookup_added t es fs x (rw k at h)) ]

  -- ---- how many rows pass a test

  abbrev pub count : (X → Bool) → List (K × X) → ℕ
  count test es = length (keys_where test es)

  pub count_added : (test : X → Bool) (es : List (K × X)) (k : K) (x : X) → count test (es ++ (k, x) ∷ []) ≡ count test es + cond (test x) 1 0
  count_added test [] k x = elim (cases_Bool (test x)) [ inl h ↦ rw h refl | inr h ↦ rw h refl ]
  count_added test (e ∷ es) k x =
      elim (cases_Bool (test e.1)) [
        | inl h ↦ rw h (omega (arith, count_added test es k x))
        | inr h ↦ rw h (count_added test es k x)
      ]

  pub count_removed : (test : X → Bool) (t : K → Bool) (es : List (K × X)) → count test (remove_entry t es) ≤ count test es
  count_removed test t [] = omega arith
  count_removed test t (e ∷ es) =
      elim (cases_Bool (t e.0)) [
        | inl k ↦ elim (cases_Bool (test e.1)) [ inl h ↦ rw (k, h) (omega arith) | inr h ↦ rw (k, h) (omega arith) ]
        | inr k ↦ elim (cases_Bool (test e.1)) [
          | inl h ↦ rw (k, h) (omega (arith, count_removed test t es))
          | inr h ↦ rw (k, h) (count_removed test t es)
        ]
      ]

  pub count_set : (test : X → Bool) (t : K → Bool) (es : List (K × X)) (w : X) → count test (set_value t es w) ≤ count test (remove_entry t es) + cond (test w) 1 0
  count_set test t [] w = omega arith
  count_set test t (e ∷ es) w =
      elim (cases_Bool (t e.0)) [
        | inl k ↦ elim (cases_Bool (test w)) [ inl h ↦ rw (k, h) (omega arith) | inr h ↦ rw (k, h) (omega arith) ]
        | inr k ↦ elim (cases_Bool (test e.1)) [
          | inl h ↦ rw (k, h) (omega (arith, count_set test t es w))
          | inr h ↦ rw (k, h) (count_set test t es w)
        ]
      ]

  pub length_removed : (t : K → Bool) (es : List (K × X)) → length (remove_entry t es) ≤ length es
  length_removed t [] = omega arith
  length_removed t (e ∷ es) = elim (cases_Bool (t e.0)) [ inl k ↦ rw k (omega arith) | inr k ↦ rw k (omega (arith, length_removed t es)) ]

module _ {X : Type 0} where
  -- ---- rows under numbers

  pub lookup_removed : (k n : ℕ) (es : List (ℕ × X)) → eqb n k ≡ false → lookup (nat_eq k) (remove_entry (nat_eq n) es) ≡ lookup (nat_eq k) es
  lookup_removed k n [] apart = refl
  lookup_removed k n (e ∷ es) apart =
      elim (cases_Bool (eqb n e.0)) [
        | inl here ↦ let other : eqb k e.0 ≡ false = subst (λ j. eqb k j ≡ false) (sym (equal_from n e.0 here)) (unequal_both n k apart) in rw (here, other) refl
        | inr later ↦ rw later (ap (cond (eqb k e.0) (Some e.1)) (lookup_removed k n es apart))
      ]

  pub lookup_set : (k n : ℕ) (es : List (ℕ × X)) (w : X) → eqb n k ≡ false → lookup (nat_eq k) (set_value (nat_eq n) es w) ≡ lookup (nat_eq k) es
  lookup_set k n [] w apart = refl
  lookup_set k n (e ∷ es) w apart =
      elim (cases_Bool (eqb n e.0)) [
        | inl here ↦ let other : eqb k e.0 ≡ false = subst (λ j. eqb k j ≡ false) (sym (equal_from n e.0 here)) (unequal_both n k apart) in rw (here, other) refl
        | inr later ↦ rw later (ap (cond (eqb k e.0) (Some e.1)) (lookup_set k n es w apart))
      ]

  pub lookup_set_same : (n : ℕ) (es : List (ℕ × X)) (x w : X) → lookup (nat_eq n) es ≡ Some x → lookup (nat_eq n) (set_value (nat_eq n) es w) ≡ Some w
  lookup_set_same n [] x w h = absurd (none_some h)
  lookup_set_same n (e ∷ es) x w h =
      elim (cases_Bool (eqb n e.0)) [
        | inl here ↦
            ap (λ b. lookup (nat_eq n) (cond b ((e.0, w) ∷ es) (e ∷ set_value (nat_eq n) es w))) here
            ∙ ap (λ b. cond b (Some w) (lookup (nat_eq n) es)) here
        | inr later ↦
            ap (λ b. lookup (nat_eq n) (cond b ((e.0, w) ∷ es) (e ∷ set_value (nat_eq n) es w))) later
            ∙ ap (λ b. cond b (Some e.1) (lookup (nat_eq n) (set_value (nat_eq n) es w))) later
            ∙ lookup_set_same n es x w (rw later at h)
      ]
