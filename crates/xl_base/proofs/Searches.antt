-- Laws of searches in a list: whether an element passes a test, the first that does, and what a function gives of each.
use Rattle.std.proofs.Common.{◌≡◌, Bool, true, false, Option, Some, None, inl, inr, List, [], ◌∷◌, refl, sym, ap, subst, ◌∙◌}
use Rattle.std.specs.Prelude.{IsSome, IfSome}
use Rattle.std.specs.List.{find, filter_map, cons_option, list_any, AllByRecursion}
use Rattle.std.proofs.lemmas.Bool.{cases_Bool, both_ways, or_cases, or_left, or_right, or_parts}
use Rattle.xl_base.specs.Lists.{IsIn}
use Rattle.xl_base.proofs.Members.{all_from}

-- an element that passes
pub any_found : {A : Type 0} (p : A → Bool) (xs : List A) → list_any p xs ≡ true → (x : A) × IsIn x xs × (p x ≡ true)
any_found p [] h = absurd (both_ways false refl h)
any_found p (x ∷ xs) h =
    elim (or_cases (p x) (list_any p xs) h) [
      | inl here ↦ (x, inl refl, here)
      | inr later ↦ let found = any_found p xs later in (found.0, inr found.1, found.2)
    ]

pub any_from : {A : Type 0} (p : A → Bool) (x : A) (xs : List A) → IsIn x xs → p x ≡ true → list_any p xs ≡ true
any_from p x [] h passes = absurd h
any_from p x (y ∷ ys) h passes =
    elim h [
      | inl e ↦ or_left (p y) (list_any p ys) (ap p e ∙ passes)
      | inr t ↦ or_right (p y) (list_any p ys) (any_from p x ys t passes)
    ]

-- no element passes
pub none_passes : {A : Type 0} (p : A → Bool) (x : A) (xs : List A) → list_any p xs ≡ false → IsIn x xs → p x ≡ false
none_passes p x [] h i = absurd i
none_passes p x (y ∷ ys) h i =
    let parts = or_parts (p y) (list_any p ys) h in
    elim i [ inl e ↦ ap p (sym e) ∙ parts.0 | inr t ↦ none_passes p x ys parts.1 t ]

pub any_none : {A : Type 0} (p : A → Bool) (xs : List A) → ((x : A) → IsIn x xs → p x ≡ false) → list_any p xs ≡ false
any_none p xs each =
    elim (cases_Bool (list_any p xs)) [
      | inl some ↦ let found = any_found p xs some in absurd (both_ways (p found.0) (each found.0 found.1) found.2)
      | inr none ↦ none
    ]

-- the first that passes is in the list, and passes
pub find_in : {A : Type 0} (p : A → Bool) (xs : List A) → IfSome (find p xs) (λ x. IsIn x xs × (p x ≡ true))
find_in p [] = tt
find_in {A = A} p (x ∷ xs) =
    elim (cases_Bool (p x)) [
      | inl here ↦ rw here (inl refl, here)
      | inr other ↦ rw other (later (find p xs) (find_in p xs))
    ]
  where
    later : (found : Option A) → IfSome found (λ y. IsIn y xs × (p y ≡ true)) → IfSome found (λ y. IsIn y (x ∷ xs) × (p y ≡ true))
    later None h = tt
    later (Some y) h = (inr h.0, h.1)

-- where one passes, one is found
pub find_some : {A : Type 0} (p : A → Bool) (x : A) (xs : List A) → IsIn x xs → p x ≡ true → IsSome (find p xs)
find_some p x [] h passes = absurd h
find_some p x (y ∷ ys) h passes =
    elim (cases_Bool (p y)) [
      | inl here ↦ rw here refl
      | inr other ↦
          rw other
          (elim h [
            | inl e ↦ absurd (both_ways (p y) other (ap p e ∙ passes))
            | inr t ↦ find_some p x ys t passes
          ])
    ]

-- where none is found, none passes
pub none_found : {A : Type 0} (p : A → Bool) (xs : List A) → find p xs ≡ None → AllByRecursion (λ x. p x ≡ false) xs
none_found {A = A} p xs none =
    all_from (λ x. p x ≡ false) xs
    (λ x i.
    elim (cases_Bool (p x)) [
      | inl passes ↦ absurd (both_ways false refl (subst (λ (o : Option A). IsSome o) none (find_some p x xs i passes)))
      | inr fails ↦ fails
    ])

pub in_filter_map : {A B : Type 0} (f : A → Option B) (x : A) (y : B) (xs : List A) → IsIn x xs → f x ≡ Some y → IsIn y (filter_map f xs)
in_filter_map f x y [] h is = absurd h
in_filter_map {B = B} f x y (z ∷ zs) h is =
    elim h [
      | inl e ↦ let at : f z ≡ Some y = ap f e ∙ is in rw at (inl refl)
      | inr t ↦ behind (f z) (in_filter_map f x y zs t is)
    ]
  where
    behind : (o : Option B) → IsIn y (filter_map f zs) → IsIn y (cons_option o (filter_map f zs))
    behind None i = i
    behind (Some w) i = inr i

-- where an element comes from
pub in_filter_map_from : {A B : Type 0} (f : A → Option B) (y : B) (xs : List A) → IsIn y (filter_map f xs) → (x : A) × IsIn x xs × (f x ≡ Some y)
in_filter_map_from f y [] h = absurd h
in_filter_map_from {A = A} {B = B} f y (x ∷ xs) h = by (f x) refl (in_filter_map_from f y xs) h where
  by : (o : Option B) → f x ≡ o → (IsIn y (filter_map f xs) → (z : A) × IsIn z xs × (f z ≡ Some y)) → IsIn y (cons_option o (filter_map f xs)) → (z : A) × IsIn z (x ∷ xs) × (f z ≡ Some y)
  by None is rest i = let found = rest i in (found.0, inr found.1, found.2)
  by (Some w) is rest i =
      elim i [
        | inl e ↦ (x, inl refl, is ∙ ap Some e)
        | inr t ↦ let found = rest t in (found.0, inr found.1, found.2)
      ]
