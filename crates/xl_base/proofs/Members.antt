-- Laws of membership and of facts on each element.
use Rattle.std.proofs.Common.{◌≡◌, Bool, true, inl, inr, List, [], ◌∷◌, ◌++◌, map, refl, sym, ap, subst, ◌∙◌}
use Rattle.std.specs.List.{filter, AllByRecursion}
use Rattle.std.proofs.lemmas.Bool.{cases_Bool}
use Rattle.xl_base.specs.Lists.{IsIn, Pairwise}

pub in_append_left : {A : Type 0} (x : A) (xs ys : List A) → IsIn x xs → IsIn x (xs ++ ys)
in_append_left x [] ys h = absurd h
in_append_left x (z ∷ zs) ys h = elim h [ inl e ↦ inl e | inr t ↦ inr (in_append_left x zs ys t) ]

pub in_append_right : {A : Type 0} (x : A) (xs ys : List A) → IsIn x ys → IsIn x (xs ++ ys)
in_append_right x [] ys h = h
in_append_right x (z ∷ zs) ys h = inr (in_append_right x zs ys h)

pub in_map : {A B : Type 0} (f : A → B) (x : A) (xs : List A) → IsIn x xs → IsIn (f x) (map f xs)
in_map f x [] h = absurd h
in_map f x (y ∷ ys) h = elim h [ inl e ↦ inl (ap f e) | inr t ↦ inr (in_map f x ys t) ]

-- where an element of a map comes from
pub in_map_from : {A B : Type 0} (f : A → B) (y : B) (xs : List A) → IsIn y (map f xs) → (x : A) × IsIn x xs × (f x ≡ y)
in_map_from f y [] h = absurd h
in_map_from f y (x ∷ xs) h =
    elim h [
      | inl e ↦ (x, inl refl, e)
      | inr t ↦ let found = in_map_from f y xs t in (found.0, inr found.1, found.2)
    ]

pub in_filter : {A : Type 0} (p : A → Bool) (x : A) (xs : List A) → IsIn x xs → p x ≡ true → IsIn x (filter p xs)
in_filter p x [] h passes = absurd h
in_filter p x (y ∷ ys) h passes =
    elim h [
      | inl e ↦ let at : p y ≡ true = ap p e ∙ passes in rw at (inl e)
      | inr t ↦ elim (cases_Bool (p y)) [ inl holds ↦ rw holds (inr (in_filter p x ys t passes)) | inr fails ↦ rw fails (in_filter p x ys t passes) ]
    ]

pub in_filter_from : {A : Type 0} (p : A → Bool) (x : A) (xs : List A) → IsIn x (filter p xs) → IsIn x xs × (p x ≡ true)
in_filter_from p x [] h = absurd h
in_filter_from p x (y ∷ ys) h =
    elim (cases_Bool (p y)) [
      | inl holds ↦ elim (rw holds at h) [
        | inl e ↦ (inl e, ap p (sym e) ∙ holds)
        | inr t ↦ let rest = in_filter_from p x ys t in (inr rest.0, rest.1)
      ]
      | inr fails ↦ let rest = in_filter_from p x ys (rw fails at h) in (inr rest.0, rest.1)
    ]

-- what holds of each element holds of one
pub all_in : {A : Type 0} (P : A → Type 0) (x : A) (xs : List A) → AllByRecursion P xs → IsIn x xs → P x
all_in P x [] all h = absurd h
all_in P x (y ∷ ys) all h = elim h [ inl e ↦ subst P e all.0 | inr t ↦ all_in P x ys all.1 t ]

pub all_from : {A : Type 0} (P : A → Type 0) (xs : List A) → ((x : A) → IsIn x xs → P x) → AllByRecursion P xs
all_from P [] each = tt
all_from P (x ∷ xs) each = (each x (inl refl), all_from P xs (λ y h. each y (inr h)))

pub all_weaker : {A : Type 0} (P Q : A → Type 0) (xs : List A) → ((x : A) → P x → Q x) → AllByRecursion P xs → AllByRecursion Q xs
all_weaker P Q [] step all = tt
all_weaker P Q (x ∷ xs) step all = (step x all.0, all_weaker P Q xs step all.1)

pub all_append : {A : Type 0} (P : A → Type 0) (xs ys : List A) → AllByRecursion P xs → AllByRecursion P ys → AllByRecursion P (xs ++ ys)
all_append P [] ys left right = right
all_append P (x ∷ xs) ys left right = (left.0, all_append P xs ys left.1 right)

-- pairs of two lists, one behind the other
pub pairwise_append : {A : Type 0} (test : A → A → Bool) (xs ys : List A) → Pairwise test xs → Pairwise test ys → ((x y : A) → IsIn x xs → IsIn y ys → test x y ≡ true) → Pairwise test (xs ++ ys)
pairwise_append test [] ys left right across = right
pairwise_append test (x ∷ xs) ys left right across = (
  all_append (λ z. test x z ≡ true) xs ys left.0 (all_from (λ z. test x z ≡ true) ys (λ z h. across x z (inl refl) h)),
  pairwise_append test xs ys left.1 right (λ a b h k. across a b (inr h) k),
)

pub pairwise_filter : {A : Type 0} (test : A → A → Bool) (p : A → Bool) (xs : List A) → Pairwise test xs → Pairwise test (filter p xs)
pairwise_filter test p [] all = tt
pairwise_filter test p (x ∷ xs) all =
    elim (cases_Bool (p x)) [
      | inl holds ↦ rw holds (all_from (λ z. test x z ≡ true) (filter p xs) (λ z h. all_in (λ w. test x w ≡ true) z xs all.0 (in_filter_from p z xs h).0), pairwise_filter test p xs all.1)
      | inr fails ↦ rw fails (pairwise_filter test p xs all.1)
    ]
