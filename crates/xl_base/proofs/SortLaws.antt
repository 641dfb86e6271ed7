-- A list in order in which those that tie stand as before is the list sorted by insertion: so std's stable sort gives it.
use Rattle.std.proofs.Common.{◌≡◌, ℕ, suc, ◌+◌, Bool, true, false, not, ◌&&◌, if◌then◌else◌, inl, inr, ◌⊎◌, List, [], ◌∷◌, map, refl, sym, ap, ap₂, subst, ◌∙◌, arith}
use Rattle.std.specs.List.{filter, AllByRecursion}
use denote.Ref.{Bor}
use denote.Param.Members.{Mut}
use Rattle.std.specs.declared.cmp.Ordering.{Ordering}
use Rattle.std.specs.Ordering.{is_lt}
use Rattle.std.specs.Fn.{Called, ComparesAs}
use Rattle.std.proofs.lemmas.Fn.{always_returns_same}
use Rattle.std.specs.List.Sorted.{IsSortedBy, IsStableBy, IsSortedByClosure, IsStableByClosure, ties}
use Rattle.std.specs.Prelude.{slice_index_or}
use Rattle.std.specs.Cmp.{IsStrictWeakOrder}
use Rattle.std.proofs.lemmas.Bool.{cases_Bool, true≢false}
use Rattle.xl_base.specs.Lists.{IsIn, placed, sorted}

-- no element is less than an earlier one
abbrev pub Rises : {A : Type 0} → (A → A → Bool) → List A → Type 0
Rises lt [] = Unit {0}
Rises lt (x ∷ xs) = AllByRecursion (λ y. lt y x ≡ false) xs × Rises lt xs

next : (k : ℕ) → suc k + 1 ≡ suc (k + 1)
next k = omega arith

sorted_tail : {A : Type 0} (lt : A → A → Bool) (x : A) (xs : List A) → IsSortedBy lt (x ∷ xs) → IsSortedBy lt xs
sorted_tail lt x xs s = λ k d low high. subst (λ i. lt (slice_index_or (x ∷ xs) i d) (slice_index_or xs k d) ≡ false) (next k) (s (suc k) d (omega arith) (omega (arith, high)))

abbrev is_none : {A : Type 0} → List A → Bool
is_none [] = true
is_none (x ∷ xs) = false

some_is_none : {A : Type 0} {x : A} {xs : List A} → [] ≡ x ∷ xs → ⊥
some_is_none e = true≢false (ap is_none e)

-- behind one that isn't less than x, none is
none_less : {A : Type 0} {lt : A → A → Bool} (o : IsStrictWeakOrder lt) (x y : A) (ys : List A) → lt y x ≡ false → AllByRecursion (λ z. lt z y ≡ false) ys → AllByRecursion (λ z. lt z x ≡ false) ys
none_less o x y [] e all = tt
none_less o x y (z ∷ zs) e all = (o.chain z y x all.0 e, none_less o x y zs e all.1)

rises : {A : Type 0} {lt : A → A → Bool} (o : IsStrictWeakOrder lt) (xs : List A) → IsSortedBy lt xs → Rises lt xs
rises o [] s = tt
rises o (x ∷ []) s = (tt, tt)
rises {A} {lt} o (x ∷ y ∷ ys) s =
    let later = rises o (y ∷ ys) (sorted_tail lt x (y ∷ ys) s) in
    let first : lt y x ≡ false = s 0 x (omega arith) (omega arith) in
    ((first, none_less o x y ys first later.0), later)

-- ---- the insertion

placed_all : {A : Type 0} (lt : A → A → Bool) (P : A → Type 0) (x : A) (ys : List A) → P x → AllByRecursion P ys → AllByRecursion P (placed lt x ys)
placed_all lt P x [] one all = (one, tt)
placed_all lt P x (y ∷ ys) one all =
    elim (cases_Bool (lt y x)) [
      | inl e ↦ rw e (all.0, placed_all lt P x ys one all.1)
      | inr e ↦ rw e (one, all)
    ]

placed_rises : {A : Type 0} {lt : A → A → Bool} (o : IsStrictWeakOrder lt) (x : A) (ys : List A) → Rises lt ys → Rises lt (placed lt x ys)
placed_rises o x [] r = (tt, tt)
placed_rises {A} {lt} o x (y ∷ ys) r =
    elim (cases_Bool (lt y x)) [
      | inl e ↦ rw e (placed_all lt (λ z. lt z y ≡ false) x ys (o.one_way y x e) r.0, placed_rises o x ys r.1)
      | inr e ↦ rw e ((e, none_less o x y ys e r.0), r)
    ]

sorted_rises : {A : Type 0} {lt : A → A → Bool} (o : IsStrictWeakOrder lt) (xs : List A) → Rises lt (sorted lt xs)
sorted_rises o [] = tt
sorted_rises {A} {lt} o (x ∷ xs) = placed_rises o x (sorted lt xs) (sorted_rises o xs)

split_ties : (a b : Bool) → not a && not b ≡ true → (a ≡ false) × (b ≡ false)
split_ties false false e = (refl, refl)
split_ties false true e = absurd (true≢false (sym e))
split_ties true b e = absurd (true≢false (sym e))

-- one that is less than another doesn't tie with what that ties with
less_parts : {A : Type 0} {lt : A → A → Bool} (o : IsStrictWeakOrder lt) (w x y : A) → lt y x ≡ true → ties lt w x ≡ true → ties lt w y ≡ false
less_parts {A} {lt} o w x y less tie =
    elim (cases_Bool (ties lt w y)) [
      | inl e ↦
          let both = split_ties (lt w x) (lt x w) tie in
          let other = split_ties (lt w y) (lt y w) e in
          absurd (true≢false (sym less ∙ o.chain y w x other.1 both.0))
      | inr e ↦ e
    ]

abbrev kept : {A : Type 0} → Bool → A → List A → List A
kept b x xs = if b then x ∷ xs else xs

swapped : {A : Type 0} (a b : Bool) (x y : A) (rest : List A) → (a ≡ true → b ≡ false) → kept b y (kept a x rest) ≡ kept a x (kept b y rest)
swapped true true x y rest never = absurd (true≢false (never refl))
swapped true false x y rest never = refl
swapped false true x y rest never = refl
swapped false false x y rest never = refl

placed_stable : {A : Type 0} {lt : A → A → Bool} (o : IsStrictWeakOrder lt) (w x : A) (ys : List A) → filter (ties lt w) (placed lt x ys) ≡ filter (ties lt w) (x ∷ ys)
placed_stable o w x [] = refl
placed_stable {A} {lt} o w x (y ∷ ys) =
    elim (cases_Bool (lt y x)) [
      | inl e ↦ rw e (ap (kept (ties lt w y) y) (placed_stable o w x ys) ∙ swapped (ties lt w x) (ties lt w y) x y (filter (ties lt w) ys) (less_parts o w x y e))
      | inr e ↦ rw e refl
    ]

sorted_stable : {A : Type 0} {lt : A → A → Bool} (o : IsStrictWeakOrder lt) (w : A) (xs : List A) → filter (ties lt w) (sorted lt xs) ≡ filter (ties lt w) xs
sorted_stable o w [] = refl
sorted_stable {A} {lt} o w (x ∷ xs) = placed_stable o w x (sorted lt xs) ∙ ap (kept (ties lt w x) x) (sorted_stable o w xs)

-- ---- only one list is so

ties_itself : {A : Type 0} {lt : A → A → Bool} (o : IsStrictWeakOrder lt) (x : A) → ties lt x x ≡ true
ties_itself {A} {lt} o x =
    elim (cases_Bool (lt x x)) [
      | inl e ↦ absurd (true≢false (sym e ∙ o.one_way x x e))
      | inr e ↦ rw e refl
    ]

abbrev first_or : {A : Type 0} → A → List A → A
first_or d [] = d
first_or d (x ∷ xs) = x

abbrev behind : {A : Type 0} → List A → List A
behind [] = []
behind (x ∷ xs) = xs

-- where what a test keeps of these begins with x, x isn't less than what stands before them
first_low : {A : Type 0} (lt : A → A → Bool) (p : A → Bool) (x z : A) (zs more : List A) → AllByRecursion (λ y. lt y z ≡ false) zs → filter p zs ≡ x ∷ more → lt x z ≡ false
first_low lt p x z [] more all e = absurd (some_is_none e)
first_low lt p x z (y ∷ ys) more all e =
    elim (cases_Bool (p y)) [
      | inl q ↦ subst (λ a. lt a z ≡ false) (ap (first_or y) (rw q at e)) all.0
      | inr q ↦ first_low lt p x z ys more all.1 (rw q at e)
    ]

ties_sym : (a b : Bool) → (not a && not b) ≡ (not b && not a)
ties_sym true true = refl
ties_sym true false = refl
ties_sym false true = refl
ties_sym false false = refl

both_false : (a b : Bool) → not a && not b ≡ false → a ≡ false → b ≡ false → ⊥
both_false true b e f g = true≢false f
both_false false true e f g = true≢false g
both_false false false e f g = true≢false e

-- two lists in order of which each test for ties keeps the same begin with the same
same_first : {A : Type 0} {lt : A → A → Bool} (o : IsStrictWeakOrder lt) (y z : A) (ys zs : List A) → AllByRecursion (λ a. lt a y ≡ false) ys → AllByRecursion (λ a. lt a z ≡ false) zs
    → ((w : A) → filter (ties lt w) (y ∷ ys) ≡ filter (ties lt w) (z ∷ zs)) → y ≡ z
same_first {A} {lt} o y z ys zs ay az same =
    elim (cases_Bool (ties lt y z)) [
      | inl e ↦ ap (first_or y) (rw (ties_itself o y, e) at (same y))
      | inr e ↦
          let back : ties lt z y ≡ false = ties_sym (lt z y) (lt y z) ∙ e in
          let low : lt y z ≡ false = first_low lt (ties lt y) y z zs (filter (ties lt y) ys) az (sym (rw (ties_itself o y, e) at (same y))) in
          let high : lt z y ≡ false = first_low lt (ties lt z) z y ys (filter (ties lt z) zs) ay (rw (ties_itself o z, back) at (same z)) in
          absurd (both_false (lt y z) (lt z y) e low high)
    ]

kept_same : {A : Type 0} (b : Bool) (x : A) (xs ys : List A) → kept b x xs ≡ kept b x ys → xs ≡ ys
kept_same true x xs ys e = ap behind e
kept_same false x xs ys e = e

unique : {A : Type 0} {lt : A → A → Bool} (o : IsStrictWeakOrder lt) (ys zs : List A) → Rises lt ys → Rises lt zs → ((w : A) → filter (ties lt w) ys ≡ filter (ties lt w) zs) → ys ≡ zs
unique o [] [] ry rz same = refl
unique {A} {lt} o [] (z ∷ zs) ry rz same = absurd (some_is_none (rw (ties_itself o z) at (same z)))
unique {A} {lt} o (y ∷ ys) [] ry rz same = absurd (some_is_none (sym (rw (ties_itself o y) at (same y))))
unique {A} {lt} o (y ∷ ys) (z ∷ zs) ry rz same =
    let first = same_first o y z ys zs ry.0 rz.0 same in
    let rest : (w : A) → filter (ties lt w) ys ≡ filter (ties lt w) zs = λ w. kept_same (ties lt w y) y _ _ (same w ∙ ap (λ a. kept (ties lt w a) a (filter (ties lt w) zs)) (sym first)) in
    ap₂ (λ (a : A) (more : List A). a ∷ more) first (unique o ys zs ry.1 rz.1 rest)

-- what std's stable sort gives
pub sorted_is : {A : Type 0} {lt : A → A → Bool} (o : IsStrictWeakOrder lt) (xs ys : List A) → IsSortedBy lt ys → IsStableBy lt xs ys → ys ≡ sorted lt xs
sorted_is {A} {lt} o xs ys up stable = unique o ys (sorted lt xs) (rises o ys up) (sorted_rises o xs) (λ w. stable w ∙ sym (sorted_stable o w xs))

-- what its clauses say where the closure compares by this order
pub sorted_from_sort_by : {A : Type 0} {lt : A → A → Bool} (o : IsStrictWeakOrder lt) {F : Type 0} {g : Mut F (Bor A × (Bor A × Unit {0})) Ordering} {f : F} (xs ys : List A)
    → IsSortedByClosure g f ys → IsStableByClosure g f xs ys
    → ((a : Bor A × (Bor A × Unit {0})) (r : Ordering) (f' : F) → Called g f a r f' → (is_lt r ≡ lt a.0.now a.1.0.now) × (f' ≡ f)) → ys ≡ sorted lt xs
sorted_from_sort_by {A} {lt} o {F} {g} {f} xs ys up stable h =
    let compares : ComparesAs g lt f = always_returns_same g (λ a r. is_lt r ≡ lt a.0.now a.1.0.now) f h in sorted_is o xs ys (up lt o compares) (stable lt o compares)

-- ---- what sorting goes with

-- x stands in the sorted list only where it stood in the list
in_placed_from : {A : Type 0} (lt : A → A → Bool) (x y : A) (ys : List A) → IsIn x (placed lt y ys) → (y ≡ x) ⊎ IsIn x ys
in_placed_from lt x y [] (inl e) = inl e
in_placed_from lt x y [] (inr t) = absurd t
in_placed_from {A} lt x y (z ∷ zs) h =
    elim (cases_Bool (lt z y)) [
      | inr later ↦ rw later at h
      | inl first ↦ elim (rw first at h) [ inl e ↦ inr (inl e) | inr t ↦ elim (in_placed_from lt x y zs t) [ inl e ↦ inl e | inr t ↦ inr (inr t) ] ]
    ]

pub in_sorted_from : {A : Type 0} (lt : A → A → Bool) (x : A) (xs : List A) → IsIn x (sorted lt xs) → IsIn x xs
in_sorted_from lt x [] h = absurd h
in_sorted_from lt x (y ∷ ys) h = elim (in_placed_from lt x y (sorted lt ys) h) [ inl e ↦ inl e | inr t ↦ inr (in_sorted_from lt x ys t) ]

in_placed : {A : Type 0} (lt : A → A → Bool) (x y : A) (ys : List A) → (y ≡ x) ⊎ IsIn x ys → IsIn x (placed lt y ys)
in_placed lt x y [] (inl e) = inl e
in_placed lt x y [] (inr t) = absurd t
in_placed lt x y (z ∷ zs) h =
    elim (cases_Bool (lt z y)) [
      | inr later ↦ rw later h
      | inl first ↦ rw first (elim h [ inl e ↦ inr (in_placed lt x y zs (inl e)) | inr t ↦ elim t [ inl e ↦ inl e | inr more ↦ inr (in_placed lt x y zs (inr more)) ] ])
    ]

pub in_sorted : {A : Type 0} (lt : A → A → Bool) (x : A) (xs : List A) → IsIn x xs → IsIn x (sorted lt xs)
in_sorted lt x [] h = absurd h
in_sorted lt x (y ∷ ys) h = in_placed lt x y (sorted lt ys) (elim h [ inl e ↦ inl e | inr t ↦ inr (in_sorted lt x ys t) ])

placed_first : {A : Type 0} (lt : A → A → Bool) (x : A) (ys : List A) → AllByRecursion (λ y. lt y x ≡ false) ys → placed lt x ys ≡ x ∷ ys
placed_first lt x [] all = refl
placed_first lt x (y ∷ ys) all = rw all.0 refl

kept_all : {A : Type 0} (P : A → Type 0) (p : A → Bool) (xs : List A) → AllByRecursion P xs → AllByRecursion P (filter p xs)
kept_all P p [] all = tt
kept_all P p (x ∷ xs) all = elim (cases_Bool (p x)) [ inl e ↦ rw e (all.0, kept_all P p xs all.1) | inr e ↦ rw e (kept_all P p xs all.1) ]

abbrev placed_where : {A : Type 0} → (A → A → Bool) → Bool → A → List A → List A
placed_where lt b x ys = if b then placed lt x ys else ys

filter_placed : {A : Type 0} {lt : A → A → Bool} (o : IsStrictWeakOrder lt) (p : A → Bool) (x : A) (ys : List A) → Rises lt ys → filter p (placed lt x ys) ≡ placed_where lt (p x) x (filter p ys)
filter_placed o p x [] up = refl
filter_placed {A} {lt} o p x (y ∷ ys) up =
    elim (cases_Bool (lt y x)) [
      | inr later ↦ elim (cases_Bool (p x)) [
        | inr out ↦ rw (later, out) refl
        | inl stays ↦
            let all : AllByRecursion (λ z. lt z x ≡ false) (filter p (y ∷ ys)) = kept_all (λ z. lt z x ≡ false) p (y ∷ ys) (later, none_less o x y ys later up.0) in
            rw (later, stays) (sym (placed_first lt x (filter p (y ∷ ys)) all))
      ]
      | inl first ↦ elim (cases_Bool (p y)) [
        | inr out ↦ rw (first, out) (filter_placed o p x ys up.1)
        | inl stays ↦ rw (first, stays) (ap (λ (zs : List A). y ∷ zs) (filter_placed o p x ys up.1) ∙ behind (p x) first)
      ]
    ]
  where
    behind : (b : Bool) → lt y x ≡ true → y ∷ placed_where lt b x (filter p ys) ≡ placed_where lt b x (y ∷ filter p ys)
    behind true first = rw first refl
    behind false first = refl

-- those that pass a test, sorted, are those that pass it of the sorted list
pub sorted_filter : {A : Type 0} {lt : A → A → Bool} (o : IsStrictWeakOrder lt) (p : A → Bool) (xs : List A) → sorted lt (filter p xs) ≡ filter p (sorted lt xs)
sorted_filter o p [] = refl
sorted_filter {A} {lt} o p (x ∷ xs) =
    elim (cases_Bool (p x)) [
      | inl stays ↦ let here = filter_placed o p x (sorted lt xs) (sorted_rises o xs) in rw stays (ap (λ (ys : List A). placed lt x ys) (sorted_filter o p xs) ∙ sym (rw stays at here))
      | inr out ↦ let here = filter_placed o p x (sorted lt xs) (sorted_rises o xs) in rw out (sorted_filter o p xs ∙ sym (rw out at here))
    ]

placed_map : {A B : Type 0} (f : A → B) (lt : B → B → Bool) (x : A) (ys : List A) → placed lt (f x) (map f ys) ≡ map f (placed (λ a b. lt (f a) (f b)) x ys)
placed_map f lt x [] = refl
placed_map {B = B} f lt x (y ∷ ys) =
    elim (cases_Bool (lt (f y) (f x))) [
      | inl first ↦ rw first (ap (λ (zs : List B). f y ∷ zs) (placed_map f lt x ys))
      | inr later ↦ rw later refl
    ]

-- what is made of each, sorted, is made of the list that is sorted by that
pub sorted_map : {A B : Type 0} (f : A → B) (lt : B → B → Bool) (xs : List A) → sorted lt (map f xs) ≡ map f (sorted (λ a b. lt (f a) (f b)) xs)
sorted_map f lt [] = refl
sorted_map {B = B} f lt (x ∷ xs) = ap (λ (zs : List B). placed lt (f x) zs) (sorted_map f lt xs) ∙ placed_map f lt x (sorted (λ a b. lt (f a) (f b)) xs)
