-- The least of a list is one of it, none of it stands before the least, and there is one unless the list is empty.
use Rattle.std.proofs.Common.{◌≡◌, Bool, true, false, inl, inr, List, [], ◌∷◌, ◌++◌, Option, Some, None, refl, sym, subst, ◌∙◌}
use Rattle.std.specs.List.{AllByRecursion}
use Rattle.std.specs.Cmp.{IsStrictWeakOrder}
use Rattle.std.proofs.lemmas.Bool.{cases_Bool, true≢false}
use Rattle.xl_base.specs.Leasts.{lesser, least_by, least_from}
use Rattle.xl_base.specs.Lists.{IsIn}

same_some : {A : Type 0} {x y : A} → Some x ≡ Some y → x ≡ y
same_some e = cc

some_none : {A : Type 0} {x : A} → Some x ≡ None → ⊥
some_none e = cc

none_some : {A : Type 0} {x : A} → None ≡ Some x → ⊥
none_some e = cc

module _ {A : Type 0} (before : A → A → Bool) where
  -- from a first one on there is one
  found_from : (first : A) (xs : List A) → (x : A) × (least_from before (Some first) xs ≡ Some x) × IsIn x (first ∷ xs)
  found_from first [] = (first, refl, inl refl)
  found_from first (y ∷ ys) =
      elim (cases_Bool (before y first)) [
        | inl earlier ↦ (let rest = found_from y ys in (rest.0, rw earlier rest.1, inr rest.2))
        | inr behind ↦ (let rest = found_from first ys in (rest.0, rw behind rest.1, elim rest.2 [ inl same ↦ inl same | inr there ↦ inr (inr there) ]))
      ]

  pub least_in : (xs : List A) (x : A) → least_by before xs ≡ Some x → IsIn x xs
  least_in [] x e = absurd (none_some e)
  least_in (y ∷ ys) x e = (let found = found_from y ys in subst (λ (z : A). IsIn z (y ∷ ys)) (same_some (sym found.1 ∙ e)) found.2)

  pub least_none : (xs : List A) → least_by before xs ≡ None → xs ≡ []
  least_none [] e = refl
  least_none (y ∷ ys) e = (let found = found_from y ys in absurd (some_none (sym found.1 ∙ e)))

  -- that of two lists in a row is that of the second, from that of the first on
  pub least_both : (found : Option A) (xs ys : List A) → least_from before found (xs ++ ys) ≡ least_from before (least_from before found xs) ys
  least_both found [] ys = refl
  least_both found (x ∷ xs) ys = least_both (lesser before found x) xs ys

  -- ---- none stands before it

  not_before_itself : IsStrictWeakOrder before → (x : A) → before x x ≡ false
  not_before_itself order x = elim (cases_Bool (before x x)) [ inl is ↦ absurd (true≢false (sym is ∙ order.one_way x x is)) | inr apart ↦ apart ]

  first_from : IsStrictWeakOrder before → (first : A) (xs : List A) (x : A) → least_from before (Some first) xs ≡ Some x → AllByRecursion (λ y. before y x ≡ false) (first ∷ xs)
  first_from order first [] x e = (subst (λ (z : A). before first z ≡ false) (same_some e) (not_before_itself order first), tt)
  first_from order first (y ∷ ys) x e =
      elim (cases_Bool (before y first)) [
        | inl earlier ↦ (let rest = first_from order y ys x (rw earlier at e) in (order.chain first y x (order.one_way y first earlier) rest.0, rest))
        | inr behind ↦ (let rest = first_from order first ys x (rw behind at e) in (rest.0, (order.chain y first x behind rest.0, rest.1)))
      ]

  pub least_first : IsStrictWeakOrder before → (xs : List A) (x : A) → least_by before xs ≡ Some x → AllByRecursion (λ y. before y x ≡ false) xs
  least_first order [] x e = tt
  least_first order (y ∷ ys) x e = first_from order y ys x e
