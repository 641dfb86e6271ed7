-- Sums over a list of which one element changes.
use Rattle.std.proofs.Common.{◌≡◌, ◌≢◌, ◌≤◌, ◌+◌, ℕ, zero, suc, List, [], ◌∷◌, ◌++◌, set, sym, refl, ap, arith}
use mathlib.Core.Option.{some, some-injective, some-ne-none}
use lib.ListN.{get_elem?}
use Rattle.xl_desk.specs.Turns.{total}

module _ {V : Type 0} (f : V → ℕ) where
  pub total_set : (vs : List V) (i : ℕ) (v w : V) → get_elem? vs i ≡ some v → total f (set vs i w) + f v ≡ total f vs + f w
  total_set [] i v w at = absurd (some-ne-none v (sym at))
  total_set (x ∷ xs) zero v w at = let same : f x ≡ f v = ap f (some-injective x v at) in omega arith
  total_set (x ∷ xs) (suc i) v w at = let rest = total_set xs i v w at in omega arith

  pub total_append : (xs ys : List V) → total f (xs ++ ys) ≡ total f xs + total f ys
  total_append [] ys = omega arith
  total_append (x ∷ xs) ys = let rest = total_append xs ys in omega arith

  pub part_below : (vs : List V) (i : ℕ) (v : V) → get_elem? vs i ≡ some v → f v ≤ total f vs
  part_below [] i v at = absurd (some-ne-none v (sym at))
  part_below (x ∷ xs) zero v at = let same : f x ≡ f v = ap f (some-injective x v at) in omega arith
  part_below (x ∷ xs) (suc i) v at = let rest = part_below xs i v at in omega arith

  pub parts_below : (vs : List V) (i j : ℕ) (v w : V) → i ≢ j → get_elem? vs i ≡ some v → get_elem? vs j ≡ some w → f v + f w ≤ total f vs
  parts_below [] i j v w apart at there = absurd (some-ne-none v (sym at))
  parts_below (x ∷ xs) zero zero v w apart at there = absurd (apart refl)
  parts_below (x ∷ xs) zero (suc j) v w apart at there = let same : f x ≡ f v = ap f (some-injective x v at) in let rest = part_below xs j w there in omega arith
  parts_below (x ∷ xs) (suc i) zero v w apart at there = let same : f x ≡ f w = ap f (some-injective x w there) in let rest = part_below xs i v at in omega arith
  parts_below (x ∷ xs) (suc i) (suc j) v w apart at there = let rest = parts_below xs i j v w (λ e. apart (ap suc e)) at there in omega arith

  none_of : (vs : List V) → ((j : ℕ) (u : V) → get_elem? vs j ≡ some u → f u ≡ 0) → total f vs ≡ 0
  none_of [] none = refl
  none_of (x ∷ xs) none = let here : f x ≡ 0 = none zero x refl in let rest = none_of xs (λ j u at. none (suc j) u at) in omega arith

  -- where all others have nothing, the sum is one element's part
  pub alone_in : (vs : List V) (i : ℕ) (v : V) → get_elem? vs i ≡ some v → ((j : ℕ) (u : V) → j ≢ i → get_elem? vs j ≡ some u → f u ≡ 0) → total f vs ≡ f v
  alone_in [] i v at none = absurd (some-ne-none v (sym at))
  alone_in (x ∷ xs) zero v at none = let same : f x ≡ f v = ap f (some-injective x v at) in let rest = none_of xs (λ j u there. none (suc j) u (λ e. absurd (omega arith)) there) in omega arith
  alone_in (x ∷ xs) (suc i) v at none = let here : f x ≡ 0 = none zero x (λ e. absurd (omega arith)) refl in let rest = alone_in xs i v at (λ j u apart there. none (suc j) u (λ e. apart (omega arith)) there) in omega arith
