-- What bisection finds in a list that a test parts.
use Rattle.std.proofs.Common.{◌≡◌, ℕ, ◌<◌, ◌≤◌, suc, zero, Bool, true, false, List, [], ◌∷◌, length, get_or, sym, inl, inr, arith}
use Rattle.std.specs.List.{AllByRecursion, prefix_len}
use Rattle.std.specs.List.Sorted.{IsPartitionPoint, IsPartitionedBy}
use Rattle.std.proofs.lemmas.List.Sums.{prefix_len_is}
use Rattle.std.proofs.lemmas.Bool.{cases_Bool, both_ways}
use Rattle.xl_index.specs.Parted.{IsParted}

fails_at : {A : Type 0} (p : A → Bool) (xs : List A) → AllByRecursion (λ x. p x ≡ false) xs → (i : ℕ) (d : A) → i < length xs → p (get_or xs i d) ≡ false
fails_at p [] all i d h = absurd (omega arith)
fails_at p (x ∷ xs) all zero d h = all.0
fails_at p (x ∷ xs) all (suc i) d h = fails_at p xs all.1 i d (omega (arith, h))

pub parted_by : {A : Type 0} (p : A → Bool) (xs : List A) → IsParted p xs → IsPartitionedBy p xs
parted_by p [] parted i j d le h e = absurd (omega arith)
parted_by p (x ∷ xs) parted zero zero d le h e = e
parted_by p (x ∷ xs) parted zero (suc j) d le h e =
    elim (cases_Bool (p x)) [
      | inl passes ↦ passes
      | inr fails ↦ absurd (both_ways (p (get_or xs j d)) (fails_at p xs (parted.0 fails) j d (omega (arith, h))) e)
    ]
parted_by p (x ∷ xs) parted (suc i) zero d le h e = absurd (omega arith)
parted_by p (x ∷ xs) parted (suc i) (suc j) d le h e = parted_by p xs parted.1 i j d (omega (arith, le)) (omega (arith, h)) e

pub point_is : {A : Type 0} (p : A → Bool) (xs : List A) (i : ℕ) → i ≤ length xs → IsPartitionPoint (λ x. p x ≡ true) (λ x. p x ≡ false) xs i → i ≡ prefix_len p xs
point_is p [] i h parted = omega (arith, h)
point_is p (x ∷ xs) i h parted =
    sym (prefix_len_is p (x ∷ xs) i x h (λ k below. parted.0 k x (omega arith) below) (λ more. parted.1 i x (omega arith) more))
