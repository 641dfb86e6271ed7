-- Noting at a place.
use Rattle.std.proofs.Common.{◌≡◌, ℕ, suc, ◌+◌, ◌<◌, ◌≤◌, List, [], ◌∷◌, length, get_or, set, Some, None, refl, ap, subst, arith, inl, inr}
use Rattle.std.specs.List.{position, position_or_len}
use Rattle.std.proofs.lemmas.Bool.{cases_Bool, cases_lt, lt-ltb, le-ltb}
use Rattle.xl_base.specs.declared.stable.Recorded.{Recorded}
use Rattle.xl_grace.specs.declared.reclaimant.Reclaimant.{Reclaimant}
use Rattle.xl_grace.specs.Grace.{is_of, noting, noted}

one_more : (k : ℕ) → 1 + k ≡ suc k
one_more k = omega arith

noted_first : (name : Recorded) (reclaimants : List Reclaimant) (d : Reclaimant) → position_or_len (is_of name) reclaimants < length reclaimants
    → noted name reclaimants ≡ set reclaimants (position_or_len (is_of name) reclaimants) (noting (get_or reclaimants (position_or_len (is_of name) reclaimants) d))
noted_first name [] d within = absurd (omega (arith, within))
noted_first name (one ∷ more) d within =
    elim (cases_Bool (is_of name one)) [
      | inl here ↦ rw here refl
      | inr other ↦ (let later = rw other at within in rw (other, one_more) (ap (λ (rs : List Reclaimant). one ∷ rs) (noted_first name more d (omega (arith, later)))))
    ]

noted_nowhere : (name : Recorded) (reclaimants : List Reclaimant) → length reclaimants ≤ position_or_len (is_of name) reclaimants → noted name reclaimants ≡ reclaimants
noted_nowhere name [] none = refl
noted_nowhere name (one ∷ more) none =
    elim (cases_Bool (is_of name one)) [
      | inl here ↦ (let never = rw here at none in absurd (omega (arith, never)))
      | inr other ↦ (let later = rw other at none in rw other (ap (λ (rs : List Reclaimant). one ∷ rs) (noted_nowhere name more (omega (arith, later)))))
    ]

same_place : (i j : ℕ) → Some i ≡ Some j → i ≡ j
same_place i j e = cc

pub noted_at : (name : Recorded) (reclaimants : List Reclaimant) (i : ℕ) (d : Reclaimant) → position (is_of name) reclaimants ≡ Some i → (i < length reclaimants) × (noted name reclaimants ≡ set reclaimants i (noting (get_or reclaimants i d)))
noted_at name reclaimants i d at =
    let place = position_or_len (is_of name) reclaimants in
    elim (cases_lt place (length reclaimants)) [
      | inl within ↦ (
          let same : place ≡ i = same_place place i (rw (lt-ltb _ _ within) at at) in
          subst (λ (k : ℕ). (k < length reclaimants) × (noted name reclaimants ≡ set reclaimants k (noting (get_or reclaimants k d)))) same (within, noted_first name reclaimants d within))
      | inr past ↦ (let never : None ≡ Some i = rw (le-ltb _ _ past) at at in absurd cc)
    ]

pub none_noted : (name : Recorded) (reclaimants : List Reclaimant) → position (is_of name) reclaimants ≡ None → noted name reclaimants ≡ reclaimants
none_noted name reclaimants none =
    let place = position_or_len (is_of name) reclaimants in
    elim (cases_lt place (length reclaimants)) [
      | inl within ↦ (let never : Some place ≡ None = rw (lt-ltb _ _ within) at none in absurd cc)
      | inr past ↦ noted_nowhere name reclaimants past
    ]
