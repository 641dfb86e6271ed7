-- Facts on each element, and on some element, of a list that has more, fewer or changed elements.
use Rattle.std.proofs.Common.{◌≡◌, Bool, true, false, ◌||◌, List, [], ◌∷◌, ◌++◌, refl, sym, ap, ◌∙◌, inl, inr, true≢false}
use Rattle.std.specs.List.{AllByRecursion, list_any}
use Rattle.std.proofs.lemmas.Bool.{cases_Bool}
use Rattle.xl_nfs_state.specs.Filed.{changed}
use Rattle.xl_nfs_state.specs.State.{without}

module _ {A : Type 0} where
  pub any_more : (test : A → Bool) (xs ys : List A) → list_any test xs ≡ true → list_any test (xs ++ ys) ≡ true
  any_more test [] ys h = absurd (true≢false (sym h))
  any_more test (x ∷ xs) ys h =
      elim (cases_Bool (test x)) [
        | inl here ↦ rw here refl
        | inr later ↦ rw later (any_more test xs ys (rw later at h))
      ]

  -- where each element that passes is left
  pub any_left : (test drops : A → Bool) (xs : List A) → ((x : A) → test x ≡ true → drops x ≡ false) → list_any test xs ≡ true → list_any test (without drops xs) ≡ true
  any_left test drops [] keeps h = h
  any_left test drops (x ∷ xs) keeps h =
      elim (cases_Bool (test x)) [
        | inl here ↦ let stays = keeps x here in rw stays (rw here refl)
        | inr later ↦
            let rest = any_left test drops xs keeps (rw later at h) in
            elim (cases_Bool (drops x)) [
              | inl gone ↦ rw gone rest
              | inr stays ↦ rw stays (rw later rest)
            ]
      ]

  -- where a change leaves the test
  pub any_changed : (test which : A → Bool) (to : A → A) (xs : List A) → ((x : A) → test (to x) ≡ test x) → list_any test (changed which to xs) ≡ list_any test xs
  any_changed test which to [] same = refl
  any_changed test which to (x ∷ xs) same =
      elim (cases_Bool (which x)) [
        | inl h ↦ rw h (ap (λ b. b || list_any test xs) (same x))
        | inr h ↦ rw h (ap (λ b. test x || b) (any_changed test which to xs same))
      ]

  pub all_left : (P Q : A → Type 0) (drops : A → Bool) (xs : List A) → ((x : A) → drops x ≡ false → P x → Q x) → AllByRecursion P xs → AllByRecursion Q (without drops xs)
  all_left P Q drops [] step all = tt
  all_left P Q drops (x ∷ xs) step all =
      elim (cases_Bool (drops x)) [
        | inl gone ↦ rw gone (all_left P Q drops xs step all.1)
        | inr stays ↦ rw stays (step x stays all.0, all_left P Q drops xs step all.1)
      ]

  pub all_changed : (P Q : A → Type 0) (which : A → Bool) (to : A → A) (xs : List A) → ((x : A) → P x → Q x) → ((x : A) → P x → Q (to x)) → AllByRecursion P xs → AllByRecursion Q (changed which to xs)
  all_changed P Q which to [] step seqids all = tt
  all_changed P Q which to (x ∷ xs) step seqids all =
      elim (cases_Bool (which x)) [
        | inl h ↦ rw h (seqids x all.0, all_steps xs step all.1)
        | inr h ↦ rw h (step x all.0, all_changed P Q which to xs step seqids all.1)
      ]
    where
      all_steps : (ys : List A) → ((x : A) → P x → Q x) → AllByRecursion P ys → AllByRecursion Q ys
      all_steps [] step all = tt
      all_steps (y ∷ ys) step all = (step y all.0, all_steps ys step all.1)
