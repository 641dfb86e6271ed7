-- Steps of walks over a list, row by row.
use Rattle.std.proofs.Common.{◌≡◌, ℕ, ◌+◌, ◌<◌, Bool, true, false, List, [], ◌∷◌, ◌++◌, suc, drop, length, slice_get, Some, None, is_some, refl, sym, ap, ◌∙◌, inl, inr, true≢false, arith, append_assoc, if◌then◌else◌}
use Rattle.std.specs.List.{filter, list_any}
use Rattle.std.proofs.lemmas.Bool.{cases_Bool}
use Rattle.std.proofs.lemmas.List.{drop_more}
use Rattle.std.proofs.lemmas.Option.{slice_get_within, get_or_from_slice_get, slice_get-get_or}
use Rattle.xl_nfs_state.specs.State.{is_live, opens}
use Rattle.xl_nfs_state.specs.declared.stateid.StateidRow.{StateidRow}

module _ {A : Type 0} where
  pub drop_at : (xs : List A) (i : ℕ) (x : A) → slice_get xs i ≡ Some x → drop i xs ≡ x ∷ drop (i + 1) xs
  drop_at xs i x h = drop_more xs i x (slice_get_within xs i x h) ∙ ap (λ y. y ∷ drop (i + 1) xs) (get_or_from_slice_get xs i x x h)

  -- a place within the list has an element
  pub none_within : (xs : List A) (i : ℕ) → slice_get xs i ≡ None → i < length xs → ⊥
  none_within [] i h within = omega (arith, within)
  none_within (x ∷ xs) i h within = true≢false (ap is_some (sym (slice_get-get_or (x ∷ xs) i x within) ∙ h))

  -- a row more was looked at, and is listed where it passes
  pub listed : (test : A → Bool) (xs : List A) (i : ℕ) (x : A) (out new : List A) → slice_get xs i ≡ Some x → out ++ filter test (drop i xs) ≡ filter test xs → new ≡ (if test x then out ++ x ∷ [] else out) → new ++ filter test (drop (i + 1) xs) ≡ filter test xs
  listed test xs i x out new at so is =
      elim (cases_Bool (test x)) [
        | inl h ↦
            let here : new ≡ out ++ x ∷ [] = rw h at is in
            let left : filter test (drop i xs) ≡ x ∷ filter test (drop (i + 1) xs) = ap (filter test) (drop_at xs i x at) ∙ rw h refl in
            rw here (append_assoc out (x ∷ []) (filter test (drop (i + 1) xs)) ∙ ap (λ ys. out ++ ys) (sym left) ∙ so)
        | inr h ↦
            let here : new ≡ out = rw h at is in
            let left : filter test (drop i xs) ≡ filter test (drop (i + 1) xs) = ap (filter test) (drop_at xs i x at) ∙ rw h refl in
            rw here (ap (λ ys. out ++ ys) (sym left) ∙ so)
      ]

pub counted : (ss : List StateidRow) (i : ℕ) (s : StateidRow) (count new : ℕ) → slice_get ss i ≡ Some s → count + opens (drop i ss) ≡ opens ss → new ≡ count + (if is_live s then 1 else 0) → new + opens (drop (i + 1) ss) ≡ opens ss
counted ss i s count new at so is =
    elim (cases_Bool (is_live s)) [
      | inl h ↦
          let here : new ≡ count + 1 = rw h at is in
          let left : opens (drop i ss) ≡ opens (s ∷ drop (i + 1) ss) = ap opens (drop_at ss i s at) in
          let more : opens (drop i ss) ≡ suc (opens (drop (i + 1) ss)) = left ∙ rw h refl in
          omega (arith, here, more, so)
      | inr h ↦
          let here : new ≡ count + 0 = rw h at is in
          let left : opens (drop i ss) ≡ opens (s ∷ drop (i + 1) ss) = ap opens (drop_at ss i s at) in
          let same : opens (drop i ss) ≡ opens (drop (i + 1) ss) = left ∙ rw h refl in
          omega (arith, here, same, so)
    ]

pub any_here : {A : Type 0} (test : A → Bool) (xs : List A) (i : ℕ) (x : A) → slice_get xs i ≡ Some x → test x ≡ true → list_any test xs ≡ list_any test (drop i xs) → true ≡ list_any test xs
any_here test xs i x at passes so =
    let left : list_any test (drop i xs) ≡ list_any test (x ∷ drop (i + 1) xs) = ap (list_any test) (drop_at xs i x at) in
    sym (so ∙ left ∙ rw passes refl)

pub any_later : {A : Type 0} (test : A → Bool) (xs : List A) (i : ℕ) (x : A) → slice_get xs i ≡ Some x → test x ≡ false → list_any test xs ≡ list_any test (drop i xs) → list_any test xs ≡ list_any test (drop (i + 1) xs)
any_later test xs i x at fails so =
    let left : list_any test (drop i xs) ≡ list_any test (x ∷ drop (i + 1) xs) = ap (list_any test) (drop_at xs i x at) in
    so ∙ left ∙ rw fails refl
