-- What is done in turn keeps what each of it keeps.
use Rattle.std.proofs.Common.{◌≡◌, Bool, true, false, ◌&&◌, if◌then◌else◌, inl, inr, List, [], ◌∷◌, refl, sym, ap, ◌∙◌}
use Rattle.std.specs.List.{filter}
use Rattle.std.proofs.lemmas.Bool.{cases_Bool}
use Rattle.xl_core.specs.State.{CoreState}
use Rattle.xl_core.specs.Ticks.{in_turn}
use Rattle.xl_core.specs.declared.ask.Effect.{Effect}

pub in_turn_keeps : {A : Type 0} (is_left : CoreState → A → Bool) (does : CoreState → A → List Effect × CoreState) (P : CoreState → Type 0) → ((s : CoreState) (x : A) → P s → P (does s x).1) → (xs : List A) (s : CoreState) → P s → P (in_turn is_left does xs s).1
in_turn_keeps is_left does P each [] s h = h
in_turn_keeps is_left does P each (x ∷ xs) s h =
    elim (cases_Bool (is_left s x)) [
      | inl e ↦ rw e (in_turn_keeps is_left does P each xs (does s x).1 (each s x h))
      | inr e ↦ rw e (in_turn_keeps is_left does P each xs s h)
    ]

-- ---- what passes two tests

pub filter_both : {A : Type 0} (p q : A → Bool) (xs : List A) → filter q (filter p xs) ≡ filter (λ x. p x && q x) xs
filter_both p q [] = refl
filter_both {A} p q (x ∷ xs) =
    elim (cases_Bool (p x)) [
      | inr out ↦ rw out (filter_both p q xs)
      | inl stays ↦ elim (cases_Bool (q x)) [
        | inl on ↦ rw (stays, on) (ap (λ (ys : List A). x ∷ ys) (filter_both p q xs))
        | inr off ↦ rw (stays, off) (filter_both p q xs)
      ]
    ]

abbrev kept_if : {A : Type 0} → Bool → A → List A → List A
kept_if b x xs = if b then x ∷ xs else xs

pub filter_alike : {A : Type 0} (p q : A → Bool) → ((x : A) → p x ≡ q x) → (xs : List A) → filter p xs ≡ filter q xs
filter_alike p q alike [] = refl
filter_alike p q alike (x ∷ xs) = let same = alike x in let rest = filter_alike p q alike xs in λ i. kept_if (same i) x (rest i)

and_turned : (p q : Bool) → (p && q) ≡ (q && p)
and_turned true true = refl
and_turned true false = refl
and_turned false true = refl
and_turned false false = refl

pub filter_turned : {A : Type 0} (p q : A → Bool) (xs : List A) → filter p (filter q xs) ≡ filter q (filter p xs)
filter_turned p q xs = filter_both q p xs ∙ filter_alike _ _ (λ x. and_turned (q x) (p x)) xs ∙ sym (filter_both p q xs)
