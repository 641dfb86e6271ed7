-- Final replies of frames, as the code takes them out.
use Rattle.std.proofs.Common.{◌≡◌, ℕ, ◌+◌, ◌-◌, List, [], ◌∷◌, ◌++◌, length, drop, take, Option, Some, None, refl, sym, ap, ◌∙◌, arith}
use Rattle.std.specs.Prelude.{◌<◌, MatchOption, option_to_list}
use Rattle.std.proofs.lemmas.List.{drop_all}
use Rattle.xl_house.specs.Sifting.{last_apart, last_on}

pub short_drop : (bytes : List ℕ) → length bytes < 4 → [] ≡ drop 4 bytes
short_drop bytes short = sym (drop_all 4 bytes (omega (arith, short)))

-- ---- the last out

last_snoc : {X : Type 0} (os : List X) (o : X) → last_apart (os ++ o ∷ []) ≡ (os, Some o)
last_snoc [] o = refl
last_snoc (x ∷ xs) o = ap (λ r. last_on x r) (last_snoc xs o)

pub last_is : {X : Type 0} (outs old new got : List X) (len more : ℕ) (r : Option X) → got ≡ new → old ≡ outs → old ≡ new ++ option_to_list r → new ≡ take (len - 1) old → MatchOption r ((len ≡ 0) × (more ≡ 0)) (λ (o : X). more + 1 ≡ len) → (got, r) ≡ last_apart outs
last_is outs old new got len more (Some o) same is items rest cases = (λ i. (same i, Some o)) ∙ sym (last_snoc new o) ∙ ap last_apart (sym items ∙ is)
last_is outs old new got len more None same is items rest cases =
    let none : new ≡ [] = rest ∙ ap (λ (n : ℕ). take (n - 1) old) cases.0 in
    let empty : old ≡ [] = items ∙ ap (λ os. os ++ []) none in
    (λ i. ((same ∙ none) i, None)) ∙ ap last_apart (sym empty ∙ is)
