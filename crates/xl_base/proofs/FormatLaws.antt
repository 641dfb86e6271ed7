-- Numbered values, and one form of several, are codecs.
use Rattle.std.proofs.Common.{◌≡◌, ℕ, ◌==◌, ◌||◌, Bool, true, false, List, ◌++◌, Result, Ok, refl, arith, sym, ap, subst, ◌∙◌, inl, inr}
use Rattle.std.proofs.lemmas.Bool.{cases_Bool, eqb-true}
use Rattle.std.proofs.lemmas.Bool.Decides.{nat_tests}
use Rattle.xl_base.specs.Codec.{as_at, IsBytes, Takes, IsCodec}
use Rattle.xl_base.specs.Formats.{numbered_at, Cases, others, when, cases_at, known_in, other_of, is_listed, Chosen, chosen, spelled, AreSeen, IsMade}
use Rattle.xl_base.proofs.CodecLaws.{bind_ok, ok_is, view_codec, guard_codec}

pub numbered_codec : {A E : Type 0} {number : List ℕ → Result (ℕ × List ℕ) E} {spell : ℕ → List ℕ} {Fit : ℕ → Type 0} (fault : E) (to : ℕ → A) (from : A → ℕ)
    → IsCodec number spell Fit → ((a : A) → (to (from a) ≡ a) × Fit (from a)) → IsCodec (numbered_at fault to from number) (λ a. spell (from a)) (λ _. Unit {0})
numbered_codec {A} {E} {number} {spell} {Fit} fault to from f made = view_codec to (λ a. spell (from a)) (λ _. Unit {0}) (guard_codec (λ n. n == from (to n)) fault f)
    (λ n fit. (ap spell (sym (eqb-true n (from (to n)) fit.1)), tt))
    (λ a _. (from a, (made a).0, ((made a).1, rw ((made a).0) (grind (arith, nat_tests)))))

-- ---- one form of several

cases_take : {K A E : Type 0} (choose : A → Chosen K A E) (before : K → Bool) (cases : Cases K A E) → AreSeen choose before cases → (k : K) → before k ≡ false
    → (bytes : List ℕ) (x : A × List ℕ) → IsBytes bytes → cases_at cases k bytes ≡ Ok x → Takes bytes (spelled (choose x.0)) x.1 × (((choose x.0).key ≡ k) × (choose x.0).Fit)
cases_take choose before (others f) seen k unknown bytes x is e =
    let t = (f k).codec.takes bytes x is e in
    let s = seen.0 k unknown x.0 t.1 in
    (subst (λ (text : List ℕ). Takes bytes text x.1) (sym s.0) t.0, s.1)
cases_take {K} {A} {E} choose before (when {B} test key is_key make f behind) seen k unknown bytes x is e =
    elim (cases_Bool (test k)) [
      | inl holds ↦ (
          let there : as_at make f.at bytes ≡ Ok x = rw holds at e in
          let a = bind_ok (f.at bytes) (λ a. Ok (make a.0, a.1)) x there in
          let t = f.codec.takes bytes a.0 is a.1 in
          let made : A × List ℕ = (make a.0.0, a.0.1) in
          let one : (Takes bytes (spelled (chosen key make f a.0.0)) a.0.1) × ((key ≡ k) × f.Fit a.0.0) = (t.0, (sym (is_key k holds), t.1)) in
          let two = subst (λ (c : Chosen K A E). Takes bytes (spelled c) a.0.1 × ((c.key ≡ k) × c.Fit)) (sym (seen.0 a.0.0)) one in
          subst (λ (y : A × List ℕ). Takes bytes (spelled (choose y.0)) y.1 × (((choose y.0).key ≡ k) × (choose y.0).Fit)) (ok_is {E = E} made x a.2) two)
      | inr fails ↦ cases_take choose (λ j. before j || test j) behind seen.1 k (rw (unknown, fails) refl) bytes x is (rw fails at e)
    ]

pub choice_codec : {K A E : Type 0} (cases : Cases K A E) (choose : A → Chosen K A E) → AreSeen choose (λ _. false) cases → ((a : A) → IsMade cases a (choose a)) → (k : K)
    → IsCodec (cases_at cases k) (λ a. spelled (choose a)) (λ a. ((choose a).key ≡ k) × (choose a).Fit)
choice_codec {K} {A} {E} cases choose seen made k = record {
  takes = λ bytes x is e. cases_take choose (λ _. false) cases seen k refl bytes x is e;
  again = λ v rest fit.
      let c = choose v in
      let m = made v in
      let back : as_at c.make c.format.at (spelled c ++ rest) ≡ Ok (v, rest) = rw (c.format.codec.again c.part rest (c.fits fit.1)) (ap (λ (a : A). Ok (a, rest)) m.0) in
      subst (λ (j : K). cases_at cases j (spelled c ++ rest) ≡ Ok (v, rest)) fit.0 (m.1 fit.1 (spelled c ++ rest) ∙ back);
}

-- at a key that is none of a form's what is read at the others is read
not_either : (a b : Bool) → (a || b) ≡ false → (a ≡ false) × (b ≡ false)
not_either true b fails = absurd cc
not_either false b fails = (refl, fails)

unknown_before : {K A E : Type 0} (before : K → Bool) (cases : Cases K A E) (k : K) → known_in before cases k ≡ false → before k ≡ false
unknown_before before (others f) k unknown = unknown
unknown_before before (when test key is make f behind) k unknown = (not_either (before k) (test k) (unknown_before (λ j. before j || test j) behind k unknown)).0

read_unknown : {K A E : Type 0} (before : K → Bool) (cases : Cases K A E) (k : K) → known_in before cases k ≡ false → (bytes : List ℕ) → cases_at cases k bytes ≡ (other_of cases k).at bytes
read_unknown before (others f) k unknown bytes = refl
read_unknown before (when test key is make f behind) k unknown bytes =
    let fails : test k ≡ false = (not_either (before k) (test k) (unknown_before (λ j. before j || test j) behind k unknown)).1 in
    rw fails (read_unknown (λ j. before j || test j) behind k unknown bytes)

pub read_unlisted : {K A E : Type 0} (cases : Cases K A E) (k : K) → is_listed cases k ≡ false → (bytes : List ℕ) → cases_at cases k bytes ≡ (other_of cases k).at bytes
read_unlisted cases k unlisted bytes = read_unknown (λ _. false) cases k unlisted bytes
