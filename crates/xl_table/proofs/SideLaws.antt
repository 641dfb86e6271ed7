-- A claim passes a mark by the side on which its numbers stand of those that begin with some.
use Rattle.std.proofs.Common.{◌≡◌, ℕ, Bool, true, false, not, ◌==◌, nat_lt, List, [], ◌∷◌, refl, sym, ap, ◌∙◌, inl, inr, arith}
use Rattle.std.proofs.lemmas.Bool.{cases_Bool}
use Rattle.std.proofs.lemmas.Bool.Decides.{nat_tests}
use Rattle.xl_matrix.specs.declared.claim.Claim.{Claim}
use Rattle.xl_table.specs.declared.marks.Mark.{Mark}
use Rattle.xl_table.specs.declared.marks.Mark.TheVariants.{Before, Upto, Ending, Beginning}
use Rattle.xl_table.specs.declared.ordering.Side.{Side}
use Rattle.xl_table.specs.declared.ordering.Side.TheVariants.{Earlier, Among, Later}
use Rattle.xl_table.specs.Order.{no_later, key}
use Rattle.xl_table.specs.Pages.{passes, passes_side}
use Rattle.xl_table.specs.Sections.{side_of, is_no_later_than}

abbrev is_earlier : Side → Bool
is_earlier Earlier = true
is_earlier _ = false

abbrev is_upto_side : Side → Bool
is_upto_side Later = false
is_upto_side _ = true

less_only : (a b : ℕ) → nat_lt a b ≡ true → nat_lt b a ≡ false
less_only a b h = grind (arith, nat_tests)

less_apart : (a b : ℕ) → nat_lt a b ≡ true → (a == b) ≡ false
less_apart a b h = grind (arith, nat_tests)

more_apart : (a b : ℕ) → nat_lt a b ≡ true → (b == a) ≡ false
more_apart a b h = grind (arith, nat_tests)

no_less : (a b : ℕ) → nat_lt a b ≡ false → nat_lt b a ≡ false → (a == b) ≡ true
no_less a b h k = grind (arith, nat_tests)

before_is : (front ks : List ℕ) → not (no_later front ks) ≡ is_earlier (side_of front ks)
before_is [] ks = refl
before_is (f ∷ fs) [] = refl
before_is (f ∷ fs) (k ∷ ks) =
    elim (cases_Bool (nat_lt k f)) [
      | inl e ↦ rw (e, less_only k f e, more_apart k f e) refl
      | inr e ↦ elim (cases_Bool (nat_lt f k)) [ inl g ↦ rw (e, g) refl | inr g ↦ rw (e, g, no_less f k g e) (before_is fs ks) ]
    ]

upto_is : (front ks : List ℕ) → is_no_later_than front ks ≡ is_upto_side (side_of front ks)
upto_is [] ks = refl
upto_is (f ∷ fs) [] = refl
upto_is (f ∷ fs) (k ∷ ks) =
    elim (cases_Bool (nat_lt k f)) [
      | inl e ↦ rw e refl
      | inr e ↦ elim (cases_Bool (nat_lt f k)) [ inl g ↦ rw (e, g, more_apart f k g) refl | inr g ↦ rw (e, g, no_less k f e g) (upto_is fs ks) ]
    ]

by_side : (mark : Mark) (front : List ℕ) (c : Claim) (s : Side) → not (no_later front (key c)) ≡ is_earlier s → is_no_later_than front (key c) ≡ is_upto_side s → passes_side mark s c ≡ passes mark front c
by_side Before front c Earlier b u = sym b
by_side Before front c Among b u = sym b
by_side Before front c Later b u = sym b
by_side Upto front c Earlier b u = sym u
by_side Upto front c Among b u = sym u
by_side Upto front c Later b u = sym u
by_side (Ending byte) front c Earlier b u = rw b refl
by_side (Ending byte) front c Among b u = rw (b, u) refl
by_side (Ending byte) front c Later b u = rw (b, u) refl
by_side (Beginning byte) front c Earlier b u = rw b refl
by_side (Beginning byte) front c Among b u = rw (b, u) refl
by_side (Beginning byte) front c Later b u = rw (b, u) refl

pub passes_sided : (mark : Mark) (front ks : List ℕ) (c : Claim) (s : Side) (b : Bool) → ks ≡ key c → s ≡ side_of front ks → b ≡ passes_side mark s c → b ≡ passes mark front c
passes_sided mark front ks c s b is at e =
    let there : s ≡ side_of front (key c) = at ∙ ap (λ (ns : List ℕ). side_of front ns) is in
    e ∙ by_side mark front c s (before_is front (key c) ∙ ap (λ (t : Side). is_earlier t) (sym there)) (upto_is front (key c) ∙ ap (λ (t : Side). is_upto_side t) (sym there))
