-- The order of the flat list is a total order of keys.
use Rattle.std.proofs.Common.{◌≡◌, ℕ, true, false, ◌&&◌, ◌==◌, List, [], ◌∷◌, inl, inr, refl, sym, ◌∙◌, nat_lt, arith}
use Rattle.std.proofs.lemmas.Bool.{cases_order, both_ways, or_cases, or_left, or_right, or_parts, and_parts, and_from, and_cases, eqb-true, eq-eqb, ltb-true, lt-ltb}
use Rattle.xl_base.specs.Lists.{Pairwise}
use Rattle.xl_matrix.specs.declared.claim.Claim.{Claim}
use Rattle.xl_table.specs.Order.{no_later, key, goes_first}
use Rattle.xl_table.specs.Flat.{inserted}
use Rattle.xl_table.proofs.FlatLaws.{pairwise_placed}

pub no_later-total : (xs ys : List ℕ) → no_later xs ys ≡ false → no_later ys xs ≡ true
no_later-total [] ys h = absurd (both_ways true h refl)
no_later-total (x ∷ xs) [] h = refl
no_later-total (x ∷ xs) (y ∷ ys) h =
    let apart = or_parts (nat_lt x y) ((x == y) && no_later xs ys) h in
    elim (cases_order x y) [
      | inl e ↦
          or_right (nat_lt y x) ((y == x) && no_later ys xs)
          (and_from (y == x) (no_later ys xs) (eq-eqb y x (sym e))
          (no_later-total xs ys
          (elim (and_cases (x == y) (no_later xs ys) apart.1) [
            | inl differ ↦ absurd (both_ways (x == y) differ (eq-eqb x y e))
            | inr rest ↦ rest
          ])))
      | inr order ↦ elim order [
        | inl less ↦ absurd (both_ways (nat_lt x y) apart.0 (lt-ltb x y less))
        | inr more ↦ or_left (nat_lt y x) ((y == x) && no_later ys xs) (lt-ltb y x more)
      ]
    ]

pub no_later-on : (xs ys zs : List ℕ) → no_later xs ys ≡ true → no_later ys zs ≡ true → no_later xs zs ≡ true
no_later-on [] ys zs h k = refl
no_later-on (x ∷ xs) [] zs h k = absurd (both_ways false refl h)
no_later-on (x ∷ xs) (y ∷ ys) [] h k = absurd (both_ways false refl k)
no_later-on (x ∷ xs) (y ∷ ys) (z ∷ zs) h k =
    elim (or_cases (nat_lt x y) ((x == y) && no_later xs ys) h) [
      | inl less ↦ or_left (nat_lt x z) ((x == z) && no_later xs zs)
          (elim (or_cases (nat_lt y z) ((y == z) && no_later ys zs) k) [
            | inl then ↦ lt-ltb x z (omega (arith, ltb-true x y less, ltb-true y z then))
            | inr tied ↦ lt-ltb x z (omega (arith, ltb-true x y less, eqb-true y z (and_parts (y == z) (no_later ys zs) tied).0))
          ])
      | inr tied ↦
          let both = and_parts (x == y) (no_later xs ys) tied in
          let same : x ≡ y = eqb-true x y both.0 in
          elim (or_cases (nat_lt y z) ((y == z) && no_later ys zs) k) [
            | inl less ↦ or_left (nat_lt x z) ((x == z) && no_later xs zs) (lt-ltb x z (omega (arith, ltb-true y z less)))
            | inr later ↦
                let rest = and_parts (y == z) (no_later ys zs) later in
                or_right (nat_lt x z) ((x == z) && no_later xs zs)
                (and_from (x == z) (no_later xs zs) (eq-eqb x z (same ∙ eqb-true y z rest.0)) (no_later-on xs ys zs both.1 rest.1))
          ]
    ]

pub no_later-self : (xs : List ℕ) → no_later xs xs ≡ true
no_later-self [] = refl
no_later-self (x ∷ xs) = or_right (nat_lt x x) ((x == x) && no_later xs xs) (and_from (x == x) (no_later xs xs) (eq-eqb x x refl) (no_later-self xs))

pub inserted_ordered : (claim : Claim) (held : List Claim) → Pairwise goes_first held → Pairwise goes_first (inserted claim held)
unfolding inserted
inserted_ordered claim held all =
    pairwise_placed goes_first
    (λ (a b : Claim) (h : goes_first a b ≡ false). no_later-total (key a) (key b) h)
    (λ (a b c : Claim) (h : goes_first a b ≡ true) (k : goes_first b c ≡ true). no_later-on (key a) (key b) (key c) h k)
    claim held all
