-- The least of some claims: which it is, that nothing comes before it, and when there is none.
use Rattle.std.proofs.Common.{◌≡◌, ℕ, Bool, true, false, if◌then◌else◌, nat_lt, ◌==◌, arith, inl, inr, List, [], ◌∷◌, Some, None, refl, sym, ap, ◌∙◌}
use Rattle.std.specs.List.{AllByRecursion, filter, list_any}
use Rattle.std.specs.declared.cmp.Ordering.{Ordering}
use Rattle.std.specs.Cmp.{IsStrictWeakOrder}
use Rattle.std.specs.Ordering.{nat_cmp, is_lt, ordering_then}
use Rattle.std.specs.Cmp.Lexicographic.{slice_cmp}
use Rattle.std.proofs.lemmas.Cmp.{nat_list_cmp_total}
use Rattle.std.proofs.lemmas.List.MinMax.{ranks_by}
use Rattle.std.proofs.lemmas.Bool.{cases_Bool, cases_order, both_ways, eq-eqb, ne_eqb, lt-ltb, le-ltb}
use Rattle.xl_base.specs.Lists.{IsIn}
use Rattle.xl_base.proofs.LeastLaws as base
use Rattle.xl_matrix.specs.declared.claim.Claim.{Claim}
use Rattle.xl_names.specs.Texts.{owner_text}
use Rattle.xl_names.specs.declared.name.Name.{Name}
use Rattle.xl_table.specs.Least.{range_key, range_before, least}

-- ---- the least

pub least_in : (names : List Name) (cs : List Claim) (c : Claim) → least names cs ≡ Some c → IsIn c cs
unfolding least
least_in names cs c e = base.least_in (range_before names) cs c e

pub least_none : (names : List Name) (cs : List Claim) → least names cs ≡ None → cs ≡ []
unfolding least
least_none names cs e = base.least_none (range_before names) cs e

pub least_empty : (names : List Name) (cs : List Claim) → cs ≡ [] → least names cs ≡ None
unfolding least
least_empty names cs e = rw e refl

-- ---- nothing comes before the least

-- the numbers by which ranges are told apart, and then the text
abbrev claim_key : List Name → Claim → List ℕ
claim_key names c = (range_key c.what).0 ∷ (range_key c.what).1 ∷ (range_key c.what).2 ∷ (range_key c.what).3 ∷ owner_text names c.owner

first_number : (x y : ℕ) (later : Bool) (o : Ordering) → later ≡ is_lt o → (if x == y then later else nat_lt x y) ≡ is_lt (ordering_then (nat_cmp x y) o)
first_number x y later o e =
    elim (cases_order x y) [
      | inl same ↦ rw (eq-eqb x y same, le-ltb x y (omega (arith, same))) e
      | inr order ↦ elim order [
        | inl less ↦ rw (ne_eqb x y (λ same. omega (arith, same, less)), lt-ltb x y less) refl
        | inr more ↦ rw (ne_eqb x y (λ same. omega (arith, same, more)), le-ltb x y (omega (arith, more))) refl
      ]
    ]

abbrev compared : List Name → Claim → Claim → Ordering
compared names a b = slice_cmp nat_cmp (claim_key names a) (claim_key names b)

before_is : (names : List Name) (a b : Claim) → range_before names a b ≡ is_lt (compared names a b)
before_is names a b =
    let x = range_key a.what in
    let y = range_key b.what in
    let text = slice_cmp nat_cmp (owner_text names a.owner) (owner_text names b.owner) in
    first_number x.0 y.0 _ _ (first_number x.1 y.1 _ _ (first_number x.2 y.2 _ _ (first_number x.3 y.3 (is_lt text) text refl)))

-- it is an order of claims
range_order : (names : List Name) → IsStrictWeakOrder (range_before names)
range_order names =
    let order : IsStrictWeakOrder (λ a b. is_lt (compared names a b)) = ranks_by nat_list_cmp_total (claim_key names) in
    record {
      one_way = λ a b e. before_is names b a ∙ order.one_way a b (sym (before_is names a b) ∙ e);
      chain = λ a b c e f. before_is names a c ∙ order.chain a b c (sym (before_is names a b) ∙ e) (sym (before_is names b c) ∙ f);
    }

-- none of them comes before the least
pub least_first : (names : List Name) (cs : List Claim) (c : Claim) → least names cs ≡ Some c → IsIn c cs × AllByRecursion (λ d. range_before names d c ≡ false) cs
unfolding least
least_first names cs c e = (base.least_in (range_before names) cs c e, base.least_first (range_before names) (range_order names) cs c e)

-- ---- what blocks

pub none_passes : (p : Claim → Bool) (cs : List Claim) → filter p cs ≡ [] → list_any p cs ≡ false
none_passes p [] e = refl
none_passes p (c ∷ cs) e =
    elim (cases_Bool (p c)) [
      | inl passes ↦ let two : (c ∷ filter p cs) ≡ [] = rw passes at e in absurd cc
      | inr fails ↦ rw fails (none_passes p cs (rw fails at e))
    ]

pub none_stays : (p : Claim → Bool) (cs : List Claim) → list_any p cs ≡ false → filter p cs ≡ []
none_stays p [] e = refl
none_stays p (c ∷ cs) e =
    elim (cases_Bool (p c)) [
      | inl passes ↦ let two : true ≡ false = rw passes at e in absurd cc
      | inr fails ↦ rw fails (none_stays p cs (rw fails at e))
    ]

pub one_passes : (p : Claim → Bool) (cs : List Claim) (c : Claim) → IsIn c cs → p c ≡ true → list_any p cs ≡ true
one_passes p [] c h passes = absurd h
one_passes p (d ∷ ds) c h passes =
    elim (cases_Bool (p d)) [
      | inl here ↦ rw here refl
      | inr not_here ↦ rw not_here (elim h [ inl e ↦ absurd (both_ways (p d) not_here (ap p e ∙ passes)) | inr there ↦ one_passes p ds c there passes ])
    ]
