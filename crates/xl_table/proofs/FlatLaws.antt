-- Lists with a claim put in or taken out.
use Rattle.std.proofs.Common.{◌≡◌, ◌+◌, ◌≤◌, Bool, true, false, IsTrue, ◌↔◌, List, [], ◌∷◌, length, inl, inr, refl, sym, ap, subst, ◌∙◌, arith}
use Rattle.std.specs.List.{AllByRecursion, list_any}
use Rattle.std.proofs.lemmas.Bool.{cases_Bool, both_ways, or_cases, or_left, or_right, or_parts}
use Rattle.xl_base.specs.Lists.{IsIn, placed, Pairwise}
use Rattle.xl_base.proofs.Members.{all_in}
use Rattle.xl_matrix.specs.declared.claim.Claim.{Claim}
use Rattle.xl_matrix.specs.declared.claim.What.{What}
use Rattle.xl_matrix.specs.Equal.{same_claims}
use Rattle.xl_matrix.proofs.EqualLaws.{same_claims-self, same_claims-true}
use Rattle.xl_table.specs.Order.{goes_first}
use Rattle.xl_table.specs.Flat.{inserted, removed, changed, with_what}

-- one that is held makes the list shorter when it goes
pub removed_shorter : (claim : Claim) (held : List Claim) → IsIn claim held → length (removed claim held) + 1 ≡ length held
removed_shorter claim [] h = absurd h
removed_shorter claim (c ∷ cs) h =
    elim (cases_Bool (same_claims c claim)) [
      | inl same ↦ rw same (omega arith)
      | inr other ↦
          rw other
          (elim h [
            | inl e ↦ absurd (both_ways (same_claims c claim) other (subst (λ (d : Claim). same_claims c d ≡ true) e (same_claims-self c)))
            | inr later ↦ omega (arith, removed_shorter claim cs later)
          ])
    ]

pub length_removed : (claim : Claim) (held : List Claim) → length (removed claim held) ≤ length held
length_removed claim [] = omega arith
length_removed claim (c ∷ cs) =
    elim (cases_Bool (same_claims c claim)) [
      | inl same ↦ rw same (omega arith)
      | inr other ↦ rw other (omega (arith, length_removed claim cs))
    ]

-- what holds of each claim, when one is put in or taken out
pub all_removed : (P : Claim → Type 0) (claim : Claim) (held : List Claim) → AllByRecursion P held → AllByRecursion P (removed claim held)
all_removed P claim [] all = tt
all_removed P claim (c ∷ cs) all =
    elim (cases_Bool (same_claims c claim)) [
      | inl same ↦ rw same all.1
      | inr other ↦ rw other (all.0, all_removed P claim cs all.1)
    ]

pub pairwise_removed : (test : Claim → Claim → Bool) (claim : Claim) (held : List Claim) → Pairwise test held → Pairwise test (removed claim held)
pairwise_removed test claim [] all = tt
pairwise_removed test claim (c ∷ cs) all =
    elim (cases_Bool (same_claims c claim)) [
      | inl same ↦ rw same all.1
      | inr other ↦ rw other (all_removed (λ d. test c d ≡ true) claim cs all.0, pairwise_removed test claim cs all.1)
    ]

-- a test that holds of each two of these holds of a held one and each of the others
pub pairwise_others : (test : Claim → Claim → Bool) → ((a b : Claim) → test a b ≡ test b a) → (claim : Claim) (held : List Claim) → IsIn claim held → Pairwise test held → AllByRecursion (λ d. test claim d ≡ true) (removed claim held)
pairwise_others test flip claim [] h all = absurd h
pairwise_others test flip claim (c ∷ cs) h all =
    elim (cases_Bool (same_claims c claim)) [
      | inl same ↦ rw same (subst (λ (d : Claim). AllByRecursion (λ e. test d e ≡ true) cs) (same_claims-true c claim same) all.0)
      | inr other ↦
          rw other
          (elim h [
            | inl e ↦ absurd (both_ways (same_claims c claim) other (subst (λ (d : Claim). same_claims c d ≡ true) e (same_claims-self c)))
            | inr later ↦ (flip claim c ∙ all_in (λ d. test c d ≡ true) claim cs all.0 later, pairwise_others test flip claim cs later all.1)
          ])
    ]

all_placed : (P : Claim → Type 0) (below : Claim → Claim → Bool) (claim : Claim) (held : List Claim) → P claim → AllByRecursion P held → AllByRecursion P (placed below claim held)
all_placed P below claim [] one all = (one, tt)
all_placed P below claim (c ∷ cs) one all =
    elim (cases_Bool (below c claim)) [
      | inl earlier ↦ rw earlier (all.0, all_placed P below claim cs one all.1)
      | inr later ↦ rw later (one, (all.0, all.1))
    ]

pub all_inserted : (P : Claim → Type 0) (claim : Claim) (held : List Claim) → P claim → AllByRecursion P held → AllByRecursion P (inserted claim held)
unfolding inserted
all_inserted P claim held one all = all_placed P goes_first claim held one all

length_placed : (below : Claim → Claim → Bool) (claim : Claim) (held : List Claim) → length (placed below claim held) ≡ length held + 1
length_placed below claim [] = omega arith
length_placed below claim (c ∷ cs) =
    elim (cases_Bool (below c claim)) [
      | inl earlier ↦ rw earlier (omega (arith, length_placed below claim cs))
      | inr later ↦ rw later (omega arith)
    ]

pub length_inserted : (claim : Claim) (held : List Claim) → length (inserted claim held) ≡ length held + 1
unfolding inserted
length_inserted claim held = length_placed goes_first claim held

-- a list in order stays so
pub pairwise_placed : (below : Claim → Claim → Bool)
    → ((a b : Claim) → below a b ≡ false → below b a ≡ true)
    → ((a b c : Claim) → below a b ≡ true → below b c ≡ true → below a c ≡ true)
    → (claim : Claim) (held : List Claim) → Pairwise below held → Pairwise below (placed below claim held)
pairwise_placed below total on claim [] all = (tt, tt)
pairwise_placed below total on claim (c ∷ cs) all =
    elim (cases_Bool (below c claim)) [
      | inl earlier ↦ rw earlier (all_placed (λ d. below c d ≡ true) below claim cs earlier all.0, pairwise_placed below total on claim cs all.1)
      | inr later ↦ rw later ((total c claim later, below_all c cs (total c claim later) all.0), (all.0, all.1))
    ]
  where
    below_all : (c : Claim) (ds : List Claim) → below claim c ≡ true → AllByRecursion (λ d. below c d ≡ true) ds → AllByRecursion (λ d. below claim d ≡ true) ds
    below_all c [] h all = tt
    below_all c (d ∷ ds) h all = (on claim c d h all.0, below_all c ds h all.1)

-- a claim that passes the test with each of these may stand among them
pub pairwise_into : (test : Claim → Claim → Bool) → ((a b : Claim) → test a b ≡ test b a) → (claim : Claim) (held : List Claim) → AllByRecursion (λ d. test claim d ≡ true) held → Pairwise test held → Pairwise test (inserted claim held)
unfolding inserted
pairwise_into test flip claim held fits all = go held fits all where
  one : (c : Claim) (ds : List Claim) → test c claim ≡ true → AllByRecursion (λ d. test c d ≡ true) ds → AllByRecursion (λ d. test c d ≡ true) (placed goes_first claim ds)
  one c ds passes all = all_placed (λ d. test c d ≡ true) goes_first claim ds passes all

  go : (held : List Claim) → AllByRecursion (λ d. test claim d ≡ true) held → Pairwise test held → Pairwise test (placed goes_first claim held)
  go [] fits all = (tt, tt)
  go (c ∷ cs) fits all =
      elim (cases_Bool (goes_first c claim)) [
        | inl earlier ↦ rw earlier (one c cs (flip c claim ∙ fits.0) all.0, go cs fits.1 all.1)
        | inr later ↦ rw later ((fits.0, fits.1), (all.0, all.1))
      ]

-- a test for being held
held_from_test : (claim : Claim) (held : List Claim) → list_any (λ c. same_claims c claim) held ≡ true → IsIn claim held
held_from_test claim [] h = absurd (both_ways false refl h)
held_from_test claim (c ∷ cs) h =
    elim (or_cases (same_claims c claim) (list_any (λ c. same_claims c claim) cs) h) [
      | inl here ↦ inl (same_claims-true c claim here)
      | inr later ↦ inr (held_from_test claim cs later)
    ]

pub test_from_held : (claim : Claim) (held : List Claim) → IsIn claim held → list_any (λ c. same_claims c claim) held ≡ true
test_from_held claim [] h = absurd h
test_from_held claim (c ∷ cs) h =
    elim h [
      | inl e ↦ or_left (same_claims c claim) (list_any (λ c. same_claims c claim) cs) (subst (λ (d : Claim). same_claims c d ≡ true) e (same_claims-self c))
      | inr later ↦ or_right (same_claims c claim) (list_any (λ c. same_claims c claim) cs) (test_from_held claim cs later)
    ]

pub held_iff : (test : Bool) (claim : Claim) (held : List Claim) → test ≡ list_any (λ c. same_claims c claim) held → IsTrue test ↔ IsIn claim held
held_iff test claim held h = ((λ t. held_from_test claim held (sym h ∙ t)), (λ i. h ∙ test_from_held claim held i))

pub held_found : (claim : Claim) (held : List Claim) → IsIn claim held → list_any (λ c. same_claims c claim) held ≡ false → ⊥
held_found claim held h none = both_ways (list_any (λ c. same_claims c claim) held) none (test_from_held claim held h)

pub removed_none : (claim : Claim) (held : List Claim) → list_any (λ c. same_claims c claim) held ≡ false → removed claim held ≡ held
removed_none claim [] none = refl
removed_none claim (c ∷ cs) none =
    let apart = or_parts (same_claims c claim) (list_any (λ d. same_claims d claim) cs) none in
    rw apart.0 (ap (λ (ds : List Claim). c ∷ ds) (removed_none claim cs apart.1))

-- the list is by so much shorter
pub count_removed : (claim : Claim) (held : List Claim) → list_any (λ c. same_claims c claim) held ≡ true → length (removed claim held) + 1 ≡ length held
count_removed claim held h = removed_shorter claim held (held_from_test claim held h)

pub count_changed : (claim : Claim) (to : What) (held : List Claim) → IsIn claim held → length (changed claim to held) ≡ length held
unfolding changed
count_changed claim to held h = omega (arith, length_inserted (with_what claim to) (removed claim held), removed_shorter claim held h)
