-- The first of rising limits that is passed is the least.
use Rattle.std.proofs.Common.{◌≡◌, ℕ, ◌+◌, ◌<◌, ◌≤◌, Bool, true, false, if◌then◌else◌, ◌&&◌, ◌==◌, inl, inr, List, [], ◌∷◌, Option, Some, None, refl, sym, ap, subst, ◌∙◌, arith}
use Rattle.std.specs.List.{AllByRecursion}
use Rattle.std.proofs.lemmas.Bool.{cases_Bool, both_ways, and_parts, and_right, or_cases, or_left, eqb-true, eq-eqb}
use Rattle.std.proofs.lemmas.Bool.Decides.{nat_tests}
use Rattle.xl_names.specs.Names.{most_names}
use Rattle.xl_table.specs.Relock.{most_claims}
use Rattle.xl_wait.specs.declared.waiter.Rooms.{Rooms}
use Rattle.xl_core.specs.Limits.{most_waiters, grant_limits, wait_limits, wish_limits, first_passed, is_passed, IsRoom, IsLeastPassed}

abbrev AreRising : List (ℕ × Bool) → Type 0
AreRising [] = Unit {0}
AreRising (limit ∷ limits) = AllByRecursion (λ more. limit.0 ≤ more.0) limits × AreRising limits

-- what is told is the least that is passed, or there is room
abbrev pub IsFound : List (ℕ × Bool) → Option ℕ → Type 0
IsFound limits None = IsRoom limits
IsFound limits (Some n) = IsLeastPassed limits n

passed_above : (low n : ℕ) (limits : List (ℕ × Bool)) → AllByRecursion (λ more. low ≤ more.0) limits → is_passed limits n ≡ true → low ≤ n
passed_above low n [] above e = absurd (both_ways false refl e)
passed_above low n (limit ∷ limits) above e =
    elim (or_cases ((limit.0 == n) && limit.1) (is_passed limits n) e) [
      | inl here ↦ omega (arith, above.0, eqb-true limit.0 n (and_parts (limit.0 == n) limit.1 here).0)
      | inr later ↦ passed_above low n limits above.1 later
    ]

found_later : (limit : ℕ × Bool) (limits : List (ℕ × Bool)) (o : Option ℕ) → limit.1 ≡ false → IsFound limits o → IsFound (limit ∷ limits) o
found_later limit limits None off found = λ n. rw (and_right (limit.0 == n) limit.1 off) (found n)
found_later limit limits (Some m) off found = (
  rw (and_right (limit.0 == m) limit.1 off) found.0,
  λ n e. found.1 n (rw (and_right (limit.0 == n) limit.1 off) at e),
)

found_first : (limits : List (ℕ × Bool)) → AreRising limits → IsFound limits (first_passed limits)
found_first [] rising = λ n. refl
found_first (limit ∷ limits) rising =
    elim (cases_Bool limit.1) [
      | inl on ↦
          subst (λ (o : Option ℕ). IsFound (limit ∷ limits) o) (ap (λ (b : Bool). if b then Some limit.0 else first_passed limits) (sym on)) (
            or_left ((limit.0 == limit.0) && limit.1) (is_passed limits limit.0) (ap (λ (b : Bool). b && limit.1) (eq-eqb limit.0 limit.0 refl) ∙ on),
            λ n e. passed_above limit.0 n (limit ∷ limits) (omega arith, rising.0) e,
          )
      | inr off ↦
          subst (λ (o : Option ℕ). IsFound (limit ∷ limits) o) (ap (λ (b : Bool). if b then Some limit.0 else first_passed limits) (sym off))
          (found_later limit limits (first_passed limits) off (found_first limits rising.1))
    ]

found_once : (limits : List (ℕ × Bool)) (o p : Option ℕ) → IsFound limits o → IsFound limits p → o ≡ p
found_once limits None None found same = refl
found_once limits None (Some n) found least = absurd (both_ways (is_passed limits n) (found n) least.0)
found_once limits (Some m) None least found = absurd (both_ways (is_passed limits m) (found m) least.0)
found_once limits (Some m) (Some n) found least = let same : m ≡ n = omega (arith, found.1 n least.0, least.1 m found.0) in ap (λ (k : ℕ). Some k) same

-- ---- the limits of a grant and of a wait

grant_first : (left rows : Rooms) (held bytes kept : ℕ) → IsFound (grant_limits left rows held bytes kept) (first_passed (grant_limits left rows held bytes kept))
grant_first left rows held bytes kept =
    found_first (grant_limits left rows held bytes kept)
    ((omega arith, (omega arith, (omega arith, (omega arith, (omega arith, tt))))), ((omega arith, (omega arith, (omega arith, (omega arith, tt)))), ((omega arith, (omega arith, (omega arith, tt))), ((omega arith, (omega arith, tt)), ((omega arith, tt), (tt, tt))))))

wait_first : (left rows : Rooms) (waiting kept : ℕ) → IsFound (wait_limits left rows waiting kept) (first_passed (wait_limits left rows waiting kept))
wait_first left rows waiting kept = found_first (wait_limits left rows waiting kept) ((omega arith, (omega arith, tt)), ((omega arith, tt), (tt, tt)))

pub grant_found : (left rows : Rooms) (held bytes kept : ℕ) (o : Option ℕ) → first_passed (grant_limits left rows held bytes kept) ≡ o → IsFound (grant_limits left rows held bytes kept) o
grant_found left rows held bytes kept o e = subst (λ (p : Option ℕ). IsFound (grant_limits left rows held bytes kept) p) e (grant_first left rows held bytes kept)

pub wait_found : (left rows : Rooms) (waiting kept : ℕ) (o : Option ℕ) → first_passed (wait_limits left rows waiting kept) ≡ o → IsFound (wait_limits left rows waiting kept) o
wait_found left rows waiting kept o e = subst (λ (p : Option ℕ). IsFound (wait_limits left rows waiting kept) p) e (wait_first left rows waiting kept)

pub grant_least : (left rows : Rooms) (held bytes kept : ℕ) (o : Option ℕ) → IsFound (grant_limits left rows held bytes kept) o → first_passed (grant_limits left rows held bytes kept) ≡ o
grant_least left rows held bytes kept o found = found_once (grant_limits left rows held bytes kept) _ o (grant_first left rows held bytes kept) found

pub wait_least : (left rows : Rooms) (waiting kept : ℕ) (o : Option ℕ) → IsFound (wait_limits left rows waiting kept) o → first_passed (wait_limits left rows waiting kept) ≡ o
wait_least left rows waiting kept o found = found_once (wait_limits left rows waiting kept) _ o (wait_first left rows waiting kept) found

-- ---- where none is passed

pub grant_room : (left rows : Rooms) (held bytes kept : ℕ) → first_passed (grant_limits left rows held bytes kept) ≡ None → (rows.hosts ≤ left.hosts) × (held ≤ most_claims) × (kept ≤ most_names)
grant_room left rows held bytes kept e = (grind (arith, nat_tests), grind (arith, nat_tests), grind (arith, nat_tests))

pub wait_room : (left rows : Rooms) (waiting kept : ℕ) → first_passed (wait_limits left rows waiting kept) ≡ None → (rows.hosts ≤ left.hosts) × (waiting + 1 ≤ most_waiters) × (kept ≤ most_names)
wait_room left rows waiting kept e = (grind (arith, nat_tests), grind (arith, nat_tests), grind (arith, nat_tests))

-- what may wait has room, as the code asks for it
pub wait_fits : (left rows : Rooms) (waiting kept : ℕ) (o : Option ℕ) → o ≡ first_passed (wait_limits left rows waiting kept) → o ≡ None → (waiting < most_waiters) × (kept ≤ most_names)
wait_fits left rows waiting kept o is none = let room = wait_room left rows waiting kept (sym is ∙ none) in (omega (arith, room.1), room.2)

-- ---- a wish by itself

wish_first : (left rows : Rooms) (kept : ℕ) → IsFound (wish_limits left rows kept) (first_passed (wish_limits left rows kept))
wish_first left rows kept = found_first (wish_limits left rows kept) ((omega arith, (omega arith, (omega arith, tt))), ((omega arith, (omega arith, tt)), ((omega arith, tt), (tt, tt))))

pub wish_found : (left rows : Rooms) (kept : ℕ) (o : Option ℕ) → first_passed (wish_limits left rows kept) ≡ o → IsFound (wish_limits left rows kept) o
wish_found left rows kept o e = subst (λ (p : Option ℕ). IsFound (wish_limits left rows kept) p) e (wish_first left rows kept)

pub wish_least : (left rows : Rooms) (kept : ℕ) (o : Option ℕ) → IsFound (wish_limits left rows kept) o → first_passed (wish_limits left rows kept) ≡ o
wish_least left rows kept o found = found_once (wish_limits left rows kept) _ o (wish_first left rows kept) found

pub wish_room : (left rows : Rooms) (kept : ℕ) → first_passed (wish_limits left rows kept) ≡ None → kept ≤ most_names
wish_room left rows kept e = grind (arith, nat_tests)

pub wish_fits : (left rows : Rooms) (kept : ℕ) (o : Option ℕ) → o ≡ first_passed (wish_limits left rows kept) → o ≡ None → kept ≤ most_names
wish_fits left rows kept o is none = wish_room left rows kept (sym is ∙ none)
