-- Sums over small numbers, and how many names a few names allow.
use Rattle.std.proofs.Common.{◌≡◌, ℕ, zero, suc, ◌+◌, ◌<◌, ◌≤◌, Bool, true, false, if◌then◌else◌, inl, inr, List, [], ◌∷◌, length, refl, sym, subst, arith}
use Rattle.std.specs.List.{AllByRecursion, list_any}
use Rattle.std.proofs.lemmas.Bool.{cases_lt, cases_Bool}
use Rattle.xl_base.specs.Lists.{IsIn}
use Rattle.xl_names.specs.Names.{same_name, is_kept, AreDistinct}
use Rattle.xl_names.specs.declared.name.Name.{Name}
use Rattle.xl_names.proofs.NameLaws.{same_is_equal}

-- the sum of what each number below this one has
abbrev pub sum_below : ℕ → (ℕ → ℕ) → ℕ
sum_below zero g = 0
sum_below (suc n) g = g n + sum_below n g

-- a number added up so many times
abbrev pub added_up : ℕ → ℕ → ℕ
added_up zero b = 0
added_up (suc n) b = b + added_up n b

pub sum_most : (n b : ℕ) (g : ℕ → ℕ) → ((k : ℕ) → g k ≤ b) → sum_below n g ≤ added_up n b
sum_most zero b g each = omega arith
sum_most (suc n) b g each = omega (arith, each n, sum_most n b g each)

sum_rises : (n : ℕ) (g h : ℕ → ℕ) → ((k : ℕ) → g k ≤ h k) → sum_below n g ≤ sum_below n h
sum_rises zero g h each = omega arith
sum_rises (suc n) g h each = omega (arith, each n, sum_rises n g h each)

pub sum_more : (n m : ℕ) (g h : ℕ → ℕ) → m < n → ((k : ℕ) → g k ≤ h k) → g m + 1 ≤ h m → sum_below n g + 1 ≤ sum_below n h
sum_more zero m g h under each more = absurd (omega (arith, under))
sum_more (suc n) m g h under each more =
    elim (cases_lt m n) [
      | inl before ↦ omega (arith, each n, sum_more n m g h before each more)
      | inr at ↦
          let same : m ≡ n = omega (arith, under, at) in
          let there : g n + 1 ≤ h n = subst (λ (k : ℕ). g k + 1 ≤ h k) same more in
          omega (arith, there, sum_rises n g h each)
    ]

pub sum_each : (n : ℕ) (g h : ℕ → ℕ) → ((k : ℕ) → g k ≤ h k) → sum_below n g ≤ sum_below n h
sum_each n g h each = sum_rises n g h each

-- ---- names

-- how many of the names pass
abbrev count : (Name → Bool) → List Name → ℕ
count p [] = 0
count p (n ∷ ns) = (if p n then 1 else 0) + count p ns

-- how often each of these names stands among the others
abbrev times : List Name → List Name → ℕ
times [] names = 0
times (x ∷ xs) names = count (same_name x) names + times xs names

never : (p : Name → Bool) (names : List Name) → list_any p names ≡ false → count p names ≡ 0
never p [] none = refl
never p (n ∷ ns) none =
    elim (cases_Bool (p n)) [
      | inl is ↦ absurd (no_two (rw is at none))
      | inr isnt ↦ rw isnt (omega (arith, never p ns (rw isnt at none)))
    ]
  where
    no_two : true ≡ false → ⊥
    no_two e = cc

once : (x : Name) (names : List Name) → AreDistinct names → count (same_name x) names ≤ 1
once x [] distinct = omega arith
once x (n ∷ ns) distinct =
    elim (cases_Bool (same_name x n)) [
      | inl is ↦
          let same : x ≡ n = (same_is_equal x n).0 is in
          let none = never (same_name x) ns (subst (λ (y : Name). is_kept y ns ≡ false) (sym same) distinct.0) in
          rw is (omega (arith, none))
      | inr isnt ↦ rw isnt (omega (arith, once x ns distinct.1))
    ]

times_most : (xs names : List Name) → AreDistinct names → times xs names ≤ length xs
times_most [] names distinct = omega arith
times_most (x ∷ xs) names distinct = omega (arith, once x names distinct, times_most xs names distinct)

count_on : (x n : Name) (ns : List Name) → count (same_name x) ns ≤ count (same_name x) (n ∷ ns)
count_on x n ns =
    elim (cases_Bool (same_name x n)) [
      | inl is ↦ rw is (omega arith)
      | inr isnt ↦ rw isnt (omega arith)
    ]

times_on : (xs : List Name) (n : Name) (ns : List Name) → times xs ns ≤ times xs (n ∷ ns)
times_on [] n ns = omega arith
times_on (x ∷ xs) n ns = omega (arith, count_on x n ns, times_on xs n ns)

times_more : (xs : List Name) (n : Name) (ns : List Name) → IsIn n xs → times xs ns + 1 ≤ times xs (n ∷ ns)
times_more [] n ns among = absurd among
times_more (x ∷ xs) n ns (inl same) =
    let is : same_name x n ≡ true = (same_is_equal x n).1 same in
    let more : count (same_name x) (n ∷ ns) ≡ 1 + count (same_name x) ns = rw is refl in
    omega (arith, more, times_on xs n ns)
times_more (x ∷ xs) n ns (inr among) = omega (arith, count_on x n ns, times_more xs n ns among)

all_times : (xs names : List Name) → AllByRecursion (λ n. IsIn n xs) names → length names ≤ times xs names
all_times xs [] all = omega arith
all_times xs (n ∷ ns) all = omega (arith, times_more xs n ns all.0, all_times xs ns all.1)

-- distinct names among these are no more than these
pub few_names : (xs names : List Name) → AreDistinct names → AllByRecursion (λ n. IsIn n xs) names → length names ≤ length xs
few_names xs names distinct all = omega (arith, all_times xs names all, times_most xs names distinct)
