-- The deadlines of the breaks that run, as one is put in and taken out.
use Rattle.std.proofs.Common.{◌≡◌, ℕ, zero, suc, ◌+◌, ◌-◌, ◌<◌, ◌≤◌, Bool, true, false, ◌==◌, nat_lt, nat_le, List, [], ◌∷◌, ◌++◌, length, take, drop, get_or, refl, sym, ap, subst, ◌∙◌, inl, inr, arith}
use Rattle.std.proofs.Math.Numerals.{one-add, suc-eq-add-one}
use Rattle.std.proofs.Math.Seq.{drop-cons}
use Rattle.std.proofs.lemmas.Bool.{cases_Bool, eqb-true, eq-eqb}
use Rattle.std.proofs.lemmas.Bool.Decides.{nat_tests}
use Rattle.std.specs.List.{AllByRecursion, prefix_len, remove}
use Rattle.xl_base.proofs.Members.{all_append, all_weaker}
use Rattle.xl_index.specs.Totals.{one}
use Rattle.xl_index.specs.Moments.{passing, AreRising}
use Rattle.xl_index.specs.Parted.{IsParted}

-- ---- numbers

le_from : (a b : ℕ) → nat_le a b ≡ true → a ≤ b
le_from a b h = grind (arith, nat_tests)

lt_from : (a b : ℕ) → nat_le a b ≡ false → b < a
lt_from a b h = grind (arith, nat_tests)

no_less : (a b : ℕ) → nat_lt a b ≡ false → b ≤ a
no_less a b h = grind (arith, nat_tests)

less_apart : (a b : ℕ) → nat_lt a b ≡ true → (a == b) ≡ false
less_apart a b h = grind (arith, nat_tests)

later_apart : (a b : ℕ) → b < a → (a == b) ≡ false
later_apart a b h = grind (arith, nat_tests)

later_by : (a b : ℕ) → nat_lt a b ≡ false → (a == b) ≡ false → b < a
later_by a b h e = grind (arith, nat_tests)

not_come : (a b : ℕ) → b < a → nat_le a b ≡ false
not_come a b h = grind (arith, nat_tests)

some_over : (n : ℕ) → nat_lt 0 (1 + n) ≡ true
some_over n = grind (arith, nat_tests)

whole : {A : Type 0} (xs : List A) → take (length xs) xs ≡ xs
whole [] = refl
whole (x ∷ xs) = ap (λ ys. x ∷ ys) (whole xs)

-- a list by its first and those behind it
pub row : {A : Type 0} (xs : List A) (d : A) → 1 ≤ length xs → xs ≡ get_or xs 0 d ∷ take (length xs - 1) (drop 1 xs)
row [] d h = absurd (omega (arith, h))
row (x ∷ xs) d h = let n : length (x ∷ xs) - 1 ≡ length xs = omega arith in ap (λ ys. x ∷ ys) (sym (ap (λ (k : ℕ). take k xs) n ∙ whole xs))

-- what is left of moments from a place on, of which the first stands there
pub row_read : (ms : List ℕ) (i : ℕ) → i < length ms → drop i ms ≡ get_or ms i 0 ∷ drop (i + 1) ms
row_read ms i h = drop-cons ms i 0 h ∙ ap (λ (k : ℕ). get_or ms i 0 ∷ drop k ms) (suc-eq-add-one i)

-- ---- moments in order

all_taken : (P : ℕ → Type 0) (n : ℕ) (ms : List ℕ) → AllByRecursion P ms → AllByRecursion P (take n ms)
all_taken P zero [] all = tt
all_taken P zero (m ∷ ms) all = tt
all_taken P (suc n) [] all = tt
all_taken P (suc n) (m ∷ ms) all = (all.0, all_taken P n ms all.1)

all_left : (P : ℕ → Type 0) (n : ℕ) (ms : List ℕ) → AllByRecursion P ms → AllByRecursion P (drop n ms)
all_left P zero [] all = tt
all_left P zero (m ∷ ms) all = all
all_left P (suc n) [] all = tt
all_left P (suc n) (m ∷ ms) all = all_left P n ms all.1

all_later : (m n : ℕ) (ms : List ℕ) → m ≤ n → AllByRecursion (λ k. n ≤ k) ms → AllByRecursion (λ k. m ≤ k) ms
all_later m n ms h all = all_weaker (λ k. n ≤ k) (λ k. m ≤ k) ms (λ k e. omega (arith, h, e)) all

-- a moment put in behind those that are no later
rising_with : (m : ℕ) (ms : List ℕ) → AreRising ms → AreRising (take (prefix_len (λ k. nat_le k m) ms) ms ++ m ∷ drop (prefix_len (λ k. nat_le k m) ms) ms)
rising_with m [] rising = (tt, tt)
rising_with m (k ∷ ks) rising =
    let n = prefix_len (λ j. nat_le j m) ks in
    elim (cases_Bool (nat_le k m)) [
      | inl e ↦
          rw (e, one-add n)
          ((all_append (λ j. k ≤ j) (take n ks) (m ∷ drop n ks) (all_taken (λ j. k ≤ j) n ks rising.0) (le_from k m e, all_left (λ j. k ≤ j) n ks rising.0), rising_with m ks rising.1))
      | inr e ↦ let h = lt_from k m e in rw e ((omega (arith, h), all_later m k ks (omega (arith, h)) rising.0), rising)
    ]

pub put_rising : (ms new : List ℕ) (m i : ℕ) → AreRising ms → i ≡ prefix_len (λ k. nat_le k m) ms → new ≡ take i ms ++ m ∷ drop i ms → AreRising new
put_rising ms new m i rising at is =
    subst AreRising (sym (is ∙ ap (λ (n : ℕ). take n ms ++ m ∷ drop n ms) at)) (rising_with m ms rising)

counted_with : (p : ℕ → Bool) (m i : ℕ) (ms : List ℕ) → passing p (take i ms ++ m ∷ drop i ms) ≡ one (p m) + passing p ms
counted_with p m zero [] = refl
counted_with p m zero (k ∷ ks) = refl
counted_with p m (suc i) [] = refl
counted_with p m (suc i) (k ∷ ks) = omega (arith, counted_with p m i ks)

pub put_counted : (ms new : List ℕ) (m i : ℕ) → new ≡ take i ms ++ m ∷ drop i ms → (p : ℕ → Bool) → passing p new ≡ one (p m) + passing p ms
put_counted ms new m i is p = ap (passing p) is ∙ counted_with p m i ms

-- a moment that stands in the list stands behind those that are earlier
record IsFound (ms : List ℕ) (i m : ℕ) : Type 0 where
  within : i < length ms
  counted : (p : ℕ → Bool) → one (p m) + passing p (remove ms i) ≡ passing p ms
  rising : AreRising (remove ms i)

none_equal : (m k : ℕ) (ms : List ℕ) → m < k → AllByRecursion (λ j. k ≤ j) ms → passing (λ j. j == m) ms ≡ 0
none_equal m k [] h all = refl
none_equal m k (j ∷ js) h all = rw (later_apart j m (omega (arith, h, all.0))) (omega (arith, none_equal m k js h all.1))

found_at : (m : ℕ) (ms : List ℕ) → AreRising ms → 0 < passing (λ j. j == m) ms → IsFound ms (prefix_len (λ j. nat_lt j m) ms) m
found_at m [] rising some = absurd (omega (arith, some))
found_at m (k ∷ ks) rising some =
    let n = prefix_len (λ j. nat_lt j m) ks in
    elim (cases_Bool (nat_lt k m)) [
      | inl e ↦
          let rest = found_at m ks rising.1 (omega (arith, some, ap one (less_apart k m e))) in
          rw (e, one-add n)
          (record {
            within = omega (arith, rest.within);
            counted = λ p. omega (arith, rest.counted p);
            rising = (all_append (λ j. k ≤ j) (take n ks) (drop (suc n) ks) (all_taken (λ j. k ≤ j) n ks rising.0) (all_left (λ j. k ≤ j) (suc n) ks rising.0), rest.rising);
          })
      | inr e ↦ elim (cases_Bool (k == m)) [
        | inl same ↦
            rw e
            (record {
              within = omega arith;
              counted = λ p. ap (λ (j : ℕ). one (p j) + passing p ks) (sym (eqb-true k m same));
              rising = rising.1;
            })
        | inr apart ↦
            absurd (omega (arith, some, ap one apart, none_equal m k ks (later_by k m e apart) rising.0))
      ]
    ]

pub found_within : (ms : List ℕ) (m i : ℕ) → AreRising ms → 0 < passing (λ j. j == m) ms → i ≡ prefix_len (λ j. nat_lt j m) ms → i < length ms
found_within ms m i rising some at = subst (λ (n : ℕ). n < length ms) (sym at) (found_at m ms rising some).within

pub take_rising : (ms new : List ℕ) (m i : ℕ) → AreRising ms → 0 < passing (λ j. j == m) ms → i ≡ prefix_len (λ j. nat_lt j m) ms → new ≡ remove ms i → AreRising new
take_rising ms new m i rising some at is =
    subst AreRising (sym (is ∙ ap (λ (n : ℕ). remove ms n) at)) (found_at m ms rising some).rising

pub take_counted : (ms new : List ℕ) (m i : ℕ) → AreRising ms → 0 < passing (λ j. j == m) ms → i ≡ prefix_len (λ j. nat_lt j m) ms → new ≡ remove ms i → (p : ℕ → Bool) → one (p m) + passing p new ≡ passing p ms
take_counted ms new m i rising some at is p =
    ap (λ (ns : List ℕ). one (p m) + passing p ns) (is ∙ ap (λ (n : ℕ). remove ms n) at) ∙ (found_at m ms rising some).counted p

pub some_equal : (ms : List ℕ) (m : ℕ) → ((p : ℕ → Bool) → one (p m) ≤ passing p ms) → 0 < passing (λ j. j == m) ms
some_equal ms m all = omega (arith, all (λ j. j == m), ap one (eq-eqb m m refl))

-- where the first has not come, none has
none_come_by : (n k : ℕ) (ms : List ℕ) → n < k → AllByRecursion (λ j. k ≤ j) ms → passing (λ j. nat_le j n) ms ≡ 0
none_come_by n k [] h all = refl
none_come_by n k (j ∷ js) h all = rw (not_come j n (omega (arith, h, all.0))) (omega (arith, none_come_by n k js h all.1))

pub first_come : (n m : ℕ) (ms : List ℕ) → AreRising (m ∷ ms) → nat_le m n ≡ nat_lt 0 (passing (λ j. nat_le j n) (m ∷ ms))
first_come n m ms rising =
    elim (cases_Bool (nat_le m n)) [
      | inl e ↦ rw e (sym (some_over (passing (λ j. nat_le j n) ms)))
      | inr e ↦ rw (e, none_come_by n m ms (lt_from m n e) rising.0) refl
    ]

pub come_on : (n m : ℕ) (ms : List ℕ) (b : Bool) (count whole : ℕ) → b ≡ nat_le m n → b ≡ true → count + passing (λ j. nat_le j n) (m ∷ ms) ≡ whole → (count + 1) + passing (λ j. nat_le j n) ms ≡ whole
come_on n m ms b count whole is h all = omega (arith, ap one (sym is ∙ h), all)

pub come_stop : (n m : ℕ) (ms : List ℕ) (b : Bool) (count whole : ℕ) → AreRising (m ∷ ms) → b ≡ nat_le m n → b ≡ false → count + passing (λ j. nat_le j n) (m ∷ ms) ≡ whole → count ≡ whole
come_stop n m ms b count whole rising is h all =
    let e = sym is ∙ h in
    omega (arith, ap one e, none_come_by n m ms (lt_from m n e) rising.0, all)

no_before : (a b : ℕ) → b ≤ a → nat_lt a b ≡ false
no_before a b h = grind (arith, nat_tests)

pub upto_parted : (m : ℕ) (ms : List ℕ) → AreRising ms → IsParted (λ k. nat_le k m) ms
upto_parted m [] rising = tt
upto_parted m (k ∷ ks) rising =
    ((λ fails. all_weaker (λ j. k ≤ j) (λ j. nat_le j m ≡ false) ks (λ j h. not_come j m (omega (arith, lt_from k m fails, h))) rising.0), upto_parted m ks rising.1)

pub before_parted : (m : ℕ) (ms : List ℕ) → AreRising ms → IsParted (λ k. nat_lt k m) ms
before_parted m [] rising = tt
before_parted m (k ∷ ks) rising =
    ((λ fails. all_weaker (λ j. k ≤ j) (λ j. nat_lt j m ≡ false) ks (λ j h. no_before j m (omega (arith, no_less k m fails, h))) rising.0), before_parted m ks rising.1)
