-- Laws of an open's exact ranges.
use Rattle.std.proofs.Common.{◌≡◌, ℕ, suc, ◌+◌, ◌-◌, ◌<◌, Bool, true, false, eqb, ltb, leb, min, max, not, ◌&&◌, ◌||◌, cond, ◌↔◌, List, [], ◌∷◌, ◌++◌, Option, Some, None, length, refl, sym, ap, subst, ◌∙◌, inl, inr, arith}
use Rattle.std.specs.List.{filter, find, list_any, position, position_or_len, remove}
use Rattle.std.specs.Option.{IfSome}
use Rattle.std.specs.Set.{remove_key as without_first}
use Rattle.std.proofs.lemmas.Bool.{cases_Bool, false≢true, true≢false, lt-ltb}
use Rattle.std.proofs.lemmas.Bool.Decides.{nat_tests}
use Rattle.std.proofs.lemmas.List.{length-append, append-nil}
use Rattle.std.proofs.Math.Seq.{take-append_seam}
use Rattle.xl_base.specs.Lists.{IsIn}
use Rattle.xl_exact.specs.declared.element.Element.{Element}
use Rattle.xl_exact.specs.Elements.{AreRanges, covers, meets, conflicts_own, has_range, is_exclusive_at, is_locked, unlocked, undone}

-- ---- which ranges meet

-- one test for ranges of any length: each begins before the other's end
plain_meets : (f n g m : ℕ) → (ltb g (f + n) && ltb f (g + m)) ≡ cond (eqb n 0) (ltb g f && ltb f (g + m)) (cond (eqb m 0) (ltb f g && ltb g (f + n)) (ltb (max f g) (min (f + n) (g + m))))
plain_meets f n g m = grind (arith, nat_tests)

pub meets_is : (first len : ℕ) (e : Element) → (ltb e.first (first + len) && ltb first (e.first + e.len)) ≡ meets first len e
unfolding meets
meets_is first len e = plain_meets first len e.first e.len

plain_common : (f n g m : ℕ) → (ltb g (f + n) && ltb f (g + m)) ≡ true → 0 < n → 0 < m → ((leb f (max f g) && ltb (max f g) (f + n)) ≡ true) × ((leb g (max f g) && ltb (max f g) (g + m)) ≡ true)
plain_common f n g m h k l = (grind (arith, nat_tests), grind (arith, nat_tests))

plain_from_common : (f n g m x : ℕ) → (leb f x && ltb x (f + n)) ≡ true → (leb g x && ltb x (g + m)) ≡ true → (ltb g (f + n) && ltb f (g + m)) ≡ true
plain_from_common f n g m x h k = grind (arith, nat_tests)

pub meets_by_bytes : (first len : ℕ) (e : Element) → 0 < len → 0 < e.len → (meets first len e ≡ true) ↔ ((x : ℕ) × (covers first len x ≡ true) × (covers e.first e.len x ≡ true))
meets_by_bytes first len e h k = (
  λ m. let both = plain_common first len e.first e.len (meets_is first len e ∙ m) h k in (max first e.first, both.0, both.1),
  λ c. sym (meets_is first len e) ∙ plain_from_common first len e.first e.len c.0 c.1 c.2,
)

plain_empty : (f g m : ℕ) → (ltb g (f + 0) && ltb f (g + m)) ≡ (ltb 0 f && ((leb g (f - 1) && ltb (f - 1) (g + m)) && (leb g f && ltb f (g + m))))
plain_empty f g m = grind (arith, nat_tests)

pub empty_meets : (offset : ℕ) (e : Element) → meets offset 0 e ≡ (ltb 0 offset && (covers e.first e.len (offset - 1) && covers e.first e.len offset))
empty_meets offset e = sym (meets_is offset 0 e) ∙ plain_empty offset e.first e.len

plain_sides : (f n g m : ℕ) → (ltb g (f + n) && ltb f (g + m)) ≡ (ltb f (g + m) && ltb g (f + n))
plain_sides f n g m = grind (arith, nat_tests)

pub meets_both_ways : (a b : Element) → meets a.first a.len b ≡ meets b.first b.len a
meets_both_ways a b = sym (meets_is a.first a.len b) ∙ plain_sides a.first a.len b.first b.len ∙ meets_is b.first b.len a

-- ---- searches

pub found_passes : (test : Element → Bool) (es : List Element) → IfSome (find test es) (λ e. IsIn e es × (test e ≡ true))
found_passes test [] = tt
found_passes test (e ∷ es) =
    elim (cases_Bool (test e)) [
      | inl h ↦ rw h (inl refl, h)
      | inr h ↦ rw h (further (find test es) (found_passes test es))
    ]
  where
    further : (found : Option Element) → IfSome found (λ f. IsIn f es × (test f ≡ true)) → IfSome found (λ f. IsIn f (e ∷ es) × (test f ≡ true))
    further None k = tt
    further (Some f) k = (inr k.0, k.1)

some_none : {A : Type 0} {x : A} → Some x ≡ None → ⊥
some_none h = cc

none_some : {A : Type 0} {x : A} → None ≡ Some x → ⊥
none_some h = cc

same_Some : {A : Type 0} {x y : A} → Some x ≡ Some y → x ≡ y
same_Some h = cc

ltb_self : (n : ℕ) → ltb n n ≡ false
ltb_self n = grind (arith, nat_tests)

pub none_found : (test : Element → Bool) (es : List Element) → (find test es ≡ None) ↔ (list_any test es ≡ false)
none_found test [] = (λ h. refl, λ h. refl)
none_found test (e ∷ es) =
    elim (cases_Bool (test e)) [
      | inl h ↦ rw h (λ k. absurd (some_none k), λ k. absurd (true≢false k))
      | inr h ↦ rw h (none_found test es)
    ]

pub none_of_own : (first len : ℕ) (es : List Element) → find (conflicts_own first len false) es ≡ None
none_of_own first len [] = refl
none_of_own first len (e ∷ es) =
    let no : conflicts_own first len false e ≡ false = grind arith in
    rw no (none_of_own first len es)

-- ---- unlocks

one_add : (k : ℕ) → 1 + k ≡ suc k
one_add k = omega arith

-- what stands at the first place that passes is what is taken out
place_of_first : (test : Element → Bool) (es : List Element) → list_any test es ≡ true → (position_or_len test es < length es) × (without_first test es ≡ remove es (position_or_len test es))
place_of_first test [] h = absurd (false≢true h)
place_of_first test (e ∷ es) h =
    elim (cases_Bool (test e)) [
      | inl k ↦ rw k (omega arith, refl)
      | inr k ↦ let rest = place_of_first test es (rw k at h) in rw (k, one_add) (omega (arith, rest.0), ap (λ xs. e ∷ xs) rest.1)
    ]

no_place : (test : Element → Bool) (es : List Element) → list_any test es ≡ false → (position_or_len test es ≡ length es) × (without_first test es ≡ es)
no_place test [] h = (refl, refl)
no_place test (e ∷ es) h =
    elim (cases_Bool (test e)) [
      | inl k ↦ absurd (true≢false (rw k at h))
      | inr k ↦ let rest = no_place test es (rw k at h) in rw (k, one_add) (ap suc rest.0, ap (λ xs. e ∷ xs) rest.1)
    ]

removed_first : (test : Element → Bool) (es : List Element) (i : ℕ) → position test es ≡ Some i → (i < length es) × (list_any test es ≡ true) × (without_first test es ≡ remove es i)
removed_first test es i h =
    elim (cases_Bool (list_any test es)) [
      | inl k ↦
          let place = place_of_first test es k in
          let at : position_or_len test es ≡ i = same_Some (rw (lt-ltb _ _ place.0) at h) in
          (subst (λ n. n < length es) at place.0, k, place.1 ∙ ap (remove es) at)
      | inr k ↦ absurd (none_some (rw ((no_place test es k).0, ltb_self (length es)) at h))
    ]

removed_none : (test : Element → Bool) (es : List Element) → position test es ≡ None → (list_any test es ≡ false) × (without_first test es ≡ es)
removed_none test es h =
    elim (cases_Bool (list_any test es)) [
      | inl k ↦ absurd (some_none (rw (lt-ltb _ _ (place_of_first test es k).0) at h))
      | inr k ↦ (k, (no_place test es k).1)
    ]

locked_by_exclusive : (first len : ℕ) (es : List Element) → list_any (is_exclusive_at first len) es ≡ true → is_locked first len es ≡ true
locked_by_exclusive first len [] h = h
locked_by_exclusive first len (e ∷ es) h =
    elim (cases_Bool (has_range first len e)) [
      | inl k ↦ rw k refl
      | inr k ↦ rw k (locked_by_exclusive first len es (rw k at h))
    ]

pub exclusive_unlocked : (first len : ℕ) (es : List Element) (i : ℕ) → position (is_exclusive_at first len) es ≡ Some i → (i < length es) × (is_locked first len es ≡ true) × (unlocked first len es ≡ remove es i)
unfolding unlocked
exclusive_unlocked first len es i h =
    let place = removed_first (is_exclusive_at first len) es i h in
    (place.0, locked_by_exclusive first len es place.1, rw place.1 place.2)

pub first_unlocked : (first len : ℕ) (es : List Element) (i : ℕ) → position (is_exclusive_at first len) es ≡ None → position (has_range first len) es ≡ Some i → (i < length es) × (is_locked first len es ≡ true) × (unlocked first len es ≡ remove es i)
unfolding unlocked
first_unlocked first len es i none h =
    let place = removed_first (has_range first len) es i h in
    (place.0, place.1, rw (removed_none (is_exclusive_at first len) es none).0 place.2)

pub none_unlocked : (first len : ℕ) (es : List Element) → position (is_exclusive_at first len) es ≡ None → position (has_range first len) es ≡ None → (is_locked first len es ≡ false) × (unlocked first len es ≡ es)
unfolding unlocked
none_unlocked first len es none h =
    let rest = removed_none (has_range first len) es h in
    (rest.0, rw (removed_none (is_exclusive_at first len) es none).0 rest.1)

-- ---- laws

pub undone_locks : (before locks : List Element) → undone (length locks) (before ++ locks) ≡ before
undone_locks before locks =
    let n : length (before ++ locks) - length locks ≡ length before = omega (arith, length-append before locks) in
    rw n (take-append_seam before locks)

pub undone_lock : (es : List Element) (e : Element) → undone 1 (es ++ e ∷ []) ≡ es
undone_lock es e = undone_locks es (e ∷ [])

none_past : (test : Element → Bool) (es : List Element) (e : Element) → list_any test es ≡ false → without_first test (es ++ e ∷ []) ≡ es ++ without_first test (e ∷ [])
none_past test [] e h = refl
none_past test (f ∷ es) e h =
    elim (cases_Bool (test f)) [
      | inl k ↦ absurd (true≢false (rw k at h))
      | inr k ↦ rw k (ap (λ xs. f ∷ xs) (none_past test es e (rw k at h)))
    ]

none_exclusive : (first len : ℕ) (es : List Element) → is_locked first len es ≡ false → list_any (is_exclusive_at first len) es ≡ false
none_exclusive first len es h =
    elim (cases_Bool (list_any (is_exclusive_at first len) es)) [
      | inl k ↦ absurd (true≢false (sym (locked_by_exclusive first len es k) ∙ h))
      | inr k ↦ k
    ]

equal_self : (n : ℕ) → eqb n n ≡ true
equal_self n = grind (arith, nat_tests)

any_past : (test : Element → Bool) (es fs : List Element) → list_any test es ≡ false → list_any test (es ++ fs) ≡ list_any test fs
any_past test [] fs h = refl
any_past test (e ∷ es) fs h =
    elim (cases_Bool (test e)) [
      | inl k ↦ absurd (true≢false (rw k at h))
      | inr k ↦ rw k (any_past test es fs (rw k at h))
    ]

pub unlocked_lock : (es : List Element) (first len : ℕ) (exclusive : Bool) → is_locked first len es ≡ false → unlocked first len (es ++ record { first = first; len = len; exclusive = exclusive } ∷ []) ≡ es
unfolding unlocked
unlocked_lock es first len exclusive h =
    let e : Element = record { first = first; len = len; exclusive = exclusive } in
    let none = none_exclusive first len es h in
    rw (any_past (is_exclusive_at first len) es (e ∷ []) none, none_past (is_exclusive_at first len) es e none, none_past (has_range first len) es e h) (by_mode exclusive)
  where
    by_mode : (alone : Bool) → cond (is_exclusive_at first len (record { first = first; len = len; exclusive = alone }) || false)
        (es ++ cond (is_exclusive_at first len (record { first = first; len = len; exclusive = alone })) [] (record { first = first; len = len; exclusive = alone } ∷ []))
        (es ++ cond (has_range first len (record { first = first; len = len; exclusive = alone })) [] (record { first = first; len = len; exclusive = alone } ∷ [])) ≡ es
    by_mode true = rw (equal_self first, equal_self len) (append-nil es)
    by_mode false = rw (equal_self first, equal_self len) (append-nil es)

without_others : (keeps test : Element → Bool) (es : List Element) → ((e : Element) → test e ≡ true → keeps e ≡ false) → filter keeps (without_first test es) ≡ filter keeps es
without_others keeps test [] apart = refl
without_others keeps test (e ∷ es) apart =
    elim (cases_Bool (test e)) [
      | inl k ↦ rw (k, apart e k) refl
      | inr k ↦ rw k (ap (λ xs. cond (keeps e) (e ∷ xs) xs) (without_others keeps test es apart))
    ]

pub others_unlocked : (first len : ℕ) (es : List Element) → filter (λ e. not (has_range first len e)) (unlocked first len es) ≡ filter (λ e. not (has_range first len e)) es
unfolding unlocked
others_unlocked first len es =
    elim (cases_Bool (list_any (is_exclusive_at first len) es)) [
      | inl k ↦ rw k (without_others (λ e. not (has_range first len e)) (is_exclusive_at first len) es (λ e h. grind arith))
      | inr k ↦ rw k (without_others (λ e. not (has_range first len e)) (has_range first len) es (λ e h. ap not h))
    ]

without_ranges : (test : Element → Bool) (es : List Element) → AreRanges es → AreRanges (without_first test es)
without_ranges test [] all = tt
without_ranges test (e ∷ es) all =
    elim (cases_Bool (test e)) [
      | inl k ↦ rw k all.1
      | inr k ↦ rw k (all.0, without_ranges test es all.1)
    ]

pub ranges_unlocked : (first len : ℕ) (es : List Element) → AreRanges es → AreRanges (unlocked first len es)
unfolding unlocked
ranges_unlocked first len es all =
    elim (cases_Bool (list_any (is_exclusive_at first len) es)) [
      | inl k ↦ rw k (without_ranges (is_exclusive_at first len) es all)
      | inr k ↦ rw k (without_ranges (has_range first len) es all)
    ]
