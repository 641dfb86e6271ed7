-- Locks and unlocks of an open's ranges are those of one list of elements.
use Rattle.std.proofs.Common.{◌≡◌, ℕ, ◌+◌, ◌-◌, ◌≤◌, Bool, true, false, ◌&&◌, ◌||◌, if◌then◌else◌, List, [], ◌∷◌, ◌++◌, length, map, None, refl, ap, ◌∙◌, arith, inl, inr}
use Rattle.std.specs.Prelude.{◌==◌}
use Rattle.std.specs.List.{list_any}
use Rattle.std.specs.Set.{remove_key}
use Rattle.std.proofs.lemmas.Bool.{cases_Bool, or_parts}
use Rattle.std.proofs.lemmas.Bool.Decides.{nat_tests}
use Rattle.xl_exact.specs.Elements.{has_range, is_exclusive_at, unlocked}
use Rattle.xl_exact.specs.declared.element.Element.{Element}
use Rattle.xl_matrix.specs.Equal.{same_extent, same_flag, same_what}
use Rattle.xl_matrix.specs.declared.claim.Extent.TheVariants.{Bytes, Empty}
use Rattle.xl_matrix.specs.declared.claim.What.{What}
use Rattle.xl_matrix.specs.declared.claim.What.TheVariants.{Range}
use Rattle.xl_smb.specs.declared.lock.LockElement.{LockElement}
use Rattle.xl_smb_state.specs.declared.row.Open.{Open}
use Rattle.xl_table.specs.Elements.{is_among, without, unlocked_elements}
use Rattle.xl_matrix.specs.declared.claim.Claim.{Claim}
use Rattle.xl_table.proofs.ExactLaws.{flag_true, flag_false}
use Rattle.xl_wait.specs.Waiting.{no_rows}
use Rattle.xl_core.specs.Askers.{range_what}
use Rattle.xl_core.specs.Decide.{ask}
use Rattle.xl_core.specs.Good.{IsGood}
use Rattle.xl_core.specs.Places.{RangesOf, held_at}
use Rattle.xl_core.specs.State.{CoreState}
use Rattle.xl_core.specs.declared.ask.Answer.{Answer}
use Rattle.xl_core.specs.declared.ask.Answer.TheVariants as answers
use Rattle.xl_core.proofs.WayOpens.{ask_locked}
use Rattle.xl_smb_locks.specs.Elements.{extent_of, lock_fault}
use Rattle.xl_smb_locks.specs.Exactly.{extent_at, what_of, element_of}
use Rattle.xl_smb_locks.specs.Locks.{range_of, lock_ask, lock_told, lock_done}
use Rattle.xl_smb_locks.specs.declared.locking.Locking.TheVariants as locking
use Rattle.xl_smb_locks.proofs.FitLaws.{lock_fits}

-- ---- equal ranges

both_empty : (a b la lb : ℕ) → (la == 0) ≡ true → (lb == 0) ≡ true → (a == b) ≡ ((a == b) && (la == lb))
both_empty a b la lb x y = grind (arith, nat_tests)

one_empty : (a b la lb : ℕ) → (la == 0) ≡ true → (lb == 0) ≡ false → false ≡ ((a == b) && (la == lb))
one_empty a b la lb x y = grind (arith, nat_tests)

other_empty : (a b la lb : ℕ) → (la == 0) ≡ false → (lb == 0) ≡ true → false ≡ ((a == b) && (la == lb))
other_empty a b la lb x y = grind (arith, nat_tests)

none_empty : (a b la lb : ℕ) → (la == 0) ≡ false → (lb == 0) ≡ false → ((a == b) && (a + (la - 1) == b + (lb - 1))) ≡ ((a == b) && (la == lb))
none_empty a b la lb x y = grind (arith, nat_tests)

by_empty : (a la b lb : ℕ) (za zb : Bool) → (la == 0) ≡ za → (lb == 0) ≡ zb → same_extent (if za then Empty a else Bytes a (a + (la - 1))) (if zb then Empty b else Bytes b (b + (lb - 1))) ≡ ((a == b) && (la == lb))
by_empty a la b lb true true x y = both_empty a b la lb x y
by_empty a la b lb true false x y = one_empty a b la lb x y
by_empty a la b lb false true x y = other_empty a b la lb x y
by_empty a la b lb false false x y = none_empty a b la lb x y

equal_extents : (a la b lb : ℕ) → same_extent (extent_at a la) (extent_at b lb) ≡ ((a == b) && (la == lb))
equal_extents a la b lb = by_empty a la b lb (la == 0) (lb == 0) refl refl

equal_range : (first len : ℕ) (x : Element) (m : Bool) → same_what (what_of x) (Range (extent_at first len) m) ≡ (has_range first len x && same_flag x.exclusive m)
unfolding same_what
equal_range first len x m = ap (λ (b : Bool). b && same_flag x.exclusive m) (equal_extents x.first x.len first len)

equal_exclusive : (first len : ℕ) (x : Element) → same_what (what_of x) (Range (extent_at first len) true) ≡ is_exclusive_at first len x
equal_exclusive first len x = equal_range first len x true ∙ ap (λ (b : Bool). has_range first len x && b) (flag_true x.exclusive)

-- where it isn't exclusive
equal_shared : (first len : ℕ) (x : Element) → is_exclusive_at first len x ≡ false → same_what (what_of x) (Range (extent_at first len) false) ≡ has_range first len x
equal_shared first len x none = equal_range first len x false ∙ flag_false (has_range first len x) x.exclusive none

-- ---- lists

among : (first len : ℕ) (es : List Element) → is_among (Range (extent_at first len) true) (map what_of es) ≡ list_any (is_exclusive_at first len) es
among first len [] = refl
among first len (x ∷ xs) = λ i. equal_exclusive first len x i || among first len xs i

out_exclusive : (first len : ℕ) (es : List Element) → without (Range (extent_at first len) true) (map what_of es) ≡ map what_of (remove_key (is_exclusive_at first len) es)
out_exclusive first len [] = refl
out_exclusive first len (x ∷ xs) =
    let same = equal_exclusive first len x in
    elim (cases_Bool (is_exclusive_at first len x)) [
      | inl h ↦ rw (same ∙ h, h) refl
      | inr h ↦ rw (same ∙ h, h) (ap (λ (ws : List What). what_of x ∷ ws) (out_exclusive first len xs))
    ]

out_shared : (first len : ℕ) (es : List Element) → list_any (is_exclusive_at first len) es ≡ false → without (Range (extent_at first len) false) (map what_of es) ≡ map what_of (remove_key (has_range first len) es)
out_shared first len [] none = refl
out_shared first len (x ∷ xs) none =
    let two = or_parts (is_exclusive_at first len x) (list_any (is_exclusive_at first len) xs) none in
    let same = equal_shared first len x two.0 in
    elim (cases_Bool (has_range first len x)) [
      | inl h ↦ rw (same ∙ h, h) refl
      | inr h ↦ rw (same ∙ h, h) (ap (λ (ws : List What). what_of x ∷ ws) (out_shared first len xs two.1))
    ]

by_any : (first len : ℕ) (es : List Element) (b : Bool) → list_any (is_exclusive_at first len) es ≡ b
    → (if b then without (Range (extent_at first len) true) (map what_of es) else without (Range (extent_at first len) false) (map what_of es)) ≡ map what_of (if b then remove_key (is_exclusive_at first len) es else remove_key (has_range first len) es)
by_any first len es true is = out_exclusive first len es
by_any first len es false is = out_shared first len es is

pub unlocks_exactly : (e : LockElement) (es : List Element) → unlocked_elements (extent_of e) (map what_of es) ≡ map what_of (unlocked e.offset e.length es)
unfolding unlocked_elements unlocked
unlocks_exactly e es =
    ap (λ (b : Bool). if b then without (Range (extent_at e.offset e.length) true) (map what_of es) else without (Range (extent_at e.offset e.length) false) (map what_of es)) (among e.offset e.length es)
    ∙ by_any e.offset e.length es (list_any (is_exclusive_at e.offset e.length) es) refl

-- ---- locks

come_behind : (more : List Element) (es : List Element) → map what_of es ++ map what_of more ≡ map what_of (es ++ more)
come_behind more [] = refl
come_behind more (x ∷ xs) = ap (λ (ws : List What). what_of x ∷ ws) (come_behind more xs)

all_elements : (es : List LockElement) → map range_what (map range_of es) ≡ map what_of (map element_of es)
all_elements [] = refl
all_elements (e ∷ es) = ap (λ (ws : List What). what_of (element_of e) ∷ ws) (all_elements es)

done_by : (answer : Answer) → lock_told answer ≡ locking.Done → (c : Claim) × (answer ≡ answers.Granted c)
done_by (answers.Granted c) h = (c, refl)
done_by (answers.Conflict c) h = absurd cc
done_by (answers.Queued id) h = absurd cc
done_by (answers.Recall c) h = absurd cc
done_by (answers.Grace until) h = absurd cc
done_by (answers.NoGrace clock) h = absurd cc
done_by answers.NotRecorded h = absurd cc
done_by (answers.Full limit) h = absurd cc
done_by answers.NotHeld h = absurd cc
done_by answers.StoreFailed h = absurd cc

pub locks_exactly : (n : ℕ) (s : CoreState) (conn number : ℕ) (row : Open) (locks : List LockElement) (es : List Element) → IsGood s → lock_fault locks ≡ None → 1 ≤ length locks → held_at s (RangesOf row.file number) ≡ map what_of es
    → (lock_done (ask n no_rows s (lock_ask conn number row locks))).0 ≡ locking.Done → held_at (lock_done (ask n no_rows s (lock_ask conn number row locks))).2 (RangesOf row.file number) ≡ map what_of (es ++ map element_of locks)
unfolding lock_ask
locks_exactly n s conn number row locks es good fault some held is =
    let a = lock_ask conn number row locks in
    let got = done_by (ask n no_rows s a).0 is in
    ask_locked n no_rows s a (map range_of locks) number got.0 good (lock_fits conn number row locks fault some).fit refl refl got.1
    ∙ ap (λ (ws : List What). ws ++ map range_what (map range_of locks)) held
    ∙ ap (λ (ws : List What). map what_of es ++ ws) (all_elements locks)
    ∙ come_behind (map element_of locks) es
