-- What has no byte in common with a range that is asked doesn't block it; nor does what a page's guard lets by.
use Rattle.std.proofs.Common.{◌≡◌, ℕ, ◌≤◌, Bool, true, false, not, ◌&&◌, ◌||◌, ◌==◌, nat_lt, nat_le, min, max, List, [], ◌∷◌, ◌++◌, Option, inl, inr, refl, sym, ap, ◌∙◌, arith}
use Rattle.std.specs.List.{AllByRecursion, filter}
use Rattle.std.proofs.lemmas.List.{append-nil}
use Rattle.std.proofs.lemmas.Bool.{cases_Bool, both_ways}
use Rattle.std.proofs.lemmas.Bool.Decides.{nat_tests}
use Rattle.xl_base.proofs.Members.{all_weaker}
use Rattle.xl_matrix.specs.declared.claim.Claim.{Claim}
use Rattle.xl_matrix.specs.declared.claim.Extent.TheVariants.{Bytes, Empty}
use Rattle.xl_matrix.specs.declared.claim.What.{What}
use Rattle.xl_matrix.specs.declared.claim.What.TheVariants.{Share, Range, Cache}
use Rattle.xl_matrix.specs.Blocks.{is_met}
use Rattle.xl_matrix.specs.Matrix.{compat, fit_by}
use Rattle.xl_matrix.specs.Blocks.{is_cache}
use Rattle.xl_table.specs.Flat.{blocks, is_blocked, may_obstruct, locks_by, holder_from}
use Rattle.xl_table.specs.Clear.{is_clear}
use Rattle.xl_table.specs.declared.bounds.Bounds.{Bounds}
use Rattle.xl_table.specs.Bounds.{is_past, is_quiet, IsWithin, AreWithin}
use Rattle.xl_table.specs.Guard.{IsCounted, lets_by}
use Rattle.xl_table.proofs.GuardLaws.{let_by_none}

apart_meets_none : (first last start end : ℕ) → (nat_lt end first || nat_lt last start) ≡ true → nat_le (max first start) (min last end) ≡ false
apart_meets_none first last start end h = grind (arith, nat_tests)

clear_fits : (a b : Claim) (v w : What) → is_clear v w ≡ true → fit_by a b v w ≡ true
unfolding fit_by
clear_fits a b (Range (Bytes first last) exclusive) (Range (Bytes start end) alone) h = rw (apart_meets_none first last start end h) refl
clear_fits a b (Range (Bytes first last) exclusive) (Range (Empty offset) alone) h = cc
clear_fits a b (Range (Bytes first last) exclusive) (Share x y) h = cc
clear_fits a b (Range (Bytes first last) exclusive) (Cache x y) h = cc
clear_fits a b (Range (Empty offset) exclusive) w h = cc
clear_fits a b (Share x y) w h = cc
clear_fits a b (Cache x y) w h = cc

clear_met : (a b : Claim) (v w : What) → is_clear v w ≡ true → is_met a.owner v b.owner w ≡ false
clear_met a b (Range (Bytes first last) true) (Range (Bytes start end) alone) h = apart_meets_none first last start end h
clear_met a b (Range (Bytes first last) false) (Range (Bytes start end) alone) h = refl
clear_met a b (Range (Bytes first last) exclusive) (Range (Empty offset) alone) h = cc
clear_met a b (Range (Bytes first last) exclusive) (Share x y) h = cc
clear_met a b (Range (Bytes first last) exclusive) (Cache x y) h = cc
clear_met a b (Range (Empty offset) exclusive) w h = cc
clear_met a b (Share x y) w h = cc
clear_met a b (Cache x y) w h = cc

pub clear_none : (ask held : Claim) → is_clear ask.what held.what ≡ true → blocks ask held ≡ false
unfolding blocks compat
clear_none ask held h =
    rw (clear_fits ask held ask.what held.what h, clear_met ask held ask.what held.what h)
    (grind (arith, nat_tests))

-- where the test passes, the answer is no
pub clear_is_false : (ask held : Claim) (b : Bool) → b ≡ is_clear ask.what held.what → b ≡ true → false ≡ blocks ask held
clear_is_false ask held b e h = sym (clear_none ask held (sym e ∙ h))

-- ---- the bounds of a page

-- past bounds there are ranges with bytes alone
mixed_past : {A : Type 0} (b : Bounds) (first last : ℕ) → (not b.mixed && (nat_lt b.high first || nat_lt last b.low)) ≡ true → b.mixed ≡ true → A
mixed_past b first last h mixed = let h = rw mixed at h in absurd (both_ways false refl h)

past_one : (asked w : What) (b : Bounds) → is_past asked b ≡ true → IsWithin b w → is_clear asked w ≡ true
past_one (Range (Bytes first last) exclusive) (Range (Bytes start end) alone) b h within = step b.mixed b.low b.high h within.0 within.1 where
  step : (mixed : Bool) (low high : ℕ) → (not mixed && (nat_lt high first || nat_lt last low)) ≡ true → low ≤ start → end ≤ high → (nat_lt end first || nat_lt last start) ≡ true
  step true low high h l r = cc
  step false low high h l r = grind (arith, nat_tests)
past_one (Range (Bytes first last) exclusive) (Range (Empty offset) alone) b h within = mixed_past b first last h within.0
past_one (Range (Bytes first last) exclusive) (Share x y) b h within = mixed_past b first last h within.0
past_one (Range (Bytes first last) exclusive) (Cache x y) b h within = mixed_past b first last h within.0
past_one (Range (Empty offset) exclusive) w b h within = cc
past_one (Share x y) w b h within = cc
past_one (Cache x y) w b h within = cc

pub past_all : (asked : What) (b : Bounds) (cs : List Claim) → is_past asked b ≡ true → AreWithin b cs → AllByRecursion (λ c. is_clear asked c.what ≡ true) cs
past_all asked b cs h all = all_weaker (λ c. IsWithin b c.what) (λ c. is_clear asked c.what ≡ true) cs (λ c within. past_one asked c.what b h within) all

and_no : (a : Bool) → (a && false) ≡ false
and_no true = refl
and_no false = refl

-- ---- what blocks nothing within the bounds

quiet_by : (ask held : Claim) (b : Bounds) → (is_past ask.what b || lets_by b.guard ask.what) ≡ true → IsWithin b held.what → blocks ask held ≡ false
quiet_by ask held b h within =
    elim (cases_Bool (is_past ask.what b)) [
      | inl past ↦ clear_none ask held (past_one ask.what held.what b past within)
      | inr other ↦ let_by_none ask held b.guard (rw other at h) (counted held.what within)
    ]
  where
    counted : (w : What) → IsWithin b w → IsCounted b.guard w
    counted (Range (Bytes start end) x) within = within.2
    counted (Range (Empty offset) x) within = within.2
    counted (Share p q) within = within.2
    counted (Cache p q) within = within.2

pub quiet_all : (ask : Claim) (b : Bounds) (cs : List Claim) → is_quiet ask.what b ≡ true → AreWithin b cs → AllByRecursion (λ c. blocks ask c ≡ false) cs
quiet_all ask b cs h all = all_weaker (λ c. IsWithin b c.what) (λ c. blocks ask c ≡ false) cs (λ c within. quiet_by ask c b h within) all

none_there : (ask : Claim) (cs : List Claim) → AllByRecursion (λ c. blocks ask c ≡ false) cs → filter (λ held. blocks ask held) cs ≡ []
none_there ask [] all = refl
none_there ask (c ∷ cs) all = rw all.0 (none_there ask cs all.1)

free_there : (ask : Claim) (cs : List Claim) → AllByRecursion (λ c. blocks ask c ≡ false) cs → is_blocked cs ask ≡ false
free_there ask [] all = refl
free_there ask (c ∷ cs) all = rw all.0 (free_there ask cs all.1)

pub quiet_is_none : (ask : Claim) (cs found : List Claim) (b : Bool) (bounds : Bounds) → AreWithin bounds cs → b ≡ is_quiet ask.what bounds → b ≡ true → found ≡ found ++ filter (λ held. blocks ask held) cs
quiet_is_none ask cs found b bounds all e h =
    sym (ap (λ (ds : List Claim). found ++ ds) (none_there ask cs (quiet_all ask bounds cs (sym e ∙ h) all)) ∙ append-nil found)

pub quiet_is_free : (ask : Claim) (cs : List Claim) (b : Bool) (bounds : Bounds) → AreWithin bounds cs → b ≡ is_quiet ask.what bounds → b ≡ true → false ≡ is_blocked cs ask
quiet_is_free ask cs b bounds all e h = sym (free_there ask cs (quiet_all ask bounds cs (sym e ∙ h) all))

-- what lies past the bytes of a range is no cache
clear_no_cache : (asked w : What) → is_clear asked w ≡ true → is_cache w ≡ false
clear_no_cache (Range (Bytes first last) exclusive) (Range (Bytes start end) alone) h = refl
clear_no_cache (Range (Bytes first last) exclusive) (Range (Empty offset) alone) h = refl
clear_no_cache (Range (Bytes first last) exclusive) (Share x y) h = refl
clear_no_cache (Range (Bytes first last) exclusive) (Cache x y) h = cc
clear_no_cache (Range (Empty offset) exclusive) w h = cc
clear_no_cache (Share x y) w h = cc
clear_no_cache (Cache x y) w h = cc

none_obstructs : (ask : Claim) (cs : List Claim) → AllByRecursion (λ c. is_clear ask.what c.what ≡ true) cs → filter (may_obstruct ask) cs ≡ []
none_obstructs ask [] all = refl
none_obstructs ask (c ∷ cs) all = rw (clear_none ask c all.0, clear_no_cache ask.what c.what all.0, and_no (c.file == ask.file)) (none_obstructs ask cs all.1)

pub past_obstructs_none : (ask : Claim) (cs found : List Claim) (b : Bool) (bounds : Bounds) → AreWithin bounds cs → b ≡ is_past ask.what bounds → b ≡ true → found ≡ found ++ filter (may_obstruct ask) cs
past_obstructs_none ask cs found b bounds all e h =
    sym (ap (λ (ds : List Claim). found ++ ds) (none_obstructs ask cs (past_all ask.what bounds cs (sym e ∙ h) all)) ∙ append-nil found)

-- ---- who has a byte

unlocked_one : (byte : ℕ) (w : What) → is_clear (Range (Bytes byte byte) true) w ≡ true → locks_by w byte ≡ false
unlocked_one byte (Range (Bytes start end) x) h = grind (arith, nat_tests)
unlocked_one byte (Range (Empty offset) x) h = cc
unlocked_one byte (Share p q) h = cc
unlocked_one byte (Cache p q) h = cc

none_locks : (least : Option Claim) (file byte : ℕ) (cs : List Claim) → AllByRecursion (λ c. is_clear (Range (Bytes byte byte) true) c.what ≡ true) cs → holder_from least file byte cs ≡ least
none_locks least file byte [] all = refl
none_locks least file byte (c ∷ cs) all = rw (unlocked_one byte c.what all.0, and_no (c.file == file)) (none_locks least file byte cs all.1)

-- where the byte lies past the bounds of these claims, none of them has it
pub past_holds_none : (least : Option Claim) (file byte : ℕ) (cs : List Claim) (b : Bool) (bounds : Bounds) → AreWithin bounds cs → b ≡ is_past (Range (Bytes byte byte) true) bounds → b ≡ true → least ≡ holder_from least file byte cs
past_holds_none least file byte cs b bounds all e h = sym (none_locks least file byte cs (past_all (Range (Bytes byte byte) true) bounds cs (sym e ∙ h) all))
