-- Who stands in front of a turn that frees nobody there is held up behind it too.
use Rattle.std.proofs.Common.{◌≡◌, ℕ, zero, suc, ◌+◌, ◌<◌, ◌≤◌, Bool, true, false, not, ◌&&◌, ◌||◌, ◌==◌, if◌then◌else◌, inl, inr, List, [], ◌∷◌, ◌++◌, map, take, drop, length, append-nil, Option, Some, None, IfSome, is_some, slice_get, refl, sym, ap, subst, ◌∙◌, arith}
use Rattle.std.specs.List.{AllByRecursion, filter, find, list_all, list_any}
use Rattle.std.proofs.lemmas.Bool.{cases_Bool, both_ways, and_parts, or_left, or_right, or_cases, eqb-true}
use Rattle.std.proofs.lemmas.List.{append_assoc}
use Rattle.xl_base.specs.Lists.{Pairwise, placed}
use Rattle.xl_base.proofs.Members.{all_weaker}
use Rattle.xl_base.specs.declared.name.Owner.{Owner}
use Rattle.xl_base.specs.declared.name.Party.{Party}
use Rattle.xl_matrix.specs.Owners.{posix}
use Rattle.xl_matrix.specs.declared.claim.CacheKind.{CacheKind}
use Rattle.xl_matrix.specs.declared.claim.Claim.{Claim}
use Rattle.xl_matrix.specs.declared.claim.Extent.TheVariants.{Bytes, Empty}
use Rattle.xl_matrix.specs.declared.claim.What.{What}
use Rattle.xl_matrix.specs.declared.claim.What.TheVariants.{Share, Range, Cache}
use Rattle.xl_spans.specs.Spans.{relocked}
use Rattle.xl_spans.specs.declared.span.Mode.{Mode}
use Rattle.xl_table.specs.Flat.{blocks, inserted, is_blocked}
use Rattle.xl_table.specs.Held.{is_of, is_range, is_real, is_real_by, spans_of, with_span, IsKept}
use Rattle.xl_table.specs.Order.{goes_first}
use Rattle.xl_table.specs.Relock.{all_inserted, granted_by, granted_claims, is_range_of, is_share_of, range_claim, relocked_in, shared_in, unranged, unshared}
use Rattle.xl_table.proofs.WriteBack.{is_of-true}
use Rattle.xl_wait.specs.Waiting.{cancelled, first_file, is_file, waiting_on}
use Rattle.xl_wait.specs.declared.waiter.Rooms.{Rooms}
use Rattle.xl_wait.specs.declared.waiter.Waiter.{Waiter}
use Rattle.xl_core.specs.State.{CoreState, drawn, MayBe}
use Rattle.xl_core.specs.Blockers.{is_barred, range_ahead, before_number, all_run}
use Rattle.xl_core.specs.Causes.{IsServed, Answered, WaitsOn, IsTurn, held_once, once_told}
use Rattle.xl_core.specs.Good.{AllBehind, IsGood, IsUp, are_apart, is_held_up, holds_up, of_first}
use Rattle.xl_core.specs.Judge.{all_granted}
use Rattle.xl_core.specs.Passed.{is_shut_out, ArePassed, has_cache, is_element, replaces_none_by, replaces_none, replace_none, FreesNobody, StandBefore}
use Rattle.xl_core.specs.Settle.{called_of, first_called, first_free, is_up, plea_again, settle, way_again}
use Rattle.xl_core.specs.Ways.{made_way}
use Rattle.xl_core.specs.Wishes.{wish_for}
use Rattle.xl_core.specs.declared.ask.Answer.{Answer}
use Rattle.xl_core.specs.declared.ask.Answer.TheVariants as answers
use Rattle.xl_core.specs.declared.ask.Effect.{Effect}
use Rattle.xl_core.specs.declared.passed.Passed.{Passed}
use Rattle.xl_core.specs.declared.settling.Called.{Called}
use Rattle.xl_core.proofs.SettleLaws.{turn_is}
use Rattle.xl_core.proofs.StoreLaws.{may_be_made}
use Rattle.xl_core.proofs.WayCode.{barred_uncached}
use Rattle.xl_core.proofs.WayLaws.{way_quiet}
use Rattle.xl_core.proofs.WishLaws.{no_wish}
use Rattle.xl_core.proofs.UnsettledLaws.{called_onward, called_front}

-- ---- of nobody it is known

pub nobody_passed : (p : Passed) (s : CoreState) → p.count ≡ 0 → ArePassed p s
unfolding ArePassed
nobody_passed p s none = subst (λ (n : ℕ). AllByRecursion (λ w. is_shut_out s w ≡ true) (take n (waiting_on p.file s.waiters))) (sym none) tt

pub nobody_before : (called : Called) (p : Passed) (s : CoreState) → p.count ≡ 0 → StandBefore called p s
nobody_before called p s none = record {
  shut = subst (λ (n : ℕ). AllByRecursion (λ w. is_shut_out s w ≡ true) (take n (waiting_on p.file s.waiters))) (sym none) tt;
  others = subst (λ (n : ℕ). AllByRecursion (λ w. (w.id == called.id) ≡ false) (take n (waiting_on p.file s.waiters))) (sym none) tt;
}

pub none_up : (s : CoreState) (n : ℕ) (ws : List Waiter) → n ≡ 0 → AllByRecursion (λ w. is_up s w ≡ true) (take n ws)
none_up s n ws none = subst (λ (k : ℕ). AllByRecursion (λ w. is_up s w ≡ true) (take k ws)) (sym none) tt

pub none_shut : (s : CoreState) (n : ℕ) (ws : List Waiter) → n ≡ 0 → AllByRecursion (λ w. is_shut_out s w ≡ true) (take n ws)
none_shut s n ws none = subst (λ (k : ℕ). AllByRecursion (λ w. is_shut_out s w ≡ true) (take k ws)) (sym none) tt

pub drawn_passed : (p : Passed) (s : CoreState) → ArePassed p s → ArePassed p (drawn s)
unfolding ArePassed drawn
drawn_passed p s all = all

-- ---- on a file without a cache who is shut out is held up, and the other way round

-- the file of the first claim is this one
on_it : (file : ℕ) (w : Waiter) → is_file file (first_file w.asked) ≡ true → Type 0
on_it file w on = of_first (λ c. c.file == file) w.asked ≡ true

held_if : (x y z r o : Bool) → y ≡ x → (z && x) ≡ true → ((x || o) && (if y || o then z else r)) ≡ true
held_if true true true r o e h = refl
held_if true true false r o e h = absurd (both_ways false refl h)
held_if true false z r o e h = absurd (both_ways false refl e)
held_if false y true r o e h = absurd (both_ways false refl h)
held_if false y false r o e h = absurd (both_ways false refl h)

same_file : (file : ℕ) (c : Claim) (s : CoreState) → (c.file == file) ≡ true → has_cache file s.claims ≡ false → has_cache c.file s.claims ≡ false
same_file file c s on none = subst (λ (f : ℕ). has_cache f s.claims ≡ false) (sym (eqb-true c.file file on)) none

shut_is_up : (file : ℕ) (s : CoreState) (w : Waiter) → has_cache file s.claims ≡ false → is_file file (first_file w.asked) ≡ true → is_shut_out s w ≡ true → is_up s w ≡ true
shut_is_up file s w none on shut = or_right (is_some s.grace) (of_first (λ c. is_held_up earlier s w c) w.asked) (by w.asked on shut) where
  earlier : List Waiter
  earlier = before_number w.id s.waiters

  by : (asked : List Claim) → is_file file (first_file asked) ≡ true → (w.blocking && of_first (λ c. is_blocked s.claims c) asked) ≡ true → of_first (λ c. is_held_up earlier s w c) asked ≡ true
  by [] on shut = absurd (both_ways false refl on)
  by (c ∷ cs) on shut = held_if (is_blocked s.claims c) (is_barred s c) w.blocking (all_run s.claims c) (is_some (range_ahead earlier s c)) (barred_uncached s c (same_file file c s on none)) shut

-- of those who wait on a file each does
taken_on : (file n : ℕ) (ws : List Waiter) → AllByRecursion (λ w. is_file file (first_file w.asked) ≡ true) (take n (waiting_on file ws))
taken_on file zero [] = tt
taken_on file (suc n) [] = tt
taken_on file n (w ∷ ws) = elim (cases_Bool (is_file file (first_file w.asked))) [
  | inl on ↦ rw on (by n on (λ k. taken_on file k ws))
  | inr off ↦ rw off (taken_on file n ws)
] where
  by : (k : ℕ) → is_file file (first_file w.asked) ≡ true → ((m : ℕ) → AllByRecursion (λ v. is_file file (first_file v.asked) ≡ true) (take m (waiting_on file ws))) → AllByRecursion (λ v. is_file file (first_file v.asked) ≡ true) (take k (w ∷ waiting_on file ws))
  by zero on rest = tt
  by (suc k) on rest = (on, rest k)

all_of_both : (P Q R : Waiter → Type 0) → ((w : Waiter) → P w → Q w → R w) → (ws : List Waiter) → AllByRecursion P ws → AllByRecursion Q ws → AllByRecursion R ws
all_of_both P Q R f [] p q = tt
all_of_both P Q R f (w ∷ ws) p q = (f w p.0 q.0, all_of_both P Q R f ws p.1 q.1)

pub passed_up : (p : Passed) (s : CoreState) (file : ℕ) → p.file ≡ file → has_cache file s.claims ≡ false → ArePassed p s → AllByRecursion (λ w. is_up s w ≡ true) (take p.count (waiting_on file s.waiters))
unfolding ArePassed
passed_up p s file is none all =
    all_of_both (λ w. is_file file (first_file w.asked) ≡ true) (λ w. is_shut_out s w ≡ true) (λ w. is_up s w ≡ true) (λ w on shut. shut_is_up file s w none on shut) (take p.count (waiting_on file s.waiters)) (taken_on file p.count s.waiters)
    (subst (λ (f : ℕ). AllByRecursion (λ w. is_shut_out s w ≡ true) (take p.count (waiting_on f s.waiters))) is all)

pub passed_shut : (p : Passed) (s : CoreState) (file : ℕ) → p.file ≡ file → ArePassed p s → AllByRecursion (λ w. is_shut_out s w ≡ true) (take p.count (waiting_on file s.waiters))
unfolding ArePassed
passed_shut p s file is all = subst (λ (f : ℕ). AllByRecursion (λ w. is_shut_out s w ≡ true) (take p.count (waiting_on f s.waiters))) is all

-- ---- the search

-- those who are held up are passed by
pub known_first : (s : CoreState) (n : ℕ) (ws : List Waiter) → AllByRecursion (λ w. is_up s w ≡ true) (take n ws) → first_free s (drop n ws) ≡ first_free s ws
known_first s zero ws all = refl
known_first s (suc n) [] all = refl
known_first s (suc n) (w ∷ ws) all = known_first s n ws all.1 ∙ sym (called_onward s w ws all.0)

pub one_more : (P : Waiter → Type 0) (ws : List Waiter) (i : ℕ) (w : Waiter) → slice_get ws i ≡ Some w → P w → AllByRecursion P (take i ws) → AllByRecursion P (take (i + 1) ws)
one_more P ws i w is one all = let next : suc i ≡ i + 1 = omega arith in subst (λ (k : ℕ). AllByRecursion P (take k ws)) next (by ws i is all) where
  same : (a b : Waiter) → Some a ≡ Some b → a ≡ b
  same a b e = cc

  by : (vs : List Waiter) (k : ℕ) → slice_get vs k ≡ Some w → AllByRecursion P (take k vs) → AllByRecursion P (take (suc k) vs)
  by [] k e all = absurd cc
  by (v ∷ vs) zero e all = (subst P (sym (same v w e)) one, tt)
  by (v ∷ vs) (suc k) e all = (all.0, by vs k e all.1)

-- who is shut out in front, once the next is looked at
pub shut_more : (s : CoreState) (ws : List Waiter) (shut i : ℕ) (w : Waiter) → slice_get ws i ≡ Some w → AllByRecursion (λ v. is_shut_out s v ≡ true) (take shut ws) → AllByRecursion (λ v. is_shut_out s v ≡ true) (take (if (shut == i) && is_shut_out s w then shut + 1 else shut) ws)
shut_more s ws shut i w is all = elim (cases_Bool ((shut == i) && is_shut_out s w)) [
  | inr stops ↦ rw stops all
  | inl more ↦
      let parts = and_parts (shut == i) (is_shut_out s w) more in
      let here : slice_get ws shut ≡ Some w = ap (slice_get ws) (eqb-true shut i parts.0) ∙ is in
      rw more (one_more (λ v. is_shut_out s v ≡ true) ws shut w here parts.1 all)
]

pub shut_within : (shut i : ℕ) (b : Bool) → shut ≤ i → (if (shut == i) && b then shut + 1 else shut) ≤ i + 1
shut_within shut i b le = elim (cases_Bool ((shut == i) && b)) [ inl more ↦ rw more (omega (arith, le)) | inr stops ↦ rw stops (omega (arith, le)) ]

-- of fewer it is known too
pub fewer_apart : (id n m : ℕ) (ws : List Waiter) → n ≤ m → AllByRecursion (λ v. (v.id == id) ≡ false) (take m ws) → AllByRecursion (λ v. (v.id == id) ≡ false) (take n ws)
fewer_apart id zero m ws le all = tt
fewer_apart id (suc n) m [] le all = tt
fewer_apart id (suc n) zero (w ∷ ws) le all = absurd (omega (arith, le))
fewer_apart id (suc n) (suc m) (w ∷ ws) le all = (all.0, fewer_apart id n m ws (omega (arith, le)) all.1)

-- those who stand before one in a list of waiters apart have other numbers
pub others_before : (ws : List Waiter) (i : ℕ) (w : Waiter) → Pairwise are_apart ws → slice_get ws i ≡ Some w → AllByRecursion (λ v. (v.id == w.id) ≡ false) (take i ws)
others_before [] i w apart e = absurd cc
others_before (v ∷ vs) zero w apart e = tt
others_before (v ∷ vs) (suc i) w apart e = (other (v.id == w.id) (found vs i apart.0 e), others_before vs i w apart.1 e) where
  other : (b : Bool) → not b ≡ true → b ≡ false
  other true h = absurd (both_ways false refl h)
  other false h = refl

  same : (a b : Waiter) → Some a ≡ Some b → a ≡ b
  same a b e = cc

  found : (us : List Waiter) (k : ℕ) → AllByRecursion (λ u. are_apart v u ≡ true) us → slice_get us k ≡ Some w → are_apart v w ≡ true
  found [] k all e = absurd cc
  found (u ∷ us) zero all e = subst (λ (x : Waiter). are_apart v x ≡ true) (same u w e) all.0
  found (u ∷ us) (suc k) all e = found us k all.1 e

apart_on : (file : ℕ) (ws : List Waiter) → Pairwise are_apart ws → Pairwise are_apart (waiting_on file ws)
apart_on file [] apart = tt
apart_on file (w ∷ ws) apart = elim (cases_Bool (is_file file (first_file w.asked))) [
  | inl on ↦ rw on (kept ws apart.0, apart_on file ws apart.1)
  | inr off ↦ rw off (apart_on file ws apart.1)
] where
  kept : (vs : List Waiter) → AllByRecursion (λ v. are_apart w v ≡ true) vs → AllByRecursion (λ v. are_apart w v ≡ true) (waiting_on file vs)
  kept [] all = tt
  kept (v ∷ vs) all = elim (cases_Bool (is_file file (first_file v.asked))) [ inl on ↦ rw on (all.0, kept vs all.1) | inr off ↦ rw off (kept vs all.1) ]

pub stand_before : (s : CoreState) (file shut i : ℕ) (w : Waiter) → IsGood s → slice_get (waiting_on file s.waiters) i ≡ Some w → shut ≤ i → AllByRecursion (λ v. is_shut_out s v ≡ true) (take shut (waiting_on file s.waiters)) → StandBefore (called_of s w) (record { file = file; count = shut }) s
stand_before s file shut i w good is le all = record { shut = all; others = fewer_apart w.id shut i (waiting_on file s.waiters) le (others_before (waiting_on file s.waiters) i w (apart_on file s.waiters good.apart) is) }

-- ---- what a grant adds

any_placed : (test : Claim → Bool) (c : Claim) (cs : List Claim) → list_any test cs ≡ true → list_any test (placed goes_first c cs) ≡ true
any_placed test c [] e = absurd (both_ways false refl e)
any_placed test c (d ∷ ds) e = elim (cases_Bool (goes_first d c)) [
  | inr late ↦ rw late (or_right (test c) (test d || list_any test ds) e)
  | inl early ↦ rw early (elim (or_cases (test d) (list_any test ds) e) [
    | inl here ↦ or_left (test d) (list_any test (placed goes_first c ds)) here
    | inr behind ↦ or_right (test d) (list_any test (placed goes_first c ds)) (any_placed test c ds behind)
  ])
]

any_inserted : (test : Claim → Bool) (c : Claim) (cs : List Claim) → list_any test cs ≡ true → list_any test (inserted c cs) ≡ true
unfolding inserted
any_inserted test c cs e = any_placed test c cs e

all_kept_in : (test : Claim → Bool) (more held : List Claim) → list_any test held ≡ true → list_any test (all_inserted more held) ≡ true
all_kept_in test [] held e = e
all_kept_in test (c ∷ cs) held e = all_kept_in test cs (inserted c held) (any_inserted test c held e)

-- what is kept of a list of which nothing passes
none_out : (p : Claim → Bool) (cs : List Claim) → list_any p cs ≡ false → filter (λ c. not (p c)) cs ≡ cs
none_out p [] e = refl
none_out p (c ∷ cs) e = elim (cases_Bool (p c)) [
  | inl there ↦ absurd (both_ways (p c || list_any p cs) e (or_left (p c) (list_any p cs) there))
  | inr off ↦ rw off (ap (λ (ds : List Claim). c ∷ ds) (none_out p cs (sym (rw off refl) ∙ e)))
]

none_found : (p : Claim → Bool) (cs : List Claim) → find p cs ≡ None → list_any p cs ≡ false
none_found p [] e = refl
none_found p (c ∷ cs) e = elim (cases_Bool (p c)) [
  | inl there ↦ let two : Some c ≡ None = sym (rw there refl) ∙ e in absurd cc
  | inr off ↦ rw off (none_found p cs (sym (rw off refl) ∙ e))
]

share_adds : (c : Claim) (held : List Claim) → is_some (find (is_share_of c.file c.owner) held) ≡ false → (test : Claim → Bool) → list_any test held ≡ true → list_any test (shared_in c held) ≡ true
unfolding shared_in unshared
share_adds c held none test e = any_inserted test _ (filter (λ d. not (is_share_of c.file c.owner d)) held) (subst (λ (cs : List Claim). list_any test cs ≡ true) (sym (none_out (is_share_of c.file c.owner) held (by (find (is_share_of c.file c.owner) held) none refl))) e) where
  by : (o : Option Claim) → is_some o ≡ false → find (is_share_of c.file c.owner) held ≡ o → list_any (is_share_of c.file c.owner) held ≡ false
  by None n f = none_found (is_share_of c.file c.owner) held f
  by (Some d) n f = absurd (both_ways true n refl)

-- an owner of NLM or NFSv4 without spans has no range
no_ranges : (file : ℕ) (owner : Owner) (held : List Claim) → posix owner ≡ true → AllByRecursion (λ c. is_real c ≡ true) held → length (spans_of file owner held) ≡ 0 → list_any (is_range_of file owner) held ≡ false
no_ranges file owner [] p real none = refl
no_ranges file owner (c ∷ cs) p real none = elim (cases_Bool (is_of file owner c)) [
  | inr off ↦ rw off (no_ranges file owner cs p real.1 (rw off at none))
  | inl own ↦ by c.what (subst (λ (o : Owner). is_real_by o c.what ≡ true) (is_of-true file owner c own).1 real.0) own (sym (ap (λ (b : Bool). length (if b then with_span c.what (spans_of file owner cs) else spans_of file owner cs)) own) ∙ none) (λ few. no_ranges file owner cs p real.1 few)
] where
  by : (w : What) → is_real_by owner w ≡ true → is_of file owner c ≡ true → length (with_span w (spans_of file owner cs)) ≡ 0 → (length (spans_of file owner cs) ≡ 0 → list_any (is_range_of file owner) cs ≡ false) → ((is_of file owner c && is_range w) || list_any (is_range_of file owner) cs) ≡ false
  by (Share access deny) fits own e rest = rw own (rest e)
  by (Cache kind running) fits own e rest = rw own (rest e)
  by (Range (Bytes first last) exclusive) fits own e rest = absurd (omega (arith, e))
  by (Range (Empty offset) exclusive) fits own e rest = absurd (both_ways (posix owner) (off (posix owner) fits) p) where
    off : (b : Bool) → not b ≡ true → b ≡ false
    off true h = absurd (both_ways false refl h)
    off false h = refl

range_adds : (file : ℕ) (owner : Owner) (party : Party) (first last : ℕ) (mode : Option Mode) (held : List Claim) → posix owner ≡ true → AllByRecursion (λ c. is_real c ≡ true) held → length (spans_of file owner held) ≡ 0 → (test : Claim → Bool) → list_any test held ≡ true → list_any test (relocked_in file owner party first last mode held) ≡ true
unfolding relocked_in unranged
range_adds file owner party first last mode held p real none test e =
    all_kept_in test (map (range_claim file owner party) (relocked (spans_of file owner held) first last mode)) (filter (λ d. not (is_range_of file owner d)) held) (subst (λ (cs : List Claim). list_any test cs ≡ true) (sym (none_out (is_range_of file owner) held (no_ranges file owner held p real none))) e)

-- a claim in whose place nothing goes is added
one_adds : (c : Claim) (held : List Claim) → IsKept held → replaces_none c held ≡ true → (test : Claim → Bool) → list_any test held ≡ true → list_any test (granted_claims c held) ≡ true
unfolding granted_claims
one_adds c held kept free test e = by c.what free where
  by : (w : What) → replaces_none_by c w held ≡ true → list_any test (granted_by c w held) ≡ true
  by (Share access deny) f = share_adds c held (off (is_some (find (is_share_of c.file c.owner) held)) f) test e where
    off : (b : Bool) → not b ≡ true → b ≡ false
    off true h = absurd (both_ways false refl h)
    off false h = refl
  by (Range (Bytes first last) exclusive) f = elim (cases_Bool (posix c.owner)) [
    | inr other ↦ rw other (any_inserted test c held e)
    | inl p ↦ rw p (range_adds c.file c.owner c.party first last _ held p kept.sound.real (none p f) test e)
  ] where
    none : posix c.owner ≡ true → (not (posix c.owner) || (length (spans_of c.file c.owner held) == 0)) ≡ true → length (spans_of c.file c.owner held) ≡ 0
    none p f = eqb-true (length (spans_of c.file c.owner held)) 0 (sym (ap (λ (b : Bool). not b || (length (spans_of c.file c.owner held) == 0)) p) ∙ f)
  by (Range (Empty offset) exclusive) f = any_inserted test c held e
  by (Cache kind running) f = e

element_adds : (c : Claim) (held : List Claim) → is_element c ≡ true → (test : Claim → Bool) → list_any test held ≡ true → list_any test (granted_claims c held) ≡ true
unfolding granted_claims
element_adds c held is test e = by c.what is where
  by : (w : What) → (is_range w && not (posix c.owner)) ≡ true → list_any test (granted_by c w held) ≡ true
  by (Share access deny) f = absurd (both_ways false refl f)
  by (Range (Bytes first last) exclusive) f = rw (off (posix c.owner) f) (any_inserted test c held e) where
    off : (b : Bool) → not b ≡ true → b ≡ false
    off true h = absurd (both_ways false refl h)
    off false h = refl
  by (Range (Empty offset) exclusive) f = any_inserted test c held e
  by (Cache kind running) f = absurd (both_ways false refl f)

elements_add : (cs held : List Claim) → list_all is_element cs ≡ true → (test : Claim → Bool) → list_any test held ≡ true → list_any test (all_granted cs held) ≡ true
elements_add [] held all test e = e
elements_add (c ∷ cs) held all test e =
    let parts = and_parts (is_element c) (list_all is_element cs) all in
    elements_add cs (granted_claims c held) parts.1 test (element_adds c held parts.0 test e)

pub all_add : (asked held : List Claim) → IsKept held → replace_none asked held ≡ true → (test : Claim → Bool) → list_any test held ≡ true → list_any test (all_granted asked held) ≡ true
all_add [] held kept free test e = e
all_add (c ∷ []) held kept free test e = one_adds c held kept free test e
all_add (c ∷ d ∷ cs) held kept free test e = elements_add (c ∷ d ∷ cs) held free test e

-- ---- behind the turn

-- without one who isn't among the first so many on the file these are the same
same_front : (file n id : ℕ) (ws : List Waiter) → AllByRecursion (λ v. (v.id == id) ≡ false) (take n (waiting_on file ws)) → take n (waiting_on file (cancelled id ws)) ≡ take n (waiting_on file ws)
same_front file n id [] others = refl
same_front file n id (w ∷ ws) others = elim (cases_Bool (w.id == id)) [
  | inl here ↦ rw here (elim (cases_Bool (is_file file (first_file w.asked))) [
    | inr off ↦ rw off refl
    | inl on ↦ rw on (gone n here (rw on at others))
  ])
  | inr apart ↦ rw apart (elim (cases_Bool (is_file file (first_file w.asked))) [
    | inr off ↦ rw off (same_front file n id ws (rw off at others))
    | inl on ↦ rw on (more n (rw on at others) (λ k rest. same_front file k id ws rest))
  ])
] where
  gone : (k : ℕ) → (w.id == id) ≡ true → AllByRecursion (λ v. (v.id == id) ≡ false) (take k (w ∷ waiting_on file ws)) → take k (waiting_on file ws) ≡ take k (w ∷ waiting_on file ws)
  gone zero here none = refl
  gone (suc k) here none = absurd (both_ways (w.id == id) none.0 here)

  more : (k : ℕ) → AllByRecursion (λ v. (v.id == id) ≡ false) (take k (w ∷ waiting_on file ws)) → ((m : ℕ) → AllByRecursion (λ v. (v.id == id) ≡ false) (take m (waiting_on file ws)) → take m (waiting_on file (cancelled id ws)) ≡ take m (waiting_on file ws)) → take k (w ∷ waiting_on file (cancelled id ws)) ≡ take k (w ∷ waiting_on file ws)
  more zero none rest = refl
  more (suc k) none rest = ap (λ (vs : List Waiter). w ∷ vs) (rest k none.1)

-- the first that isn't held up is the one who is called
called_there : (s : CoreState) (earlier before : List Waiter) (w : Waiter) (behind : List Waiter) → AllBehind (IsUp s) earlier before → holds_up (earlier ++ before) s w w.asked ≡ false → first_called s earlier (before ++ w ∷ behind) ≡ Some (called_of s w)
called_there s earlier [] w behind up free = ap (λ (b : Bool). if b then first_called s (earlier ++ w ∷ []) behind else Some (called_of s w)) (ap (λ (vs : List Waiter). holds_up vs s w w.asked) (sym (append-nil earlier)) ∙ free)
called_there s earlier (v ∷ vs) w behind up free =
    ap (λ (b : Bool). if b then first_called s (earlier ++ v ∷ []) (vs ++ w ∷ behind) else Some (called_of s v)) up.0
    ∙ called_there s (earlier ++ v ∷ []) vs w behind up.1 (ap (λ (us : List Waiter). holds_up us s w w.asked) (append_assoc earlier (v ∷ []) vs) ∙ free)

-- one who is shut out stays so while what is held stays
stays_shut : (s t : CoreState) (v : Waiter) → ((test : Claim → Bool) → list_any test s.claims ≡ true → list_any test t.claims ≡ true) → is_shut_out s v ≡ true → is_shut_out t v ≡ true
stays_shut s t v adds shut = by v.asked shut where
  by : (asked : List Claim) → (v.blocking && of_first (λ c. is_blocked s.claims c) asked) ≡ true → (v.blocking && of_first (λ c. is_blocked t.claims c) asked) ≡ true
  by [] h = absurd (both_ways false refl (and_parts v.blocking false h).1)
  by (c ∷ cs) h =
      let parts = and_parts v.blocking (is_blocked s.claims c) h in
      rw (parts.0, adds (λ d. blocks c d) parts.1) refl

held_adds : (asked held : List Claim) (answer : Answer) → ((test : Claim → Bool) → list_any test held ≡ true → list_any test (all_granted asked held) ≡ true) → (test : Claim → Bool) → list_any test held ≡ true → list_any test (held_once asked answer held) ≡ true
held_adds asked held (answers.Granted c) adds test e = adds test e
held_adds asked held _ adds test e = e

unwished : (kinds : List CacheKind) (answer : Answer) (s : CoreState) → kinds ≡ [] → wish_for kinds answer s ≡ s
unwished kinds (answers.Granted c) s none = no_wish kinds c s none
unwished kinds _ s none = refl

-- where a turn frees nobody in front of it
module _ (n : ℕ) (left : Rooms) (s t : CoreState) (effects : List Effect) (called : Called) (p : Passed) (good : IsGood s) (turn : IsTurn n left s effects t) (is_called : first_called s [] s.waiters ≡ Some called)
    (frees : FreesNobody called p.file s) (stand : StandBefore called p s) (quiet : (made_way (before_number called.id s.waiters) called.plea called.asked s).0 ≡ []) where
  abbrev w : Waiter
  w = turn.waiter

  same_called : (a b : Called) → Some a ≡ Some b → a ≡ b
  same_called a b e = cc

  calm : is_some s.grace ≡ false
  calm = ap is_some turn.calm

  free : holds_up turn.before s w w.asked ≡ false
  free = ap (λ (asked : List Claim). holds_up turn.before s w asked) turn.asked ∙ (λ i. calm i || turn.free i)

  is : called_of s w ≡ called
  is = same_called (called_of s w) called (sym (called_there s [] turn.before w turn.behind turn.blocked free) ∙ ap (first_called s []) (sym turn.stood) ∙ is_called)

  way : way_again turn.before s w ≡ ([], s)
  way = way_quiet turn.before (plea_again s w) w.asked s (ap (λ (x : Called). (made_way turn.before x.plea x.asked s).0) is ∙ ap (λ (vs : List Waiter). (made_way vs called.plea called.asked s).0) (sym (called_front s called good turn.before turn.behind w turn.stood (ap (λ (x : Called). x.id) is))) ∙ quiet)

  adds : (test : Claim → Bool) → list_any test s.claims ≡ true → list_any test (all_granted w.asked s.claims) ≡ true
  adds = subst (λ (x : Called). (test : Claim → Bool) → list_any test s.claims ≡ true → list_any test (all_granted x.asked s.claims) ≡ true) (sym is) frees.adds

  front : AllByRecursion (λ v. is_shut_out s v ≡ true) (take p.count (waiting_on p.file s.waiters))
  front = stand.shut

  others : AllByRecursion (λ v. (v.id == w.id) ≡ false) (take p.count (waiting_on p.file s.waiters))
  others = subst (λ (x : Called). AllByRecursion (λ v. (v.id == x.id) ≡ false) (take p.count (waiting_on p.file s.waiters))) (sym is) stand.others

  answered : (answer : Answer) → AllByRecursion (λ v. is_shut_out (once_told s w answer) v ≡ true) (take p.count (waiting_on p.file (cancelled w.id s.waiters)))
  answered answer =
      subst (λ (vs : List Waiter). AllByRecursion (λ v. is_shut_out (once_told s w answer) v ≡ true) vs) (sym (same_front p.file p.count w.id s.waiters others))
      (all_weaker (λ v. is_shut_out s v ≡ true) (λ v. is_shut_out (once_told s w answer) v ≡ true) (take p.count (waiting_on p.file s.waiters)) (λ v shut. stays_shut s (once_told s w answer) v (held_adds w.asked s.claims answer adds) shut) front)

  by : IsServed n left turn.before s w turn.claim turn.told t → AllByRecursion (λ v. is_shut_out t v ≡ true) (take p.count (waiting_on p.file t.waiters))
  by (Answered answer told first each new held) =
      let now : t ≡ once_told s w answer = new ∙ unwished w.wish answer (once_told s w answer) (ap (λ (x : Called). x.wish) is ∙ frees.wish) in
      subst (λ (x : CoreState). AllByRecursion (λ v. is_shut_out x v ≡ true) (take p.count (waiting_on p.file x.waiters))) (sym now) (answered answer)
  by (WaitsOn told up new) = absurd (both_ways (is_held_up turn.before s w turn.claim) turn.free up)

  pub still_passed : ArePassed p t
  unfolding ArePassed
  still_passed = by (subst (λ (x : CoreState). IsServed n left turn.before x w turn.claim turn.told t) (ap (λ (x : List Effect × CoreState). x.1) way) turn.served)

-- who is passed behind a turn, if it frees nobody there
pub turn_passed : (left : Rooms) (s t : CoreState) (effects : List Effect) (p : Passed) → ((n : ℕ) → MayBe n t → settle n left s ≡ Some (effects, t)) → IsGood s
    → (0 < p.count → IfSome (first_called s [] s.waiters) (λ called. FreesNobody called p.file s × StandBefore called p s × ((made_way (before_number called.id s.waiters) called.plea called.asked s).0 ≡ []))) → ArePassed p t
turn_passed left s t effects p e good before = by p.count refl where
  turn : IsTurn t.made left s effects t
  turn = subst (λ (o : Option (List Effect × CoreState)). IfSome o (λ x. IsTurn t.made left s x.0 x.1)) (e t.made (may_be_made t)) (turn_is t.made left s good)

  free : holds_up turn.before s turn.waiter turn.waiter.asked ≡ false
  free = ap (λ (asked : List Claim). holds_up turn.before s turn.waiter asked) turn.asked ∙ (λ i. is_some (turn.calm i) || turn.free i)

  found : first_called s [] s.waiters ≡ Some (called_of s turn.waiter)
  found = ap (first_called s []) turn.stood ∙ called_there s [] turn.before turn.waiter turn.behind turn.blocked free

  by : (count : ℕ) → p.count ≡ count → ArePassed p t
  by zero none = nobody_passed p t none
  by (suc count) some =
      let all = subst (λ (o : Option Called). IfSome o (λ called. FreesNobody called p.file s × StandBefore called p s × ((made_way (before_number called.id s.waiters) called.plea called.asked s).0 ≡ []))) found (before (subst (λ (k : ℕ). 0 < k) (sym some) (omega arith))) in
      still_passed t.made left s t effects (called_of s turn.waiter) p good turn found all.0 all.1 all.2
