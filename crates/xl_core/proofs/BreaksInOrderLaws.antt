-- Breaks that begin one by one, in the order in which the caches are held, leave what is held once all of them begin; and
-- a plan looks at the claims on the ask's file alone.
use Rattle.std.proofs.Common.{◌≡◌, ℕ, suc, add-one, drop, drop-cons, get_or, ◌+◌, ◌<◌, ◌≤◌, Bool, true, false, not, ◌&&◌, ◌||◌, ◌==◌, nat_lt, if◌then◌else◌, List, [], ◌∷◌, ◌++◌, map, length, inl, inr, Option, Some, None, refl, sym, ap, subst, ◌∙◌, arith}
use Rattle.std.specs.Cmp.{IsStrictWeakOrder}
use Rattle.std.specs.List.{AllByRecursion, cons_option, filter, filter_map, find, list_any}
use Rattle.std.proofs.lemmas.Bool.{cases_Bool, both_ways, and_parts, and_right, or_cases, or_left, or_right, or_parts, eq-eqb, false_from_ne_true}
use Rattle.std.proofs.lemmas.Bool.Decides.{nat_tests}
use Rattle.std.proofs.lemmas.Cmp.{nat_list_cmp_total}
use Rattle.std.proofs.lemmas.List.{length-map}
use Rattle.std.proofs.lemmas.List.MinMax.{ranks_by}
use Rattle.xl_base.specs.Lists.{IsIn, Pairwise, placed, sorted}
use Rattle.xl_base.specs.Stable.{same_protocol}
use Rattle.xl_base.proofs.Members.{all_in, all_from, in_filter_from}
use Rattle.xl_base.proofs.Searches.{none_passes, any_none, in_filter_map_from}
use Rattle.xl_base.specs.declared.event.Moment.{Moment}
use Rattle.xl_base.specs.declared.name.Party.{Party}
use Rattle.xl_base.specs.declared.name.Party.TheVariants as parties
use Rattle.xl_base.specs.declared.name.Protocol.{Protocol}
use Rattle.xl_base.specs.declared.name.Protocol.TheVariants.{Nlm, Nfs, Smb}
use Rattle.xl_cache.specs.BreakPlans.{is_in_the_way, is_obstacle, blocking_shares, keeps_handle_by, keeps_open, is_covered, is_final, break_of, is_awaited, is_left, plan_with, planned, needs_answer_by, is_slow}
use Rattle.xl_cache.specs.Targets.{needs_answer}
use Rattle.xl_cache.proofs.BreakPlanLaws.{obstacle_is_cache, break_is_of}
use Rattle.xl_matrix.specs.Equal.{same_claims, same_parties}
use Rattle.xl_matrix.proofs.EqualLaws.{same_claims-true, same_claims-self}
use Rattle.xl_matrix.specs.declared.claim.CacheKind.{CacheKind}
use Rattle.xl_matrix.specs.declared.claim.Claim.{Claim}
use Rattle.xl_matrix.specs.declared.claim.What.{What}
use Rattle.xl_matrix.specs.declared.claim.What.TheVariants.{Share, Range, Cache}
use Rattle.xl_names.specs.declared.name.Name.{Name}
use Rattle.xl_table.specs.Flat.{blocks, may_obstruct, inserted, removed, changed, with_what}
use Rattle.xl_table.specs.Held.{is_share, is_cache, IsSound}
use Rattle.xl_table.specs.Order.{no_later, rank, owner_key, party_key, place_in_group, key_by, key, goes_first}
use Rattle.xl_table.proofs.InsertLaws.{sound_changed_other}
use Rattle.xl_table.proofs.KeptLaws.{sound_removed}
use Rattle.xl_table.proofs.OrderLaws.{no_later-self}
use Rattle.xl_table.proofs.SectionLaws.{filter_within, any_within, blocks_there}
use Rattle.xl_core.specs.BreaksBegun.{with_break, once_begun, once_broken, told_before, is_recall, recalls, begun_told, breaks_in_order, breaks_begun}
use Rattle.xl_core.specs.BreaksInOrder.{row_of, begun_of, row_before, begun_by, begun_in, all_begun, AreHeldThen}
use Rattle.xl_core.specs.Good.{is_single_by, is_single, IsGood}
use Rattle.xl_core.specs.Leases.{moment_after}
use Rattle.xl_core.specs.State.{CoreState}
use Rattle.xl_core.specs.declared.ask.Effect.{Effect}
use Rattle.xl_core.specs.declared.breaks.Row.{Row}

-- ---- the order in which they are told

pub rows_ranked : IsStrictWeakOrder row_before
rows_ranked = ranks_by nat_list_cmp_total (λ (r : Row). r.text)

placed_rows : (names : List Name) (b : Claim × Option CacheKind) (bs : List (Claim × Option CacheKind)) → placed row_before (row_of names b) (map (row_of names) bs) ≡ map (row_of names) (placed (told_before names) b bs)
placed_rows names b [] = refl
placed_rows names b (d ∷ ds) =
    elim (cases_Bool (told_before names d b)) [
      | inl first ↦ rw first (ap (λ (rows : List Row). row_of names d ∷ rows) (placed_rows names b ds))
      | inr later ↦ rw later refl
    ]

-- rows in order are the breaks in order
pub sorted_rows : (names : List Name) (bs : List (Claim × Option CacheKind)) → sorted row_before (map (row_of names) bs) ≡ map (row_of names) (sorted (told_before names) bs)
sorted_rows names [] = refl
sorted_rows names (b ∷ bs) = ap (λ (rows : List Row). placed row_before (row_of names b) rows) (sorted_rows names bs) ∙ placed_rows names b (sorted (told_before names) bs)

pub begun_of-rows : (names : List Name) (bs : List (Claim × Option CacheKind)) → map begun_of (map (row_of names) bs) ≡ bs
begun_of-rows names [] = refl
begun_of-rows names (b ∷ bs) = ap (λ (xs : List (Claim × Option CacheKind)). b ∷ xs) (begun_of-rows names bs)

abbrev counted : Bool → ℕ → ℕ
counted b n = if b then suc n else n

recalls_of : (b : Claim × Option CacheKind) (bs : List (Claim × Option CacheKind)) → recalls (b ∷ bs) ≡ counted (is_recall b) (recalls bs)
recalls_of b bs = by (is_recall b) where
  by : (p : Bool) → length (if p then b ∷ filter is_recall bs else filter is_recall bs) ≡ counted p (recalls bs)
  by true = refl
  by false = refl

counted_both : (p q : Bool) (n : ℕ) → counted p (counted q n) ≡ counted q (counted p n)
counted_both true true n = refl
counted_both true false n = refl
counted_both false true n = refl
counted_both false false n = refl

recalls_placed : (below : Claim × Option CacheKind → Claim × Option CacheKind → Bool) (b : Claim × Option CacheKind) (bs : List (Claim × Option CacheKind)) → recalls (placed below b bs) ≡ recalls (b ∷ bs)
recalls_placed below b [] = refl
recalls_placed below b (d ∷ ds) =
    elim (cases_Bool (below d b)) [
      | inr later ↦ rw later refl
      | inl first ↦ rw first (
          recalls_of d (placed below b ds)
          ∙ ap (counted (is_recall d)) (recalls_placed below b ds ∙ recalls_of b ds)
          ∙ counted_both (is_recall d) (is_recall b) (recalls ds)
          ∙ ap (counted (is_recall b)) (sym (recalls_of d ds))
          ∙ sym (recalls_of b (d ∷ ds)))
    ]

-- in whatever order they stand, as many are told by a call
pub recalls_sorted : (below : Claim × Option CacheKind → Claim × Option CacheKind → Bool) (bs : List (Claim × Option CacheKind)) → recalls (sorted below bs) ≡ recalls bs
recalls_sorted below [] = refl
recalls_sorted below (b ∷ bs) = recalls_placed below b (sorted below bs) ∙ recalls_of b (sorted below bs) ∙ ap (counted (is_recall b)) (recalls_sorted below bs) ∙ sym (recalls_of b bs)

length_placed : {A : Type 0} (below : A → A → Bool) (x : A) (xs : List A) → length (placed below x xs) ≡ suc (length xs)
length_placed below x [] = refl
length_placed below x (y ∷ ys) = elim (cases_Bool (below y x)) [ inr later ↦ rw later refl | inl first ↦ rw first (ap suc (length_placed below x ys)) ]

pub length_sorted : {A : Type 0} (below : A → A → Bool) (xs : List A) → length (sorted below xs) ≡ length xs
length_sorted below [] = refl
length_sorted below (x ∷ xs) = length_placed below x (sorted below xs) ∙ ap suc (length_sorted below xs)

length_given : {A B : Type 0} (f : A → Option B) (xs : List A) → length (filter_map f xs) ≤ length xs
length_given f [] = omega arith
length_given {A} {B} f (x ∷ xs) = by (f x) (length_given f xs) where
  by : (o : Option B) → length (filter_map f xs) ≤ length xs → length (cons_option o (filter_map f xs)) ≤ length (x ∷ xs)
  by None rest = omega (arith, rest)
  by (Some y) rest = omega (arith, rest)

-- no more breaks begin than there are claims
pub breaks_few : (ask : Claim) (held : List Claim) → length (planned ask held).breaks ≤ length held
unfolding planned
breaks_few ask held = length_given (break_of ask (blocking_shares ask held)) held

-- ---- a cache stands at a place of its own

step : (x y : ℕ) (p q : Bool) → (nat_lt x y || (x == y) && p) ≡ true → (nat_lt y x || (y == x) && q) ≡ true → (x ≡ y) × (p ≡ true) × (q ≡ true)
step x y true true h k = (grind (arith, nat_tests), refl, refl)
step x y true false h k = absurd (grind (arith, nat_tests))
step x y false q h k = absurd (grind (arith, nat_tests))

-- no two parties stand at one place
parties_by_key : (p q : Party) (r : List ℕ) → no_later (party_key p ++ r) (party_key q ++ r) ≡ true → no_later (party_key q ++ r) (party_key p ++ r) ≡ true → same_parties p q ≡ true
parties_by_key (parties.Name protocol m) (parties.Name other n) r h k =
    let first = step (rank protocol) (rank other) (no_later (m ∷ 0 ∷ r) (n ∷ 0 ∷ r)) (no_later (n ∷ 0 ∷ r) (m ∷ 0 ∷ r)) h k in
    let second = step m n (no_later (0 ∷ r) (0 ∷ r)) (no_later (0 ∷ r) (0 ∷ r)) first.1 first.2 in
    rw (same protocol other first.0) (eq-eqb m n second.0)
  where
    same : (a b : Protocol) → rank a ≡ rank b → same_protocol a b ≡ true
    same Nlm Nlm e = refl
    same Nfs Nfs e = refl
    same Smb Smb e = refl
    same Nlm Nfs e = absurd (omega (arith, e))
    same Nlm Smb e = absurd (omega (arith, e))
    same Nfs Nlm e = absurd (omega (arith, e))
    same Nfs Smb e = absurd (omega (arith, e))
    same Smb Nlm e = absurd (omega (arith, e))
    same Smb Nfs e = absurd (omega (arith, e))
parties_by_key (parties.Open m) (parties.Open n) r h k =
    let second = step m n (no_later (1 ∷ r) (1 ∷ r)) (no_later (1 ∷ r) (1 ∷ r)) h k in eq-eqb m n second.0
parties_by_key (parties.Name protocol m) (parties.Open n) r h k =
    let first = step (rank protocol) 2 (no_later (m ∷ 0 ∷ r) (n ∷ 1 ∷ r)) (no_later (n ∷ 1 ∷ r) (m ∷ 0 ∷ r)) h k in
    let second = step m n (no_later (0 ∷ r) (1 ∷ r)) (no_later (1 ∷ r) (0 ∷ r)) first.1 first.2 in
    absurd (both_ways false refl second.2)
parties_by_key (parties.Open m) (parties.Name protocol n) r h k =
    let first = step 2 (rank protocol) (no_later (m ∷ 1 ∷ r) (n ∷ 0 ∷ r)) (no_later (n ∷ 0 ∷ r) (m ∷ 1 ∷ r)) h k in
    let second = step m n (no_later (1 ∷ r) (0 ∷ r)) (no_later (0 ∷ r) (1 ∷ r)) first.1 first.2 in
    absurd (both_ways false refl second.1)

-- of a cache and another claim one stands strictly before the other
pub stands_behind : (a b : Claim) → (is_cache a.what || is_cache b.what) ≡ true → goes_first a b ≡ true → is_single a b ≡ true → goes_first b a ≡ false
unfolding key
stands_behind a b cache first single = false_from_ne_true (goes_first b a) (λ (h : goes_first b a ≡ true). by a.what b.what cache first h single) where
  classes : (m n : ℕ) (xs ys : List ℕ) → (m == n) ≡ false → no_later (a.file ∷ m ∷ xs) (b.file ∷ n ∷ ys) ≡ true → no_later (b.file ∷ n ∷ ys) (a.file ∷ m ∷ xs) ≡ true → ⊥
  classes m n xs ys apart h k =
      let files = step a.file b.file (no_later (m ∷ xs) (n ∷ ys)) (no_later (n ∷ ys) (m ∷ xs)) h k in
      let two = step m n (no_later xs ys) (no_later ys xs) files.1 files.2 in
      both_ways (m == n) apart (eq-eqb m n two.0)

  by : (v w : What) → (is_cache v || is_cache w) ≡ true → no_later (key_by a v) (key_by b w) ≡ true → no_later (key_by b w) (key_by a v) ≡ true → not (a.file == b.file && not (is_single_by a b v w)) ≡ true → ⊥
  by (Cache kind running) (Cache other due) one h k single =
      let files = step a.file b.file (no_later (2 ∷ (party_key a.party ++ 0 ∷ [])) (2 ∷ (party_key b.party ++ 0 ∷ []))) (no_later (2 ∷ (party_key b.party ++ 0 ∷ [])) (2 ∷ (party_key a.party ++ 0 ∷ []))) h k in
      let owners = step 2 2 (no_later (party_key a.party ++ 0 ∷ []) (party_key b.party ++ 0 ∷ [])) (no_later (party_key b.party ++ 0 ∷ []) (party_key a.party ++ 0 ∷ [])) files.1 files.2 in
      let same = parties_by_key a.party b.party (0 ∷ []) owners.1 owners.2 in
      let two : not (a.file == b.file && not (not (same_parties a.party b.party))) ≡ false = rw (eq-eqb a.file b.file files.0, same) refl in
      both_ways (not (a.file == b.file && not (not (same_parties a.party b.party)))) two single
  by (Cache kind running) (Share access deny) one h k single = classes 2 0 (party_key a.party ++ 0 ∷ []) (owner_key b.owner ++ 0 ∷ []) refl h k
  by (Cache kind running) (Range extent exclusive) one h k single = classes 2 1 (party_key a.party ++ 0 ∷ []) (owner_key b.owner ++ place_in_group b.owner extent ∷ []) refl h k
  by (Share access deny) (Cache kind running) one h k single = classes 0 2 (owner_key a.owner ++ 0 ∷ []) (party_key b.party ++ 0 ∷ []) refl h k
  by (Range extent exclusive) (Cache kind running) one h k single = classes 1 2 (owner_key a.owner ++ place_in_group a.owner extent ∷ []) (party_key b.party ++ 0 ∷ []) refl h k
  by (Share access deny) (Share rights denied) one h k single = both_ways false refl one
  by (Share access deny) (Range extent exclusive) one h k single = both_ways false refl one
  by (Range extent exclusive) (Share access deny) one h k single = both_ways false refl one
  by (Range extent exclusive) (Range other alone) one h k single = both_ways false refl one

-- ---- one break after another

-- the break is of a cache that stands behind this claim
record IsBehind (c : Claim) (b : Claim × Option CacheKind) : Type 0 where
  cache : is_cache b.0.what ≡ true
  first : goes_first c b.0 ≡ true
  behind : goes_first b.0 c ≡ false

apart : (c : Claim) (b : Claim × Option CacheKind) → IsBehind c b → same_claims c b.0 ≡ false
apart c b past =
    false_from_ne_true (same_claims c b.0) (λ (h : same_claims c b.0 ≡ true).
    both_ways (goes_first b.0 c) past.behind (ap (λ (d : Claim). goes_first b.0 d) (same_claims-true c b.0 h) ∙ no_later-self (key b.0)))

key_stays : (c : Claim) (w : What) (to : What) → c.what ≡ w → is_cache w ≡ true → is_cache to ≡ true → key (with_what c to) ≡ key c
unfolding key
key_stays c (Cache kind running) (Cache other due) at h k = ap (λ (w : What). key_by c w) (sym at)
key_stays c (Cache kind running) (Share access deny) at h k = absurd (both_ways false refl k)
key_stays c (Cache kind running) (Range extent exclusive) at h k = absurd (both_ways false refl k)
key_stays c (Share access deny) to at h k = absurd (both_ways false refl h)
key_stays c (Range extent exclusive) to at h k = absurd (both_ways false refl h)

-- what stands before the cache stays
begun_past : (deadline : Moment) (b : Claim × Option CacheKind) (c : Claim) (cs : List Claim) → IsBehind c b → begun_in deadline b (c ∷ cs) ≡ c ∷ begun_in deadline b cs
unfolding begun_in changed inserted
begun_past deadline b c cs past = by b.0.what refl where
  other : same_claims c b.0 ≡ false
  other = apart c b past

  by : (w : What) → b.0.what ≡ w → begun_by deadline b.0 b.1 w (c ∷ cs) ≡ c ∷ begun_by deadline b.0 b.1 w cs
  by (Cache kind running) at =
      let to : What = Cache kind (Some (record { target = b.1; deadline = deadline })) in
      let first : goes_first c (with_what b.0 to) ≡ true = ap (λ (k : List ℕ). no_later (key c) k) (key_stays b.0 b.0.what to refl past.cache refl) ∙ past.first in
      elim (cases_Bool (needs_answer kind b.1)) [
        | inl slow ↦ rw (slow, other, first) refl
        | inr quick ↦ rw (quick, other) refl
      ]
  by (Share access deny) at = rw other refl
  by (Range extent exclusive) at = rw other refl

all_past : (deadline : Moment) (bs : List (Claim × Option CacheKind)) (c : Claim) (cs : List Claim) → AllByRecursion (IsBehind c) bs → all_begun deadline bs (c ∷ cs) ≡ c ∷ all_begun deadline bs cs
all_past deadline [] c cs past = refl
all_past deadline (b ∷ bs) c cs past = ap (λ (ds : List Claim). all_begun deadline bs ds) (begun_past deadline b c cs past.0) ∙ all_past deadline bs c (begun_in deadline b cs) past.1

held_past : (deadline : Moment) (bs : List (Claim × Option CacheKind)) (c : Claim) (cs : List Claim) → AllByRecursion (IsBehind c) bs → AreHeldThen deadline bs cs → AreHeldThen deadline bs (c ∷ cs)
held_past deadline [] c cs past held = tt
held_past deadline (b ∷ bs) c cs past held = (
  inr held.0,
  subst (λ (ds : List Claim). AreHeldThen deadline bs ds) (sym (begun_past deadline b c cs past.0)) (held_past deadline bs c (begun_in deadline b cs) past.1 held.1),
)

ahead : (c : Claim) (cs : List Claim) → AllByRecursion (λ d. goes_first d c ≡ false) cs → inserted c cs ≡ c ∷ cs
unfolding inserted
ahead c [] all = refl
ahead c (d ∷ ds) all = rw all.0 refl

-- the first of these begins
begun_first : (deadline : Moment) (b : Claim × Option CacheKind) (cs : List Claim) → is_cache b.0.what ≡ true → AllByRecursion (λ d. goes_first d b.0 ≡ false) cs → begun_in deadline b (b.0 ∷ cs) ≡ cons_option (once_begun deadline b.0 (Some b)) cs
unfolding begun_in changed
begun_first deadline b cs cache behind = by b.0.what refl cache where
  by : (w : What) → b.0.what ≡ w → is_cache w ≡ true → begun_by deadline b.0 b.1 w (b.0 ∷ cs) ≡ cons_option (once_begun deadline b.0 (Some b)) cs
  by (Cache kind running) at h =
      let to : What = Cache kind (Some (record { target = b.1; deadline = deadline })) in
      let same : key (with_what b.0 to) ≡ key b.0 = key_stays b.0 b.0.what to refl cache refl in
      let slow : is_slow b ≡ needs_answer kind b.1 = ap (λ (w : What). needs_answer_by w b.1) at in
      let whole : with_break b.0 b.0.what b.1 deadline ≡ with_what b.0 to = ap (λ (w : What). with_break b.0 w b.1 deadline) at in
      let gone : removed b.0 (b.0 ∷ cs) ≡ cs = rw (same_claims-self b.0) refl in
      let past : AllByRecursion (λ d. goes_first d (with_what b.0 to) ≡ false) cs = subst (λ (k : List ℕ). AllByRecursion (λ d. no_later (key d) k ≡ false) cs) (sym same) behind in
      elim (cases_Bool (needs_answer kind b.1)) [
        | inl needed ↦
            rw (needed, slow, needed, whole) (ap (λ (ds : List Claim). inserted (with_what b.0 to) ds) gone ∙ ahead (with_what b.0 to) cs past)
        | inr quick ↦ rw (quick, slow, quick) gone
      ]
  by (Share access deny) at h = absurd (both_ways false refl h)
  by (Range extent exclusive) at h = absurd (both_ways false refl h)

-- it keeps its place
key_broken : (c : Claim) (w : What) (left : Option CacheKind) (deadline : Moment) → c.what ≡ w → key (with_break c w left deadline) ≡ key c
unfolding key
key_broken c (Cache kind running) left deadline at = ap (λ (w : What). key_by c w) (sym at)
key_broken c (Share access deny) left deadline at = refl
key_broken c (Range extent exclusive) left deadline at = refl

pub begun_sound : (deadline : Moment) (b : Claim × Option CacheKind) (cs : List Claim) → IsSound cs → IsSound (begun_in deadline b cs)
unfolding begun_in
begun_sound deadline b cs sound = by b.0.what where
  by : (w : What) → IsSound (begun_by deadline b.0 b.1 w cs)
  by (Cache kind running) =
      elim (cases_Bool (needs_answer kind b.1)) [
        | inl slow ↦ rw slow (sound_changed_other b.0 (Cache kind (Some (record { target = b.1; deadline = deadline }))) cs sound refl)
        | inr quick ↦ rw quick (sound_removed b.0 cs sound)
      ]
  by (Share access deny) = sound_removed b.0 cs sound
  by (Range extent exclusive) = sound_removed b.0 cs sound

-- ---- the breaks of a plan

module _ (deadline : Moment) (ask : Claim) (shares : List Claim) where
  abbrev broken : Claim → Option (Claim × Option CacheKind)
  broken c = break_of ask shares c

  abbrev begun : Claim → Option Claim
  begun c = once_begun deadline c (break_of ask shares c)

  -- those that stand behind a claim
  are_behind : (c d : Claim) (cs : List Claim) → key d ≡ key c → AllByRecursion (λ e. goes_first c e ≡ true) cs → AllByRecursion (λ e. is_single c e ≡ true) cs → AllByRecursion (IsBehind d) (filter_map broken cs)
  are_behind c d cs same first single = all_from (IsBehind d) (filter_map broken cs) (λ b there. one b (in_filter_map_from broken b cs there)) where
    one : (b : Claim × Option CacheKind) → (e : Claim) × IsIn e cs × (break_of ask shares e ≡ Some b) → IsBehind d b
    one b from =
        let e = from.0 in
        let is = break_is_of ask shares e b from.2 in
        let cache = obstacle_is_cache ask shares e is.1 in
        let before : goes_first c e ≡ true = all_in (λ x. goes_first c x ≡ true) e cs first from.1 in
        let behind = stands_behind c e (or_right (is_cache c.what) (is_cache e.what) cache) before (all_in (λ x. is_single c x ≡ true) e cs single from.1) in
        record {
          cache = ap (λ (x : Claim). is_cache x.what) is.0 ∙ cache;
          first = ap (λ (x : Claim). goes_first d x) is.0 ∙ ap (λ (k : List ℕ). no_later k (key e)) same ∙ before;
          behind = ap (λ (x : Claim). goes_first x d) is.0 ∙ ap (λ (k : List ℕ). no_later (key e) k) same ∙ behind;
        }

  -- the first begins
  first_so : (c : Claim) (b : Claim × Option CacheKind) (cs : List Claim) → break_of ask shares c ≡ Some b → AllByRecursion (λ e. goes_first c e ≡ true) cs → AllByRecursion (λ e. is_single c e ≡ true) cs → begun_in deadline b (c ∷ cs) ≡ cons_option (once_begun deadline c (Some b)) cs
  first_so c b cs e first single =
      let is = break_is_of ask shares c b e in
      let cache = obstacle_is_cache ask shares c is.1 in
      let behind : AllByRecursion (λ d. goes_first d c ≡ false) cs = all_from (λ d. goes_first d c ≡ false) cs (λ d h.
      stands_behind c d (or_left (is_cache c.what) (is_cache d.what) cache) (all_in (λ x. goes_first c x ≡ true) d cs first h) (all_in (λ x. is_single c x ≡ true) d cs single h)) in
      subst (λ (x : Claim). begun_in deadline b (x ∷ cs) ≡ cons_option (once_begun deadline x (Some b)) cs) is.0
      (begun_first deadline b cs (ap (λ (x : Claim). is_cache x.what) is.0 ∙ cache) (subst (λ (x : Claim). AllByRecursion (λ d. goes_first d x ≡ false) cs) (sym is.0) behind))

  written_so : (cs : List Claim) → Pairwise goes_first cs → Pairwise is_single cs → all_begun deadline (filter_map broken cs) cs ≡ filter_map begun cs
  written_so [] ordered single = refl
  written_so (c ∷ cs) ordered single = by (broken c) refl (written_so cs ordered.1 single.1) where
    bs : List (Claim × Option CacheKind)
    bs = filter_map broken cs

    by : (o : Option (Claim × Option CacheKind)) → break_of ask shares c ≡ o → all_begun deadline (filter_map broken cs) cs ≡ filter_map begun cs
        → all_begun deadline (cons_option o (filter_map broken cs)) (c ∷ cs) ≡ cons_option (once_begun deadline c o) (filter_map begun cs)
    by None e rest = all_past deadline (filter_map broken cs) c cs (are_behind c c cs refl ordered.0 single.0) ∙ ap (λ (ds : List Claim). c ∷ ds) rest
    by (Some b) e rest = ap (λ (ds : List Claim). all_begun deadline (filter_map broken cs) ds) (first_so c b cs e ordered.0 single.0) ∙ left (is_slow b) where
      left : (slow : Bool) → all_begun deadline (filter_map broken cs) (cons_option (if slow then Some (with_break c c.what b.1 deadline) else None) cs) ≡ cons_option (if slow then Some (with_break c c.what b.1 deadline) else None) (filter_map begun cs)
      left true =
          let d : Claim = with_break c c.what b.1 deadline in
          all_past deadline (filter_map broken cs) d cs (are_behind c d cs (key_broken c c.what b.1 deadline refl) ordered.0 single.0) ∙ ap (λ (ds : List Claim). d ∷ ds) rest
      left false = rest

  held_so : (cs : List Claim) → Pairwise goes_first cs → Pairwise is_single cs → AreHeldThen deadline (filter_map broken cs) cs
  held_so [] ordered single = tt
  held_so (c ∷ cs) ordered single = by (broken c) refl (held_so cs ordered.1 single.1) where
    by : (o : Option (Claim × Option CacheKind)) → break_of ask shares c ≡ o → AreHeldThen deadline (filter_map broken cs) cs → AreHeldThen deadline (cons_option o (filter_map broken cs)) (c ∷ cs)
    by None e rest = held_past deadline (filter_map broken cs) c cs (are_behind c c cs refl ordered.0 single.0) rest
    by (Some b) e rest = (
      inl (sym (break_is_of ask shares c b e).0),
      subst (λ (ds : List Claim). AreHeldThen deadline (filter_map broken cs) ds) (sym (first_so c b cs e ordered.0 single.0)) (left (is_slow b)),
    ) where
      left : (slow : Bool) → AreHeldThen deadline (filter_map broken cs) (cons_option (if slow then Some (with_break c c.what b.1 deadline) else None) cs)
      left true =
          let d : Claim = with_break c c.what b.1 deadline in
          held_past deadline (filter_map broken cs) d cs (are_behind c d cs (key_broken c c.what b.1 deadline refl) ordered.0 single.0) rest
      left false = rest

-- the breaks of a plan, one after another, leave what is held once all of them begin
pub all_written : (deadline : Moment) (ask : Claim) (held : List Claim) → Pairwise goes_first held → Pairwise is_single held → all_begun deadline (planned ask held).breaks held ≡ once_broken deadline ask held
unfolding planned once_broken
all_written deadline ask held ordered single = written_so deadline ask (blocking_shares ask held) held ordered single

pub all_held : (deadline : Moment) (ask : Claim) (held : List Claim) → Pairwise goes_first held → Pairwise is_single held → AreHeldThen deadline (planned ask held).breaks held
unfolding planned
all_held deadline ask held ordered single = held_so deadline ask (blocking_shares ask held) held ordered single

-- ---- a plan looks at one file's claims

abbrev pub is_there : Claim → Claim → Bool
is_there ask c = c.file == ask.file

map_within : {B : Type 0} (f : Claim → Option B) (q : Claim → Bool) (cs : List Claim) → ((c : Claim) → q c ≡ false → f c ≡ None) → filter_map f (filter q cs) ≡ filter_map f cs
map_within f q [] out = refl
map_within {B} f q (c ∷ cs) out =
    elim (cases_Bool (q c)) [
      | inl in_it ↦ rw in_it (ap (λ (ys : List B). cons_option (f c) ys) (map_within f q cs out))
      | inr past ↦ rw (past, out c past) (map_within f q cs out)
    ]

find_within : (p q : Claim → Bool) (cs : List Claim) → ((c : Claim) → q c ≡ false → p c ≡ false) → find p (filter q cs) ≡ find p cs
find_within p q [] out = refl
find_within p q (c ∷ cs) out =
    elim (cases_Bool (q c)) [
      | inl in_it ↦ rw (in_it, find_within p q cs out) refl
      | inr past ↦ rw (past, out c past) (find_within p q cs out)
    ]

filter_alike : (p q : Claim → Bool) (cs : List Claim) → AllByRecursion (λ c. p c ≡ q c) cs → filter p cs ≡ filter q cs
filter_alike p q [] all = refl
filter_alike p q (c ∷ cs) all = ap (λ (b : Bool). if b then c ∷ filter p cs else filter p cs) all.0 ∙ ap (λ (ds : List Claim). if q c then c ∷ ds else ds) (filter_alike p q cs all.1)

blocks_here : (ask c : Claim) → blocks ask c ≡ true → is_there ask c ≡ true
blocks_here ask c h = elim (cases_Bool (is_there ask c)) [ inl e ↦ e | inr other ↦ absurd (both_ways (blocks ask c) (blocks_there ask c other) h) ]

elsewhere : (n m k : ℕ) → (n == k) ≡ true → (m == k) ≡ false → (n == m) ≡ false
elsewhere n m k h other = grind (arith, nat_tests)

-- a cache keeps shares of its file open
keeps_there : (ask share c : Claim) → is_there ask share ≡ true → is_there ask c ≡ false → keeps_open share c ≡ false
keeps_there ask share c here other = rw (elsewhere share.file c.file ask.file here other) (and_right (keeps_handle_by c.what) false refl)

pub shares_there : (ask : Claim) (held : List Claim) → AllByRecursion (λ s. is_there ask s ≡ true) (blocking_shares ask held)
shares_there ask held =
    all_from (λ s. is_there ask s ≡ true) (blocking_shares ask held) (λ s h.
    blocks_here ask s (and_parts (is_share s.what) (blocks ask s) (in_filter_from (λ c. is_share c.what && blocks ask c) s held h).1).1)

pub way_there : (ask : Claim) (shares : List Claim) (c : Claim) → AllByRecursion (λ s. is_there ask s ≡ true) shares → is_there ask c ≡ false → is_in_the_way ask shares c ≡ false
unfolding is_in_the_way
way_there ask shares c there other =
    let none : list_any (λ share. keeps_open share c) shares ≡ false = any_none (λ share. keeps_open share c) shares (λ s h. keeps_there ask s c (all_in (λ x. is_there ask x ≡ true) s shares there h) other) in
    rw (blocks_there ask c other, none) (by (is_cache c.what) (not (same_parties c.party ask.party)))
  where
    by : (p q : Bool) → ((p && false) || (q && false)) ≡ false
    by true true = refl
    by true false = refl
    by false true = refl
    by false false = refl

handle_is_cache : (w : What) → is_cache w ≡ false → keeps_handle_by w ≡ false
handle_is_cache (Share access deny) h = refl
handle_is_cache (Range extent exclusive) h = refl
handle_is_cache (Cache kind running) h = absurd (both_ways true h refl)

-- a test that passes on the ask's file alone, and there for all that blocks the ask and for each cache
record Keeps (ask : Claim) (q : Claim → Bool) : Type 0 where
  here : (c : Claim) → q c ≡ true → is_there ask c ≡ true
  free : (c : Claim) → q c ≡ false → blocks ask c ≡ false
  uncached : (c : Claim) → q c ≡ false → is_there ask c ≡ true → is_cache c.what ≡ false

module _ (ask : Claim) (q : Claim → Bool) (keeps : Keeps ask q) where
  out_of_way : (held : List Claim) (c : Claim) → q c ≡ false → is_in_the_way ask (blocking_shares ask held) c ≡ false
  out_of_way held c out =
      elim (cases_Bool (is_there ask c)) [
        | inr other ↦ way_there ask (blocking_shares ask held) c (shares_there ask held) other
        | inl here ↦ false_from_ne_true (is_in_the_way ask (blocking_shares ask held) c) (λ (h : is_in_the_way ask (blocking_shares ask held) c ≡ true).
            both_ways (is_cache c.what) (keeps.uncached c out here) (obstacle_is_cache ask (blocking_shares ask held) c h))
      ]

  kept_open : (c d : Claim) → q c ≡ true → q d ≡ false → keeps_open c d ≡ false
  kept_open c d in_it out =
      elim (cases_Bool (is_there ask d)) [
        | inr other ↦ keeps_there ask c d (keeps.here c in_it) other
        | inl here ↦ rw (handle_is_cache d.what (keeps.uncached d out here)) refl
      ]

  shares_kept : (held : List Claim) → blocking_shares ask (filter q held) ≡ blocking_shares ask held
  shares_kept held = filter_within (λ c. is_share c.what && blocks ask c) q held (λ c out. rw (keeps.free c out) (and_right (is_share c.what) false refl))

  planned_kept : (held : List Claim) → planned ask (filter q held) ≡ planned ask held
  unfolding planned break_of
  planned_kept held =
      ap (λ (shares : List Claim). plan_with ask shares (filter q held)) (shares_kept held) ∙ (λ i. record { breaks = breaks i; awaited = awaited i; left = left i })
    where
      breaks : filter_map (break_of ask (blocking_shares ask held)) (filter q held) ≡ filter_map (break_of ask (blocking_shares ask held)) held
      breaks = map_within (break_of ask (blocking_shares ask held)) q held (λ c out. rw (out_of_way held c out) refl)

      awaited : find (is_awaited ask (blocking_shares ask held)) (filter q held) ≡ find (is_awaited ask (blocking_shares ask held)) held
      awaited = find_within (is_awaited ask (blocking_shares ask held)) q held (λ c out. rw (out_of_way held c out) refl)

      left : find (is_left ask (blocking_shares ask held)) (filter q held) ≡ find (is_left ask (blocking_shares ask held)) held
      left = find_within (is_left ask (blocking_shares ask held)) q held (λ c out. rw (out_of_way held c out) refl)

  final_kept : (held : List Claim) → filter (is_final ask (filter q held)) (filter q held) ≡ filter (is_final ask held) held
  unfolding is_covered
  final_kept held =
      filter_alike (is_final ask (filter q held)) (is_final ask held) (filter q held)
      (all_from (λ c. is_final ask (filter q held) c ≡ is_final ask held c) (filter q held) (λ c h.
      ap (λ (b : Bool). blocks ask c && (not (is_cache c.what) && not (is_share c.what && (not (same_parties c.party ask.party) && b))))
      (any_within (keeps_open c) q held (λ d out. kept_open c d (in_filter_from q c held h).1 out))))
      ∙ filter_within (is_final ask held) q held (λ c out. rw (keeps.free c out) refl)

on_file : (ask : Claim) → Keeps ask (is_there ask)
on_file ask = record { here = λ c in_it. in_it; free = λ c other. blocks_there ask c other; uncached = λ c other here. absurd (both_ways (is_there ask c) other here) }

pub planned_here : (ask : Claim) (held : List Claim) → planned ask (filter (λ c. c.file == ask.file) held) ≡ planned ask held
planned_here ask held = planned_kept ask (is_there ask) (on_file ask) held

-- and so do the blockers that no break moves
pub final_here : (ask : Claim) (held : List Claim) → filter (is_final ask (filter (λ c. c.file == ask.file) held)) (filter (λ c. c.file == ask.file) held) ≡ filter (is_final ask held) held
final_here ask held = final_kept ask (is_there ask) (on_file ask) held

-- of these it looks at those that block the ask, and at the caches
obstructs : (ask : Claim) → Keeps ask (may_obstruct ask)
obstructs ask = record {
  here = λ c in_it. elim (or_cases (blocks ask c) (is_there ask c && is_cache c.what) in_it) [ inl blocked ↦ blocks_here ask c blocked | inr cached ↦ (and_parts (is_there ask c) (is_cache c.what) cached).0 ];
  free = λ c out. (or_parts (blocks ask c) (is_there ask c && is_cache c.what) out).0;
  uncached = λ c out here. uncached c (is_there ask c) here (or_parts (blocks ask c) (is_there ask c && is_cache c.what) out).1;
} where
  uncached : (c : Claim) (b : Bool) → b ≡ true → (b && is_cache c.what) ≡ false → is_cache c.what ≡ false
  uncached c true e h = h
  uncached c false e h = absurd (both_ways false refl e)

pub planned_against : (ask : Claim) (held : List Claim) → planned ask (filter (may_obstruct ask) held) ≡ planned ask held
planned_against ask held = planned_kept ask (may_obstruct ask) (obstructs ask) held

pub final_against : (ask : Claim) (held : List Claim) → filter (is_final ask (filter (may_obstruct ask) held)) (filter (may_obstruct ask) held) ≡ filter (is_final ask held) held
final_against ask held = final_kept ask (may_obstruct ask) (obstructs ask) held

-- ---- a file without caches

abbrev AreOthers : Claim → List Claim → Type 0
AreOthers ask held = list_any (λ c. (c.file == ask.file) && is_cache c.what) held ≡ false

no_cache : (ask : Claim) (held : List Claim) (c : Claim) → AreOthers ask held → IsIn c held → is_there ask c ≡ true → is_cache c.what ≡ false
no_cache ask held c none there here =
    let not_one = none_passes (λ d. (d.file == ask.file) && is_cache d.what) c held none there in
    rw here at not_one

no_way : (ask : Claim) (held : List Claim) (c : Claim) → AreOthers ask held → IsIn c held → is_in_the_way ask (blocking_shares ask held) c ≡ false
no_way ask held c none there =
    elim (cases_Bool (is_there ask c)) [
      | inr other ↦ way_there ask (blocking_shares ask held) c (shares_there ask held) other
      | inl here ↦ false_from_ne_true (is_in_the_way ask (blocking_shares ask held) c) (λ (h : is_in_the_way ask (blocking_shares ask held) c ≡ true).
          both_ways (is_cache c.what) (no_cache ask held c none there here) (obstacle_is_cache ask (blocking_shares ask held) c h))
    ]

all_none : {B : Type 0} (f : Claim → Option B) (cs : List Claim) → ((c : Claim) → IsIn c cs → f c ≡ None) → filter_map f cs ≡ []
all_none f [] none = refl
all_none f (c ∷ cs) none = rw (none c (inl refl)) (all_none f cs (λ d h. none d (inr h)))

find_none : (p : Claim → Bool) (cs : List Claim) → ((c : Claim) → IsIn c cs → p c ≡ false) → find p cs ≡ None
find_none p [] none = refl
find_none p (c ∷ cs) none = rw (none c (inl refl)) (find_none p cs (λ d h. none d (inr h)))

-- where nothing is in the way no break begins, and none is awaited
pub unplanned : (ask : Claim) (held : List Claim) → ((c : Claim) → IsIn c held → is_obstacle ask held c ≡ false) → planned ask held ≡ record { breaks = []; awaited = None; left = None }
unfolding planned break_of
unplanned ask held none = λ i. record { breaks = breaks i; awaited = awaited i; left = left i } where
  breaks : filter_map (break_of ask (blocking_shares ask held)) held ≡ []
  breaks = all_none (break_of ask (blocking_shares ask held)) held (λ c h. rw (none c h) refl)

  awaited : find (is_awaited ask (blocking_shares ask held)) held ≡ None
  awaited = find_none (is_awaited ask (blocking_shares ask held)) held (λ c h. rw (none c h) refl)

  left : find (is_left ask (blocking_shares ask held)) held ≡ None
  left = find_none (is_left ask (blocking_shares ask held)) held (λ c h. rw (none c h) refl)

pub none_planned : (ask : Claim) (held : List Claim) → list_any (λ c. (c.file == ask.file) && is_cache c.what) held ≡ false → planned ask held ≡ record { breaks = []; awaited = None; left = None }
none_planned ask held none = unplanned ask held (λ c h. no_way ask held c none h)

-- and all that blocks an ask blocks it for good
pub all_final : (ask : Claim) (held : List Claim) → list_any (λ c. (c.file == ask.file) && is_cache c.what) held ≡ false → filter (is_final ask held) held ≡ filter (blocks ask) held
unfolding is_covered
all_final ask held none = filter_alike (is_final ask held) (blocks ask) held (all_from (λ c. is_final ask held c ≡ blocks ask c) held one) where
  kept : (c d : Claim) → is_there ask c ≡ true → IsIn d held → keeps_open c d ≡ false
  kept c d here there =
      elim (cases_Bool (is_there ask d)) [
        | inr other ↦ keeps_there ask c d here other
        | inl same ↦ rw (handle_is_cache d.what (no_cache ask held d none there same)) refl
      ]

  one : (c : Claim) → IsIn c held → is_final ask held c ≡ blocks ask c
  one c there =
      elim (cases_Bool (blocks ask c)) [
        | inr free ↦ rw free refl
        | inl blocked ↦
            let here = blocks_here ask c blocked in
            let open_by : list_any (keeps_open c) held ≡ false = any_none (keeps_open c) held (λ d h. kept c d here h) in
            rw (blocked, no_cache ask held c none there here, open_by) (by (is_share c.what) (not (same_parties c.party ask.party)))
      ]
    where
      by : (p q : Bool) → not (p && (q && false)) ≡ true
      by true true = refl
      by true false = refl
      by false q = refl

-- ---- what is told of them, and what is left

-- the rows in order are the breaks as they are told
pub rows_told : (names : List Name) (bs : List (Claim × Option CacheKind)) (rows : List Row) → rows ≡ sorted row_before (map (row_of names) bs) → map begun_of rows ≡ sorted (told_before names) bs
rows_told names bs rows e = ap (λ (xs : List Row). map begun_of xs) (e ∙ sorted_rows names bs) ∙ begun_of-rows names (sorted (told_before names) bs)

pub rows_many : (names : List Name) (bs : List (Claim × Option CacheKind)) (rows : List Row) → rows ≡ sorted row_before (map (row_of names) bs) → length rows ≡ length bs
rows_many names bs rows e = ap length e ∙ length_sorted row_before (map (row_of names) bs) ∙ length-map bs (row_of names)

pub begun_so : (s : CoreState) (ask : Claim) (bs : List (Claim × Option CacheKind)) (deadline : Moment) (told : List Effect) (last : ℕ) (claims : List Claim) → IsGood s → bs ≡ (planned ask s.claims).breaks → deadline ≡ moment_after s.clock s.times.break_time
    → told ≡ begun_told s.counter (sorted (told_before s.names) bs) → last ≡ s.counter + recalls bs → claims ≡ all_begun deadline bs s.claims → breaks_begun ask s ≡ (told, record s { claims = claims; counter = last })
unfolding breaks_begun
begun_so s ask bs deadline told last claims good all due effects number written = λ i. (is_told i, record s { claims = are_held i; counter = is_last i }) where
  is_told : begun_told s.counter (breaks_in_order ask s) ≡ told
  is_told = ap (λ (xs : List (Claim × Option CacheKind)). begun_told s.counter (sorted (told_before s.names) xs)) (sym all) ∙ sym effects

  is_last : s.counter + recalls (planned ask s.claims).breaks ≡ last
  is_last = ap (λ (xs : List (Claim × Option CacheKind)). s.counter + recalls xs) (sym all) ∙ sym number

  are_held : once_broken (moment_after s.clock s.times.break_time) ask s.claims ≡ claims
  are_held =
      sym (all_written (moment_after s.clock s.times.break_time) ask s.claims good.kept.ordered good.single)
      ∙ ap (λ (xs : List (Claim × Option CacheKind)). all_begun (moment_after s.clock s.times.break_time) xs s.claims) (sym all)
      ∙ ap (λ (m : Moment). all_begun m bs s.claims) (sym due)
      ∙ sym written

-- one more of them begins
pub one_more : (deadline : Moment) (bs : List (Claim × Option CacheKind)) (i : ℕ) (d : Claim × Option CacheKind) (held new : List Claim) → i < length bs → new ≡ begun_in deadline (get_or bs i d) held → AreHeldThen deadline (drop i bs) held → IsSound held
    → (all_begun deadline (drop (i + 1) bs) new ≡ all_begun deadline (drop i bs) held) × AreHeldThen deadline (drop (i + 1) bs) new × IsSound new
one_more deadline bs i d held new h is then_held sound =
    let b = get_or bs i d in
    let e : drop i bs ≡ b ∷ drop (i + 1) bs = rw add-one (drop-cons bs i d h) in
    let later = (subst (λ (xs : List (Claim × Option CacheKind)). AreHeldThen deadline xs held) e then_held).1 in (
      ap (λ (cs : List Claim). all_begun deadline (drop (i + 1) bs) cs) is ∙ ap (λ (xs : List (Claim × Option CacheKind)). all_begun deadline xs held) (sym e),
      subst (λ (cs : List Claim). AreHeldThen deadline (drop (i + 1) bs) cs) (sym is) later,
      subst (λ (cs : List Claim). IsSound cs) (sym is) (begun_sound deadline b held sound),
    )
