-- Where breaks begin the state stays good, nothing but caches changes, and what is held of each cache is told.
use Rattle.std.proofs.Common.{length, ◌≤◌, ◌≡◌, ℕ, ◌+◌, Bool, true, false, not, ◌&&◌, ◌==◌, if◌then◌else◌, List, [], ◌∷◌, map, inl, inr, Option, Some, None, option_map, refl, sym, ap, subst, ◌∙◌, arith}
use Rattle.std.specs.List.{AllByRecursion, cons_option, filter, filter_map, find, list_any}
use Rattle.std.proofs.lemmas.Bool.{cases_Bool, both_ways, and_parts, and_right, eq-eqb, eqb-true, false_from_ne_true}
use Rattle.xl_base.specs.Lists.{Pairwise, placed, sorted}
use Rattle.xl_base.proofs.Members.{all_in, all_from}
use Rattle.xl_base.proofs.Searches.{in_filter_map_from}
use Rattle.xl_base.specs.declared.event.Moment.{Moment}
use Rattle.xl_base.specs.declared.name.Owner.{Owner}
use Rattle.xl_base.specs.declared.name.Party.{Party}
use Rattle.xl_cache.specs.BreakPlans.{is_in_the_way, blocking_shares, is_running, break_of, planned, is_slow}
use Rattle.xl_cache.specs.declared.break_plan.BreakPlan.{BreakPlan}
use Rattle.xl_cache.proofs.BreakPlanLaws.{obstacle_is_cache, break_is_of}
use Rattle.xl_matrix.specs.Equal.{same_parties}
use Rattle.xl_matrix.proofs.EqualLaws.{same_parties-true, same_parties-self}
use Rattle.xl_matrix.specs.declared.claim.CacheKind.{CacheKind}
use Rattle.xl_matrix.specs.declared.claim.Claim.{Claim}
use Rattle.xl_matrix.specs.declared.claim.Rwd.{Rwd}
use Rattle.xl_matrix.specs.declared.claim.What.{What}
use Rattle.xl_matrix.specs.declared.claim.What.TheVariants.{Share, Range, Cache}
use Rattle.xl_spans.specs.declared.span.Span.{Span}
use Rattle.xl_table.specs.Elements.{elements_of}
use Rattle.xl_table.specs.Held.{is_range, is_cache, is_of, with_span, spans_of}
use Rattle.xl_table.specs.Relock.{is_range_of, with_share, shares_of}
use Rattle.xl_core.specs.BreaksBegun.{with_break, once_begun, once_broken, is_idle, others_of, told_before, is_recalled, recalls, idle_delegations, call_of, last_of, begun_told, breaks_in_order, breaks_begun, breaks_told, left_held, is_break_on, begun_at}
use Rattle.xl_core.specs.Frames.{who_left, serves_none}
use Rattle.xl_core.specs.Good.{is_single_by, is_single, IsGood, holding}
use Rattle.xl_core.specs.Leases.{moment_after}
use Rattle.xl_core.specs.Places.{CacheOf, is_cache_on, held_in, else_was}
use Rattle.xl_core.specs.State.{CoreState}
use Rattle.xl_core.proofs.AskBreaksLaws.{broken_good}
use Rattle.xl_core.proofs.BreaksInOrderLaws.{way_there, shares_there, none_planned}
use Rattle.xl_core.proofs.CachePlaces.{IsSameButCaches}
use Rattle.xl_core.proofs.StateLaws.{good_claims, good_from}
use Rattle.xl_core.proofs.KnownLaws.{waiters_on}

-- ---- the state

pub breaks_good : (s : CoreState) (ask : Claim) → IsGood s → is_cache ask.what ≡ false → IsGood (breaks_begun ask s).1
unfolding breaks_begun
breaks_good s ask good lock =
    let claims = broken_good (moment_after s.clock s.times.break_time) s ask good lock in
    let given = recalls (planned ask s.claims).breaks in
    good_from (record s { claims = once_broken (moment_after s.clock s.times.break_time) ask s.claims; counter = s.counter + given })
    (good_claims (holding s (once_broken (moment_after s.clock s.times.break_time) ask s.claims)) claims)
    good.distinct good.few (waiters_on s.names s.names s.counter (s.counter + given) s.waiters (λ number name h. h) (omega arith) good.waiters) good.apart good.crowd

-- ---- what is told

nobody_leaves : (last : ℕ) (bs : List (Claim × Option CacheKind)) → who_left (begun_told last bs) ≡ []
nobody_leaves last [] = refl
nobody_leaves last (b ∷ bs) = nobody_leaves (last_of last (call_of last b)) bs

pub begun_leave : (s : CoreState) (ask : Claim) → who_left (breaks_begun ask s).0 ≡ []
unfolding breaks_begun
begun_leave s ask = nobody_leaves s.counter (breaks_in_order ask s)

none_is_served : (last : ℕ) (bs : List (Claim × Option CacheKind)) → serves_none (begun_told last bs) ≡ true
none_is_served last [] = refl
none_is_served last (b ∷ bs) = none_is_served (last_of last (call_of last b)) bs

pub begun_serve : (s : CoreState) (ask : Claim) → serves_none (breaks_begun ask s).0 ≡ true
unfolding breaks_begun
begun_serve s ask = none_is_served s.counter (breaks_in_order ask s)

told_back : (last : ℕ) (bs : List (Claim × Option CacheKind)) → breaks_told (begun_told last bs) ≡ bs
told_back last [] = refl
told_back last (b ∷ bs) = ap (λ (xs : List (Claim × Option CacheKind)). b ∷ xs) (told_back (last_of last (call_of last b)) bs)

-- just the ask's breaks are told of, by the texts of the parties
pub begun_breaks : (s : CoreState) (ask : Claim) → breaks_told (breaks_begun ask s).0 ≡ sorted (told_before s.names) (planned ask s.claims).breaks
unfolding breaks_begun
begun_breaks s ask = told_back s.counter (breaks_in_order ask s)

-- ---- all but caches

module _ (file : ℕ) (owner : Owner) where
  no_span : (w : What) (spans : List Span) → is_cache w ≡ true → with_span w spans ≡ spans
  no_span (Cache kind running) spans h = refl
  no_span (Share access deny) spans h = absurd (both_ways false refl h)
  no_span (Range extent exclusive) spans h = absurd (both_ways false refl h)

  skipped : {A : Type 0} (b : Bool) (more rest : A) → more ≡ rest → (if b then more else rest) ≡ rest
  skipped true more rest e = e
  skipped false more rest e = refl

  spans_others : (cs : List Claim) → spans_of file owner (others_of cs) ≡ spans_of file owner cs
  spans_others [] = refl
  spans_others (c ∷ cs) =
      elim (cases_Bool (is_cache c.what)) [
        | inl cache ↦ rw cache (spans_others cs ∙ sym (skipped (is_of file owner c) (with_span c.what (spans_of file owner cs)) (spans_of file owner cs) (no_span c.what (spans_of file owner cs) cache)))
        | inr other ↦ rw other (ap (λ (spans : List Span). if is_of file owner c then with_span c.what spans else spans) (spans_others cs))
      ]

  shares_others : (cs : List Claim) → shares_of file owner (others_of cs) ≡ shares_of file owner cs
  shares_others [] = refl
  shares_others (c ∷ cs) =
      elim (cases_Bool (is_cache c.what)) [
        | inl cache ↦ rw cache (shares_others cs ∙ sym (skipped (is_of file owner c) (with_share c.what (shares_of file owner cs)) (shares_of file owner cs) (none c.what cache)))
        | inr other ↦ rw other (ap (λ (shares : List (Rwd × Rwd)). if is_of file owner c then with_share c.what shares else shares) (shares_others cs))
      ]
    where
      none : (w : What) → is_cache w ≡ true → with_share w (shares_of file owner cs) ≡ shares_of file owner cs
      none (Cache kind running) h = refl
      none (Share access deny) h = absurd (both_ways false refl h)
      none (Range extent exclusive) h = absurd (both_ways false refl h)

  elements_others : (cs : List Claim) → elements_of file owner (others_of cs) ≡ elements_of file owner cs
  elements_others [] = refl
  elements_others (c ∷ cs) =
      elim (cases_Bool (is_cache c.what)) [
        | inl cache ↦ rw (cache, none c.what cache, and_right (is_of file owner c) false refl) (elements_others cs)
        | inr other ↦ rw other (ap (λ (es : List What). if is_range_of file owner c then c.what ∷ es else es) (elements_others cs))
      ]
    where
      none : (w : What) → is_cache w ≡ true → is_range w ≡ false
      none (Cache kind running) h = refl
      none (Share access deny) h = absurd (both_ways false refl h)
      none (Range extent exclusive) h = absurd (both_ways false refl h)

-- where all but the caches is the same, so are all shares and ranges
pub same_others : (old new : List Claim) → others_of new ≡ others_of old → IsSameButCaches old new
same_others old new e = record {
  spans = λ file owner. sym (spans_others file owner new) ∙ ap (λ (cs : List Claim). spans_of file owner cs) e ∙ spans_others file owner old;
  shares = λ file owner. sym (shares_others file owner new) ∙ ap (λ (cs : List Claim). shares_of file owner cs) e ∙ shares_others file owner old;
  elements = λ file owner. sym (elements_others file owner new) ∙ ap (λ (cs : List Claim). elements_of file owner cs) e ∙ elements_others file owner old;
}

-- ---- what stays

broken_file : (c : Claim) (w : What) (to : Option CacheKind) (deadline : Moment) → (with_break c w to deadline).file ≡ c.file
broken_file c (Cache kind running) to deadline = refl
broken_file c (Share access deny) to deadline = refl
broken_file c (Range extent exclusive) to deadline = refl

pub broken_cache : (c : Claim) (w : What) (to : Option CacheKind) (deadline : Moment) → c.what ≡ w → is_cache (with_break c w to deadline).what ≡ is_cache c.what
broken_cache c (Cache kind running) to deadline at = ap is_cache (sym at)
broken_cache c (Share access deny) to deadline at = refl
broken_cache c (Range extent exclusive) to deadline at = refl

runs_then : (c : Claim) (w : What) (to : Option CacheKind) (deadline : Moment) → c.what ≡ w → is_cache w ≡ true → is_running (with_break c w to deadline).what ≡ true
runs_then c (Cache kind running) to deadline at h = refl
runs_then c (Share access deny) to deadline at h = absurd (both_ways false refl h)
runs_then c (Range extent exclusive) to deadline at h = absurd (both_ways false refl h)

-- a test that no cache passes of which a break begins, nor passes then
pub record Skips (ask : Claim) (held : List Claim) (deadline : Moment) (test : Claim → Bool) : Type 0 where
  pub old : (c : Claim) (b : Claim × Option CacheKind) → break_of ask (blocking_shares ask held) c ≡ Some b → test c ≡ false
  pub new : (c : Claim) (b : Claim × Option CacheKind) → break_of ask (blocking_shares ask held) c ≡ Some b → test (with_break c c.what b.1 deadline) ≡ false

module _ (deadline : Moment) (ask : Claim) (held : List Claim) where
  abbrev broken : Claim → Option (Claim × Option CacheKind)
  broken c = break_of ask (blocking_shares ask held) c

  abbrev begun : Claim → Option Claim
  begun c = once_begun deadline c (break_of ask (blocking_shares ask held) c)

  is_a_cache : (c : Claim) (b : Claim × Option CacheKind) → broken c ≡ Some b → is_cache c.what ≡ true
  is_a_cache c b e = obstacle_is_cache ask (blocking_shares ask held) c (break_is_of ask (blocking_shares ask held) c b e).1

  keeps_test : (test : Claim → Bool) → Skips ask held deadline test → (cs : List Claim) → filter test (filter_map begun cs) ≡ filter test cs
  keeps_test test skips [] = refl
  keeps_test test skips (c ∷ cs) = by (broken c) refl (keeps_test test skips cs) where
    by : (o : Option (Claim × Option CacheKind)) → broken c ≡ o → filter test (filter_map begun cs) ≡ filter test cs → filter test (cons_option (once_begun deadline c o) (filter_map begun cs)) ≡ filter test (c ∷ cs)
    by None e rest = ap (λ (ds : List Claim). if test c then c ∷ ds else ds) rest
    by (Some b) e rest = rw (skips.old c b e) (left (is_slow b)) where
      left : (slow : Bool) → filter test (cons_option (if slow then Some (with_break c c.what b.1 deadline) else None) (filter_map begun cs)) ≡ filter test cs
      left true = rw (skips.new c b e) rest
      left false = rest

  -- as many delegations fewer are without a break that runs as breaks are told by a call
  fewer : (cs : List Claim) → idle_delegations (filter_map begun cs) + recalls (filter_map broken cs) ≡ idle_delegations cs
  fewer [] = refl
  fewer (c ∷ cs) = by (broken c) refl (fewer cs) where
    test : Claim → Bool
    test x = is_idle x && is_recalled x.party

    by : (o : Option (Claim × Option CacheKind)) → broken c ≡ o → idle_delegations (filter_map begun cs) + recalls (filter_map broken cs) ≡ idle_delegations cs
        → idle_delegations (cons_option (once_begun deadline c o) (filter_map begun cs)) + recalls (cons_option o (filter_map broken cs)) ≡ idle_delegations (c ∷ cs)
    by None e rest = elim (cases_Bool (is_idle c && is_recalled c.party)) [ inl one ↦ rw one (omega (arith, rest)) | inr other ↦ rw other rest ]
    by (Some b) e rest = left (is_slow b) where
      is : (b.0 ≡ c) × (is_running c.what ≡ false)
      is = let all = break_is_of ask (blocking_shares ask held) c b e in (all.0, all.2)

      cache : is_cache c.what ≡ true
      cache = is_a_cache c b e

      party : is_recalled b.0.party ≡ is_recalled c.party
      party = ap (λ (x : Claim). is_recalled x.party) is.0

      idle : is_idle c ≡ true
      idle = rw (cache, is.1) refl

      then_runs : is_idle (with_break c c.what b.1 deadline) ≡ false
      then_runs = rw (runs_then c c.what b.1 deadline refl cache) (and_right (is_cache (with_break c c.what b.1 deadline).what) false refl)

      one : (p : Bool) → is_recalled c.party ≡ p → (n m : ℕ) → n + m ≡ idle_delegations cs → recalls (filter_map broken cs) ≡ m → n + recalls (b ∷ filter_map broken cs) ≡ idle_delegations (c ∷ cs)
      one true at n m sum count = rw (party ∙ at, cache, is.1, at) (omega (arith, sum, count))
      one false at n m sum count = rw (party ∙ at, cache, is.1, at) (omega (arith, sum, count))

      left : (slow : Bool) → idle_delegations (cons_option (if slow then Some (with_break c c.what b.1 deadline) else None) (filter_map begun cs)) + recalls (b ∷ filter_map broken cs) ≡ idle_delegations (c ∷ cs)
      left true = rw then_runs (one (is_recalled c.party) refl (idle_delegations (filter_map begun cs)) (recalls (filter_map broken cs)) rest refl)
      left false = one (is_recalled c.party) refl (idle_delegations (filter_map begun cs)) (recalls (filter_map broken cs)) rest refl

  none_left : (cs : List Claim) → filter_map broken cs ≡ [] → filter_map begun cs ≡ cs
  none_left [] e = refl
  none_left (c ∷ cs) e = by (broken c) refl e (none_left cs) where
    by : (o : Option (Claim × Option CacheKind)) → broken c ≡ o → cons_option o (filter_map broken cs) ≡ [] → (filter_map broken cs ≡ [] → filter_map begun cs ≡ cs) → cons_option (once_begun deadline c o) (filter_map begun cs) ≡ c ∷ cs
    by None at none rest = ap (λ (ds : List Claim). c ∷ ds) (rest none)
    by (Some b) at none rest = absurd cc

pub broken_is_cache : (ask : Claim) (held : List Claim) (c : Claim) (b : Claim × Option CacheKind) → break_of ask (blocking_shares ask held) c ≡ Some b → is_cache c.what ≡ true
broken_is_cache ask held c b e = obstacle_is_cache ask (blocking_shares ask held) c (break_is_of ask (blocking_shares ask held) c b e).1

pub filter_broken : (deadline : Moment) (ask : Claim) (held : List Claim) (test : Claim → Bool) → Skips ask held deadline test → filter test (once_broken deadline ask held) ≡ filter test held
unfolding once_broken
filter_broken deadline ask held test skips = keeps_test deadline ask held test skips held

-- shares and ranges stay as they are
pub others_stay : (deadline : Moment) (ask : Claim) (held : List Claim) → others_of (once_broken deadline ask held) ≡ others_of held
others_stay deadline ask held =
    filter_broken deadline ask held (λ c. not (is_cache c.what)) (record {
      old = λ c b e. rw (is_a_cache deadline ask held c b e) refl;
      new = λ c b e. let cache : is_cache (with_break c c.what b.1 deadline).what ≡ true = broken_cache c c.what b.1 deadline refl ∙ is_a_cache deadline ask held c b e in rw cache refl;
    })

pub begun_others : (s : CoreState) (ask : Claim) → others_of (breaks_begun ask s).1.claims ≡ others_of s.claims
unfolding breaks_begun
begun_others s ask = others_stay (moment_after s.clock s.times.break_time) ask s.claims

pub begun_beside : (s : CoreState) (ask : Claim) → IsSameButCaches s.claims (breaks_begun ask s).1.claims
unfolding breaks_begun
begun_beside s ask = same_others s.claims (once_broken (moment_after s.clock s.times.break_time) ask s.claims) (others_stay (moment_after s.clock s.times.break_time) ask s.claims)

pub begun_spans : (s : CoreState) (ask : Claim) (file : ℕ) (owner : Owner) → spans_of file owner (breaks_begun ask s).1.claims ≡ spans_of file owner s.claims
begun_spans s ask = (begun_beside s ask).spans

pub begun_shares : (s : CoreState) (ask : Claim) (file : ℕ) (owner : Owner) → shares_of file owner (breaks_begun ask s).1.claims ≡ shares_of file owner s.claims
begun_shares s ask = (begun_beside s ask).shares

pub begun_elements : (s : CoreState) (ask : Claim) (file : ℕ) (owner : Owner) → elements_of file owner (breaks_begun ask s).1.claims ≡ elements_of file owner s.claims
begun_elements s ask = (begun_beside s ask).elements

-- what breaks is on the ask's file
broken_there : (ask : Claim) (held : List Claim) (c : Claim) (b : Claim × Option CacheKind) → break_of ask (blocking_shares ask held) c ≡ Some b → c.file ≡ ask.file
broken_there ask held c b e =
    elim (cases_Bool (c.file == ask.file)) [
      | inl here ↦ eqb-true c.file ask.file here
      | inr other ↦ absurd (both_ways (is_in_the_way ask (blocking_shares ask held) c) (way_there ask (blocking_shares ask held) c (shares_there ask held) other) (break_is_of ask (blocking_shares ask held) c b e).1)
    ]

-- the claims on another file stay
pub elsewhere_stay : (deadline : Moment) (ask : Claim) (held : List Claim) (file : ℕ) → (ask.file == file) ≡ false → filter (λ c. c.file == file) (once_broken deadline ask held) ≡ filter (λ c. c.file == file) held
elsewhere_stay deadline ask held file other =
    filter_broken deadline ask held (λ c. c.file == file) (record {
      old = λ c b e. ap (λ (n : ℕ). n == file) (broken_there ask held c b e) ∙ other;
      new = λ c b e. ap (λ (n : ℕ). n == file) (broken_file c c.what b.1 deadline ∙ broken_there ask held c b e) ∙ other;
    })

pub begun_elsewhere : (s : CoreState) (ask : Claim) (file : ℕ) → (ask.file == file) ≡ false → filter (λ c. c.file == file) (breaks_begun ask s).1.claims ≡ filter (λ c. c.file == file) s.claims
unfolding breaks_begun
begun_elsewhere s ask file other = elsewhere_stay (moment_after s.clock s.times.break_time) ask s.claims file other

-- ---- how many are told by a call

pub fewer_delegations : (s : CoreState) (ask : Claim) → idle_delegations (breaks_begun ask s).1.claims + recalls (planned ask s.claims).breaks ≡ idle_delegations s.claims
unfolding breaks_begun once_broken planned
fewer_delegations s ask = fewer (moment_after s.clock s.times.break_time) ask s.claims s.claims

filter_few : (test : Claim → Bool) (cs : List Claim) → length (filter test cs) ≤ length cs
filter_few test [] = omega arith
filter_few test (c ∷ cs) = let rest = filter_few test cs in elim (cases_Bool (test c)) [ inl passes ↦ rw passes (omega (arith, rest)) | inr fails ↦ rw fails (omega (arith, rest)) ]

pub recalls_few : (s : CoreState) (ask : Claim) → IsGood s → recalls (planned ask s.claims).breaks ≤ 16384
recalls_few s ask good =
    let all = fewer_delegations s ask in
    let few = filter_few (λ c. is_idle c && is_recalled c.party) s.claims in
    omega (arith, all, few, good.kept.room)

-- ---- where none begins

no_breaks : (deadline : Moment) (ask : Claim) (held : List Claim) → (planned ask held).breaks ≡ [] → once_broken deadline ask held ≡ held
unfolding once_broken planned
no_breaks deadline ask held none = none_left deadline ask held held none

pub none_begun : (s : CoreState) (ask : Claim) → (planned ask s.claims).breaks ≡ [] → breaks_begun ask s ≡ ([], s)
unfolding breaks_begun
none_begun s ask none = λ i. (told i, record s { claims = no_breaks (moment_after s.clock s.times.break_time) ask s.claims none i; counter = number i }) where
  told : begun_told s.counter (breaks_in_order ask s) ≡ []
  told = ap (λ (bs : List (Claim × Option CacheKind)). begun_told s.counter (sorted (told_before s.names) bs)) none

  number : s.counter + recalls (planned ask s.claims).breaks ≡ s.counter
  number = ap (λ (bs : List (Claim × Option CacheKind)). s.counter + recalls bs) none ∙ omega arith

-- where the ask's file has no cache
pub none_begun_there : (s : CoreState) (ask : Claim) → list_any (λ c. (c.file == ask.file) && is_cache c.what) s.claims ≡ false → breaks_begun ask s ≡ ([], s)
none_begun_there s ask none = none_begun s ask (ap (λ (p : BreakPlan). p.breaks) (none_planned ask s.claims none))

-- ---- the one that passes a test stands wherever it is sorted to

abbrev IsAlone : {A : Type 0} → (A → Bool) → List A → Type 0
IsAlone p [] = Unit {0}
IsAlone p (x ∷ xs) = (p x ≡ true → AllByRecursion (λ y. p y ≡ false) xs) × IsAlone p xs

module _ {A : Type 0} (p : A → Bool) (below : A → A → Bool) where
  all_placed : (x : A) (ys : List A) → p x ≡ false → AllByRecursion (λ y. p y ≡ false) ys → AllByRecursion (λ y. p y ≡ false) (placed below x ys)
  all_placed x [] one all = (one, tt)
  all_placed x (y ∷ ys) one all = elim (cases_Bool (below y x)) [ inl e ↦ rw e (all.0, all_placed x ys one all.1) | inr e ↦ rw e (one, all) ]

  all_sorted : (xs : List A) → AllByRecursion (λ x. p x ≡ false) xs → AllByRecursion (λ x. p x ≡ false) (sorted below xs)
  all_sorted [] all = tt
  all_sorted (x ∷ xs) all = all_placed x (sorted below xs) all.0 (all_sorted xs all.1)

  placed_found : (x : A) (ys : List A) → (p x ≡ true → AllByRecursion (λ y. p y ≡ false) ys) → find p (placed below x ys) ≡ find p (x ∷ ys)
  placed_found x [] alone = refl
  placed_found x (y ∷ ys) alone =
      let rest = placed_found x ys (λ h. (alone h).1) in
      elim (cases_Bool (below y x)) [
        | inr later ↦ rw later refl
        | inl first ↦ rw first (by (p x) (p y) refl refl rest)
      ]
    where
      by : (a b : Bool) → p x ≡ a → p y ≡ b → find p (placed below x ys) ≡ find p (x ∷ ys) → find p (y ∷ placed below x ys) ≡ find p (x ∷ y ∷ ys)
      by true true e f rest = absurd (both_ways (p y) (alone e).0 f)
      by true false e f rest = rw (e, f) (rest ∙ (rw e refl))
      by false true e f rest = rw (e, f) refl
      by false false e f rest = rw (e, f) (rest ∙ (rw e refl))

  sorted_found : (xs : List A) → IsAlone p xs → find p (sorted below xs) ≡ find p xs
  sorted_found [] alone = refl
  sorted_found (x ∷ xs) alone =
      placed_found x (sorted below xs) (λ h. all_sorted xs (alone.0 h)) ∙ ap (λ (o : Option A). if p x then Some x else o) (sorted_found xs alone.1)

-- ---- a party's cache on a file

same_place : (file : ℕ) (party : Party) (c : Claim) (w : What) (to : Option CacheKind) (deadline : Moment) → c.what ≡ w → is_cache_on file party (with_break c w to deadline) ≡ is_cache_on file party c
same_place file party c (Cache kind running) to deadline at = ap (λ (w : What). is_cache w && ((c.file == file) && same_parties c.party party)) (sym at)
same_place file party c (Share access deny) to deadline at = refl
same_place file party c (Range extent exclusive) to deadline at = refl

pub no_two : (file : ℕ) (party : Party) (c d : Claim) → is_single c d ≡ true → is_cache_on file party c ≡ true → is_cache_on file party d ≡ false
no_two file party c d single own = false_from_ne_true (is_cache_on file party d) (λ (h : is_cache_on file party d ≡ true). by c.what d.what refl refl single own h) where
  by : (v w : What) → c.what ≡ v → d.what ≡ w → not (c.file == d.file && not (is_single_by c d v w)) ≡ true → (is_cache v && ((c.file == file) && same_parties c.party party)) ≡ true → (is_cache w && ((d.file == file) && same_parties d.party party)) ≡ true → ⊥
  by (Cache kind running) (Cache other due) at too single own h =
      let first = and_parts (c.file == file) (same_parties c.party party) own in
      let second = and_parts (d.file == file) (same_parties d.party party) h in
      let files : (c.file == d.file) ≡ true = eq-eqb c.file d.file (eqb-true c.file file first.0 ∙ sym (eqb-true d.file file second.0)) in
      let parties : same_parties c.party d.party ≡ true = subst (λ (p : Party). same_parties c.party p ≡ true) (same_parties-true c.party party first.1 ∙ sym (same_parties-true d.party party second.1)) (same_parties-self c.party) in
      let two : not (c.file == d.file && not (not (same_parties c.party d.party))) ≡ false = rw (files, parties) refl in
      both_ways (not (c.file == d.file && not (not (same_parties c.party d.party)))) two single
  by (Share access deny) w at too single own h = both_ways false refl own
  by (Range extent exclusive) w at too single own h = both_ways false refl own
  by (Cache kind running) (Share access deny) at too single own h = both_ways false refl h
  by (Cache kind running) (Range extent exclusive) at too single own h = both_ways false refl h

module _ (deadline : Moment) (ask : Claim) (held : List Claim) (file : ℕ) (party : Party) where
  abbrev broken_so : Claim → Option (Claim × Option CacheKind)
  broken_so c = break_of ask (blocking_shares ask held) c

  abbrev begun_so : Claim → Option Claim
  begun_so c = once_begun deadline c (break_of ask (blocking_shares ask held) c)

  abbrev own : Claim → Bool
  own c = is_cache_on file party c

  -- of another claim's break it has nothing
  skip : (c : Claim) (b : Claim × Option CacheKind) → broken_so c ≡ Some b → is_break_on file party b ≡ own c
  skip c b e = ap (λ (x : Claim). is_cache_on file party x) (break_is_of ask (blocking_shares ask held) c b e).0

  none_own : (cs : List Claim) → AllByRecursion (λ c. own c ≡ false) cs → (filter own (filter_map begun_so cs) ≡ []) × (filter own cs ≡ []) × (find (is_break_on file party) (filter_map broken_so cs) ≡ None)
  none_own [] all = (refl, refl, refl)
  none_own (c ∷ cs) all = by (broken_so c) refl (none_own cs all.1) where
    by : (o : Option (Claim × Option CacheKind)) → broken_so c ≡ o → (filter own (filter_map begun_so cs) ≡ []) × (filter own cs ≡ []) × (find (is_break_on file party) (filter_map broken_so cs) ≡ None)
        → (filter own (cons_option (once_begun deadline c o) (filter_map begun_so cs)) ≡ []) × (filter own (c ∷ cs) ≡ []) × (find (is_break_on file party) (cons_option o (filter_map broken_so cs)) ≡ None)
    by None e rest = (rw all.0 rest.0, rw all.0 rest.1, rest.2)
    by (Some b) e rest = (left (is_slow b), rw all.0 rest.1, let other = skip c b e ∙ all.0 in rw other rest.2) where
      left : (slow : Bool) → filter own (cons_option (if slow then Some (with_break c c.what b.1 deadline) else None) (filter_map begun_so cs)) ≡ []
      left true = let other = same_place file party c c.what b.1 deadline refl ∙ all.0 in rw other rest.0
      left false = rest.0

  abbrev what_of : Claim → What
  what_of c = c.what

  at_place : (cs : List Claim) → Pairwise is_single cs
      → map what_of (filter own (filter_map begun_so cs)) ≡ else_was (option_map (left_held deadline) (find (is_break_on file party) (filter_map broken_so cs))) (map what_of (filter own cs))
  at_place [] single = refl
  at_place (c ∷ cs) single = by (broken_so c) refl (own c) refl (at_place cs single.1) where
    others : own c ≡ true → (filter own (filter_map begun_so cs) ≡ []) × (filter own cs ≡ []) × (find (is_break_on file party) (filter_map broken_so cs) ≡ None)
    others mine = none_own cs (all_from (λ d. own d ≡ false) cs (λ d h. no_two file party c d (all_in (λ x. is_single c x ≡ true) d cs single.0 h) mine))

    by : (o : Option (Claim × Option CacheKind)) → broken_so c ≡ o → (mine : Bool) → own c ≡ mine
        → map what_of (filter own (filter_map begun_so cs)) ≡ else_was (option_map (left_held deadline) (find (is_break_on file party) (filter_map broken_so cs))) (map what_of (filter own cs))
        → map what_of (filter own (cons_option (once_begun deadline c o) (filter_map begun_so cs))) ≡ else_was (option_map (left_held deadline) (find (is_break_on file party) (cons_option o (filter_map broken_so cs)))) (map what_of (filter own (c ∷ cs)))
    by None e true is rest = let none = others is in rw (is, none.0, none.1, none.2) refl
    by None e false is rest = rw is rest
    by (Some b) e false is rest = let other = skip c b e ∙ is in rw (other, is) (left (is_slow b)) where
      left : (slow : Bool) → map what_of (filter own (cons_option (if slow then Some (with_break c c.what b.1 deadline) else None) (filter_map begun_so cs))) ≡ else_was (option_map (left_held deadline) (find (is_break_on file party) (filter_map broken_so cs))) (map what_of (filter own cs))
      left true = let apart = same_place file party c c.what b.1 deadline refl ∙ is in rw apart rest
      left false = rest
    by (Some b) e true is rest = let mine = skip c b e ∙ is in rw mine (left (is_slow b)) where
      none : (filter own (filter_map begun_so cs) ≡ []) × (filter own cs ≡ []) × (find (is_break_on file party) (filter_map broken_so cs) ≡ None)
      none = others is

      left : (slow : Bool) → map what_of (filter own (cons_option (if slow then Some (with_break c c.what b.1 deadline) else None) (filter_map begun_so cs))) ≡ (if slow then (with_break b.0 b.0.what b.1 deadline).what ∷ [] else [])
      left true =
          let here = same_place file party c c.what b.1 deadline refl ∙ is in
          rw (here, none.0) (ap (λ (x : Claim). (with_break x x.what b.1 deadline).what ∷ []) (sym (break_is_of ask (blocking_shares ask held) c b e).0))
      left false = rw none.0 refl

  begun_none : (cs : List Claim) → AllByRecursion (λ c. own c ≡ false) cs → AllByRecursion (λ b. is_break_on file party b ≡ false) (filter_map broken_so cs)
  begun_none cs all =
      all_from (λ b. is_break_on file party b ≡ false) (filter_map broken_so cs) (λ b h.
      let from = in_filter_map_from broken_so b cs h in skip from.0 b from.2 ∙ all_in (λ c. own c ≡ false) from.0 cs all from.1)

  -- a party has one break on a file at most
  at_most_one : (cs : List Claim) → Pairwise is_single cs → IsAlone (is_break_on file party) (filter_map broken_so cs)
  at_most_one [] single = tt
  at_most_one (c ∷ cs) single = by (broken_so c) refl (at_most_one cs single.1) where
    by : (o : Option (Claim × Option CacheKind)) → broken_so c ≡ o → IsAlone (is_break_on file party) (filter_map broken_so cs) → IsAlone (is_break_on file party) (cons_option o (filter_map broken_so cs))
    by None e rest = rest
    by (Some b) e rest = (λ here. begun_none cs (all_from (λ d. own d ≡ false) cs (λ d h. no_two file party c d (all_in (λ x. is_single c x ≡ true) d cs single.0 h) (sym (skip c b e) ∙ here))), rest)

-- of a party's cache on a file there is what is told of its break, else what was there
pub begun_cache : (s : CoreState) (ask : Claim) (file : ℕ) (party : Party) → IsGood s
    → held_in (breaks_begun ask s).1.claims (CacheOf file party) ≡ else_was (begun_at (moment_after s.clock s.times.break_time) file party (breaks_begun ask s).0) (held_in s.claims (CacheOf file party))
unfolding breaks_begun once_broken planned
begun_cache s ask file party good =
    let deadline = moment_after s.clock s.times.break_time in
    let bs = filter_map (break_of ask (blocking_shares ask s.claims)) s.claims in
    let told : find (is_break_on file party) (breaks_told (begun_told s.counter (sorted (told_before s.names) bs))) ≡ find (is_break_on file party) bs =
    ap (λ (xs : List (Claim × Option CacheKind)). find (is_break_on file party) xs) (told_back s.counter (sorted (told_before s.names) bs))
    ∙ sorted_found (is_break_on file party) (told_before s.names) bs (at_most_one deadline ask s.claims file party s.claims good.single) in
    at_place deadline ask s.claims file party s.claims good.single
    ∙ ap (λ (o : Option (Claim × Option CacheKind)). else_was (option_map (left_held deadline) o) (map (λ c. c.what) (filter (is_cache_on file party) s.claims))) (sym told)
