-- The caches among the claims, and a party's cache on a file, where claims come and go.
use Rattle.std.proofs.Common.{◌≡◌, ℕ, Bool, true, false, ◌&&◌, ◌==◌, if◌then◌else◌, inl, inr, List, [], ◌∷◌, map, Option, Some, None, refl, sym, ap, subst, ◌∙◌}
use Rattle.std.specs.List.{AllByRecursion, filter}
use Rattle.std.proofs.lemmas.Bool.{cases_Bool, both_ways, and_parts, and_right, eq-eqb, eqb-true, false_from_ne_true}
use Rattle.xl_base.specs.Lists.{IsIn, Pairwise}
use Rattle.xl_base.specs.declared.name.Party.{Party}
use Rattle.xl_matrix.specs.Equal.{same_claims, same_parties}
use Rattle.xl_matrix.proofs.EqualLaws.{same_claims-true, same_claims-self, same_parties-true, same_parties-self}
use Rattle.xl_matrix.specs.declared.claim.CacheKind.{CacheKind}
use Rattle.xl_matrix.specs.declared.claim.Claim.{Claim}
use Rattle.xl_matrix.specs.declared.claim.What.{What}
use Rattle.xl_matrix.specs.declared.claim.What.TheVariants.{Share, Range, Cache}
use Rattle.xl_table.specs.Flat.{inserted, removed, changed, with_what}
use Rattle.xl_table.specs.Held.{is_share, is_range, is_cache, is_of, with_span, spans_of}
use Rattle.xl_table.specs.Order.{key, goes_first}
use Rattle.xl_table.proofs.FlatLaws.{pairwise_removed, pairwise_others}
use Rattle.xl_table.proofs.OrderLaws.{no_later-on}
use Rattle.xl_core.specs.BreakAnswers.{with_rest}
use Rattle.xl_core.specs.Good.{is_single_by, is_single, caches_of}
use Rattle.xl_core.specs.Places.{Place, ByteOf, ShareOf, RangesOf, CacheOf, is_cache_on, byte_held, share_held, held_in, is_at, part_by, part_of, entered_by, cleared_by, cleared_at, acked_at, else_was}
use Rattle.xl_spans.specs.Spans.{mode_at}
use Rattle.xl_spans.specs.declared.span.Span.{Span}
use Rattle.xl_base.specs.declared.name.Owner.{Owner}
use Rattle.xl_matrix.specs.declared.claim.Rwd.{Rwd}
use Rattle.xl_table.specs.Elements.{elements_of}
use Rattle.xl_table.specs.Relock.{is_range_of, with_share, shares_of}
use Rattle.xl_table.proofs.ElementLaws.{elements_apart, elements_removed_apart}
use Rattle.xl_table.proofs.InsertLaws.{spans_of-inserted_other, not_range}
use Rattle.xl_core.proofs.ElementLaws.{open_of}
use Rattle.xl_core.proofs.ClaimLaws.{is_single-sym}

-- ---- the caches among the claims

-- a cache before these, where it is one
abbrev with_cache : Claim → List Claim → List Claim
with_cache c cs = if is_cache c.what then c ∷ cs else cs

-- one that goes goes from the caches, where it is one
pub caches_removed : (claim : Claim) (cs : List Claim) → caches_of (removed claim cs) ≡ removed claim (caches_of cs)
caches_removed claim [] = refl
caches_removed claim (c ∷ cs) =
    elim (cases_Bool (same_claims c claim)) [
      | inl same ↦ elim (cases_Bool (is_cache c.what)) [
        | inl cache ↦ rw (same, cache, same) refl
        | inr other ↦ rw (same, other) (sym (stays (caches_of cs) (ap (λ (d : Claim). is_cache d.what) (sym (same_claims-true c claim same)) ∙ other) (all_caches cs)))
      ]
      | inr apart ↦ elim (cases_Bool (is_cache c.what)) [
        | inl cache ↦ rw (apart, cache, apart) (ap (λ (xs : List Claim). c ∷ xs) (caches_removed claim cs))
        | inr other ↦ rw (apart, other) (caches_removed claim cs)
      ]
    ]
  where
    all_caches : (ds : List Claim) → AllByRecursion (λ d. is_cache d.what ≡ true) (caches_of ds)
    all_caches [] = tt
    all_caches (d ∷ ds) = elim (cases_Bool (is_cache d.what)) [ inl e ↦ rw e (e, all_caches ds) | inr e ↦ rw e (all_caches ds) ]

    stays : (ds : List Claim) → is_cache claim.what ≡ false → AllByRecursion (λ d. is_cache d.what ≡ true) ds → removed claim ds ≡ ds
    stays [] other all = refl
    stays (d ∷ ds) other all =
        elim (cases_Bool (same_claims d claim)) [
          | inl same ↦ absurd (both_ways (is_cache claim.what) other (ap (λ (x : Claim). is_cache x.what) (sym (same_claims-true d claim same)) ∙ all.0))
          | inr apart ↦ rw apart (ap (λ (xs : List Claim). d ∷ xs) (stays ds other all.1))
        ]

-- one that comes comes to the caches at its place
pub caches_inserted : (c : Claim) (cs : List Claim) → Pairwise goes_first cs → is_cache c.what ≡ true → caches_of (inserted c cs) ≡ inserted c (caches_of cs)
unfolding inserted
caches_inserted c [] ordered cache = rw cache refl
caches_inserted c (d ∷ ds) ordered cache =
    elim (cases_Bool (goes_first d c)) [
      | inl early ↦ elim (cases_Bool (is_cache d.what)) [
        | inl one ↦ rw (early, one, early) (ap (λ (xs : List Claim). d ∷ xs) (caches_inserted c ds ordered.1 cache))
        | inr other ↦ rw (early, other) (caches_inserted c ds ordered.1 cache)
      ]
      | inr late ↦ elim (cases_Bool (is_cache d.what)) [
        | inl one ↦ rw (late, cache, one, late) refl
        | inr other ↦ rw (late, cache, other) (sym (ahead (caches_of ds) (later ds ordered.0 late)))
      ]
    ]
  where
    later : (es : List Claim) → AllByRecursion (λ e. goes_first d e ≡ true) es → goes_first d c ≡ false → AllByRecursion (λ e. goes_first e c ≡ false) (caches_of es)
    later [] all late = tt
    later (e ∷ es) all late =
        let behind : goes_first e c ≡ false = false_from_ne_true (goes_first e c) (λ (h : goes_first e c ≡ true). both_ways (goes_first d c) late (no_later-on (key d) (key e) (key c) all.0 h)) in
        elim (cases_Bool (is_cache e.what)) [ inl one ↦ rw one (behind, later es all.1 late) | inr other ↦ rw other (later es all.1 late) ]

    ahead : (es : List Claim) → AllByRecursion (λ e. goes_first e c ≡ false) es → inserted c es ≡ c ∷ es
    ahead [] all = refl
    ahead (e ∷ es) all = rw all.0 refl

-- what is left of one whose break is answered
pub caches_rest : (cache : Claim) (to : Option CacheKind) (cs : List Claim) → Pairwise goes_first cs → caches_of (with_rest cache to cs) ≡ with_rest cache to (caches_of cs)
unfolding changed
caches_rest cache None cs ordered = caches_removed cache cs
caches_rest cache (Some kind) cs ordered =
    caches_inserted (with_what cache (Cache kind None)) (removed cache cs) (pairwise_removed goes_first cache cs ordered) refl
    ∙ ap (λ (xs : List Claim). inserted (with_what cache (Cache kind None)) xs) (caches_removed cache cs)

-- ---- a party's cache on a file

both_caches : (a b : Claim) (v w : What) → is_cache v ≡ true → is_cache w ≡ true → same_parties a.party b.party ≡ true → is_single_by a b v w ≡ false
both_caches a b (Cache kind running) (Cache other due) h k same = rw same refl
both_caches a b (Cache kind running) (Share access deny) h k same = absurd (both_ways false refl k)
both_caches a b (Cache kind running) (Range extent exclusive) h k same = absurd (both_ways false refl k)
both_caches a b (Share access deny) w h k same = absurd (both_ways false refl h)
both_caches a b (Range extent exclusive) w h k same = absurd (both_ways false refl h)

-- of the file and the party, and a cache
pub on_parts : (file : ℕ) (party : Party) (c : Claim) → is_cache_on file party c ≡ true → (is_cache c.what ≡ true) × (c.file ≡ file) × (c.party ≡ party)
on_parts file party c h =
    let one = and_parts (is_cache c.what) ((c.file == file) && same_parties c.party party) h in
    let two = and_parts (c.file == file) (same_parties c.party party) one.1 in
    (one.0, eqb-true c.file file two.0, same_parties-true c.party party two.1)

-- a party has no second cache on the file
no_second : (file : ℕ) (party : Party) (a b : Claim) → is_single a b ≡ true → is_cache_on file party a ≡ true → is_cache_on file party b ≡ true → ⊥
no_second file party a b one h k =
    let first = on_parts file party a h in
    let second = on_parts file party b k in
    let files : (a.file == b.file) ≡ true = eq-eqb a.file b.file (first.1 ∙ sym second.1) in
    let parties : same_parties a.party b.party ≡ true = subst (λ (p : Party). same_parties a.party p ≡ true) (first.2 ∙ sym second.2) (same_parties-self a.party) in
    let two : is_single a b ≡ false = rw (files, both_caches a b a.what b.what first.0 second.0 parties) refl in
    both_ways (is_single a b) two one

found_among : (file : ℕ) (party : Party) (cs : List Claim) → filter (is_cache_on file party) cs ≡ filter (is_cache_on file party) (caches_of cs)
found_among file party [] = refl
found_among file party (c ∷ cs) =
    elim (cases_Bool (is_cache c.what)) [
      | inr other ↦ rw other (found_among file party cs)
      | inl cache ↦ rw cache (ap (λ (xs : List Claim). if (c.file == file) && same_parties c.party party then c ∷ xs else xs) (found_among file party cs) ∙ by cache)
    ]
  where
    by : is_cache c.what ≡ true → (if (c.file == file) && same_parties c.party party then c ∷ filter (is_cache_on file party) (caches_of cs) else filter (is_cache_on file party) (caches_of cs)) ≡ (if is_cache_on file party c then c ∷ filter (is_cache_on file party) (caches_of cs) else filter (is_cache_on file party) (caches_of cs))
    by cache = rw cache refl

-- it is the same where the caches are
pub held_of_caches : (file : ℕ) (party : Party) (old new : List Claim) → caches_of new ≡ caches_of old → held_in new (CacheOf file party) ≡ held_in old (CacheOf file party)
held_of_caches file party old new same =
    ap (λ (cs : List Claim). map (λ c. c.what) cs) (found_among file party new ∙ ap (λ (cs : List Claim). filter (is_cache_on file party) cs) same ∙ sym (found_among file party old))

none_beside : (file : ℕ) (party : Party) (claim : Claim) (cs : List Claim) → is_cache_on file party claim ≡ true → AllByRecursion (λ d. is_single claim d ≡ true) cs → filter (is_cache_on file party) cs ≡ []
none_beside file party claim [] own all = refl
none_beside file party claim (d ∷ ds) own all =
    elim (cases_Bool (is_cache_on file party d)) [
      | inl second ↦ absurd (no_second file party claim d all.0 own second)
      | inr other ↦ rw other (none_beside file party claim ds own all.1)
    ]

-- where its cache goes the party has none there
gone_here : (file : ℕ) (party : Party) (claim : Claim) (cs : List Claim) → Pairwise is_single cs → IsIn claim cs → is_cache_on file party claim ≡ true → filter (is_cache_on file party) (removed claim cs) ≡ []
gone_here file party claim cs single there own = none_beside file party claim (removed claim cs) own (pairwise_others is_single is_single-sym claim cs there single)

-- where another claim goes it stays
gone_apart : (file : ℕ) (party : Party) (claim : Claim) (cs : List Claim) → is_cache_on file party claim ≡ false → filter (is_cache_on file party) (removed claim cs) ≡ filter (is_cache_on file party) cs
gone_apart file party claim [] apart = refl
gone_apart file party claim (c ∷ cs) apart =
    elim (cases_Bool (same_claims c claim)) [
      | inl same ↦
          let none : is_cache_on file party c ≡ false = ap (λ (d : Claim). is_cache_on file party d) (same_claims-true c claim same) ∙ apart in
          rw (same, none) refl
      | inr other ↦ rw other (ap (λ (xs : List Claim). if is_cache_on file party c then c ∷ xs else xs) (gone_apart file party claim cs apart))
    ]

come_apart : (file : ℕ) (party : Party) (c : Claim) (cs : List Claim) → is_cache_on file party c ≡ false → filter (is_cache_on file party) (inserted c cs) ≡ filter (is_cache_on file party) cs
unfolding inserted
come_apart file party c [] apart = rw apart refl
come_apart file party c (d ∷ ds) apart =
    elim (cases_Bool (goes_first d c)) [
      | inl early ↦ rw early (ap (λ (xs : List Claim). if is_cache_on file party d then d ∷ xs else xs) (come_apart file party c ds apart))
      | inr late ↦ rw (late, apart) refl
    ]

-- one that comes where the party has none is there then
come_here : (file : ℕ) (party : Party) (c : Claim) (cs : List Claim) → is_cache_on file party c ≡ true → filter (is_cache_on file party) cs ≡ [] → filter (is_cache_on file party) (inserted c cs) ≡ c ∷ []
unfolding inserted
come_here file party c [] own none = rw own refl
come_here file party c (d ∷ ds) own none = by (is_cache_on file party d) refl (λ rest. come_here file party c ds own rest) where
  by : (b : Bool) → is_cache_on file party d ≡ b → (filter (is_cache_on file party) ds ≡ [] → filter (is_cache_on file party) (inserted c ds) ≡ c ∷ []) → filter (is_cache_on file party) (inserted c (d ∷ ds)) ≡ c ∷ []
  by true e later = let two : (d ∷ filter (is_cache_on file party) ds) ≡ [] = rw e at none in absurd cc
  by false e later =
      let rest : filter (is_cache_on file party) ds ≡ [] = rw e at none in
      elim (cases_Bool (goes_first d c)) [
        | inl early ↦ rw (early, e) (later rest)
        | inr late ↦ rw (late, own) (rw e (ap (λ (xs : List Claim). c ∷ xs) rest))
      ]

-- ---- what is made of its place

cleared_cache : (file : ℕ) (party : Party) (w : What) → is_cache w ≡ true → cleared_by (part_by w (CacheOf file party)) ≡ Some []
cleared_cache file party (Cache kind running) h = refl
cleared_cache file party (Share access deny) h = absurd (both_ways false refl h)
cleared_cache file party (Range extent exclusive) h = absurd (both_ways false refl h)

removed_made : (file : ℕ) (party : Party) (claim : Claim) (cs : List Claim) → Pairwise is_single cs → IsIn claim cs → is_cache claim.what ≡ true → held_in (removed claim cs) (CacheOf file party) ≡ else_was (cleared_at claim (CacheOf file party)) (held_in cs (CacheOf file party))
removed_made file party claim cs single there cache = by (is_cache_on file party claim) refl where
  had : List What
  had = held_in cs (CacheOf file party)

  by : (b : Bool) → is_cache_on file party claim ≡ b → held_in (removed claim cs) (CacheOf file party) ≡ else_was (cleared_by (if b then part_by claim.what (CacheOf file party) else [])) had
  by true own =
      ap (λ (ds : List Claim). map (λ c. c.what) ds) (gone_here file party claim cs single there own) ∙ ap (λ (o : Option (List What)). else_was o had) (sym (cleared_cache file party claim.what cache))
  by false apart = ap (λ (ds : List Claim). map (λ c. c.what) ds) (gone_apart file party claim cs apart)

-- the cache at its place, with another kind
same_place : (file : ℕ) (party : Party) (claim : Claim) (kind : CacheKind) → is_cache claim.what ≡ true → is_cache_on file party claim ≡ is_cache_on file party (with_what claim (Cache kind None))
same_place file party claim kind cache = rw cache refl

rest_made : (file : ℕ) (party : Party) (claim : Claim) (kind : CacheKind) (cs : List Claim) → Pairwise is_single cs → IsIn claim cs → is_cache claim.what ≡ true → held_in (changed claim (Cache kind None) cs) (CacheOf file party) ≡ else_was (acked_at claim (Some kind) (CacheOf file party)) (held_in cs (CacheOf file party))
unfolding changed
rest_made file party claim kind cs single there cache = by (is_cache_on file party new) refl where
  new : Claim
  new = with_what claim (Cache kind None)

  had : List What
  had = held_in cs (CacheOf file party)

  by : (b : Bool) → is_cache_on file party new ≡ b → held_in (inserted new (removed claim cs)) (CacheOf file party) ≡ else_was (entered_by (if b then Cache kind None ∷ [] else [])) had
  by true own =
      ap (λ (ds : List Claim). map (λ c. c.what) ds)
      (come_here file party new (removed claim cs) own (gone_here file party claim cs single there (same_place file party claim kind cache ∙ own)))
  by false apart =
      ap (λ (ds : List Claim). map (λ c. c.what) ds)
      (come_apart file party new (removed claim cs) apart ∙ gone_apart file party claim cs (same_place file party claim kind cache ∙ apart))

pub acked_cache_made : (file : ℕ) (party : Party) (claim : Claim) (to : Option CacheKind) (cs : List Claim) → Pairwise is_single cs → IsIn claim cs → is_cache claim.what ≡ true → held_in (with_rest claim to cs) (CacheOf file party) ≡ else_was (acked_at claim to (CacheOf file party)) (held_in cs (CacheOf file party))
acked_cache_made file party claim None cs single there cache = removed_made file party claim cs single there cache
acked_cache_made file party claim (Some kind) cs single there cache = rest_made file party claim kind cs single there cache

-- ---- a cache that comes or goes is nothing to the other places

cache_apart : (w : What) → is_cache w ≡ true → (is_range w ≡ false) × (is_share w ≡ false)
cache_apart (Cache kind running) h = (refl, refl)
cache_apart (Share access deny) h = absurd (both_ways false refl h)
cache_apart (Range extent exclusive) h = absurd (both_ways false refl h)

skipped : {A : Type 0} (b : Bool) (more rest : A) → more ≡ rest → (if b then more else rest) ≡ rest
skipped true more rest e = e
skipped false more rest e = refl

cache_no_share : (w : What) (shares : List (Rwd × Rwd)) → is_cache w ≡ true → with_share w shares ≡ shares
cache_no_share (Cache kind running) shares h = refl
cache_no_share (Share access deny) shares h = absurd (both_ways false refl h)
cache_no_share (Range extent exclusive) shares h = absurd (both_ways false refl h)

spans_without : (file : ℕ) (owner : Owner) (claim : Claim) (cs : List Claim) → is_cache claim.what ≡ true → spans_of file owner (removed claim cs) ≡ spans_of file owner cs
spans_without file owner claim [] cache = refl
spans_without file owner claim (c ∷ cs) cache =
    elim (cases_Bool (same_claims c claim)) [
      | inl same ↦
          let other = (cache_apart c.what (ap (λ (d : Claim). is_cache d.what) (same_claims-true c claim same) ∙ cache)).0 in
          rw same (sym (skipped (is_of file owner c) (with_span c.what (spans_of file owner cs)) (spans_of file owner cs) (not_range c.what other (spans_of file owner cs))))
      | inr apart ↦ rw apart (ap (λ (spans : List Span). if is_of file owner c then with_span c.what spans else spans) (spans_without file owner claim cs cache))
    ]

shares_without : (file : ℕ) (owner : Owner) (claim : Claim) (cs : List Claim) → is_cache claim.what ≡ true → shares_of file owner (removed claim cs) ≡ shares_of file owner cs
shares_without file owner claim [] cache = refl
shares_without file owner claim (c ∷ cs) cache =
    elim (cases_Bool (same_claims c claim)) [
      | inl same ↦
          let one : is_cache c.what ≡ true = ap (λ (d : Claim). is_cache d.what) (same_claims-true c claim same) ∙ cache in
          rw same (sym (skipped (is_of file owner c) (with_share c.what (shares_of file owner cs)) (shares_of file owner cs) (cache_no_share c.what (shares_of file owner cs) one)))
      | inr apart ↦ rw apart (ap (λ (shares : List (Rwd × Rwd)). if is_of file owner c then with_share c.what shares else shares) (shares_without file owner claim cs cache))
    ]

shares_beside : (file : ℕ) (owner : Owner) (c : Claim) (cs : List Claim) → is_cache c.what ≡ true → shares_of file owner (inserted c cs) ≡ shares_of file owner cs
unfolding inserted
shares_beside file owner c [] cache = skipped (is_of file owner c) (with_share c.what []) [] (cache_no_share c.what [] cache)
shares_beside file owner c (d ∷ ds) cache =
    elim (cases_Bool (goes_first d c)) [
      | inl early ↦ rw early (ap (λ (shares : List (Rwd × Rwd)). if is_of file owner d then with_share d.what shares else shares) (shares_beside file owner c ds cache))
      | inr late ↦ rw late (let rest = shares_of file owner (d ∷ ds) in skipped (is_of file owner c) (with_share c.what rest) rest (cache_no_share c.what rest cache))
    ]

cache_no_range : (file : ℕ) (owner : Owner) (c : Claim) → is_cache c.what ≡ true → is_range_of file owner c ≡ false
cache_no_range file owner c cache = and_right (is_of file owner c) (is_range c.what) (cache_apart c.what cache).0

-- all but caches
pub record IsSameButCaches (old new : List Claim) : Type 0 where
  pub spans : (file : ℕ) (owner : Owner) → spans_of file owner new ≡ spans_of file owner old
  pub shares : (file : ℕ) (owner : Owner) → shares_of file owner new ≡ shares_of file owner old
  pub elements : (file : ℕ) (owner : Owner) → elements_of file owner new ≡ elements_of file owner old

pub rest_beside : (claim : Claim) (to : Option CacheKind) (cs : List Claim) → is_cache claim.what ≡ true → IsSameButCaches cs (with_rest claim to cs)
unfolding changed
rest_beside claim None cs cache = record {
  spans = λ file owner. spans_without file owner claim cs cache;
  shares = λ file owner. shares_without file owner claim cs cache;
  elements = λ file owner. elements_removed_apart file owner claim cs (cache_no_range file owner claim cache);
}
rest_beside claim (Some kind) cs cache =
    let new = with_what claim (Cache kind None) in
    record {
      spans = λ file owner. spans_of-inserted_other file owner new (removed claim cs) (λ spans. refl) ∙ spans_without file owner claim cs cache;
      shares = λ file owner. shares_beside file owner new (removed claim cs) refl ∙ shares_without file owner claim cs cache;
      elements = λ file owner. elements_apart file owner new (removed claim cs) (cache_no_range file owner new refl) ∙ elements_removed_apart file owner claim cs (cache_no_range file owner claim cache);
    }

-- what is made of a cache reaches no other place
abbrev is_cache_place : Place → Bool
is_cache_place (CacheOf file party) = true
is_cache_place _ = false

no_other_by : (w : What) (p : Place) → is_cache w ≡ true → is_cache_place p ≡ false → part_by w p ≡ []
no_other_by (Cache kind running) (ByteOf file owner byte) h other = refl
no_other_by (Cache kind running) (ShareOf file owner) h other = refl
no_other_by (Cache kind running) (RangesOf file number) h other = refl
no_other_by (Cache kind running) (CacheOf file party) h other = absurd (both_ways true other refl)
no_other_by (Share access deny) p h other = absurd (both_ways false refl h)
no_other_by (Range extent exclusive) p h other = absurd (both_ways false refl h)

no_other : (c : Claim) (p : Place) → is_cache c.what ≡ true → is_cache_place p ≡ false → part_of c p ≡ []
no_other c p cache other = by (is_at p c) where
  by : (b : Bool) → (if b then part_by c.what p else []) ≡ []
  by true = no_other_by c.what p cache other
  by false = refl

acked_apart : (claim : Claim) (to : Option CacheKind) (p : Place) → is_cache claim.what ≡ true → is_cache_place p ≡ false → acked_at claim to p ≡ None
acked_apart claim None p cache other = ap cleared_by (no_other claim p cache other)
acked_apart claim (Some kind) p cache other = ap entered_by (no_other (with_what claim (Cache kind None)) p refl other)

-- at each place there is what is made of it
pub rest_of_made : (claim : Claim) (to : Option CacheKind) (cs : List Claim) (p : Place) → Pairwise is_single cs → IsIn claim cs → is_cache claim.what ≡ true → held_in (with_rest claim to cs) p ≡ else_was (acked_at claim to p) (held_in cs p)
rest_of_made claim to cs (CacheOf file party) single there cache = acked_cache_made file party claim to cs single there cache
rest_of_made claim to cs (ByteOf file owner byte) single there cache =
    ap (λ (ss : List Span). byte_held owner byte (mode_at ss byte)) ((rest_beside claim to cs cache).spans file owner)
    ∙ ap (λ (o : Option (List What)). else_was o (held_in cs (ByteOf file owner byte))) (sym (acked_apart claim to (ByteOf file owner byte) cache refl))
rest_of_made claim to cs (ShareOf file owner) single there cache =
    ap (λ (shares : List (Rwd × Rwd)). map share_held shares) ((rest_beside claim to cs cache).shares file owner)
    ∙ ap (λ (o : Option (List What)). else_was o (held_in cs (ShareOf file owner))) (sym (acked_apart claim to (ShareOf file owner) cache refl))
rest_of_made claim to cs (RangesOf file number) single there cache =
    (rest_beside claim to cs cache).elements file (open_of number)
    ∙ ap (λ (o : Option (List What)). else_was o (held_in cs (RangesOf file number))) (sym (acked_apart claim to (RangesOf file number) cache refl))

-- ---- who stays among them

stays_removed : (claim c : Claim) (cs : List Claim) → IsIn c cs → same_claims claim c ≡ false → IsIn c (removed claim cs)
stays_removed claim c [] there apart = there
stays_removed claim c (d ∷ ds) there apart =
    elim (cases_Bool (same_claims d claim)) [
      | inl same ↦ rw same (elim there [
        | inl e ↦
            let two : same_claims claim c ≡ true = subst (λ (x : Claim). same_claims x c ≡ true) (sym e ∙ same_claims-true d claim same) (same_claims-self c) in
            absurd (both_ways (same_claims claim c) apart two)
        | inr t ↦ t
      ])
      | inr other ↦ rw other (elim there [ inl e ↦ inl e | inr t ↦ inr (stays_removed claim c ds t apart) ])
    ]

pub stays_beside : (new c : Claim) (cs : List Claim) → IsIn c cs → IsIn c (inserted new cs)
unfolding inserted
stays_beside new c [] there = absurd there
stays_beside new c (d ∷ ds) there =
    elim (cases_Bool (goes_first d new)) [
      | inl early ↦ rw early (elim there [ inl e ↦ inl e | inr t ↦ inr (stays_beside new c ds t) ])
      | inr late ↦ rw late (inr there)
    ]

-- another cache stays where one comes to its rest
pub stays_rest : (claim c : Claim) (to : Option CacheKind) (cs : List Claim) → IsIn c cs → same_claims claim c ≡ false → IsIn c (with_rest claim to cs)
unfolding changed
stays_rest claim c None cs there apart = stays_removed claim c cs there apart
stays_rest claim c (Some kind) cs there apart = stays_beside (with_what claim (Cache kind None)) c (removed claim cs) (stays_removed claim c cs there apart)
