-- Where the breaks begin that an ask begins the state stays good, and each cache in the ask's way is gone or runs.
use Rattle.std.proofs.Common.{◌≡◌, ℕ, ◌+◌, ◌≤◌, Bool, true, false, not, ◌&&◌, ◌||◌, ◌==◌, if◌then◌else◌, List, [], ◌∷◌, length, inl, inr, Option, Some, None, refl, sym, ap, subst, ◌∙◌, arith}
use Rattle.std.specs.List.{AllByRecursion, cons_option, filter_map}
use Rattle.std.proofs.lemmas.Bool.{cases_Bool, both_ways, and_parts, and_from}
use Rattle.std.proofs.lemmas.Option.{same_Some}
use Rattle.xl_base.specs.Lists.{IsIn, Pairwise}
use Rattle.xl_base.proofs.Members.{all_in, all_from}
use Rattle.xl_base.proofs.Searches.{in_filter_map, in_filter_map_from}
use Rattle.xl_base.specs.declared.event.Moment.{Moment}
use Rattle.xl_base.specs.declared.name.Owner.{Owner}
use Rattle.xl_cache.specs.Parties.{is_kind_of, is_rest_of, is_cache_of}
use Rattle.xl_cache.specs.BreakPlans.{is_running, blocking_shares, is_in_the_way, is_obstacle, need_of, break_by, break_of, planned, is_slow, is_less}
use Rattle.xl_cache.specs.declared.need.Need.{Need}
use Rattle.xl_cache.specs.Targets.{target_of}
use Rattle.xl_cache.proofs.BreakLaws.{plan_less}
use Rattle.xl_cache.proofs.PartyLaws.{kept_kind}
use Rattle.xl_cache.proofs.BreakPlanLaws.{obstacle_is_cache, break_is_of}
use Rattle.xl_matrix.specs.Owners.{posix}
use Rattle.xl_matrix.specs.Equal.{same_owners, same_parties}
use Rattle.xl_matrix.specs.Matrix.{compat, fit_by}
use Rattle.xl_matrix.proofs.SideLaws.{compat-sym}
use Rattle.xl_matrix.specs.declared.claim.Break.{Break}
use Rattle.xl_matrix.specs.declared.claim.CacheKind.{CacheKind}
use Rattle.xl_matrix.specs.declared.claim.Claim.{Claim}
use Rattle.xl_matrix.specs.declared.claim.What.{What}
use Rattle.xl_matrix.specs.declared.claim.What.TheVariants.{Share, Range, Cache}
use Rattle.xl_names.specs.declared.name.Name.{Name}
use Rattle.xl_spans.specs.Spans.{IsCanonical}
use Rattle.xl_spans.specs.declared.span.Span.{Span}
use Rattle.xl_table.specs.Flat.{blocks, with_what}
use Rattle.xl_table.specs.Held.{is_share, is_range, is_cache, is_real_by, is_real, has_one_party, with_span, is_of, spans_of, IsKept}
use Rattle.xl_table.specs.Order.{key_by, key, no_later, goes_first}
use Rattle.xl_table.proofs.InsertLaws.{one_party-sym}
use Rattle.xl_core.specs.State.{CoreState}
use Rattle.xl_core.specs.BreaksBegun.{with_break, once_begun, once_broken, is_idle, idle_caches}
use Rattle.xl_core.specs.Good.{IsHeldBy, IsHeld, is_single_by, is_single, IsGood, holding}
use Rattle.xl_core.proofs.ClaimLaws.{AreGood, is_single-sym}
use Rattle.xl_core.proofs.StateLaws.{good_claims, good_from}

-- ---- what becomes of a claim

-- it stays as it is, or is a cache of which a break runs from now on
pub data Left (c d : Claim) : Type 0 where
  Stays : d ≡ c → Left c d
  Runs : (kind : CacheKind) (running : Break) → c.what ≡ Cache kind None → d ≡ with_what c (Cache kind (Some running)) → Left c d

-- what begins is a break of a cache of which none runs
pub begins : (ask : Claim) (shares : List Claim) (c : Claim) (b : Claim × Option CacheKind) → break_of ask shares c ≡ Some b → (kind : CacheKind) × (c.what ≡ Cache kind None)
begins ask shares c b e =
    let is = break_is_of ask shares c b e in
    by c.what refl (obstacle_is_cache ask shares c is.1) is.2
  where
    by : (w : What) → c.what ≡ w → is_cache w ≡ true → is_running w ≡ false → (kind : CacheKind) × (c.what ≡ Cache kind None)
    by (Cache kind None) at h k = (kind, at)
    by (Cache kind (Some running)) at h k = absurd (both_ways true k refl)
    by (Share access deny) at h k = absurd (both_ways false refl h)
    by (Range extent exclusive) at h k = absurd (both_ways false refl h)

broken_so : (c : Claim) (kind : CacheKind) (to : Option CacheKind) (deadline : Moment) → c.what ≡ Cache kind None → with_break c c.what to deadline ≡ with_what c (Cache kind (Some (record { target = to; deadline = deadline })))
broken_so c kind to deadline at = ap (λ (w : What). with_break c w to deadline) at

left_so : (deadline : Moment) (ask : Claim) (shares : List Claim) (c d : Claim) → once_begun deadline c (break_of ask shares c) ≡ Some d → Left c d
left_so deadline ask shares c d e = by (break_of ask shares c) refl e where
  by : (o : Option (Claim × Option CacheKind)) → break_of ask shares c ≡ o → once_begun deadline c o ≡ Some d → Left c d
  by None at is = Stays (sym (same_Some c d is))
  by (Some b) at is =
      elim (cases_Bool (is_slow b)) [
        | inr quick ↦ let two : None ≡ Some d = rw quick at is in absurd cc
        | inl slow ↦
            let one = begins ask shares c b at in
            Runs one.0 (record { target = b.1; deadline = deadline }) one.1 (sym (same_Some (with_break c c.what b.1 deadline) d (rw slow at is)) ∙ broken_so c one.0 b.1 deadline one.1)
      ]

-- what is gone was a cache
gone_so : (deadline : Moment) (ask : Claim) (shares : List Claim) (c : Claim) → once_begun deadline c (break_of ask shares c) ≡ None → is_cache c.what ≡ true
gone_so deadline ask shares c e = by (break_of ask shares c) refl e where
  by : (o : Option (Claim × Option CacheKind)) → break_of ask shares c ≡ o → once_begun deadline c o ≡ None → is_cache c.what ≡ true
  by None at is = absurd cc
  by (Some b) at is = obstacle_is_cache ask shares c (break_is_of ask shares c b at).1

-- ---- what the laws look at is as it was

fit_running : (c d : Claim) (kind : CacheKind) (running : Break) (w : What) → fit_by (with_what c (Cache kind (Some running))) d (Cache kind (Some running)) w ≡ fit_by c d (Cache kind None) w
unfolding fit_by
fit_running c d kind running (Share access deny) = refl
fit_running c d kind running (Range extent exclusive) = refl
fit_running c d kind running (Cache other due) = refl

compat_left : (c d e : Claim) → Left c d → compat d e ≡ compat c e
unfolding compat
compat_left c d e (Stays same) = ap (λ (x : Claim). compat x e) same
compat_left c d e (Runs kind running at same) =
    ap (λ (x : Claim). compat x e) same
    ∙ ap (λ (b : Bool). not (c.file == e.file) || b) (fit_running c e kind running e.what)
    ∙ ap (λ (w : What). not (c.file == e.file) || fit_by c e w e.what) (sym at)

single_running : (c d : Claim) (kind : CacheKind) (running : Break) (w : What) → is_single_by (with_what c (Cache kind (Some running))) d (Cache kind (Some running)) w ≡ is_single_by c d (Cache kind None) w
single_running c d kind running (Share access deny) = refl
single_running c d kind running (Range extent exclusive) = refl
single_running c d kind running (Cache other due) = refl

single_left : (c d e : Claim) → Left c d → is_single d e ≡ is_single c e
single_left c d e (Stays same) = ap (λ (x : Claim). is_single x e) same
single_left c d e (Runs kind running at same) =
    ap (λ (x : Claim). is_single x e) same
    ∙ ap (λ (b : Bool). not (c.file == e.file && not b)) (single_running c e kind running e.what)
    ∙ ap (λ (w : What). not (c.file == e.file && not (is_single_by c e w e.what))) (sym at)

party_left : (c d e : Claim) → Left c d → has_one_party d e ≡ has_one_party c e
party_left c d e (Stays same) = ap (λ (x : Claim). has_one_party x e) same
party_left c d e (Runs kind running at same) =
    ap (λ (x : Claim). has_one_party x e) same ∙ ap (λ (w : What). not (posix c.owner && (is_range w && (is_range e.what && ((c.file == e.file) && same_owners c.owner e.owner)))) || same_parties c.party e.party) (sym at)

key_left : (c d : Claim) → Left c d → key d ≡ key c
unfolding key
key_left c d (Stays same) = ap key same
key_left c d (Runs kind running at same) = ap key same ∙ ap (λ (w : What). key_by c w) (sym at)

real_left : (c d : Claim) → Left c d → is_real d ≡ is_real c
real_left c d (Stays same) = ap is_real same
real_left c d (Runs kind running at same) = ap is_real same ∙ ap (λ (w : What). is_real_by c.owner w) (sym at)

-- ---- lists

all_step : (P : Claim → Type 0) (f : Claim → Option Claim) (cs : List Claim) → ((c d : Claim) → f c ≡ Some d → P c → P d) → AllByRecursion P cs → AllByRecursion P (filter_map f cs)
all_step P f [] on all = tt
all_step P f (c ∷ cs) on all = by (f c) refl (all_step P f cs on all.1) where
  by : (o : Option Claim) → f c ≡ o → AllByRecursion P (filter_map f cs) → AllByRecursion P (cons_option o (filter_map f cs))
  by None e rest = rest
  by (Some d) e rest = (on c d e all.0, rest)

pairwise_step : (test : Claim → Claim → Bool) (f : Claim → Option Claim) (cs : List Claim) → ((c d : Claim) → f c ≡ Some d → (e : Claim) → test d e ≡ test c e) → ((c d : Claim) → f c ≡ Some d → (e : Claim) → test e d ≡ test e c) → Pairwise test cs → Pairwise test (filter_map f cs)
pairwise_step test f [] first second all = tt
pairwise_step test f (c ∷ cs) first second all = by (f c) refl (pairwise_step test f cs first second all.1) where
  by : (o : Option Claim) → f c ≡ o → Pairwise test (filter_map f cs) → Pairwise test (cons_option o (filter_map f cs))
  by None e rest = rest
  by (Some d) e rest = (
    all_step (λ x. test d x ≡ true) f cs (λ x y at h. second x y at d ∙ h) (all_from (λ x. test d x ≡ true) cs (λ x h. first c d e x ∙ all_in (λ y. test c y ≡ true) x cs all.0 h)),
    rest,
  )

length_step : (f : Claim → Option Claim) (cs : List Claim) → length (filter_map f cs) ≤ length cs
length_step f [] = omega arith
length_step f (c ∷ cs) = by (f c) (length_step f cs) where
  by : (o : Option Claim) → length (filter_map f cs) ≤ length cs → length (cons_option o (filter_map f cs)) ≤ length (c ∷ cs)
  by None rest = omega (arith, rest)
  by (Some d) rest = omega (arith, rest)

-- ---- the claims

module _ (deadline : Moment) (ask : Claim) (held : List Claim) where
  unfoldable pub step : Claim → Option Claim
  step c = once_begun deadline c (break_of ask (blocking_shares ask held) c)

  pub stepped : (c d : Claim) → step c ≡ Some d → Left c d
  unfolding step
  stepped c d e = left_so deadline ask (blocking_shares ask held) c d e

  skipped : {A : Type 0} (b : Bool) (more rest : A) → more ≡ rest → (if b then more else rest) ≡ rest
  skipped true more rest e = e
  skipped false more rest e = refl

  cache_no_span : (w : What) (spans : List Span) → is_cache w ≡ true → with_span w spans ≡ spans
  cache_no_span (Cache kind running) spans h = refl
  cache_no_span (Share access deny) spans h = absurd (both_ways false refl h)
  cache_no_span (Range extent exclusive) spans h = absurd (both_ways false refl h)

  -- an owner's ranges stay
  spans_step : (file : ℕ) (owner : Owner) (cs : List Claim) → spans_of file owner (filter_map step cs) ≡ spans_of file owner cs
  unfolding step
  spans_step file owner [] = refl
  spans_step file owner (c ∷ cs) = by (step c) refl (spans_step file owner cs) where
    by : (o : Option Claim) → step c ≡ o → spans_of file owner (filter_map step cs) ≡ spans_of file owner cs → spans_of file owner (cons_option o (filter_map step cs)) ≡ spans_of file owner (c ∷ cs)
    by None e rest =
        rest ∙ sym (skipped (is_of file owner c) (with_span c.what (spans_of file owner cs)) (spans_of file owner cs) (cache_no_span c.what (spans_of file owner cs) (gone_so deadline ask (blocking_shares ask held) c e)))
    by (Some d) e rest = same (stepped c d e) where
      same : Left c d → (if is_of file owner d then with_span d.what (spans_of file owner (filter_map step cs)) else spans_of file owner (filter_map step cs)) ≡ (if is_of file owner c then with_span c.what (spans_of file owner cs) else spans_of file owner cs)
      same (Stays is) = ap (λ (x : Claim). if is_of file owner x then with_span x.what (spans_of file owner (filter_map step cs)) else spans_of file owner (filter_map step cs)) is ∙ ap (λ (spans : List Span). if is_of file owner c then with_span c.what spans else spans) rest
      same (Runs kind running at is) =
          ap (λ (x : Claim). if is_of file owner x then with_span x.what (spans_of file owner (filter_map step cs)) else spans_of file owner (filter_map step cs)) is
          ∙ ap (λ (spans : List Span). if is_of file owner c then spans else spans) rest
          ∙ ap (λ (w : What). if is_of file owner c then with_span w (spans_of file owner cs) else spans_of file owner cs) (sym at)

  kept_step : IsKept held → IsKept (filter_map step held)
  kept_step kept = record {
    sound = record {
      real = all_step (λ c. is_real c ≡ true) step held (λ c d e h. real_left c d (stepped c d e) ∙ h) kept.sound.real;
      parties = pairwise_step has_one_party step held (λ c d e x. party_left c d x (stepped c d e)) (λ c d e x. one_party-sym x d ∙ party_left c d x (stepped c d e) ∙ one_party-sym c x) kept.sound.parties;
      canonical = λ file owner named. subst (λ (ss : List Span). IsCanonical ss) (sym (spans_step file owner held)) (kept.sound.canonical file owner named);
    };
    ordered = pairwise_step goes_first step held (λ c d e x. ap (λ (k : List ℕ). no_later k (key x)) (key_left c d (stepped c d e))) (λ c d e x. ap (λ (k : List ℕ). no_later (key x) k) (key_left c d (stepped c d e))) kept.ordered;
    room = omega (arith, length_step step held, kept.room);
  }

  -- the break that begins of a cache leaves what the table of targets says
  pub target_is : (c : Claim) (b : Claim × Option CacheKind) (kind : CacheKind) → break_of ask (blocking_shares ask held) c ≡ Some b → c.what ≡ Cache kind None → b.1 ≡ target_of kind (need_of ask (blocking_shares ask held) c)
  unfolding break_of
  target_is c b kind e at = by (is_in_the_way ask (blocking_shares ask held) c) e where
    need : Need
    need = need_of ask (blocking_shares ask held) c

    by : (way : Bool) → (if way then break_by c need c.what else None) ≡ Some b → b.1 ≡ target_of kind need
    by true is = let same : (c, target_of kind need) ≡ b = same_Some (c, target_of kind need) b (sym (ap (λ (w : What). break_by c need w) at) ∙ is) in ap (λ (x : Claim × Option CacheKind). x.1) (sym same)
    by false is = absurd cc

  less_still : (kind : CacheKind) (running : Break) (to : Option CacheKind) → is_less (Cache kind None) to ≡ true → is_less (Cache kind (Some running)) to ≡ true
  less_still kind running None h = refl
  less_still kind running (Some left) h = h

  -- so it is one that the party may have, and less than the cache
  held_broken : (names : List Name) (c : Claim) (b : Claim × Option CacheKind) → is_cache ask.what ≡ false → IsIn c held → IsHeld names c → break_of ask (blocking_shares ask held) c ≡ Some b → IsHeld names (with_break c c.what b.1 deadline)
  unfolding is_cache_of planned
  held_broken names c b lock there known e =
      let shares = blocking_shares ask held in
      let one = begins ask shares c b e in
      let kind = one.0 in
      let running : Break = record { target = b.1; deadline = deadline } in
      let is = break_is_of ask shares c b e in
      let cache : (is_kind_of c.party kind && true) ≡ true = subst (λ (w : What). IsHeldBy c.party w) one.1 known.0.0 in
      let may = (and_parts (is_kind_of c.party kind) true cache).0 in
      let less = plan_less ask held lock b (in_filter_map (break_of ask shares) c b held there e) in
      let less_here : is_less (Cache kind None) b.1 ≡ true = subst (λ (w : What). is_less w b.1 ≡ true) (ap (λ (x : Claim). x.what) is.0 ∙ one.1) less in
      let rest : is_rest_of c.party b.1 ≡ true = subst (λ (o : Option CacheKind). is_rest_of c.party o ≡ true) (sym (target_is c b kind e one.1)) (kept_kind c.party kind (need_of ask shares c) may refl) in
      subst (λ (x : Claim). IsHeld names x) (sym (broken_so c kind b.1 deadline one.1)) (
        (
          and_from (is_kind_of c.party kind) (is_less (Cache kind (Some running)) b.1 && is_rest_of c.party b.1) may
              (and_from (is_less (Cache kind (Some running)) b.1) (is_rest_of c.party b.1) (less_still kind running b.1 less_here) rest),
          refl,
        ),
        known.1,
      )

  held_step : (names : List Name) (c d : Claim) → is_cache ask.what ≡ false → IsIn c held → IsHeld names c → step c ≡ Some d → IsHeld names d
  unfolding step
  held_step names c d lock there known e = by (break_of ask (blocking_shares ask held) c) refl e where
    by : (o : Option (Claim × Option CacheKind)) → break_of ask (blocking_shares ask held) c ≡ o → once_begun deadline c o ≡ Some d → IsHeld names d
    by None at is = subst (λ (x : Claim). IsHeld names x) (same_Some c d is) known
    by (Some b) at is =
        elim (cases_Bool (is_slow b)) [
          | inr quick ↦ let two : None ≡ Some d = rw quick at is in absurd cc
          | inl slow ↦ subst (λ (x : Claim). IsHeld names x) (same_Some (with_break c c.what b.1 deadline) d (rw slow at is)) (held_broken names c b lock there known at)
        ]

  step_good : (names : List Name) → is_cache ask.what ≡ false → AreGood names held → AreGood names (filter_map step held)
  step_good names lock good = record {
    kept = kept_step good.kept;
    compatible = pairwise_step compat step held (λ c d e x. compat_left c d x (stepped c d e)) (λ c d e x. compat-sym x d ∙ compat_left c d x (stepped c d e) ∙ compat-sym c x) good.compatible;
    single = pairwise_step is_single step held (λ c d e x. single_left c d x (stepped c d e)) (λ c d e x. is_single-sym x d ∙ single_left c d x (stepped c d e) ∙ is_single-sym c x) good.single;
    known = all_from (IsHeld names) (filter_map step held) (λ d there.
        let from = in_filter_map_from step d held there in
        held_step names from.0 d lock from.1 (all_in (IsHeld names) from.0 held good.known from.1) from.2);
  }

  -- a claim of which no break begins stays as it is
  stays_so : (c : Claim) → IsIn c held → break_of ask (blocking_shares ask held) c ≡ None → IsIn c (filter_map step held)
  unfolding step
  stays_so c there e = in_filter_map step c c held there (ap (λ (o : Option (Claim × Option CacheKind)). once_begun deadline c o) e)

  no_share : (w : What) (b : Bool) → is_cache w ≡ true → (is_share w && b) ≡ false
  no_share (Cache kind running) b h = refl
  no_share (Share access deny) b h = absurd (both_ways false refl h)
  no_share (Range extent exclusive) b h = absurd (both_ways false refl h)

  pub shares_step : (cs : List Claim) → blocking_shares ask (filter_map step cs) ≡ blocking_shares ask cs
  unfolding step
  shares_step [] = refl
  shares_step (c ∷ cs) = by (step c) refl (shares_step cs) where
    by : (o : Option Claim) → step c ≡ o → blocking_shares ask (filter_map step cs) ≡ blocking_shares ask cs → blocking_shares ask (cons_option o (filter_map step cs)) ≡ blocking_shares ask (c ∷ cs)
    by None e rest = let none = no_share c.what (blocks ask c) (gone_so deadline ask (blocking_shares ask held) c e) in rw none rest
    by (Some d) e rest = same (stepped c d e) (is_share c.what && blocks ask c) refl where
      same : Left c d → (b : Bool) → (is_share c.what && blocks ask c) ≡ b → blocking_shares ask (d ∷ filter_map step cs) ≡ blocking_shares ask (c ∷ cs)
      same (Stays is) b e = ap (λ (x : Claim). blocking_shares ask (x ∷ filter_map step cs)) is ∙ ap (λ (xs : List Claim). if is_share c.what && blocks ask c then c ∷ xs else xs) rest
      same (Runs kind running at is) b e =
          let other : (is_share c.what && blocks ask c) ≡ false = ap (λ (w : What). is_share w && blocks ask c) at in
          ap (λ (x : Claim). blocking_shares ask (x ∷ filter_map step cs)) is ∙ rw other rest

  -- of what is left none is to be broken
  pub begins_none : (c d : Claim) → step c ≡ Some d → break_of ask (blocking_shares ask held) d ≡ None
  unfolding step break_of
  begins_none c d e = by (break_of ask (blocking_shares ask held) c) refl e where
    shares : List Claim
    shares = blocking_shares ask held

    running : (x : Claim) (kind : CacheKind) (now : Break) (way : Bool) → (if way then break_by x (need_of ask shares x) (Cache kind (Some now)) else None) ≡ None
    running x kind now true = refl
    running x kind now false = refl

    by : (o : Option (Claim × Option CacheKind)) → break_of ask shares c ≡ o → once_begun deadline c o ≡ Some d → break_of ask shares d ≡ None
    by None at is = subst (λ (x : Claim). break_of ask shares x ≡ None) (same_Some c d is) at
    by (Some b) at is =
        elim (cases_Bool (is_slow b)) [
          | inr quick ↦ let two : None ≡ Some d = rw quick at is in absurd cc
          | inl slow ↦
              let one = begins ask shares c b at in
              let now : Break = record { target = b.1; deadline = deadline } in
              let new : Claim = with_what c (Cache one.0 (Some now)) in
              subst (λ (x : Claim). break_of ask shares x ≡ None)
              (sym (broken_so c one.0 b.1 deadline one.1) ∙ same_Some (with_break c c.what b.1 deadline) d (rw slow at is))
              (running new one.0 now (is_in_the_way ask shares new))
        ]

  pub none_to_begin : (cs : List Claim) → filter_map (break_of ask (blocking_shares ask held)) (filter_map step cs) ≡ []
  unfolding step
  none_to_begin [] = refl
  none_to_begin (c ∷ cs) = by (step c) refl (none_to_begin cs) where
    by : (o : Option Claim) → step c ≡ o → filter_map (break_of ask (blocking_shares ask held)) (filter_map step cs) ≡ [] → filter_map (break_of ask (blocking_shares ask held)) (cons_option o (filter_map step cs)) ≡ []
    by None e rest = rest
    by (Some d) e rest = ap (λ (o : Option (Claim × Option CacheKind)). cons_option o (filter_map (break_of ask (blocking_shares ask held)) (filter_map step cs))) (begins_none c d e) ∙ rest

  -- each break that begins leaves a cache less of which none runs
  fewer_step : (cs : List Claim) → idle_caches (filter_map step cs) + length (filter_map (break_of ask (blocking_shares ask held)) cs) ≡ idle_caches cs
  unfolding step
  fewer_step [] = refl
  fewer_step (c ∷ cs) = by (break_of ask (blocking_shares ask held) c) refl (fewer_step cs) where
    shares : List Claim
    shares = blocking_shares ask held

    left : List Claim
    left = filter_map step cs

    begun : List (Claim × Option CacheKind)
    begun = filter_map (break_of ask shares) cs

    by : (o : Option (Claim × Option CacheKind)) → break_of ask shares c ≡ o → idle_caches left + length begun ≡ idle_caches cs
        → idle_caches (cons_option (once_begun deadline c o) left) + length (cons_option o begun) ≡ idle_caches (c ∷ cs)
    by None e rest = elim (cases_Bool (is_idle c)) [ inl idle ↦ rw idle (omega (arith, rest)) | inr other ↦ rw other rest ]
    by (Some b) e rest = broken (is_slow b) where
      one : (kind : CacheKind) × (c.what ≡ Cache kind None)
      one = begins ask shares c b e

      idle : is_idle c ≡ true
      idle = ap (λ (w : What). is_cache w && not (is_running w)) one.1

      runs : is_idle (with_break c c.what b.1 deadline) ≡ false
      runs = ap is_idle (broken_so c one.0 b.1 deadline one.1)

      broken : (slow : Bool) → idle_caches (cons_option (if slow then Some (with_break c c.what b.1 deadline) else None) left) + length (b ∷ begun) ≡ idle_caches (c ∷ cs)
      broken true = rw (runs, idle) (omega (arith, rest))
      broken false = rw idle (omega (arith, rest))

-- ---- the state

pub broken_good : (deadline : Moment) (s : CoreState) (ask : Claim) → IsGood s → is_cache ask.what ≡ false → IsGood (holding s (once_broken deadline ask s.claims))
unfolding once_broken step
broken_good deadline s ask good lock =
    good_from (holding s (filter_map (step deadline ask s.claims) s.claims)) (step_good deadline ask s.claims s.names lock (good_claims s good)) good.distinct good.few good.waiters good.apart good.crowd

-- what isn't in the ask's way stands as it is
pub apart_stand : (deadline : Moment) (ask : Claim) (held : List Claim) (c : Claim) → IsIn c held → is_obstacle ask held c ≡ false → IsIn c (once_broken deadline ask held)
unfolding once_broken step break_of
apart_stand deadline ask held c there apart = stays_so deadline ask held c there (rw apart refl)

-- and so does a cache whose break runs
pub running_stand : (deadline : Moment) (ask : Claim) (held : List Claim) (c : Claim) → IsIn c held → is_running c.what ≡ true → IsIn c (once_broken deadline ask held)
unfolding once_broken step break_of
running_stand deadline ask held c there runs = stays_so deadline ask held c there (by (is_in_the_way ask (blocking_shares ask held) c) c.what runs) where
  by : (way : Bool) (w : What) → is_running w ≡ true → (if way then break_by c (need_of ask (blocking_shares ask held) c) w else None) ≡ None
  by true (Cache kind (Some running)) h = refl
  by true (Cache kind None) h = absurd (both_ways false refl h)
  by true (Share access deny) h = absurd (both_ways false refl h)
  by true (Range extent exclusive) h = absurd (both_ways false refl h)
  by false w h = refl

-- each cache in the ask's way is gone then, or its break runs: none is left to begin
pub none_begins_again : (deadline : Moment) (ask : Claim) (held : List Claim) → (planned ask (once_broken deadline ask held)).breaks ≡ []
unfolding once_broken step planned
none_begins_again deadline ask held =
    ap (λ (shares : List Claim). filter_map (break_of ask shares) (filter_map (step deadline ask held) held)) (shares_step deadline ask held held) ∙ none_to_begin deadline ask held held

-- as many caches more have a break that runs, or are gone, as breaks begin
pub fewer_idle : (deadline : Moment) (ask : Claim) (held : List Claim) → idle_caches (once_broken deadline ask held) + length (planned ask held).breaks ≡ idle_caches held
unfolding once_broken step planned
fewer_idle deadline ask held = fewer_step deadline ask held held

-- a cache whose break needs an answer is held with its break
pub broken_stand : (deadline : Moment) (ask : Claim) (held : List Claim) (b : Claim × Option CacheKind) → IsIn b (planned ask held).breaks → is_slow b ≡ true → IsIn (with_break b.0 b.0.what b.1 deadline) (once_broken deadline ask held)
unfolding once_broken planned
broken_stand deadline ask held b there slow =
    let shares = blocking_shares ask held in
    let from = in_filter_map_from (break_of ask shares) b held there in
    let is = break_is_of ask shares from.0 b from.2 in
    let begun : once_begun deadline from.0 (Some b) ≡ Some (with_break from.0 from.0.what b.1 deadline) = rw slow refl in
    subst (λ (c : Claim). IsIn (with_break c c.what b.1 deadline) (filter_map (λ x. once_begun deadline x (break_of ask shares x)) held)) (sym is.0)
    (in_filter_map (λ x. once_begun deadline x (break_of ask shares x)) from.0 (with_break from.0 from.0.what b.1 deadline) held from.1
    (ap (λ (o : Option (Claim × Option CacheKind)). once_begun deadline from.0 o) from.2 ∙ begun))
