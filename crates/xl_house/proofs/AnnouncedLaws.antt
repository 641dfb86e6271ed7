-- Each break that begins is told of.
use Rattle.std.proofs.Common.{◌≡◌, ℕ, Bool, true, false, inl, inr, Option, Some, None, List, [], ◌∷◌, ◌++◌, refl, sym, ap, subst, ◌∙◌}
use Rattle.std.specs.Prelude.{◌+◌, ◌==◌, ◌&&◌, ◌⊎◌, if◌then◌else◌, IfSome, find, is_some, option_map}
use Rattle.std.proofs.lemmas.Bool.{both_ways}
use Rattle.xl_base.proofs.Members.{in_append_left}
use Rattle.xl_base.proofs.Searches.{find_in}
use Rattle.xl_base.specs.Lists.{IsIn}
use Rattle.xl_base.specs.declared.event.Moment.{Moment}
use Rattle.xl_base.specs.declared.name.Party.{Party}
use Rattle.xl_matrix.specs.Equal.{same_parties}
use Rattle.xl_matrix.specs.declared.claim.Break.{Break}
use Rattle.xl_matrix.specs.declared.claim.CacheKind.{CacheKind}
use Rattle.xl_matrix.specs.declared.claim.Claim.{Claim}
use Rattle.xl_matrix.specs.declared.claim.What.{What}
use Rattle.xl_matrix.specs.declared.claim.What.TheVariants.{Share, Range, Cache}
use Rattle.xl_cache.specs.declared.wish.Wish.{Wish}
use Rattle.xl_table.specs.Held.{is_cache}
use Rattle.xl_wait.specs.declared.waiter.Rooms.{Rooms}
use Rattle.xl_wait.specs.declared.waiter.Waiter.{Waiter}
use Rattle.xl_core.specs.State.{CoreState}
use Rattle.xl_core.specs.Askers.{asked_whats, asked_claims, IsFit}
use Rattle.xl_core.specs.BreaksBegun.{begun_told, breaks_begun, breaks_in_order, breaks_told, call_of, is_break_on, is_recall, is_recalled, last_of, left_held}
use Rattle.xl_core.specs.Decide.{way, before_wish, does_wish, ask}
use Rattle.xl_core.specs.Deeds.{Deed, Asks, Serves, turned, IsFitDeed}
use Rattle.xl_core.specs.Good.{caches_of, IsGood}
use Rattle.xl_core.specs.Leases.{moment_after}
use Rattle.xl_core.specs.Places.{CacheOf, else_was, held_at}
use Rattle.xl_core.specs.Settle.{settle, way_again}
use Rattle.xl_core.specs.Wishes.{wished_kind, wish_for, wish_granted, wish_of, wished_at}
use Rattle.xl_core.specs.declared.ask.Answer.{Answer}
use Rattle.xl_core.specs.declared.ask.Answer.TheVariants as answers
use Rattle.xl_core.specs.declared.ask.Ask.{Ask}
use Rattle.xl_core.specs.declared.ask.Effect.{Effect}
use Rattle.xl_core.specs.declared.ask.Effect.TheVariants.{Begun, Served}
use Rattle.xl_core.proofs.BreaksBegunLaws.{begun_cache}
use Rattle.xl_core.proofs.CacheLaws.{all_granted_caches}
use Rattle.xl_core.proofs.CachePlaces.{held_of_caches, on_parts}
use Rattle.xl_core.proofs.FrameLaws.{ask_quiet}
use Rattle.xl_core.proofs.GoodLaws.{Turned, IsMoved, Answers, Rests, IsFirst, before_good, each_turn, once_answered, served_good}
use Rattle.xl_core.proofs.SettleLaws.{once_cases}
use Rattle.xl_core.proofs.WishLaws.{wish_cache}
use Rattle.xl_house.specs.Breaking.{is_given_up, kept_by}
use Rattle.xl_house.specs.Notified.{AreAnnounced, IsAnnounced, IsAnnouncing}
use Rattle.xl_house.proofs.BreakingLaws.{IsWayOf, Still, Breaks, ask_way, begun_before, left_is, turn_way}
use Rattle.xl_house.proofs.KeepingLaws.{before_same, told_from}

-- each break that runs in t ran in s, or these tell of it
abbrev AreTold : CoreState → CoreState → List Effect → Type 0
AreTold s t effects = (file : ℕ) (party : Party) (kind : CacheKind) (running : Break) → held_at t (CacheOf file party) ≡ Cache kind (Some running) ∷ [] → (held_at s (CacheOf file party) ≡ Cache kind (Some running) ∷ []) ⊎ IsAnnounced file party running.target effects

-- those that these tell of have the number of a call if they have to
abbrev AreNumbered : List Effect → Type 0
AreNumbered effects = (cache : Claim) (to : Option CacheKind) (call : Option ℕ) → IsIn (Begun cache to call) effects → is_some call ≡ is_recalled cache.party

more_told : (s t : CoreState) (effects more : List Effect) → AreTold s t effects → AreTold s t (effects ++ more)
more_told s t effects more each file party kind running runs =
    elim (each file party kind running runs) [
      | inl ran ↦ inl ran
      | inr told ↦ inr (told.0, told.1, in_append_left (Begun told.0 running.target told.1) effects more told.2, told.3, told.4)
    ]

-- of the same caches it is so as well
same_told : (s t u : CoreState) (effects : List Effect) → caches_of u.claims ≡ caches_of t.claims → AreTold s t effects → AreTold s u effects
same_told s t u effects same each file party kind running runs = each file party kind running (sym (held_of_caches file party t.claims u.claims same) ∙ runs)

-- ---- a break

same_running : (a b : CacheKind) (x y : Break) → (Cache a (Some x) ∷ []) ≡ (Cache b (Some y) ∷ []) → x ≡ y
same_running a b x y e = cc

none_held : (w : What) → [] ≡ (w ∷ []) → ⊥
none_held w e = cc

kept_target : (deadline : Moment) (w : What) (to : Option CacheKind) (kind : CacheKind) (running : Break) → is_cache w ≡ true → kept_by deadline w to ≡ Cache kind (Some running) ∷ [] → to ≡ running.target
kept_target deadline (Cache own ran) to kind running is e = by (is_given_up (Cache own ran) to) e
  where
    by : (b : Bool) → (if b then [] else Cache own (Some (record { target = to; deadline = deadline })) ∷ []) ≡ Cache kind (Some running) ∷ [] → to ≡ running.target
    by true f = absurd (none_held (Cache kind (Some running)) f)
    by false f = ap (λ (b : Break). b.target) (same_running own kind (record { target = to; deadline = deadline }) running f)
kept_target deadline (Share access deny) to kind running is e = absurd (both_ways false refl is)
kept_target deadline (Range extent exclusive) to kind running is e = absurd (both_ways false refl is)

begun_are_told : (s : CoreState) (c : Claim) → IsGood s → AreTold s (breaks_begun c s).1 (breaks_begun c s).0
begun_are_told s c good file party kind running runs = by (find (is_break_on file party) told) refl (find_in (is_break_on file party) told)
  where
    deadline : Moment
    deadline = moment_after s.clock s.times.break_time

    told : List (Claim × Option CacheKind)
    told = breaks_told (breaks_begun c s).0

    at : (o : Option (Claim × Option CacheKind)) → find (is_break_on file party) told ≡ o → held_at (breaks_begun c s).1 (CacheOf file party) ≡ else_was (option_map (left_held deadline) o) (held_at s (CacheOf file party))
    at o e = begun_cache s c file party good ∙ ap (λ (x : Option (Claim × Option CacheKind)). else_was (option_map (left_held deadline) x) (held_at s (CacheOf file party))) e

    by : (o : Option (Claim × Option CacheKind)) → find (is_break_on file party) told ≡ o → IfSome o (λ b. IsIn b told × (is_break_on file party b ≡ true)) → (held_at s (CacheOf file party) ≡ Cache kind (Some running) ∷ []) ⊎ IsAnnounced file party running.target (breaks_begun c s).0
    by None e found = inl (sym (at None e) ∙ runs)
    by (Some b) e found =
        let on = on_parts file party b.0 found.1 in
        let from = told_from b (breaks_begun c s).0 found.0 in
        let left = sym (left_is b.0 deadline b.0.what b.1 on.0) ∙ (sym (at (Some b) e) ∙ runs) in
        let target : b.1 ≡ running.target = kept_target deadline b.0.what b.1 kind running on.0 left in
        inr (b.0, from.0, subst (λ (to : Option CacheKind). IsIn (Begun b.0 to from.0) (breaks_begun c s).0) target from.1, on.1, on.2)

way_are_told : (asked : List Claim) (s : CoreState) (turn : Turned) → IsGood s → IsWayOf s asked turn → AreTold s turn.1 turn.0
way_are_told asked s turn good (Still e) = subst (λ (w : Turned). AreTold s w.1 w.0) (sym e) (λ file party kind running runs. inl runs)
way_are_told asked s turn good (Breaks c cs is e) = subst (λ (w : Turned). AreTold s w.1 w.0) (sym e) (begun_are_told s c good)

-- ---- the number of a call

some_call : (last : ℕ) (b : Claim × Option CacheKind) → is_some (call_of last b) ≡ is_recalled b.0.party
some_call last b = by (is_recall b)
  where
    by : (is : Bool) → is_some (if is then Some (last + 1) else None) ≡ is
    by true = refl
    by false = refl

same_begun : (c cache : Claim) (left to : Option CacheKind) (number call : Option ℕ) → Begun c left number ≡ Begun cache to call → (c ≡ cache) × (number ≡ call)
same_begun c cache left to number call e = (cc, cc)

told_numbered : (last : ℕ) (bs : List (Claim × Option CacheKind)) → AreNumbered (begun_told last bs)
told_numbered last [] cache to call never = absurd never
told_numbered last (b ∷ bs) cache to call (inl e) =
    let same = same_begun b.0 cache b.1 to (call_of last b) call e in
    sym (ap (λ (o : Option ℕ). is_some o) same.1) ∙ some_call last b ∙ ap (λ (c : Claim). is_recalled c.party) same.0
told_numbered last (b ∷ bs) cache to call (inr later) = told_numbered (last_of last (call_of last b)) bs cache to call later

begun_numbered : (s : CoreState) (c : Claim) → AreNumbered (breaks_begun c s).0
unfolding breaks_begun
begun_numbered s c = told_numbered s.counter (breaks_in_order c s)

way_numbered : (asked : List Claim) (s : CoreState) (turn : Turned) → IsWayOf s asked turn → AreNumbered turn.0
way_numbered asked s turn (Still e) = subst (λ (w : Turned). AreNumbered w.0) (sym e) (λ cache to call never. absurd never)
way_numbered asked s turn (Breaks c cs is e) = subst (λ (w : Turned). AreNumbered w.0) (sym e) (begun_numbered s c)

-- ---- a wish

resting : (a kind : CacheKind) (running : Break) → (Cache a None ∷ []) ≡ (Cache kind (Some running) ∷ []) → ⊥
resting a kind running e = cc

wish_told : (wanted : Wish) (s t : CoreState) (effects : List Effect) → IsGood t → AreTold s t effects → AreTold s (wish_granted wanted t) effects
wish_told wanted s t effects good each file party kind running runs = by (wished_kind wanted t) refl
  where
    at : (o : Option CacheKind) → wished_kind wanted t ≡ o → else_was (wished_at wanted o file party) (held_at t (CacheOf file party)) ≡ Cache kind (Some running) ∷ []
    at o e = sym (wish_cache wanted t file party good ∙ ap (λ (x : Option CacheKind). else_was (wished_at wanted x file party) (held_at t (CacheOf file party))) e) ∙ runs

    here_or : (raise : CacheKind) (b : Bool) → else_was (if b then Some (Cache raise None ∷ []) else None) (held_at t (CacheOf file party)) ≡ Cache kind (Some running) ∷ [] → (held_at s (CacheOf file party) ≡ Cache kind (Some running) ∷ []) ⊎ IsAnnounced file party running.target effects
    here_or raise false e = each file party kind running e
    here_or raise true e = absurd (resting raise kind running e)

    by : (o : Option CacheKind) → wished_kind wanted t ≡ o → (held_at s (CacheOf file party) ≡ Cache kind (Some running) ∷ []) ⊎ IsAnnounced file party running.target effects
    by None e = each file party kind running (at None e)
    by (Some raise) e = here_or raise ((wanted.file == file) && same_parties wanted.party party) (at (Some raise) e)

for_told : (kinds : List CacheKind) (answer : Answer) (s t : CoreState) (effects : List Effect) → IsGood t → AreTold s t effects → AreTold s (wish_for kinds answer t) effects
for_told kinds (answers.Granted c) s t effects good each = wish_told (wish_of kinds c) s t effects good each
for_told kinds (answers.Queued number) s t effects good each = each
for_told kinds (answers.Conflict c) s t effects good each = each
for_told kinds (answers.Recall c) s t effects good each = each
for_told kinds (answers.Grace until) s t effects good each = each
for_told kinds (answers.NoGrace clock) s t effects good each = each
for_told kinds answers.NotRecorded s t effects good each = each
for_told kinds (answers.Full limit) s t effects good each = each
for_told kinds answers.NotHeld s t effects good each = each
for_told kinds answers.StoreFailed s t effects good each = each

-- ---- an ask

ask_told : (n : ℕ) (left : Rooms) (s : CoreState) (a : Ask) → IsGood s → IsFit a → AreTold s (ask n left s a).2 (way left s a).0
unfolding ask
ask_told n left s a good fit = by (does_wish a.act)
  where
    u : CoreState
    u = (before_wish n left s a).2

    decided_so : AreTold s u (way left s a).0
    decided_so = same_told s (way left s a).1 u (way left s a).0 (before_same n left s a good fit) (way_are_told (asked_claims a (asked_whats a.act) s.names) s (way left s a) good (ask_way left s a))

    by : (b : Bool) → AreTold s (if b then wish_for a.wish (before_wish n left s a).0 u else u) (way left s a).0
    by true = for_told a.wish (before_wish n left s a).0 s u (way left s a).0 (before_good n left s a good fit) decided_so
    by false = decided_so

ask_announces : (n : ℕ) (left : Rooms) (s : CoreState) (a : Ask) → IsGood s → IsFit a → AreAnnounced s (ask n left s a).2 (ask n left s a).1
ask_announces n left s a good fit =
    subst (λ (effects : List Effect). AreAnnounced s (ask n left s a).2 effects) (sym (ask_quiet n left s a good fit.party))
    (record { told = ask_told n left s a good fit; numbered = way_numbered (asked_claims a (asked_whats a.act) s.names) s (way left s a) (ask_way left s a) })

-- ---- a turn

abbrev Announces : CoreState → Turned → Type 0
Announces s turn = AreAnnounced s turn.1 turn.0

first_announces : (n : ℕ) (left : Rooms) (s : CoreState) (turn : Turned) → IsGood s → IsFirst n left s [] s.waiters turn → Announces s turn
first_announces n left s turn good first = by first.moved
  where
    w : Waiter
    w = first.waiter

    way : Turned
    way = way_again first.before s w

    all : List Claim
    all = first.claim ∷ first.claims

    told_so : AreTold s way.1 way.0
    told_so = way_are_told w.asked s way good (turn_way first.before s w)

    numbered_so : AreNumbered way.0
    numbered_so = way_numbered w.asked s way (turn_way first.before s w)

    by : IsMoved n left first.before s w first.claim first.claims turn → Announces s turn
    by (Answers answer tells new due pass clear) =
        let u = once_answered way.1 w all answer in
        let same : caches_of u.claims ≡ caches_of way.1.claims = once_cases (λ cs. caches_of cs ≡ caches_of way.1.claims) all way.1.claims answer refl (all_granted_caches all way.1.claims) in
        let effects = way.0 ++ Served w.party w.id answer ∷ [] in
        let each : AreTold s (wish_for w.wish answer u) effects = for_told w.wish answer s u effects (served_good n left s turn first good answer pass).0 (more_told s u way.0 (Served w.party w.id answer ∷ []) (same_told s way.1 u way.0 same told_so)) in
        record {
          told = subst (λ (t : CoreState). AreTold s t turn.0) (sym new) (subst (λ (es : List Effect). AreTold s (wish_for w.wish answer u) es) (sym tells) each);
          numbered = λ cache to call here. numbered_so cache to call (begun_before way.0 w.party w.id answer cache to call (subst (λ (es : List Effect). IsIn (Begun cache to call) es) tells here));
        }
    by (Rests e up) = subst (Announces s) (sym e) (record { told = told_so; numbered = numbered_so })

turned_announces : (s : CoreState) (o : Option Turned) → IfSome o (Announces s) → Announces s ((turned s o).1, (turned s o).2)
turned_announces s None each = record { told = λ file party kind running runs. inl runs; numbered = λ cache to call never. absurd never }
turned_announces s (Some r) each = each

-- ---- each deed

pub deed_announces : (n : ℕ) (s : CoreState) (d : Deed) → IsGood s → IsFitDeed s d → IsAnnouncing n s d
deed_announces n s (Asks left a) good fit = ask_announces n left s a good fit
deed_announces n s (Serves left) good fit = turned_announces s (settle n left s) (each_turn n left s (Announces s) good (λ turn first. first_announces n left s turn good first))
deed_announces n s d good fit = tt

-- ---- a machine that doesn't

-- one has a break begin and tells nobody of it
pub untold_is : (s t : CoreState) (file : ℕ) (party : Party) (kind : CacheKind) (running : Break) → held_at s (CacheOf file party) ≡ Cache kind None ∷ [] → held_at t (CacheOf file party) ≡ Cache kind (Some running) ∷ [] → AreAnnounced s t [] → ⊥
untold_is s t file party kind running idle runs announced =
    elim (announced.told file party kind running runs) [
      | inl ran ↦ resting kind kind running (sym idle ∙ ran)
      | inr told ↦ told.2
    ]
