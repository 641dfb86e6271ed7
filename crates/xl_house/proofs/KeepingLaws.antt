-- A party's cache on a file is kept by each deed that doesn't end it, unless it is told that it is gone.
use Rattle.std.proofs.Common.{◌≡◌, ℕ, Bool, true, false, inl, inr, Option, Some, None, List, [], ◌∷◌, refl, sym, ap, subst, ◌∙◌}
use Rattle.std.specs.Prelude.{◌==◌, ◌&&◌, not, if◌then◌else◌, IfSome, filter, find, option_map}
use Rattle.std.specs.List.{list_any}
use Rattle.std.proofs.lemmas.Bool.{both_ways, cases_Bool, and_parts, and_from, or_parts, eq-eqb, eqb-true}
use Rattle.xl_base.proofs.Members.{in_filter, in_map}
use Rattle.xl_base.proofs.Searches.{any_from, any_none, find_in}
use Rattle.xl_base.proofs.SortLaws.{in_sorted_from}
use Rattle.xl_base.specs.Lists.{IsIn}
use Rattle.xl_base.specs.declared.event.Moment.{Moment}
use Rattle.xl_base.specs.declared.name.Owner.TheVariants as owners
use Rattle.xl_base.specs.declared.name.Party.{Party}
use Rattle.xl_base.specs.declared.name.Party.TheVariants as parties
use Rattle.xl_matrix.proofs.EqualLaws.{same_parties-self, same_parties-sym, same_parties-true}
use Rattle.xl_matrix.proofs.OrderLaws.{weaker-on, weaker-self}
use Rattle.xl_matrix.specs.Equal.{same_parties}
use Rattle.xl_matrix.specs.Kinds.{kind_lies_within}
use Rattle.xl_matrix.specs.Weaker.{weaker, weaker_by}
use Rattle.xl_matrix.specs.declared.claim.Break.{Break}
use Rattle.xl_matrix.specs.declared.claim.CacheKind.{CacheKind}
use Rattle.xl_matrix.specs.declared.claim.Claim.{Claim}
use Rattle.xl_matrix.specs.declared.claim.What.{What}
use Rattle.xl_matrix.specs.declared.claim.What.TheVariants.{Share, Range, Cache}
use Rattle.xl_cache.proofs.BreakPlanLaws.{names_only}
use Rattle.xl_cache.specs.BreakPlans.{planned}
use Rattle.xl_cache.specs.declared.wish.Wish.{Wish}
use Rattle.xl_names.specs.declared.name.Name.TheVariants.{NfsParty}
use Rattle.xl_table.specs.Flat.{with_what}
use Rattle.xl_table.specs.Held.{is_cache}
use Rattle.xl_table.specs.Leaving.{is_some_party}
use Rattle.xl_wait.specs.declared.waiter.Rooms.{Rooms}
use Rattle.xl_wait.specs.declared.waiter.Waiter.{Waiter}
use Rattle.xl_core.specs.State.{CoreState}
use Rattle.xl_core.specs.Askers.{party_named, asked_whats, asked_claims, IsFit}
use Rattle.xl_core.specs.BreakAnswers.{client_of}
use Rattle.xl_core.specs.BreaksBegun.{breaks_begun, breaks_told, is_break_on, left_held, told_before}
use Rattle.xl_core.specs.Decide.{way, before_wish, does_wish, ask}
use Rattle.xl_core.specs.Deeds.{Deed, Asks, GivesBack, Weakens, Acks, Cancels, Ends, Closes, Serves, Draws, Advances, Lapses, Renews, Expires, FailsStore, EndsGrace, given, done, all_done, all_told_of, turned, IsFitDeed, AreFit}
use Rattle.xl_core.specs.Good.{caches_of, IsGood}
use Rattle.xl_core.specs.Leases.{moment_after}
use Rattle.xl_core.specs.Places.{CacheOf, acked_at, cleared_at, cleared_by, cleared_if, else_was, ended_at, ended_some, entered_by, held_at, held_in, is_cache_on, lapsed_at, made, part_by}
use Rattle.xl_core.specs.Settle.{settle, way_again}
use Rattle.xl_core.specs.Wishes.{wished_kind, wish_for, wish_granted, wish_of, wished_at}
use Rattle.xl_core.specs.declared.ask.Answer.{Answer}
use Rattle.xl_core.specs.declared.ask.Answer.TheVariants as answers
use Rattle.xl_core.specs.declared.ask.Ask.{Ask}
use Rattle.xl_core.specs.declared.ask.Effect.{Effect}
use Rattle.xl_core.specs.declared.ask.Effect.TheVariants.{Begun, Served, Cancelled, Expired}
use Rattle.xl_core.proofs.BreaksBegunLaws.{begun_breaks, begun_cache}
use Rattle.xl_core.proofs.CacheLaws.{all_granted_caches}
use Rattle.xl_core.proofs.CachePlaces.{held_of_caches, on_parts}
use Rattle.xl_core.proofs.ChangeLaws.{decided_caches}
use Rattle.xl_core.proofs.DeedLaws.{deed_good, deed_makes}
use Rattle.xl_core.proofs.FrameLaws.{ask_quiet}
use Rattle.xl_core.proofs.GoodLaws.{Turned, IsMoved, Answers, Rests, IsFirst, asked_way_good, before_good, each_turn, once_answered, served_good}
use Rattle.xl_core.proofs.SettleLaws.{once_cases}
use Rattle.xl_core.proofs.WishLaws.{wish_cache}
use Rattle.xl_house.specs.Breaking.{is_given_up, kept_by}
use Rattle.xl_house.specs.Keeping.{is_of_place, lapses_there, ends_cache, any_ends_cache, tells_gone, IsHeldOf}
use Rattle.xl_house.specs.Wished.{IsChosen, Chosen, Joined}
use Rattle.xl_house.proofs.BreakingLaws.{IsWayOf, Still, Breaks, ask_way, turn_way, left_is}
use Rattle.xl_house.proofs.Splits.{none_of_each}
use Rattle.xl_house.proofs.WishedLaws.{granted_chosen, wished_parts}

-- ---- kinds

at_kind : CacheKind → Claim
at_kind kind = record { file = 0; owner = owners.Open 0; party = parties.Open 0; what = Cache kind None }

kinds_self : (kind : CacheKind) → kind_lies_within kind kind ≡ true
unfolding at_kind weaker weaker_by
kinds_self kind = weaker-self (at_kind kind)

kinds_on : (a b c : CacheKind) → kind_lies_within a b ≡ true → kind_lies_within b c ≡ true → kind_lies_within a c ≡ true
unfolding at_kind weaker weaker_by
kinds_on a b c h k = weaker-on (at_kind a) (at_kind b) (at_kind c) h k

same_cache : (a b : CacheKind) (x y : Option Break) → (Cache a x ∷ []) ≡ (Cache b y ∷ []) → a ≡ b
same_cache a b x y e = cc

same_held : {kind : CacheKind} {had has : List What} → has ≡ had → IsHeldOf kind had → IsHeldOf kind has
same_held {kind} e held = subst (λ (x : List What). IsHeldOf kind x) (sym e) held

-- ---- a break

pub told_from : (b : Claim × Option CacheKind) (told : List Effect) → IsIn b (breaks_told told) → (call : Option ℕ) × IsIn (Begun b.0 b.1 call) told
told_from b [] never = absurd never
told_from b (Begun c to call ∷ told) (inl e) = (call, inl (λ i. Begun (e i).0 (e i).1 call))
told_from b (Begun c to call ∷ told) (inr later) = let rest = told_from b told later in (rest.0, inr rest.1)
told_from b (Served party id answer ∷ told) here = let rest = told_from b told here in (rest.0, inr rest.1)
told_from b (Cancelled party id ∷ told) here = let rest = told_from b told here in (rest.0, inr rest.1)
told_from b (Expired client ∷ told) here = let rest = told_from b told here in (rest.0, inr rest.1)

-- what is held there is the cache's
only_there : (file : ℕ) (party : Party) (cs : List Claim) (c : Claim) (w : What) → held_in cs (CacheOf file party) ≡ w ∷ [] → IsIn c cs → is_cache_on file party c ≡ true → c.what ≡ w
only_there file party cs c w alone here on =
    elim (subst (λ (ws : List What). IsIn c.what ws) alone (in_map (λ (x : Claim). x.what) c (filter (is_cache_on file party) cs) (in_filter (is_cache_on file party) c cs here on))) [
      | inl e ↦ sym e
      | inr never ↦ absurd never
    ]

begun_keeps : (s : CoreState) (c : Claim) (file : ℕ) (party : Party) (kind : CacheKind) → IsGood s → list_any (tells_gone file party) (breaks_begun c s).0 ≡ false → IsHeldOf kind (held_at s (CacheOf file party)) → IsHeldOf kind (held_at (breaks_begun c s).1 (CacheOf file party))
begun_keeps s c file party kind good quiet held = by (find (is_break_on file party) told) refl (find_in (is_break_on file party) told) where
  deadline : Moment
  deadline = moment_after s.clock s.times.break_time

  told : List (Claim × Option CacheKind)
  told = breaks_told (breaks_begun c s).0

  had : List What
  had = held_at s (CacheOf file party)

  at : (o : Option (Claim × Option CacheKind)) → find (is_break_on file party) told ≡ o → held_at (breaks_begun c s).1 (CacheOf file party) ≡ else_was (option_map (left_held deadline) o) had
  at o e = begun_cache s c file party good ∙ ap (λ (x : Option (Claim × Option CacheKind)). else_was (option_map (left_held deadline) x) had) e

  still : (w : What) (to : Option CacheKind) → w ≡ Cache held.now held.running → is_given_up w to ≡ false → IsHeldOf kind (kept_by deadline w to)
  still w to e stays =
      subst (λ (x : What). is_given_up x to ≡ false → IsHeldOf kind (kept_by deadline x to)) (sym e)
      (λ h. subst (λ (b : Bool). IsHeldOf kind (if b then [] else Cache held.now (Some (record { target = to; deadline = deadline })) ∷ [])) (sym h) (record { now = held.now; running = Some (record { target = to; deadline = deadline }); is = refl; within = held.within }))
      stays

  by : (o : Option (Claim × Option CacheKind)) → find (is_break_on file party) told ≡ o → IfSome o (λ b. IsIn b told × (is_break_on file party b ≡ true)) → IsHeldOf kind (held_at (breaks_begun c s).1 (CacheOf file party))
  by None e found = same_held (at None e) held
  by (Some b) e found =
      let among = in_sorted_from (told_before s.names) b (planned c s.claims).breaks (subst (λ (bs : List (Claim × Option CacheKind)). IsIn b bs) (begun_breaks s c) found.0) in
      let there = ((names_only c s.claims).begun b among).0 in
      let on = on_parts file party b.0 found.1 in
      let what = only_there file party s.claims b.0 (Cache held.now held.running) held.is there found.1 in
      let place : is_of_place file party b.0 ≡ true = and_from (b.0.file == file) (same_parties b.0.party party) (eq-eqb b.0.file file on.1) (subst (λ (p : Party). same_parties b.0.party p ≡ true) on.2 (same_parties-self b.0.party)) in
      let from = told_from b (breaks_begun c s).0 found.0 in
      let stays : is_given_up b.0.what b.1 ≡ false = elim (cases_Bool (is_given_up b.0.what b.1)) [
        | inr f ↦ f
        | inl t ↦ absurd (both_ways (list_any (tells_gone file party) (breaks_begun c s).0) quiet (any_from (tells_gone file party) (Begun b.0 b.1 from.0) (breaks_begun c s).0 from.1 (and_from (is_of_place file party b.0) (is_given_up b.0.what b.1) place t)))
      ] in
      same_held (at (Some b) e ∙ left_is b.0 deadline b.0.what b.1 on.0) (still b.0.what b.1 what stays)

way_keeps_cache : (asked : List Claim) (s : CoreState) (way : Turned) (file : ℕ) (party : Party) (kind : CacheKind) → IsGood s → IsWayOf s asked way → list_any (tells_gone file party) way.0 ≡ false → IsHeldOf kind (held_at s (CacheOf file party)) → IsHeldOf kind (held_at way.1 (CacheOf file party))
way_keeps_cache asked s way file party kind good (Still e) quiet held = same_held (ap (λ (w : Turned). held_at w.1 (CacheOf file party)) e) held
way_keeps_cache asked s way file party kind good (Breaks c cs is e) quiet held =
    same_held (ap (λ (w : Turned). held_at w.1 (CacheOf file party)) e) (begun_keeps s c file party kind good (sym (ap (λ (w : Turned). list_any (tells_gone file party) w.0) e) ∙ quiet) held)

-- ---- a wish

wish_keeps_cache : (wanted : Wish) (s : CoreState) (file : ℕ) (party : Party) (kind : CacheKind) → IsGood s → IsHeldOf kind (held_at s (CacheOf file party)) → IsHeldOf kind (held_at (wish_granted wanted s) (CacheOf file party))
wish_keeps_cache wanted s file party kind good held = by (wished_kind wanted s) refl where
  had : List What
  had = held_at s (CacheOf file party)

  at : (o : Option CacheKind) → wished_kind wanted s ≡ o → held_at (wish_granted wanted s) (CacheOf file party) ≡ else_was (wished_at wanted o file party) had
  at o e = wish_cache wanted s file party good ∙ ap (λ (x : Option CacheKind). else_was (wished_at wanted x file party) had) e

  raised : (raise : CacheKind) → IsChosen wanted.kinds had raise → IsHeldOf kind (Cache raise None ∷ [])
  raised raise (Chosen none here) = absurd (empty none) where
    empty : had ≡ [] → ⊥
    empty none = let e : (Cache held.now held.running ∷ []) ≡ [] = sym held.is ∙ none in absurd cc
  raised raise (Joined own choice is among least) =
      let same : held.now ≡ own = same_cache held.now own held.running None (sym held.is ∙ is) in
      record { now = raise; running = None; is = refl; within = kinds_on kind held.now raise held.within (subst (λ (k : CacheKind). kind_lies_within k raise ≡ true) (sym same) least.above) }

  here_or : (raise : CacheKind) (b : Bool) → ((wanted.file == file) && same_parties wanted.party party) ≡ b → IsChosen wanted.kinds (held_at s (CacheOf wanted.file wanted.party)) raise → IsHeldOf kind (else_was (if b then Some (Cache raise None ∷ []) else None) had)
  here_or raise false e chosen = held
  here_or raise true e chosen =
      let both = and_parts (wanted.file == file) (same_parties wanted.party party) e in
      raised raise
      (subst (λ (p : Party). IsChosen wanted.kinds (held_at s (CacheOf file p)) raise) (same_parties-true wanted.party party both.1)
      (subst (λ (n : ℕ). IsChosen wanted.kinds (held_at s (CacheOf n wanted.party)) raise) (eqb-true wanted.file file both.0) chosen))

  by : (o : Option CacheKind) → wished_kind wanted s ≡ o → IsHeldOf kind (held_at (wish_granted wanted s) (CacheOf file party))
  by None e = same_held (at None e) held
  by (Some raise) e = same_held (at (Some raise) e) (here_or raise ((wanted.file == file) && same_parties wanted.party party) refl (granted_chosen wanted s.claims raise good.single (wished_parts wanted s raise e).1))

for_keeps_cache : (kinds : List CacheKind) (answer : Answer) (s : CoreState) (file : ℕ) (party : Party) (kind : CacheKind) → IsGood s → IsHeldOf kind (held_at s (CacheOf file party)) → IsHeldOf kind (held_at (wish_for kinds answer s) (CacheOf file party))
for_keeps_cache kinds (answers.Granted c) s file party kind good held = wish_keeps_cache (wish_of kinds c) s file party kind good held
for_keeps_cache kinds (answers.Queued number) s file party kind good held = held
for_keeps_cache kinds (answers.Conflict c) s file party kind good held = held
for_keeps_cache kinds (answers.Recall c) s file party kind good held = held
for_keeps_cache kinds (answers.Grace until) s file party kind good held = held
for_keeps_cache kinds (answers.NoGrace clock) s file party kind good held = held
for_keeps_cache kinds answers.NotRecorded s file party kind good held = held
for_keeps_cache kinds (answers.Full limit) s file party kind good held = held
for_keeps_cache kinds answers.NotHeld s file party kind good held = held
for_keeps_cache kinds answers.StoreFailed s file party kind good held = held

-- ---- an ask, and a turn

pub before_same : (n : ℕ) (left : Rooms) (s : CoreState) (a : Ask) → IsGood s → IsFit a → caches_of (before_wish n left s a).2.claims ≡ caches_of (way left s a).1.claims
unfolding before_wish
before_same n left s a good fit = decided_caches n left (way left s a).1 a (asked_way_good left s a good) fit.party

ask_keeps_cache : (n : ℕ) (left : Rooms) (s : CoreState) (a : Ask) (file : ℕ) (party : Party) (kind : CacheKind) → IsGood s → IsFit a → list_any (tells_gone file party) (ask n left s a).1 ≡ false → IsHeldOf kind (held_at s (CacheOf file party)) → IsHeldOf kind (held_at (ask n left s a).2 (CacheOf file party))
unfolding ask
ask_keeps_cache n left s a file party kind good fit quiet held = by (does_wish a.act) where
  u : CoreState
  u = (before_wish n left s a).2

  made_so : IsHeldOf kind (held_at (way left s a).1 (CacheOf file party))
  made_so = way_keeps_cache (asked_claims a (asked_whats a.act) s.names) s (way left s a) file party kind good (ask_way left s a) (sym (ap (λ (told : List Effect). list_any (tells_gone file party) told) (ask_quiet n left s a good fit.party)) ∙ quiet) held

  decided_so : IsHeldOf kind (held_at u (CacheOf file party))
  decided_so = same_held (held_of_caches file party (way left s a).1.claims u.claims (before_same n left s a good fit)) made_so

  by : (b : Bool) → IsHeldOf kind (held_at (if b then wish_for a.wish (before_wish n left s a).0 u else u) (CacheOf file party))
  by true = for_keeps_cache a.wish (before_wish n left s a).0 u file party kind (before_good n left s a good fit) decided_so
  by false = decided_so

first_keeps_cache : (n : ℕ) (left : Rooms) (s : CoreState) (turn : Turned) (file : ℕ) (party : Party) (kind : CacheKind) → IsGood s → IsFirst n left s [] s.waiters turn → list_any (tells_gone file party) turn.0 ≡ false → IsHeldOf kind (held_at s (CacheOf file party)) → IsHeldOf kind (held_at turn.1 (CacheOf file party))
first_keeps_cache n left s turn file party kind good first quiet held = by first.moved where
  w : Waiter
  w = first.waiter

  way : Turned
  way = way_again first.before s w

  all : List Claim
  all = first.claim ∷ first.claims

  made_so : list_any (tells_gone file party) way.0 ≡ false → IsHeldOf kind (held_at way.1 (CacheOf file party))
  made_so none = way_keeps_cache w.asked s way file party kind good (turn_way first.before s w) none held

  by : IsMoved n left first.before s w first.claim first.claims turn → IsHeldOf kind (held_at turn.1 (CacheOf file party))
  by (Answers answer told new due pass clear) =
      let u = once_answered way.1 w all answer in
      let same : caches_of u.claims ≡ caches_of way.1.claims = once_cases (λ cs. caches_of cs ≡ caches_of way.1.claims) all way.1.claims answer refl (all_granted_caches all way.1.claims) in
      let none = (none_of_each (tells_gone file party) way.0 (Served w.party w.id answer ∷ []) (sym (ap (λ (effects : List Effect). list_any (tells_gone file party) effects) told) ∙ quiet)).0 in
      same_held (ap (λ (x : CoreState). held_at x (CacheOf file party)) new)
      (for_keeps_cache w.wish answer u file party kind (served_good n left s turn first good answer pass).0 (same_held (held_of_caches file party way.1.claims u.claims same) (made_so none)))
  by (Rests e up) =
      same_held (ap (λ (x : Turned). held_at x.1 (CacheOf file party)) e) (made_so (sym (ap (λ (x : Turned). list_any (tells_gone file party) x.0) e) ∙ quiet))

abbrev TurnKeeps : CoreState → ℕ → Party → CacheKind → Turned → Type 0
TurnKeeps s file party kind turn = list_any (tells_gone file party) turn.0 ≡ false → IsHeldOf kind (held_at s (CacheOf file party)) → IsHeldOf kind (held_at turn.1 (CacheOf file party))

turned_keeps : (s : CoreState) (file : ℕ) (party : Party) (kind : CacheKind) (o : Option Turned) → IfSome o (TurnKeeps s file party kind) → TurnKeeps s file party kind ((turned s o).1, (turned s o).2)
turned_keeps s file party kind None each = λ quiet held. held
turned_keeps s file party kind (Some r) each = each

-- ---- the others

-- what isn't of the place leaves it
apart_part : (file : ℕ) (party : Party) (c : Claim) (w : What) → is_of_place file party c ≡ false → (if is_cache w && is_of_place file party c then part_by w (CacheOf file party) else []) ≡ []
apart_part file party c (Cache kind running) apart = ap (λ (b : Bool). if b then Cache kind running ∷ [] else []) apart
apart_part file party c (Share access deny) apart = refl
apart_part file party c (Range extent exclusive) apart = refl

cleared_apart : (file : ℕ) (party : Party) (c : Claim) → is_of_place file party c ≡ false → cleared_at c (CacheOf file party) ≡ None
cleared_apart file party c apart = ap cleared_by (apart_part file party c c.what apart)

acked_apart : (file : ℕ) (party : Party) (c : Claim) (to : Option CacheKind) → is_of_place file party c ≡ false → acked_at c to (CacheOf file party) ≡ None
acked_apart file party c None apart = cleared_apart file party c apart
acked_apart file party c (Some kind) apart = ap entered_by (apart_part file party (with_what c (Cache kind None)) (Cache kind None) apart)

ended_apart : (file : ℕ) (party other : Party) (cs : List Claim) → same_parties other party ≡ false → ended_at cs other (CacheOf file party) ≡ None
ended_apart file party other cs apart = ap (λ (b : Bool). if b then Some (held_in (filter (λ c. not (same_parties c.party other)) cs) (CacheOf file party)) else None) (any_none (λ c. if is_cache_on file party c then same_parties c.party other else false) cs (λ c here. by c (is_cache_on file party c) refl)) where
  by : (c : Claim) (b : Bool) → is_cache_on file party c ≡ b → (if is_cache_on file party c then same_parties c.party other else false) ≡ false
  by c false e = ap (λ (b : Bool). if b then same_parties c.party other else false) e
  by c true e = ap (λ (b : Bool). if b then same_parties c.party other else false) e ∙ ap (λ (p : Party). same_parties p other) (on_parts file party c e).2 ∙ same_parties-sym party other ∙ apart

some_apart : (file : ℕ) (party : Party) (o : Option Party) (cs : List Claim) → is_some_party o party ≡ false → ended_some cs o (CacheOf file party) ≡ None
some_apart file party None cs apart = refl
some_apart file party (Some other) cs apart = ended_apart file party other cs (same_parties-sym other party ∙ apart)

lapsed_apart : (s : CoreState) (file : ℕ) (party : Party) (cache : Claim) (client : Option (List ℕ)) → lapses_there s.names file party cache client ≡ false → lapsed_at s cache client (CacheOf file party) ≡ None
lapsed_apart s file party cache None apart = cleared_apart file party cache apart
lapsed_apart s file party cache (Some client) apart = some_apart file party (party_named s.names (NfsParty client)) s.claims apart

unmade : (n : ℕ) (s : CoreState) (d : Deed) (file : ℕ) (party : Party) (kind : CacheKind) → IsGood s → IsFitDeed s d → made n s d (CacheOf file party) ≡ None → IsHeldOf kind (held_at s (CacheOf file party)) → IsHeldOf kind (held_at (done n s d) (CacheOf file party))
unmade n s d file party kind good fit none held = same_held (deed_makes n s d (CacheOf file party) good fit ∙ ap (λ (o : Option (List What)). else_was o (held_at s (CacheOf file party))) none) held

-- ---- each deed

deed_keeps_cache : (n : ℕ) (s : CoreState) (d : Deed) (file : ℕ) (party : Party) (kind : CacheKind) → IsGood s → IsFitDeed s d → ends_cache s file party d ≡ false → list_any (tells_gone file party) (given n s d).1 ≡ false → IsHeldOf kind (held_at s (CacheOf file party)) → IsHeldOf kind (held_at (done n s d) (CacheOf file party))
deed_keeps_cache n s (Asks left a) file party kind good fit lasts quiet held = ask_keeps_cache n left s a file party kind good fit quiet held
deed_keeps_cache n s (Serves left) file party kind good fit lasts quiet held =
    turned_keeps s file party kind (settle n left s) (each_turn n left s (TurnKeeps s file party kind) good (λ turn first quiet held. first_keeps_cache n left s turn file party kind good first quiet held)) quiet held
deed_keeps_cache n s (GivesBack claim) file party kind good fit lasts quiet held = unmade n s (GivesBack claim) file party kind good fit (cleared_apart file party claim lasts) held
deed_keeps_cache n s (Weakens share access deny) file party kind good fit lasts quiet held = unmade n s (Weakens share access deny) file party kind good fit refl held
deed_keeps_cache n s (Acks cache to) file party kind good fit lasts quiet held = unmade n s (Acks cache to) file party kind good fit (acked_apart file party cache to lasts) held
deed_keeps_cache n s (Cancels id) file party kind good fit lasts quiet held = unmade n s (Cancels id) file party kind good fit refl held
deed_keeps_cache n s (Ends other) file party kind good fit lasts quiet held = unmade n s (Ends other) file party kind good fit (ended_apart file party other s.claims lasts) held
deed_keeps_cache n s Draws file party kind good fit lasts quiet held = unmade n s Draws file party kind good fit refl held
deed_keeps_cache n s (Advances now) file party kind good fit lasts quiet held = unmade n s (Advances now) file party kind good fit refl held
deed_keeps_cache n s (Lapses cache) file party kind good fit lasts quiet held = unmade n s (Lapses cache) file party kind good fit (lapsed_apart s file party cache (client_of s.names cache.party) lasts) held
deed_keeps_cache n s (Renews client) file party kind good fit lasts quiet held = unmade n s (Renews client) file party kind good fit refl held
deed_keeps_cache n s (Expires client) file party kind good fit lasts quiet held = unmade n s (Expires client) file party kind good fit (some_apart file party (party_named s.names (NfsParty client)) s.claims lasts) held
deed_keeps_cache n s (Closes number other) file party kind good fit lasts quiet held = unmade n s (Closes number other) file party kind good fit (ap cleared_if lasts) held
deed_keeps_cache n s (FailsStore stable) file party kind good fit lasts quiet held = unmade n s (FailsStore stable) file party kind good fit refl held
deed_keeps_cache n s EndsGrace file party kind good fit lasts quiet held = unmade n s EndsGrace file party kind good fit refl held

pub deeds_keep_cache : (n : ℕ) (s : CoreState) (ds : List Deed) (file : ℕ) (party : Party) (kind : CacheKind) → IsGood s → AreFit n s ds → any_ends_cache n s file party ds ≡ false → list_any (tells_gone file party) (all_told_of n s ds) ≡ false → IsHeldOf kind (held_at s (CacheOf file party)) → IsHeldOf kind (held_at (all_done n s ds) (CacheOf file party))
deeds_keep_cache n s [] file party kind good fit lasts quiet held = held
deeds_keep_cache n s (d ∷ ds) file party kind good fit lasts quiet held =
    let ends = or_parts (ends_cache s file party d) (any_ends_cache n (done n s d) file party ds) lasts in
    let told = none_of_each (tells_gone file party) (given n s d).1 (all_told_of n (done n s d) ds) quiet in
    deeds_keep_cache n (done n s d) ds file party kind (deed_good n s d good fit.0) fit.1 ends.1 told.1 (deed_keeps_cache n s d file party kind good fit.0 ends.0 told.0 held)

-- a cache is held of itself
pub held_itself : (kind : CacheKind) (running : Option Break) (had : List What) → had ≡ Cache kind running ∷ [] → IsHeldOf kind had
held_itself kind running had e = record { now = kind; running = running; is = e; within = kinds_self kind }
