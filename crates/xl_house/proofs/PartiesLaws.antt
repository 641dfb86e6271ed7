-- What is held after a deed is held for a party that had, asked for or waited for something of its owner's there.
use Rattle.std.proofs.Common.{◌≡◌, ℕ, Bool, true, false, inl, inr, Option, Some, None, List, [], ◌∷◌, ◌++◌, map, refl, sym, ap, subst, ◌∙◌}
use Rattle.std.specs.Prelude.{not, if◌then◌else◌, IfSome, filter, find}
use Rattle.std.specs.List.{AllByRecursion, filter_map}
use Rattle.std.proofs.lemmas.Bool.{cases_Bool}
use Rattle.xl_base.proofs.Members.{all_in, all_from, in_append_right}
use Rattle.xl_base.proofs.Searches.{in_filter_map_from}
use Rattle.xl_base.specs.Lists.{IsIn}
use Rattle.xl_base.specs.declared.event.Moment.{Moment}
use Rattle.xl_base.specs.declared.name.Party.{Party}
use Rattle.xl_matrix.specs.declared.claim.CacheKind.{CacheKind}
use Rattle.xl_matrix.specs.declared.claim.Claim.{Claim}
use Rattle.xl_matrix.specs.declared.claim.Extent.TheVariants.{Bytes, Empty}
use Rattle.xl_matrix.specs.declared.claim.What.{What}
use Rattle.xl_matrix.specs.declared.claim.What.TheVariants.{Share, Range, Cache}
use Rattle.xl_matrix.specs.Equal.{same_claims}
use Rattle.xl_matrix.specs.Owners.{posix}
use Rattle.xl_cache.specs.BreakPlans.{blocking_shares, break_of, is_slow}
use Rattle.xl_cache.specs.Wishing.{is_its_cache, wished_claim}
use Rattle.xl_names.specs.declared.name.Name.{Name}
use Rattle.xl_names.specs.declared.name.Name.TheVariants.{NfsParty}
use Rattle.xl_spans.specs.Spans.{relocked}
use Rattle.xl_spans.specs.declared.span.Mode.{Mode}
use Rattle.xl_spans.specs.declared.span.Span.{Span}
use Rattle.xl_table.specs.Flat.{inserted, removed, changed, with_what}
use Rattle.xl_table.specs.Held.{mode_of, spans_of}
use Rattle.xl_table.specs.Leaving.{goes}
use Rattle.xl_table.specs.Relock.{all_inserted, granted_by, granted_claims, is_range_of, is_share_of, range_claim, relocked_in, shared_in, united, unranged, unshared}
use Rattle.xl_table.specs.Order.{goes_first}
use Rattle.xl_wait.specs.declared.waiter.Rooms.{Rooms}
use Rattle.xl_wait.specs.declared.waiter.Waiter.{Waiter}
use Rattle.xl_core.specs.State.{CoreState, drawn}
use Rattle.xl_core.specs.Askers.{asked_whats, asked_claims, party_named, IsFit}
use Rattle.xl_core.specs.BreakAnswers.{ack, client_of, with_rest}
use Rattle.xl_core.specs.BreaksBegun.{breaks_begun, once_begun, once_broken, with_break}
use Rattle.xl_core.specs.Decide.{way, before_wish, decided, does_wish, ask}
use Rattle.xl_core.specs.Deeds.{Deed, Asks, GivesBack, Weakens, Acks, Cancels, Ends, Closes, Serves, Draws, Advances, Lapses, Renews, Expires, FailsStore, EndsGrace, given, done, turned, IsFitDeed}
use Rattle.xl_core.specs.Good.{IsGood}
use Rattle.xl_core.specs.Judge.{all_granted, held_with}
use Rattle.xl_core.specs.Leases.{moment_after}
use Rattle.xl_core.specs.Settle.{settle, way_again, cancel, give_back, weaken, end_party, close_open}
use Rattle.xl_core.specs.Ticks.{advanced, end_some, expire, lapse, lapsed_by, renew}
use Rattle.xl_core.specs.Wishes.{cached, once_wished, wished_kind, wish_for, wish_granted, wish_of}
use Rattle.xl_core.specs.declared.ask.Answer.{Answer}
use Rattle.xl_core.specs.declared.ask.Answer.TheVariants as answers
use Rattle.xl_core.specs.declared.ask.Ask.{Ask}
use Rattle.xl_core.specs.declared.ask.Effect.{Effect}
use Rattle.xl_core.specs.declared.ask.Effect.TheVariants.{Served}
use Rattle.xl_core.proofs.ChangeLaws.{AskWay, Stays, Tests, Holds, Waits, Frees, Gives, decided_way}
use Rattle.xl_core.proofs.GoodLaws.{Turned, IsMoved, Answers, Rests, IsFirst, asked_way_good, each_turn, once_answered}
use Rattle.xl_core.proofs.AsideLaws.{with_aside, of_expire, failed_aside, grace_aside}
use Rattle.xl_core.proofs.SettleLaws.{once_cases}
use Rattle.xl_core.proofs.WayAsks.{ask_way_names}
use Rattle.xl_core.proofs.WishLaws.{found_own}
use Rattle.xl_house.specs.Parties.{IsAlike, IsAskedBy, IsHeldFor, AreHeldFor}
use Rattle.xl_house.proofs.BreakingLaws.{IsWayOf, Still, Breaks, among_all, ask_way, turn_way}

-- what holds of a claim, if it goes by file, owner and party alone
abbrev GoesBy : (Claim → Type 0) → Type 0
GoesBy P = (a b : Claim) → IsAlike a b → P b → P a

abbrev All : (Claim → Type 0) → List Claim → Type 0
All P cs = AllByRecursion P cs

inserted_all : (P : Claim → Type 0) (c : Claim) (cs : List Claim) → P c → All P cs → All P (inserted c cs)
unfolding inserted
inserted_all P c [] h all = (h, tt)
inserted_all P c (d ∷ ds) h all =
    elim (cases_Bool (goes_first d c)) [
      | inl early ↦ rw early (all.0, inserted_all P c ds h all.1)
      | inr late ↦ rw late (h, all)
    ]

each_inserted : (P : Claim → Type 0) (cs held : List Claim) → All P cs → All P held → All P (all_inserted cs held)
each_inserted P [] held more all = all
each_inserted P (c ∷ cs) held more all = each_inserted P cs (inserted c held) more.1 (inserted_all P c held more.0 all)

stayed_all : (P : Claim → Type 0) (test : Claim → Bool) (cs : List Claim) → All P cs → All P (filter test cs)
stayed_all P test [] all = tt
stayed_all P test (c ∷ cs) all =
    elim (cases_Bool (test c)) [
      | inl stays ↦ rw stays (all.0, stayed_all P test cs all.1)
      | inr goes ↦ rw goes (stayed_all P test cs all.1)
    ]

removed_all : (P : Claim → Type 0) (claim : Claim) (cs : List Claim) → All P cs → All P (removed claim cs)
removed_all P claim [] all = tt
removed_all P claim (c ∷ cs) all =
    elim (cases_Bool (same_claims c claim)) [
      | inl same ↦ rw same all.1
      | inr other ↦ rw other (all.0, removed_all P claim cs all.1)
    ]

changed_all : (P : Claim → Type 0) → GoesBy P → (claim : Claim) (to : What) (cs : List Claim) → P claim → All P cs → All P (changed claim to cs)
unfolding changed
changed_all P by claim to cs h all = inserted_all P (with_what claim to) (removed claim cs) (by (with_what claim to) claim (refl, refl, refl) h) (removed_all P claim cs all)

spans_all : (P : Claim → Type 0) → GoesBy P → (c : Claim) (spans : List Span) → P c → All P (map (range_claim c.file c.owner c.party) spans)
spans_all P by c [] h = tt
spans_all P by c (s ∷ spans) h = (by (range_claim c.file c.owner c.party s) c (refl, refl, refl) h, spans_all P by c spans h)

relocked_all : (P : Claim → Type 0) → GoesBy P → (c : Claim) (first last : ℕ) (mode : Option Mode) (cs : List Claim) → P c → All P cs → All P (relocked_in c.file c.owner c.party first last mode cs)
unfolding relocked_in unranged
relocked_all P by c first last mode cs h all =
    let spans = relocked (spans_of c.file c.owner cs) first last mode in
    let others = filter (λ d. not (is_range_of c.file c.owner d)) cs in
    each_inserted P (map (range_claim c.file c.owner c.party) spans) others (spans_all P by c spans h) (stayed_all P (λ d. not (is_range_of c.file c.owner d)) cs all)

shared_all : (P : Claim → Type 0) → GoesBy P → (c : Claim) (cs : List Claim) → P c → All P cs → All P (shared_in c cs)
unfolding shared_in unshared
shared_all P by c cs h all =
    inserted_all P (united c cs) (filter (λ d. not (is_share_of c.file c.owner d)) cs) (by (united c cs) c (refl, refl, refl) h) (stayed_all P (λ d. not (is_share_of c.file c.owner d)) cs all)

granted_all : (P : Claim → Type 0) → GoesBy P → (c : Claim) (cs : List Claim) → P c → All P cs → All P (granted_claims c cs)
unfolding granted_claims
granted_all P by c cs h all = go c.what where
  ranged : (first last : ℕ) (exclusive b : Bool) → All P (if b then relocked_in c.file c.owner c.party first last (Some (mode_of exclusive)) cs else inserted c cs)
  ranged first last exclusive true = relocked_all P by c first last (Some (mode_of exclusive)) cs h all
  ranged first last exclusive false = inserted_all P c cs h all

  go : (w : What) → All P (granted_by c w cs)
  go (Share access deny) = shared_all P by c cs h all
  go (Range (Bytes first last) exclusive) = ranged first last exclusive (posix c.owner)
  go (Range (Empty offset) exclusive) = inserted_all P c cs h all
  go (Cache kind running) = all

each_granted : (P : Claim → Type 0) → GoesBy P → (cs held : List Claim) → All P cs → All P held → All P (all_granted cs held)
each_granted P by [] held more all = all
each_granted P by (c ∷ cs) held more all = each_granted P by cs (granted_claims c held) more.1 (granted_all P by c held more.0 all)

-- ---- breaks and wishes

begun_alike : (deadline : Moment) (c d : Claim) (o : Option (Claim × Option CacheKind)) → once_begun deadline c o ≡ Some d → IsAlike d c
begun_alike deadline c d None e = same c d e where
  same : (c d : Claim) → Some c ≡ Some d → IsAlike d c
  same c d e = (cc, cc, cc)
begun_alike deadline c d (Some begun) e = by (is_slow begun) e where
  broken : (w : What) → IsAlike (with_break c w begun.1 deadline) c
  broken (Cache kind running) = (refl, refl, refl)
  broken (Share access deny) = (refl, refl, refl)
  broken (Range extent exclusive) = (refl, refl, refl)

  same : (x : Claim) → Some x ≡ Some d → IsAlike x c → IsAlike d c
  same x e is = let one : x ≡ d = cc in subst (λ (y : Claim). IsAlike y c) one is

  by : (b : Bool) → (if b then Some (with_break c c.what begun.1 deadline) else None) ≡ Some d → IsAlike d c
  by true e = same (with_break c c.what begun.1 deadline) e (broken c.what)
  by false e = absurd cc

broken_all : (P : Claim → Type 0) → GoesBy P → (asked : Claim) (s : CoreState) → All P s.claims → All P (breaks_begun asked s).1.claims
unfolding breaks_begun once_broken
broken_all P by asked s all =
    let deadline = moment_after s.clock s.times.break_time in
    let begun : Claim → Option Claim = λ c. once_begun deadline c (break_of asked (blocking_shares asked s.claims) c) in
    all_from P (filter_map begun s.claims) (λ d here.
    let from = in_filter_map_from begun d s.claims here in by d from.0 (begun_alike deadline from.0 d (break_of asked (blocking_shares asked s.claims) from.0) from.2) (all_in P from.0 s.claims all from.1))

way_all : (P : Claim → Type 0) → GoesBy P → (asked : List Claim) (s : CoreState) (way : Turned) → IsWayOf s asked way → All P s.claims → All P way.1.claims
way_all P by asked s way (Still e) all = subst (λ (w : Turned). All P w.1.claims) (sym e) all
way_all P by asked s way (Breaks c cs is e) all = subst (λ (w : Turned). All P w.1.claims) (sym e) (broken_all P by c s all)

cached_all : (P : Claim → Type 0) → GoesBy P → (c : Claim) (kinds : List CacheKind) (cs : List Claim) → P c → All P cs → (o : Option CacheKind) → All P (once_wished (wish_of kinds c) o cs)
cached_all P by c kinds cs h all None = all
cached_all P by c kinds cs h all (Some kind) = go (find (is_its_cache (wish_of kinds c)) cs) refl where
  go : (own : Option Claim) → find (is_its_cache (wish_of kinds c)) cs ≡ own → All P (cached (wish_of kinds c) kind own cs)
  go None e = inserted_all P (wished_claim (wish_of kinds c) kind) cs (by (wished_claim (wish_of kinds c) kind) c (refl, refl, refl) h) all
  go (Some own) e = changed_all P by own (Cache kind None) cs (all_in P own cs all (found_own (wish_of kinds c) cs own e).0) all

wished_all : (P : Claim → Type 0) → GoesBy P → (kinds : List CacheKind) (answer : Answer) (s : CoreState) → ((c : Claim) → answer ≡ answers.Granted c → P c) → All P s.claims → All P (wish_for kinds answer s).claims
unfolding wish_granted
wished_all P by kinds (answers.Granted c) s granted all = cached_all P by c kinds s.claims (granted c refl) all (wished_kind (wish_of kinds c) s)
wished_all P by kinds (answers.Queued number) s granted all = all
wished_all P by kinds (answers.Conflict c) s granted all = all
wished_all P by kinds (answers.Recall c) s granted all = all
wished_all P by kinds (answers.Grace until) s granted all = all
wished_all P by kinds (answers.NoGrace clock) s granted all = all
wished_all P by kinds answers.NotRecorded s granted all = all
wished_all P by kinds (answers.Full limit) s granted all = all
wished_all P by kinds answers.NotHeld s granted all = all
wished_all P by kinds answers.StoreFailed s granted all = all

-- ---- an ask, and a turn

decided_all : (P : Claim → Type 0) → GoesBy P → (t : CoreState) (a : Ask) (r : Answer × List Effect × CoreState) → AskWay t a r → ((c : Claim) → r.0 ≡ answers.Granted c → P c) → All P (asked_claims a (asked_whats a.act) t.names) → All P t.claims → All P r.2.claims
unfolding held_with
decided_all P by t a r (Stays answer refused e) granted asked all = subst (λ (x : Answer × List Effect × CoreState). All P x.2.claims) (sym e) all
decided_all P by t a r (Tests c holds e) granted asked all = subst (λ (x : Answer × List Effect × CoreState). All P x.2.claims) (sym e) all
decided_all P by t a r (Holds c claims is holds e) granted asked all =
    subst (λ (x : Answer × List Effect × CoreState). All P x.2.claims) (sym e) (each_granted P by claims t.claims (subst (λ (cs : List Claim). All P cs) (sym is) asked) all)
decided_all P by t a r (Waits c cs why is holds e) granted asked all = subst (λ (x : Answer × List Effect × CoreState). All P x.2.claims) (sym e) all
decided_all P by t a r (Frees claim first last holds act file owner e) granted asked all =
    subst (λ (x : Answer × List Effect × CoreState). All P x.2.claims) (sym e) (relocked_all P by claim first last None t.claims (granted claim (ap (λ (x : Answer × List Effect × CoreState). x.0) e)) all)
decided_all P by t a r (Gives claim d holds act file owner range e) granted asked all = subst (λ (x : Answer × List Effect × CoreState). All P x.2.claims) (sym e) (removed_all P d t.claims all)

ask_all : (P : Claim → Type 0) → GoesBy P → (n : ℕ) (left : Rooms) (s : CoreState) (a : Ask) → IsGood s → IsFit a → ((c : Claim) → (ask n left s a).0 ≡ answers.Granted c → P c) → All P (asked_claims a (asked_whats a.act) s.names) → All P s.claims → All P (ask n left s a).2.claims
unfolding ask before_wish
ask_all P by n left s a good fit granted asked all = go (does_wish a.act) where
  t : CoreState
  t = (way left s a).1

  r : Answer × List Effect × CoreState
  r = decided n left t a

  settled_so : All P r.2.claims
  settled_so = decided_all P by t a r (decided_way n left t a (asked_way_good left s a good) fit.party) granted (subst (λ (names : List Name). All P (asked_claims a (asked_whats a.act) names)) (sym (ask_way_names left s a)) asked) (way_all P by (asked_claims a (asked_whats a.act) s.names) s (way left s a) (ask_way left s a) all)

  go : (b : Bool) → All P (if b then wish_for a.wish r.0 r.2 else r.2).claims
  go true = wished_all P by a.wish r.0 r.2 granted settled_so
  go false = settled_so

-- what holds of the claims of whom the turn serves holds of all
abbrev TurnAll : (Claim → Type 0) → CoreState → Turned → Type 0
TurnAll P s turn = ((w : Waiter) (answer : Answer) (b : Claim) → IsIn w s.waiters → IsIn (Served w.party w.id answer) turn.0 → IsIn b w.asked → P b) → All P turn.1.claims

turn_all : (P : Claim → Type 0) → GoesBy P → (n : ℕ) (left : Rooms) (s : CoreState) (turn : Turned) → IsFirst n left s [] s.waiters turn → All P s.claims → TurnAll P s turn
turn_all P by n left s turn first all waits = go first.moved where
  w : Waiter
  w = first.waiter

  way : Turned
  way = way_again first.before s w

  asked : List Claim
  asked = first.claim ∷ first.claims

  here : IsIn w s.waiters
  here = subst (λ (ws : List Waiter). IsIn w ws) (sym first.stood) (among_all first.before w first.behind)

  its : (answer : Answer) → turn.0 ≡ way.0 ++ Served w.party w.id answer ∷ [] → All P asked
  its answer told =
      let served = subst (λ (effects : List Effect). IsIn (Served w.party w.id answer) effects) (sym told) (in_append_right (Served w.party w.id answer) way.0 (Served w.party w.id answer ∷ []) (inl refl)) in
      subst (λ (cs : List Claim). All P cs) first.asked (all_from P w.asked (λ b h. waits w answer b here served h))

  made_so : All P way.1.claims
  made_so = way_all P by w.asked s way (turn_way first.before s w) all

  go : IsMoved n left first.before s w first.claim first.claims turn → All P turn.1.claims
  go (Answers answer told new due pass clear) =
      let u = once_answered way.1 w asked answer in
      subst (λ (x : CoreState). All P x.claims) (sym new)
      (wished_all P by w.wish answer u (λ c e. subst P (sym (pass c e).0) (its answer told).0) (once_cases (λ cs. All P cs) asked way.1.claims answer made_so (each_granted P by asked way.1.claims (its answer told) made_so)))
  go (Rests e up) = subst (λ (x : Turned). All P x.1.claims) (sym e) made_so

turned_all : (P : Claim → Type 0) (s : CoreState) (o : Option Turned) → All P s.claims → IfSome o (TurnAll P s) → TurnAll P s ((turned s o).1, (turned s o).2)
turned_all P s None all each = λ waits. all
turned_all P s (Some r) all each = each

-- ---- the others

rest_all : (P : Claim → Type 0) → GoesBy P → (cache : Claim) (to : Option CacheKind) (cs : List Claim) → P cache → All P cs → All P (with_rest cache to cs)
rest_all P by cache None cs h all = removed_all P cache cs all
rest_all P by cache (Some kind) cs h all = changed_all P by cache (Cache kind None) cs h all

ended_all : (P : Claim → Type 0) (s : CoreState) (o : Option Party) → All P s.claims → All P (end_some s o).1.claims
unfolding end_party
ended_all P s None all = all
ended_all P s (Some party) all = stayed_all P _ s.claims all

expired_all : (P : Claim → Type 0) (s : CoreState) (client : List ℕ) → All P s.claims → All P (expire s client).1.claims
expired_all P s client all = of_expire (λ (r : Turned). All P r.1.claims) s client (λ x. ended_all P (with_aside x s) (party_named s.names (NfsParty client)) all)

lapsed_all : (P : Claim → Type 0) (s : CoreState) (cache : Claim) (client : Option (List ℕ)) → All P s.claims → All P (lapsed_by s cache client).1.claims
lapsed_all P s cache None all = removed_all P cache s.claims all
lapsed_all P s cache (Some client) all = expired_all P s client all

deed_all : (P : Claim → Type 0) → GoesBy P → (n : ℕ) (s : CoreState) (d : Deed) → IsGood s → IsFitDeed s d → ((b : Claim) → IsAskedBy n s d b → P b) → All P s.claims → All P (done n s d).claims
unfolding give_back weaken ack cancel end_party close_open drawn advanced renew lapse
deed_all P by n s (Asks left a) good fit asked all = ask_all P by n left s a good fit (λ c e. asked c (inr e)) (all_from P (asked_claims a (asked_whats a.act) s.names) (λ b h. asked b (inl h))) all
deed_all P by n s (Serves left) good fit asked all = turned_all P s (settle n left s) all (each_turn n left s (TurnAll P s) good (λ turn first. turn_all P by n left s turn first all)) (λ w answer b here served h. asked b (w, answer, here, served, h))
deed_all P by n s (GivesBack claim) good fit asked all = removed_all P claim s.claims all
deed_all P by n s (Weakens share access deny) good fit asked all = changed_all P by share (Share access deny) s.claims (all_in P share s.claims all fit.0) all
deed_all P by n s (Acks cache to) good fit asked all = rest_all P by cache to s.claims (all_in P cache s.claims all fit.0) all
deed_all P by n s (Cancels id) good fit asked all = all
deed_all P by n s (Ends party) good fit asked all = stayed_all P _ s.claims all
deed_all P by n s Draws good fit asked all = all
deed_all P by n s (Advances now) good fit asked all = all
deed_all P by n s (Lapses cache) good fit asked all = lapsed_all P s cache (client_of s.names cache.party) all
deed_all P by n s (Renews client) good fit asked all = all
deed_all P by n s (Expires client) good fit asked all = expired_all P s client all
deed_all P by n s (Closes number party) good fit asked all = stayed_all P _ s.claims all
deed_all P by n s (FailsStore stable) good fit asked all = subst (λ (x : CoreState). All P x.claims) (sym (failed_aside stable s)) all
deed_all P by n s EndsGrace good fit asked all = subst (λ (x : CoreState). All P x.claims) (sym (grace_aside s)) all

-- ---- each deed

on_alike : (a b c : Claim) → IsAlike a b → IsAlike b c → IsAlike a c
on_alike a b c is next = (is.0 ∙ next.0, is.1 ∙ next.1, is.2 ∙ next.2)

held_for_by : (n : ℕ) (s : CoreState) (d : Deed) → GoesBy (IsHeldFor n s d)
held_for_by n s d a b is (inl had) = inl (had.0, had.1, on_alike a b had.0 is had.2)
held_for_by n s d a b is (inr asked) = inr (asked.0, asked.1, on_alike a b asked.0 is asked.2)

pub deed_parties : (n : ℕ) (s : CoreState) (d : Deed) → IsGood s → IsFitDeed s d → AreHeldFor n s d
deed_parties n s d good fit c here =
    all_in (IsHeldFor n s d) c (done n s d).claims
    (deed_all (IsHeldFor n s d) (held_for_by n s d) n s d good fit (λ b asked. inr (b, asked, (refl, refl, refl))) (all_from (IsHeldFor n s d) s.claims (λ b h. inl (b, h, (refl, refl, refl))))) here

-- ---- a machine that doesn't

-- one that had nothing and was asked for nothing comes to hold a claim
pub for_nobody_is : (n : ℕ) (s : CoreState) (c : Claim) → s.claims ≡ [] → IsHeldFor n s Draws c → ⊥
for_nobody_is n s c none (inl had) = subst (λ (cs : List Claim). IsIn had.0 cs) none had.1
for_nobody_is n s c none (inr asked) = asked.1

-- one serves nobody, and comes to hold a claim at a turn
pub unserved_is : (n : ℕ) (left : Rooms) (s : CoreState) (c : Claim) → s.claims ≡ [] → (given n s (Serves left)).1 ≡ [] → IsHeldFor n s (Serves left) c → ⊥
unserved_is n left s c none quiet (inl had) = subst (λ (cs : List Claim). IsIn had.0 cs) none had.1
unserved_is n left s c none quiet (inr asked) = subst (λ (effects : List Effect). IsIn (Served asked.1.0.party asked.1.0.id asked.1.1) effects) quiet asked.1.3
