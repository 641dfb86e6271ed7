-- Each break that a deed tells of began for its cause and to its target, and leaves its cache until it is answered.
use Rattle.std.proofs.Common.{◌≡◌, ℕ, Bool, true, false, inl, inr, Option, Some, None, List, [], ◌∷◌, ◌++◌, map, refl, sym, ap, subst, ◌∙◌}
use Rattle.std.specs.Prelude.{◌==◌, ◌&&◌, ◌||◌, ◌⊎◌, not, if◌then◌else◌, IfSome, IsSome, filter, find, option_map}
use Rattle.std.specs.List.{list_any, slice_get}
use Rattle.std.proofs.lemmas.Bool.{both_ways, cases_Bool, and_parts, and_from, eq-eqb, eqb-true}
use Rattle.xl_base.proofs.Members.{in_filter, in_filter_from}
use Rattle.xl_base.proofs.Searches.{any_found, find_in, find_some, in_filter_map_from}
use Rattle.xl_base.proofs.SortLaws.{in_sorted_from}
use Rattle.xl_base.specs.Lists.{IsIn, Pairwise}
use Rattle.xl_base.specs.declared.event.Moment.{Moment}
use Rattle.xl_base.specs.declared.name.Party.{Party}
use Rattle.xl_matrix.proofs.EqualLaws.{same_parties-self, same_parties-true}
use Rattle.xl_matrix.specs.Equal.{same_parties}
use Rattle.xl_matrix.specs.declared.claim.CacheKind.{CacheKind}
use Rattle.xl_matrix.specs.declared.claim.CacheKind.TheVariants.{R, RH, RW, RWH, ReadDeleg, WriteDeleg}
use Rattle.xl_matrix.specs.declared.claim.Claim.{Claim}
use Rattle.xl_matrix.specs.declared.claim.What.{What}
use Rattle.xl_matrix.specs.declared.claim.What.TheVariants.{Share, Range, Cache}
use Rattle.xl_cache.proofs.BreakLaws.{plan_fits, plan_less}
use Rattle.xl_cache.proofs.BreakPlanLaws.{names_all, names_only, obstacle_is_cache, break_is_of}
use Rattle.xl_cache.specs.BreakPlans.{blocking_shares, break_of, broken_claim, covers, is_in_the_way, is_less, is_obstacle, is_running, keeps_handle_by, keeps_open, needs_answer_by, planned}
use Rattle.xl_names.specs.declared.name.Name.{Name}
use Rattle.xl_names.specs.declared.name.Name.TheVariants.{NfsParty}
use Rattle.xl_table.specs.Flat.{blocks}
use Rattle.xl_table.specs.Held.{is_cache, is_share}
use Rattle.xl_table.specs.declared.leaver.Leaver.{Leaver}
use Rattle.xl_table.specs.declared.leaver.Leaver.TheVariants as leavers
use Rattle.xl_wait.specs.declared.waiter.Rooms.{Rooms}
use Rattle.xl_wait.specs.declared.waiter.Waiter.{Waiter}
use Rattle.xl_core.specs.State.{CoreState}
use Rattle.xl_core.specs.Askers.{asked_whats, asked_claims, party_named, IsFit}
use Rattle.xl_core.specs.Blockers.{all_run, is_stopped}
use Rattle.xl_core.specs.BreakAnswers.{ack, client_of}
use Rattle.xl_core.specs.BreaksBegun.{breaks_begun, breaks_told, is_break_on, left_held, told_before, with_break}
use Rattle.xl_core.specs.Decide.{plea_of, way, ask}
use Rattle.xl_core.specs.Deeds.{Deed, Asks, GivesBack, Weakens, Acks, Cancels, Ends, Closes, Serves, Draws, Advances, Lapses, Renews, Expires, FailsStore, EndsGrace, given, turned, IsFitDeed}
use Rattle.xl_core.specs.Good.{is_single, IsGood}
use Rattle.xl_core.specs.Leases.{moment_after}
use Rattle.xl_core.specs.Places.{CacheOf, else_was, held_at, held_in, is_cache_on}
use Rattle.xl_core.specs.Settle.{gone, told_of_one, told_with, settle, next_way, plea_again, waits_with, way_again, cancel, give_back, weaken, end_party, close_open}
use Rattle.xl_core.specs.Ticks.{end_some, lapse, lapsed_by, expire, renew}
use Rattle.xl_core.specs.Ways.{made_way}
use Rattle.xl_core.specs.declared.ask.Act.{Act}
use Rattle.xl_core.specs.declared.ask.Act.TheVariants as acts
use Rattle.xl_core.specs.declared.ask.Answer.{Answer}
use Rattle.xl_core.specs.declared.ask.Ask.{Ask}
use Rattle.xl_core.specs.declared.ask.Effect.{Effect}
use Rattle.xl_core.specs.declared.ask.Effect.TheVariants.{Begun, Served, Cancelled, Expired}
use Rattle.xl_core.proofs.BreaksBegunLaws.{begun_breaks, begun_cache}
use Rattle.xl_core.proofs.FrameLaws.{ask_quiet}
use Rattle.xl_core.proofs.GoodLaws.{Turned, IsMoved, Answers, Rests, IsFirst, clear_up, each_turn, ranges_no_cache}
use Rattle.xl_core.proofs.AsideLaws.{with_aside, of_expire}
use Rattle.xl_core.proofs.StandingLaws.{timely}
use Rattle.xl_core.specs.Standings.{is_smb, asker_as, standing, stands}
use Rattle.xl_core.proofs.WayAsks.{ask_recalls}
use Rattle.xl_core.proofs.WayDeeds.{next_is}
use Rattle.xl_core.proofs.WayLaws.{NoWay, Begins, AsksNoCache, known_no_cache, unbroken, way_is, way_runs_at_once}
use Rattle.xl_house.specs.Breaking.{kept_by, IsInTheWay, Blocks, Covers, IsBroken, AreBroken, IsFirstOf, HasBegun, IsBrokenBy}
use Rattle.xl_house.proofs.InTheWayLaws.{first_in_way}
use Rattle.xl_house.proofs.WishedLaws.{found_alone, same_found}

abbrev Break : Type 0
Break = Claim × Option CacheKind

-- ---- why

or_parts_true : (x y : Bool) → (x || y) ≡ true → (x ≡ true) ⊎ (y ≡ true)
or_parts_true true y h = inl refl
or_parts_true false y h = inr h

covers_way : (asked : Claim) (claims : List Claim) (cache : Claim) → covers asked (blocking_shares asked claims) cache ≡ true → IsInTheWay claims asked cache
covers_way asked claims cache h =
    let found = any_found (λ share. keeps_open share cache) (blocking_shares asked claims) (and_parts (not (same_parties cache.party asked.party)) (list_any (λ share. keeps_open share cache) (blocking_shares asked claims)) h).1 in
    let among = in_filter_from (λ c. is_share c.what && blocks asked c) found.0 claims found.1 in
    let both = and_parts (is_share found.0.what) (blocks asked found.0) among.1 in
    let keeps = and_parts (keeps_handle_by cache.what) ((found.0.file == cache.file) && same_parties found.0.party cache.party) found.2 in
    let at = and_parts (found.0.file == cache.file) (same_parties found.0.party cache.party) keeps.1 in
    Covers found.0 among.0 both.0 both.1 keeps.0 (eqb-true found.0.file cache.file at.0) (same_parties-true found.0.party cache.party at.1)

in_the_way : (asked : Claim) (claims : List Claim) (cache : Claim) → is_obstacle asked claims cache ≡ true → IsInTheWay claims asked cache
unfolding is_in_the_way
in_the_way asked claims cache h =
    elim (or_parts_true (is_cache cache.what && blocks asked cache) (covers asked (blocking_shares asked claims) cache) h) [
      | inl direct ↦ Blocks (and_parts (is_cache cache.what) (blocks asked cache) direct).1
      | inr covered ↦ covers_way asked claims cache covered
    ]

-- ---- one break

same_begun : (c cache : Claim) (left to : Option CacheKind) (number call : Option ℕ) → Begun c left number ≡ Begun cache to call → (c ≡ cache) × (left ≡ to)
same_begun c cache left to number call e = (cc, cc)

told_in : (cache : Claim) (to : Option CacheKind) (call : Option ℕ) (told : List Effect) → IsIn (Begun cache to call) told → IsIn (cache, to) (breaks_told told)
told_in cache to call [] never = never
told_in cache to call (Begun c left number ∷ told) (inl e) = inl (λ i. ((same_begun c cache left to number call e).0 i, (same_begun c cache left to number call e).1 i))
told_in cache to call (Begun c left number ∷ told) (inr later) = inr (told_in cache to call told later)
told_in cache to call (Served party id answer ∷ told) (inl e) = absurd cc
told_in cache to call (Served party id answer ∷ told) (inr later) = told_in cache to call told later
told_in cache to call (Cancelled party id ∷ told) (inl e) = absurd cc
told_in cache to call (Cancelled party id ∷ told) (inr later) = told_in cache to call told later
told_in cache to call (Expired client ∷ told) (inl e) = absurd cc
told_in cache to call (Expired client ∷ told) (inr later) = told_in cache to call told later

-- a party has one cache on a file
one_there : (file : ℕ) (party : Party) (cs : List Claim) (a b : Claim) → Pairwise is_single cs → IsIn a cs → is_cache_on file party a ≡ true → IsIn b cs → is_cache_on file party b ≡ true → a ≡ b
one_there file party cs a b single here on there too = by (find (is_cache_on file party) cs) refl (find_some (is_cache_on file party) a cs here on) where
  only : (own c : Claim) → filter (is_cache_on file party) cs ≡ own ∷ [] → IsIn c cs → is_cache_on file party c ≡ true → own ≡ c
  only own c alone h k = elim (subst (λ (xs : List Claim). IsIn c xs) alone (in_filter (is_cache_on file party) c cs h k)) [ inl e ↦ e | inr never ↦ absurd never ]

  by : (o : Option Claim) → find (is_cache_on file party) cs ≡ o → IsSome o → a ≡ b
  by None e some = absurd cc
  by (Some own) e some = let alone = found_alone file party cs own single e in sym (only own a alone here on) ∙ only own b alone there too

broken_from : (asked : Claim) (claims : List Claim) (b : Break) → IsIn b (planned asked claims).breaks → break_of asked (blocking_shares asked claims) b.0 ≡ Some b
unfolding planned
broken_from asked claims b here =
    let from = in_filter_map_from (break_of asked (blocking_shares asked claims)) b claims here in
    ap (λ (c : Claim). break_of asked (blocking_shares asked claims) c) (break_is_of asked (blocking_shares asked claims) from.0 b from.2).0 ∙ from.2

same_break : (a b : Break) → Some a ≡ Some b → a ≡ b
same_break a b e = cc

pub left_is : (c : Claim) (deadline : Moment) (w : What) (to : Option CacheKind) → is_cache w ≡ true → (if needs_answer_by w to then (with_break c w to deadline).what ∷ [] else []) ≡ kept_by deadline w to
left_is c deadline (Cache R running) None h = refl
left_is c deadline (Cache R running) (Some kind) h = refl
left_is c deadline (Cache RH running) to h = refl
left_is c deadline (Cache RW running) to h = refl
left_is c deadline (Cache RWH running) to h = refl
left_is c deadline (Cache ReadDeleg running) to h = refl
left_is c deadline (Cache WriteDeleg running) to h = refl
left_is c deadline (Share access deny) to h = absurd (both_ways false refl h)
left_is c deadline (Range extent exclusive) to h = absurd (both_ways false refl h)

begun_is_broken : (s : CoreState) (asked cache : Claim) (to : Option CacheKind) (call : Option ℕ) → IsGood s → is_cache asked.what ≡ false → IsIn (Begun cache to call) (breaks_begun asked s).0 → IsBroken s (breaks_begun asked s).1 asked cache to
begun_is_broken s asked cache to call good lock here =
    record {
      held = only.0;
      is = is;
      idle = only.2;
      cause = in_the_way asked s.claims cache only.1;
      plan = among;
      less = plan_less asked s.claims lock (cache, to) among;
      fits = plan_fits asked s.claims lock (cache, to) among;
      left = begun_cache s asked cache.file cache.party good
          ∙ ap (λ (o : Option Break). else_was (option_map (left_held deadline) o) (held_in s.claims (CacheOf cache.file cache.party))) found
          ∙ left_is cache deadline cache.what to is;
    }
  where
    deadline : Moment
    deadline = moment_after s.clock s.times.break_time

    told : List Break
    told = breaks_told (breaks_begun asked s).0

    told_among : (b : Break) → IsIn b told → IsIn b (planned asked s.claims).breaks
    told_among b h = in_sorted_from (told_before s.names) b (planned asked s.claims).breaks (subst (λ (bs : List Break). IsIn b bs) (begun_breaks s asked) h)

    there : IsIn (cache, to) told
    there = told_in cache to call (breaks_begun asked s).0 here

    among : IsIn (cache, to) (planned asked s.claims).breaks
    among = told_among (cache, to) there

    only : IsIn cache s.claims × (is_obstacle asked s.claims cache ≡ true) × (is_running cache.what ≡ false)
    only = (names_only asked s.claims).begun (cache, to) among

    is : is_cache cache.what ≡ true
    is = obstacle_is_cache asked (blocking_shares asked s.claims) cache only.1

    on : is_cache_on cache.file cache.party cache ≡ true
    on = and_from (is_cache cache.what) ((cache.file == cache.file) && same_parties cache.party cache.party) is (and_from (cache.file == cache.file) (same_parties cache.party cache.party) (eq-eqb cache.file cache.file refl) (same_parties-self cache.party))

    by : (o : Option Break) → find (is_break_on cache.file cache.party) told ≡ o → IfSome o (λ b. IsIn b told × (is_break_on cache.file cache.party b ≡ true)) → IsSome o → o ≡ Some (cache, to)
    by None e found some = absurd cc
    by (Some b) e found some =
        let its = told_among b found.0 in
        let same : b.0 ≡ cache = one_there cache.file cache.party s.claims b.0 cache good.single ((names_only asked s.claims).begun b its).0 found.1 only.0 on in
        sym (broken_from asked s.claims b its) ∙ ap (λ (c : Claim). break_of asked (blocking_shares asked s.claims) c) same ∙ broken_from asked s.claims (cache, to) among

    found : find (is_break_on cache.file cache.party) told ≡ Some (cache, to)
    found = by (find (is_break_on cache.file cache.party) told) refl (find_in (is_break_on cache.file cache.party) told) (find_some (is_break_on cache.file cache.party) (cache, to) told there on)

-- the way is none, or the breaks of the first claim
pub data IsWayOf (s : CoreState) (asked : List Claim) (way : Turned) : Type 0 where
  Still : way ≡ ([], s) → IsWayOf s asked way
  Breaks : (c : Claim) (cs : List Claim) → asked ≡ c ∷ cs → way ≡ breaks_begun c s → IsWayOf s asked way

pub ask_way : (left : Rooms) (s : CoreState) (a : Ask) → IsWayOf s (asked_claims a (asked_whats a.act) s.names) (way left s a)
ask_way left s a = elim (way_is s.waiters (plea_of left s a) (asked_claims a (asked_whats a.act) s.names) s) [ NoWay e ↦ Still e | Begins c cs is does e ↦ Breaks c cs is e ]

pub turn_way : (before : List Waiter) (s : CoreState) (w : Waiter) → IsWayOf s w.asked (way_again before s w)
turn_way before s w = elim (way_is before (plea_again s w) w.asked s) [ NoWay e ↦ Still e | Begins c cs is does e ↦ Breaks c cs is e ]

way_is_broken : (asked : List Claim) (s : CoreState) (way : Turned) → IsGood s → AsksNoCache asked → IsWayOf s asked way → AreBroken s way.1 (IsFirstOf asked) way.0
way_is_broken asked s way good none (Still e) cache to call here = absurd (subst (λ (told : List Effect). IsIn (Begun cache to call) told) (ap (λ (w : Turned). w.0) e) here)
way_is_broken asked s way good none (Breaks c cs is e) cache to call here =
    let locks : is_cache c.what ≡ false = (subst AsksNoCache is none).0 in
    let one = begun_is_broken s c cache to call good locks (subst (λ (told : List Effect). IsIn (Begun cache to call) told) (ap (λ (w : Turned). w.0) e) here) in
    (c, ap (λ (xs : List Claim). slice_get xs 0) is, subst (λ (t : CoreState). IsBroken s t c cache to) (ap (λ (w : Turned). w.1) (sym e)) one)

-- ---- an ask

asks_no_cache : (a : Ask) (names : List Name) (act : Act) → AsksNoCache (asked_claims a (asked_whats act) names)
asks_no_cache a names (acts.Share access deny) = (refl, tt)
asks_no_cache a names (acts.Ranges ranges) = ranges_no_cache a names ranges
asks_no_cache a names (acts.Test extent exclusive) = tt
asks_no_cache a names (acts.Unlock extent) = tt
asks_no_cache a names acts.Wish = tt

none_begins : (c cache : Claim) (held : List Claim) → (planned c held).breaks ≡ [] → IsIn cache held → is_obstacle c held cache ≡ true → is_running cache.what ≡ true
none_begins c cache held none here way =
    elim (cases_Bool (is_running cache.what)) [
      | inl runs ↦ runs
      | inr idle ↦ absurd (subst (λ (bs : List Break). IsIn cache (map broken_claim bs)) none ((names_all c held).begun cache here way idle))
    ]

plea_parts : (left : Rooms) (s : CoreState) (a : Ask) → ((plea_of left s a).standing ≡ stands s a) × ((plea_of left s a).awaits ≡ a.awaits)
unfolding plea_of
plea_parts left s a = (refl, refl)

-- what is in the way of the first of the ask's claims
first_begun : (left : Rooms) (s : CoreState) (a : Ask) (c cache : Claim) → IsFirstOf (asked_claims a (asked_whats a.act) s.names) c → s.grace ≡ None → a.reclaim ≡ false → a.awaits ≡ false → is_stopped s.waiters s c ≡ false
    → IsIn cache (way left s a).1.claims → is_obstacle c (way left s a).1.claims cache ≡ true → is_running cache.what ≡ true
first_begun left s a c cache first calm fresh hasty clear here way = by (asked_claims a (asked_whats a.act) s.names) refl first where
  by : (asked : List Claim) → asked_claims a (asked_whats a.act) s.names ≡ asked → slice_get asked 0 ≡ Some c → is_running cache.what ≡ true
  by [] e f = absurd cc
  by (d ∷ ds) e f =
      let p = plea_of left s a in
      let same : d ≡ c = same_found d c f in
      let asks : asked_claims a (asked_whats a.act) s.names ≡ c ∷ ds = e ∙ ap (λ (x : Claim). x ∷ ds) same in
      let runs = way_runs_at_once s.waiters p c ds s ((plea_parts left s a).0 ∙ ap (λ (b : Bool). standing s (asker_as a) (is_smb a.party) b) fresh ∙ timely s (asker_as a) (is_smb a.party) calm) ((plea_parts left s a).1 ∙ hasty) clear in
      let runs_there = subst (λ (xs : List Claim). all_run (made_way s.waiters p xs s).1.claims c ≡ true) (sym asks) runs in
      none_begins c cache (made_way s.waiters p (asked_claims a (asked_whats a.act) s.names) s).1.claims (unbroken (made_way s.waiters p (asked_claims a (asked_whats a.act) s.names) s).1.claims c runs_there) here way

has_begun : (left : Rooms) (s : CoreState) (a : Ask) → HasBegun left s a
has_begun left s a first c cache is calm fresh hasty clear among here stands = first_begun left s a first cache is calm fresh hasty clear here (first_in_way a s.names a.act first c is among (way left s a).1.claims cache stands)

ask_is_broken : (n : ℕ) (left : Rooms) (s : CoreState) (a : Ask) → IsGood s → IsFit a → AreBroken s (way left s a).1 (IsFirstOf (asked_claims a (asked_whats a.act) s.names)) (ask n left s a).1
ask_is_broken n left s a good fit cache to call here =
    way_is_broken (asked_claims a (asked_whats a.act) s.names) s (way left s a) good (asks_no_cache a s.names a.act) (ask_way left s a) cache to call
    (subst (λ (told : List Effect). IsIn (Begun cache to call) told) (ask_quiet n left s a good fit.party) here)

-- ---- a turn

pub begun_before : (way : List Effect) (party : Party) (id : ℕ) (answer : Answer) (cache : Claim) (to : Option CacheKind) (call : Option ℕ) → IsIn (Begun cache to call) (way ++ Served party id answer ∷ []) → IsIn (Begun cache to call) way
begun_before [] party id answer cache to call (inl e) = absurd cc
begun_before [] party id answer cache to call (inr never) = never
begun_before (effect ∷ way) party id answer cache to call (inl e) = inl e
begun_before (effect ∷ way) party id answer cache to call (inr later) = inr (begun_before way party id answer cache to call later)

pub among_all : (before : List Waiter) (w : Waiter) (behind : List Waiter) → IsIn w (before ++ w ∷ behind)
among_all [] w behind = inl refl
among_all (v ∷ vs) w behind = inr (among_all vs w behind)

abbrev TurnBreaks : CoreState → Turned → Type 0
TurnBreaks s turn = AreBroken s (next_way s).1 (λ c. (w : Waiter) × IsIn w s.waiters × IsFirstOf w.asked c) turn.0

first_is_broken : (n : ℕ) (left : Rooms) (s : CoreState) (turn : Turned) → IsGood s → IsFirst n left s [] s.waiters turn → TurnBreaks s turn
first_is_broken n left s turn good first cache to call here =
    let broken = way_is_broken w.asked s way good (known_no_cache s.names w.asked first.is.1) (turn_way first.before s w) cache to call (by first.moved) in
    (broken.0, (w, subst (λ (ws : List Waiter). IsIn w ws) (sym first.stood) (among_all first.before w first.behind), broken.1), subst (λ (x : Turned). IsBroken s x.1 broken.0 cache to) (sym next) broken.2)
  where
    w : Waiter
    w = first.waiter

    way : Turned
    way = way_again first.before s w

    next : next_way s ≡ way
    next = next_is s first.before w first.behind first.stood first.blocked (clear_up first.before s w first.claim first.claims first.calm first.asked first.free)

    by : IsMoved n left first.before s w first.claim first.claims turn → IsIn (Begun cache to call) way.0
    by (Answers answer told new due pass clear) = begun_before way.0 w.party w.id answer cache to call (subst (λ (effects : List Effect). IsIn (Begun cache to call) effects) told here)
    by (Rests e up) = subst (λ (x : Turned). IsIn (Begun cache to call) x.0) e here

turned_broken : (s : CoreState) (o : Option Turned) → IfSome o (TurnBreaks s) → TurnBreaks s ((turned s o).1, (turned s o).2)
turned_broken s None each = λ cache to call never. absurd never
turned_broken s (Some r) each = each

-- ---- the others

none_told : (ws : List Waiter) → breaks_told (map gone ws) ≡ []
none_told [] = refl
none_told (w ∷ ws) = none_told ws

leavers_told : (leaver : Leaver) (ws : List Waiter) → breaks_told (told_with leaver ws) ≡ []
unfolding told_with
leavers_told leaver ws = none_told (filter (waits_with leaver) ws)

one_told : (id : ℕ) (ws : List Waiter) → breaks_told (told_of_one id ws) ≡ []
one_told id [] = refl
one_told id (w ∷ ws) =
    elim (cases_Bool (w.id == id)) [
      | inl e ↦ rw e refl
      | inr e ↦ rw e (one_told id ws)
    ]

one_expires : (client : List ℕ) (told : List Effect) → breaks_told told ≡ [] → breaks_told (told ++ Expired client ∷ []) ≡ []
one_expires client [] none = refl
one_expires client (Begun cache to call ∷ told) none = absurd cc
one_expires client (Served party id answer ∷ told) none = one_expires client told none
one_expires client (Cancelled party id ∷ told) none = one_expires client told none
one_expires client (Expired gone ∷ told) none = one_expires client told none

ended_quietly : (s : CoreState) (o : Option Party) → breaks_told (end_some s o).0 ≡ []
unfolding end_party
ended_quietly s None = refl
ended_quietly s (Some party) = leavers_told (leavers.Party party) s.waiters

expired_quietly : (s : CoreState) (client : List ℕ) → breaks_told (expire s client).0 ≡ []
expired_quietly s client =
    let party = party_named s.names (NfsParty client) in
    of_expire (λ (r : Turned). breaks_told r.0 ≡ []) s client (λ x. one_expires client (end_some (with_aside x s) party).0 (ended_quietly (with_aside x s) party))

lapsed_quietly : (s : CoreState) (cache : Claim) (client : Option (List ℕ)) → breaks_told (lapsed_by s cache client).0 ≡ []
lapsed_quietly s cache None = refl
lapsed_quietly s cache (Some client) = expired_quietly s client

tells_none : (n : ℕ) (s : CoreState) (d : Deed) → ((left : Rooms) (a : Ask) → d ≡ Asks left a → ⊥) → ((left : Rooms) → d ≡ Serves left → ⊥) → breaks_told (given n s d).1 ≡ []
unfolding give_back weaken ack cancel end_party close_open lapse renew
tells_none n s (Asks left a) asks serves = absurd (asks left a refl)
tells_none n s (Serves left) asks serves = absurd (serves left refl)
tells_none n s (GivesBack claim) asks serves = refl
tells_none n s (Weakens share access deny) asks serves = refl
tells_none n s (Acks cache to) asks serves = refl
tells_none n s (Cancels id) asks serves = one_told id s.waiters
tells_none n s (Ends party) asks serves = leavers_told (leavers.Party party) s.waiters
tells_none n s Draws asks serves = refl
tells_none n s (Advances now) asks serves = refl
tells_none n s (Lapses cache) asks serves = lapsed_quietly s cache (client_of s.names cache.party)
tells_none n s (Renews client) asks serves = refl
tells_none n s (Expires client) asks serves = expired_quietly s client
tells_none n s (Closes number party) asks serves = leavers_told (leavers.Open number party) s.waiters
tells_none n s (FailsStore stable) asks serves = refl
tells_none n s EndsGrace asks serves = refl

-- ---- each deed

pub deed_broken : (n : ℕ) (s : CoreState) (d : Deed) → IsGood s → IsFitDeed s d → IsBrokenBy n s d
deed_broken n s (Asks left a) good fit = (λ cache to call here. ask_is_broken n left s a good fit cache to call here, has_begun left s a, λ what cache one e. ask_recalls n left s a what cache one e)
deed_broken n s (Serves left) good fit = turned_broken s (settle n left s) (each_turn n left s (TurnBreaks s) good (λ turn first. first_is_broken n left s turn good first))
deed_broken n s d good fit = tells_none n s d (λ left a e. absurd cc) (λ left e. absurd cc)

-- ---- machines that don't

-- one lets a cache go at once that its party has to give up first
pub gone_at_once_is : (s t : CoreState) (asked cache : Claim) (to : Option CacheKind) → cache.what ≡ Cache RWH None → held_at t (CacheOf cache.file cache.party) ≡ [] → IsBroken s t asked cache to → ⊥
gone_at_once_is s t asked cache to what gone broken =
    let deadline = moment_after s.clock s.times.break_time in
    let e : [] ≡ (Cache RWH (Some (record { target = to; deadline = deadline })) ∷ []) = sym gone ∙ broken.left ∙ ap (λ (w : What). kept_by deadline w to) what in
    absurd cc

-- one breaks a cache to more than it is
pub raised_is : (s t : CoreState) (asked cache : Claim) → cache.what ≡ Cache R None → IsBroken s t asked cache (Some RWH) → ⊥
raised_is s t asked cache what broken = both_ways false refl (sym (ap (λ (w : What). is_less w (Some RWH)) what) ∙ broken.less)

no_share : (w : What) → is_cache w ≡ true → is_share w ≡ true → ⊥
no_share (Cache kind running) is share = both_ways false refl share
no_share (Share access deny) is share = both_ways false refl is
no_share (Range extent exclusive) is share = both_ways false refl is

-- one breaks the only cache, which is in nobody's way
pub uncaused_is : (s t : CoreState) (asked cache : Claim) (to : Option CacheKind) → s.claims ≡ cache ∷ [] → blocks asked cache ≡ false → IsBroken s t asked cache to → ⊥
uncaused_is s t asked cache to alone free broken = by broken.cause where
  by : IsInTheWay s.claims asked cache → ⊥
  by (Blocks blocked) = both_ways (blocks asked cache) free blocked
  by (Covers share here is blocked keeps file party) = elim (subst (λ (cs : List Claim). IsIn share cs) alone here) [
    | inl same ↦ no_share cache.what broken.is (subst (λ (c : Claim). is_share c.what ≡ true) (sym same) is)
    | inr never ↦ never
  ]

-- one turns an ask away for a cache of which no break runs
pub unbroken_is : (left : Rooms) (s : CoreState) (a : Ask) (first c cache : Claim) → IsFirstOf (asked_claims a (asked_whats a.act) s.names) first → s.grace ≡ None → a.reclaim ≡ false → a.awaits ≡ false → is_stopped s.waiters s first ≡ false
    → IsIn c (asked_claims a (asked_whats a.act) s.names) → IsIn cache (way left s a).1.claims → is_obstacle c (way left s a).1.claims cache ≡ true → is_running cache.what ≡ false → HasBegun left s a → ⊥
unbroken_is left s a first c cache is calm fresh hasty clear among here way idle begun = both_ways (is_running cache.what) idle (begun first c cache is calm fresh hasty clear among here way)
