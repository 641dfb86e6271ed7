-- Which caches deeds leave.
use Rattle.std.proofs.Common.{◌≡◌, ℕ, true, false, not, Bool, if◌then◌else◌, List, [], ◌∷◌, ◌++◌, append-nil, Option, Some, None, IfSome, refl, sym, ap, subst, ◌∙◌, filter, inr, inl}
use Rattle.std.proofs.lemmas.Bool.{both_ways, or_parts, cases_Bool}
use Rattle.xl_base.specs.Lists.{IsIn, Pairwise}
use Rattle.xl_base.proofs.Members.{in_filter, in_filter_from}
use Rattle.xl_base.specs.declared.event.Moment.{Moment}
use Rattle.xl_base.specs.declared.name.Party.{Party}
use Rattle.xl_cache.specs.BreakPlans.{is_running}
use Rattle.xl_matrix.specs.Equal.{same_parties}
use Rattle.xl_matrix.specs.declared.claim.CacheKind.{CacheKind}
use Rattle.xl_matrix.specs.declared.claim.Claim.{Claim}
use Rattle.xl_matrix.specs.declared.claim.What.{What}
use Rattle.xl_matrix.specs.declared.claim.What.TheVariants.{Share, Range, Cache}
use Rattle.xl_names.specs.declared.name.Name.{Name}
use Rattle.xl_names.specs.declared.name.Name.TheVariants.{NfsParty}
use Rattle.xl_table.specs.Flat.{removed}
use Rattle.xl_table.specs.Held.{is_cache}
use Rattle.xl_wait.specs.declared.waiter.Rooms.{Rooms}
use Rattle.xl_wait.specs.declared.waiter.Waiter.{Waiter}
use Rattle.xl_core.specs.State.{CoreState, drawn}
use Rattle.xl_core.specs.Askers.{party_named, asked_whats, asked_claims, IsFit}
use Rattle.xl_core.specs.BreaksBegun.{breaks_begun}
use Rattle.xl_core.specs.Decide.{Answered, plea_of, way, before_wish, does_wish, ask}
use Rattle.xl_core.specs.Frames.{serves_none}
use Rattle.xl_core.specs.Leases.{moment_after}
use Rattle.xl_core.specs.Ways.{made_way}
use Rattle.xl_core.specs.Wishes.{wish_of, wish_for, caches_wished, once_wished}
use Rattle.xl_core.specs.declared.judge.Plea.{Plea}
use Rattle.xl_core.specs.BreakAnswers.{with_rest, ack, client_of}
use Rattle.xl_base.specs.Stable.{Stable}
use Rattle.xl_core.specs.Stores.{store_failed}
use Rattle.xl_core.specs.Ticks.{advanced, renew, end_some, unleased, expire, lapsed_by, lapse, end_grace}
use Rattle.xl_core.proofs.AsideLaws.{with_aside, failed_aside, grace_aside, of_aside, of_expire}
use Rattle.xl_core.specs.Deeds.{Deed, Asks, GivesBack, Weakens, Acks, Cancels, Ends, Serves, Draws, Advances, Lapses, Renews, Expires, Closes, FailsStore, EndsGrace, turned, done, all_done, IsFitDeed, AreFit, wish_by_number, asked_by, once_served, caches_served, caches_asked, caches_without_party, caches_without, caches_after, all_caches_after, is_lapsed, ends_break, any_ends_break}
use Rattle.xl_core.specs.Good.{IsGood, are_apart, caches_of}
use Rattle.xl_table.specs.Leaving.{is_of_some, goes}
use Rattle.xl_table.specs.declared.leaver.Leaver.TheVariants as leavers
use Rattle.xl_core.specs.Settle.{plea_again, way_again, next_way, settle, cancel, give_back, end_party, close_open}
use Rattle.xl_core.specs.declared.ask.Answer.{Answer}
use Rattle.xl_core.specs.declared.ask.Answer.TheVariants as answers
use Rattle.xl_core.specs.declared.ask.Ask.{Ask}
use Rattle.xl_core.specs.declared.ask.Effect.{Effect}
use Rattle.xl_core.specs.declared.ask.Effect.TheVariants.{Begun, Served, Cancelled, Expired}
use Rattle.xl_core.proofs.CacheLaws.{all_granted_caches, stayed_caches}
use Rattle.xl_core.proofs.CachePlaces.{caches_removed, caches_rest, stays_rest}
use Rattle.xl_core.proofs.ChangeLaws.{decided_caches}
use Rattle.xl_core.proofs.AskBreaksLaws.{running_stand}
use Rattle.xl_core.proofs.GoodLaws.{Turned, IsMoved, Answers, Rests, IsFirst, each_turn, asked_way_good, before_good, once_answered, served_good, clear_up, kind_once}
use Rattle.xl_core.proofs.WayDeeds.{next_is, next_none}
use Rattle.xl_core.proofs.WayLaws.{NoWay, Begins, way_is, way_serves, way_waiters}
use Rattle.xl_core.proofs.DeedLaws.{asked_there, wished_there, deed_good}
use Rattle.xl_core.proofs.SettleLaws.{none_settled, once_cases}
use Rattle.xl_core.proofs.WeakenLaws.{weakened_caches}
use Rattle.xl_core.proofs.AskWishLaws.{wish_for_caches}
use Rattle.xl_core.proofs.WishLaws.{running_stays}

given_caches : (s : CoreState) (claim : Claim) → caches_of (give_back s claim).1.claims ≡ removed claim (caches_of s.claims)
unfolding give_back
given_caches s claim = caches_removed claim s.claims

acked_caches : (s : CoreState) (cache : Claim) (to : Option CacheKind) → IsGood s → caches_of (ack s cache to).1.claims ≡ with_rest cache to (caches_of s.claims)
unfolding ack
acked_caches s cache to good = caches_rest cache to s.claims good.kept.ordered

cancelled_caches : (s : CoreState) (id : ℕ) → caches_of (cancel s id).1.claims ≡ caches_of s.claims
unfolding cancel
cancelled_caches s id = refl

ended_caches : (s : CoreState) (party : Party) → caches_of (end_party s party).1.claims ≡ caches_without_party (Some party) (caches_of s.claims)
unfolding end_party
ended_caches s party = stayed_caches (λ c. not (same_parties c.party party)) s.claims

closed_caches : (s : CoreState) (number : ℕ) (party : Option Party) → caches_of (close_open s number party).1.claims ≡ caches_without_party party (caches_of s.claims)
unfolding close_open
closed_caches s number party = stayed_caches (λ c. not (goes (leavers.Open number party) c)) s.claims ∙ by party where
  kept : (p : Claim → Bool) (q : Claim → Bool) (cs : List Claim) → ((c : Claim) → is_cache c.what ≡ true → p c ≡ q c) → filter p (caches_of cs) ≡ filter q (caches_of cs)
  kept p q [] same = refl
  kept p q (c ∷ cs) same =
      elim (cases_Bool (is_cache c.what)) [
        | inr other ↦ rw other (kept p q cs same)
        | inl cache ↦ elim (cases_Bool (q c)) [
          | inl stays ↦ rw (cache, same c cache ∙ stays, stays) (ap (λ (ds : List Claim). c ∷ ds) (kept p q cs same))
          | inr differs ↦ rw (cache, same c cache ∙ differs, differs) (kept p q cs same)
        ]
      ]

  all_stay : (cs : List Claim) → filter (λ (c : Claim). true) cs ≡ cs
  all_stay [] = refl
  all_stay (c ∷ cs) = ap (λ (ds : List Claim). c ∷ ds) (all_stay cs)

  by : (o : Option Party) → filter (λ c. not (goes (leavers.Open number o) c)) (caches_of s.claims) ≡ caches_without_party o (caches_of s.claims)
  by None = kept (λ c. not (goes (leavers.Open number None) c)) (λ c. true) s.claims (λ c cache. rw cache refl) ∙ all_stay (caches_of s.claims)
  by (Some p) = kept (λ c. not (goes (leavers.Open number (Some p)) c)) (λ c. not (same_parties c.party p)) s.claims (λ c cache. rw cache refl)

drawn_caches : (s : CoreState) → caches_of (drawn s).claims ≡ caches_of s.claims
unfolding drawn
drawn_caches s = refl

advanced_caches : (s : CoreState) (now : Moment) → caches_of (advanced s now).claims ≡ caches_of s.claims
unfolding advanced
advanced_caches s now = refl

renewed_caches : (s : CoreState) (client : List ℕ) → caches_of (renew s client).1.claims ≡ caches_of s.claims
unfolding renew
renewed_caches s client = refl

some_caches : (s : CoreState) (client : List ℕ) (party : Option Party) → caches_of (unleased client (end_some s party)).1.claims ≡ caches_without_party party (caches_of s.claims)
some_caches s client None = refl
some_caches s client (Some party) = ended_caches s party

expired_caches : (s : CoreState) (client : List ℕ) → caches_of (expire s client).1.claims ≡ caches_without_party (party_named s.names (NfsParty client)) (caches_of s.claims)
expired_caches s client =
    of_expire (λ (r : List Effect × CoreState). caches_of r.1.claims ≡ caches_without_party (party_named s.names (NfsParty client)) (caches_of s.claims)) s client
    (λ x. some_caches (with_aside x s) client (party_named s.names (NfsParty client)))

lapsed_caches : (s : CoreState) (cache : Claim) (client : Option (List ℕ)) → caches_of (lapsed_by s cache client).1.claims ≡ caches_without s.names cache client (caches_of s.claims)
lapsed_caches s cache None = caches_removed cache s.claims
lapsed_caches s cache (Some client) = expired_caches s client

lapse_caches : (s : CoreState) (cache : Claim) → caches_of (lapse s cache).1.claims ≡ caches_without s.names cache (client_of s.names cache.party) (caches_of s.claims)
unfolding lapse
lapse_caches s cache = lapsed_caches s cache (client_of s.names cache.party)

store_failed_caches : (s : CoreState) (stable : Stable) → caches_of (store_failed stable s).claims ≡ caches_of s.claims
store_failed_caches s stable = of_aside (λ t. caches_of t.claims ≡ caches_of s.claims) s (store_failed stable s) (failed_aside stable s) (λ x. refl)

end_grace_caches : (s : CoreState) → caches_of (end_grace s).claims ≡ caches_of s.claims
end_grace_caches s = of_aside (λ t. caches_of t.claims ≡ caches_of s.claims) s (end_grace s) (grace_aside s) (λ x. refl)

-- what is told before a grant is of breaks
served_behind : (t : CoreState) (way effects : List Effect) (caches : List Claim) → serves_none way ≡ true → caches_served t (way ++ effects) caches ≡ caches_served t effects caches
served_behind t [] effects caches none = refl
served_behind t (Served party id answer ∷ told) effects caches none = absurd (both_ways false refl none)
served_behind t (Begun c to call ∷ told) effects caches none = served_behind t told effects caches none
served_behind t (Cancelled party id ∷ told) effects caches none = served_behind t told effects caches none
served_behind t (Expired text ∷ told) effects caches none = served_behind t told effects caches none

caches_once : (kinds : List CacheKind) (answer : Answer) (t : CoreState) (w : Waiter) (caches : List Claim) → caches_wished kinds answer (once_served t w.id answer) caches ≡ caches_wished kinds answer (once_answered t w (asked_by w.id t.waiters) answer) caches
caches_once kinds (answers.Granted c) t w caches = ap (λ (o : Option CacheKind). once_wished (wish_of kinds c) o caches) (kind_once (wish_of kinds c) (answers.Granted c) t w)
caches_once kinds (answers.Queued number) t w caches = refl
caches_once kinds (answers.Conflict c) t w caches = refl
caches_once kinds (answers.Recall c) t w caches = refl
caches_once kinds (answers.Grace until) t w caches = refl
caches_once kinds (answers.NoGrace clock) t w caches = refl
caches_once kinds answers.NotRecorded t w caches = refl
caches_once kinds (answers.Full limit) t w caches = refl
caches_once kinds answers.NotHeld t w caches = refl
caches_once kinds answers.StoreFailed t w caches = refl

first_caches : (n : ℕ) (left : Rooms) (s : CoreState) (turn : Turned) → IsGood s → IsFirst n left s [] s.waiters turn → caches_of turn.1.claims ≡ caches_served (next_way s).1 turn.0 (caches_of (next_way s).1.claims)
first_caches n left s turn good first =
    subst (λ (way : Turned). caches_of turn.1.claims ≡ caches_served way.1 turn.0 (caches_of way.1.claims)) (sym next) (by first.moved)
  where
    w : Waiter
    w = first.waiter

    way : Turned
    way = way_again first.before s w

    t : CoreState
    t = way.1

    all : List Claim
    all = first.claim ∷ first.claims

    next : next_way s ≡ way
    next = next_is s first.before w first.behind first.stood first.blocked (clear_up first.before s w first.claim first.claims first.calm first.asked first.free)

    stood : t.waiters ≡ first.before ++ w ∷ first.behind
    stood = way_waiters first.before (plea_again s w) w.asked s ∙ first.stood

    apart : Pairwise are_apart (first.before ++ w ∷ first.behind)
    apart = subst (λ (ws : List Waiter). Pairwise are_apart ws) first.stood good.apart

    there : asked_by w.id t.waiters ≡ all
    there = ap (asked_by w.id) stood ∙ asked_there first.before w first.behind apart ∙ first.asked

    wishes : wish_by_number w.id t.waiters ≡ w.wish
    wishes = ap (wish_by_number w.id) stood ∙ wished_there first.before w first.behind apart

    by : IsMoved n left first.before s w first.claim first.claims turn → caches_of turn.1.claims ≡ caches_served t turn.0 (caches_of t.claims)
    by (Answers answer told new due pass clear) =
        let u = once_answered t w all answer in
        let once : once_answered t w (asked_by w.id t.waiters) answer ≡ u = ap (λ (cs : List Claim). once_answered t w cs answer) there in
        ap (λ (x : CoreState). caches_of x.claims) new ∙ wish_for_caches w.wish answer u (served_good n left s turn first good answer pass).0
        ∙ ap (caches_wished w.wish answer u) (once_cases (λ cs. caches_of cs ≡ caches_of t.claims) all t.claims answer refl (all_granted_caches all t.claims))
        ∙ sym (ap (λ (effects : List Effect). caches_served t effects (caches_of t.claims)) told ∙ served_behind t way.0 (Served w.party w.id answer ∷ []) (caches_of t.claims) (way_serves first.before (plea_again s w) w.asked s)
        ∙ caches_once (wish_by_number w.id t.waiters) answer t w (caches_of t.claims) ∙ (λ i. caches_wished (wishes i) answer (once i) (caches_of t.claims)))
    by (Rests e up) =
        ap (λ (x : Turned). caches_of x.1.claims) e
        ∙ sym (ap (λ (x : Turned). caches_served t x.0 (caches_of t.claims)) e ∙ ap (λ (effects : List Effect). caches_served t effects (caches_of t.claims)) (sym (append-nil way.0)) ∙ served_behind t way.0 [] (caches_of t.claims) (way_serves first.before (plea_again s w) w.asked s))

turned_caches : (n : ℕ) (left : Rooms) (s : CoreState) (o : Option Turned) → settle n left s ≡ o → IfSome o (λ r. caches_of r.1.claims ≡ caches_served (next_way s).1 r.0 (caches_of (next_way s).1.claims)) → caches_of (turned s o).2.claims ≡ caches_served (next_way s).1 (turned s o).1 (caches_of (next_way s).1.claims)
turned_caches n left s None e each = sym (ap (λ (way : Turned). caches_of way.1.claims) (next_none s (none_settled n left s e)))
turned_caches n left s (Some r) e each = each

-- those that an ask leaves
before_caches : (n : ℕ) (left : Rooms) (s : CoreState) (a : Ask) → IsGood s → IsFit a → caches_of (before_wish n left s a).2.claims ≡ caches_of (way left s a).1.claims
unfolding before_wish
before_caches n left s a good fit = decided_caches n left (way left s a).1 a (asked_way_good left s a good) fit.party

asked_caches : (n : ℕ) (left : Rooms) (s : CoreState) (a : Ask) → IsGood s → IsFit a → caches_of (ask n left s a).2.claims ≡ caches_asked n left s a (caches_of (way left s a).1.claims)
unfolding ask
asked_caches n left s a good fit = by (does_wish a.act) where
  r : Answered
  r = before_wish n left s a

  by : (b : Bool) → caches_of (if b then wish_for a.wish r.0 r.2 else r.2).claims ≡ (if b then caches_wished a.wish r.0 r.2 (caches_of (way left s a).1.claims) else caches_of (way left s a).1.claims)
  by true = wish_for_caches a.wish r.0 r.2 (before_good n left s a good fit) ∙ ap (caches_wished a.wish r.0 r.2) (before_caches n left s a good fit)
  by false = before_caches n left s a good fit

deed_caches : (n : ℕ) (s : CoreState) (d : Deed) → IsGood s → IsFitDeed s d → caches_of (done n s d).claims ≡ caches_after n s d (caches_of s.claims)
deed_caches n s (Asks left a) good fit = asked_caches n left s a good fit
deed_caches n s (GivesBack claim) good fit = given_caches s claim
deed_caches n s (Weakens share access deny) good fit = weakened_caches s share access deny fit.1
deed_caches n s (Acks cache to) good fit = acked_caches s cache to good
deed_caches n s (Cancels id) good fit = cancelled_caches s id
deed_caches n s (Ends party) good fit = ended_caches s party
deed_caches n s (Serves left) good fit = turned_caches n left s (settle n left s) refl (each_turn n left s (λ r. caches_of r.1.claims ≡ caches_served (next_way s).1 r.0 (caches_of (next_way s).1.claims)) good (λ turn first. first_caches n left s turn good first))
deed_caches n s Draws good fit = drawn_caches s
deed_caches n s (Advances now) good fit = advanced_caches s now
deed_caches n s (Lapses cache) good fit = lapse_caches s cache
deed_caches n s (Renews client) good fit = renewed_caches s client
deed_caches n s (Expires client) good fit = expired_caches s client
deed_caches n s (Closes number party) good fit = closed_caches s number party
deed_caches n s (FailsStore stable) good fit = store_failed_caches s stable
deed_caches n s EndsGrace good fit = end_grace_caches s

-- those of deeds in a row
pub deeds_caches : (n : ℕ) (s : CoreState) (ds : List Deed) → IsGood s → AreFit n s ds → caches_of (all_done n s ds).claims ≡ all_caches_after n s ds (caches_of s.claims)
deeds_caches n s [] good fit = refl
deeds_caches n s (d ∷ ds) good fit =
    deeds_caches n (done n s d) ds (deed_good n s d good fit.0) fit.1 ∙ ap (λ (cs : List Claim). all_caches_after n (done n s d) ds cs) (deed_caches n s d good fit.0)

-- ---- a break that runs

stays_without : (party : Option Party) (c : Claim) (cs : List Claim) → IsIn c cs → is_of_some party c ≡ false → IsIn c (caches_without_party party cs)
stays_without None c cs there other = there
stays_without (Some party) c cs there other = in_filter (λ d. not (same_parties d.party party)) c cs there (ap not other)

stays_lapsed : (names : List Name) (cache : Claim) (client : Option (List ℕ)) (c : Claim) (cs : List Claim) → IsIn c cs → is_lapsed names cache client c ≡ false → IsIn c (caches_without names cache client cs)
stays_lapsed names cache None c cs there other = stays_rest cache c None cs there other
stays_lapsed names cache (Some client) c cs there other = stays_without (party_named names (NfsParty client)) c cs there other

-- it stays, unless the deed ends it
-- a cache whose break runs already is left as it is
begun_stays : (ask c : Claim) (s : CoreState) → IsIn c s.claims → is_running c.what ≡ true → IsIn c (breaks_begun ask s).1.claims
unfolding breaks_begun
begun_stays ask c s there runs = running_stand (moment_after s.clock s.times.break_time) ask s.claims c there runs

way_stays : (earlier : List Waiter) (p : Plea) (asked : List Claim) (s : CoreState) (c : Claim) → IsIn c (caches_of s.claims) → is_running c.what ≡ true → IsIn c (caches_of (made_way earlier p asked s).1.claims)
way_stays earlier p asked s c there runs =
    let held = in_filter_from (λ x. is_cache x.what) c s.claims there in
    in_filter (λ x. is_cache x.what) c (made_way earlier p asked s).1.claims
    (elim (way_is earlier p asked s) [
      | NoWay e ↦ subst (λ (way : List Effect × CoreState). IsIn c way.1.claims) (sym e) held.0
      | Begins ask cs is does e ↦ subst (λ (way : List Effect × CoreState). IsIn c way.1.claims) (sym e) (begun_stays ask c s held.0 runs)
    ]) held.1

cache_running : (w : What) → is_running w ≡ true → is_cache w ≡ true
cache_running (Cache kind running) h = refl
cache_running (Share access deny) h = absurd (both_ways false refl h)
cache_running (Range extent exclusive) h = absurd (both_ways false refl h)

for_stays : (kinds : List CacheKind) (answer : Answer) (s : CoreState) (c : Claim) → IsIn c s.claims → is_running c.what ≡ true → IsIn c (wish_for kinds answer s).claims
for_stays kinds (answers.Granted d) s c there runs = running_stays (wish_of kinds d) s c there runs
for_stays kinds (answers.Queued number) s c there runs = there
for_stays kinds (answers.Conflict d) s c there runs = there
for_stays kinds (answers.Recall d) s c there runs = there
for_stays kinds (answers.Grace until) s c there runs = there
for_stays kinds (answers.NoGrace clock) s c there runs = there
for_stays kinds answers.NotRecorded s c there runs = there
for_stays kinds (answers.Full limit) s c there runs = there
for_stays kinds answers.NotHeld s c there runs = there
for_stays kinds answers.StoreFailed s c there runs = there

-- by the caches
cache_stays : (old new : List Claim) (c : Claim) → caches_of new ≡ caches_of old → IsIn c (caches_of old) → IsIn c new
cache_stays old new c same there = (in_filter_from (λ x. is_cache x.what) c new (subst (λ (cs : List Claim). IsIn c cs) (sym same) there)).0

ask_stays : (n : ℕ) (left : Rooms) (s : CoreState) (a : Ask) (c : Claim) → IsGood s → IsFit a → IsIn c (caches_of s.claims) → is_running c.what ≡ true → IsIn c (ask n left s a).2.claims
unfolding ask
ask_stays n left s a c good fit there runs = by (does_wish a.act) where
  r : Answered
  r = before_wish n left s a

  still : IsIn c r.2.claims
  still = cache_stays (way left s a).1.claims r.2.claims c (before_caches n left s a good fit) (way_stays s.waiters (plea_of left s a) (asked_claims a (asked_whats a.act) s.names) s c there runs)

  by : (b : Bool) → IsIn c (if b then wish_for a.wish r.0 r.2 else r.2).claims
  by true = for_stays a.wish r.0 r.2 c still runs
  by false = still

first_stays : (n : ℕ) (left : Rooms) (s : CoreState) (turn : Turned) (c : Claim) → IsFirst n left s [] s.waiters turn → IsIn c (caches_of s.claims) → is_running c.what ≡ true → IsIn c turn.1.claims
first_stays n left s turn c first there runs = by first.moved where
  w : Waiter
  w = first.waiter

  t : CoreState
  t = (way_again first.before s w).1

  still : IsIn c (caches_of t.claims)
  still = way_stays first.before (plea_again s w) w.asked s c there runs

  by : IsMoved n left first.before s w first.claim first.claims turn → IsIn c turn.1.claims
  by (Answers answer told new due pass clear) =
      let all = first.claim ∷ first.claims in
      let u = once_answered t w all answer in
      subst (λ (x : CoreState). IsIn c x.claims) (sym new)
      (for_stays w.wish answer u c (cache_stays t.claims u.claims c (once_cases (λ cs. caches_of cs ≡ caches_of t.claims) all t.claims answer refl (all_granted_caches all t.claims)) still) runs)
  by (Rests e up) = subst (λ (x : Turned). IsIn c x.1.claims) (sym e) (cache_stays t.claims t.claims c refl still)

turn_stays : (s : CoreState) (o : Option Turned) (c : Claim) → IsIn c s.claims → IfSome o (λ r. IsIn c r.1.claims) → IsIn c (turned s o).2.claims
turn_stays s None c there each = there
turn_stays s (Some r) c there each = each

deed_keeps_break : (n : ℕ) (s : CoreState) (d : Deed) (c : Claim) → IsGood s → IsFitDeed s d → IsIn c s.claims → is_running c.what ≡ true → ends_break s c d ≡ false → IsIn c (done n s d).claims
deed_keeps_break n s d c good fit there runs other = by d fit other where
  among : IsIn c (caches_of s.claims)
  among = in_filter (λ x. is_cache x.what) c s.claims there (cache_running c.what runs)

  -- it is among the caches that the deed leaves
  left_so : (e : Deed) → IsFitDeed s e → IsIn c (caches_after n s e (caches_of s.claims)) → IsIn c (done n s e).claims
  left_so e fit h = (in_filter_from (λ x. is_cache x.what) c (done n s e).claims (subst (λ (cs : List Claim). IsIn c cs) (sym (deed_caches n s e good fit)) h)).0

  by : (e : Deed) → IsFitDeed s e → ends_break s c e ≡ false → IsIn c (done n s e).claims
  by (Asks left a) fit other = ask_stays n left s a c good fit among runs
  by (Serves left) fit other = turn_stays s (settle n left s) c there (each_turn n left s (λ r. IsIn c r.1.claims) good (λ turn first. first_stays n left s turn c first among runs))
  by (GivesBack claim) fit other = left_so (GivesBack claim) fit (stays_rest claim c None (caches_of s.claims) among other)
  by (Weakens share access deny) fit other = left_so (Weakens share access deny) fit among
  by (Acks cache to) fit other = left_so (Acks cache to) fit (stays_rest cache c to (caches_of s.claims) among other)
  by (Cancels id) fit other = left_so (Cancels id) fit among
  by (Ends party) fit other = left_so (Ends party) fit (stays_without (Some party) c (caches_of s.claims) among other)
  by Draws fit other = left_so Draws fit among
  by (Advances now) fit other = left_so (Advances now) fit among
  by (Lapses cache) fit other = left_so (Lapses cache) fit (stays_lapsed s.names cache (client_of s.names cache.party) c (caches_of s.claims) among other)
  by (Renews client) fit other = left_so (Renews client) fit among
  by (Expires client) fit other = left_so (Expires client) fit (stays_without (party_named s.names (NfsParty client)) c (caches_of s.claims) among other)
  by (Closes number party) fit other = left_so (Closes number party) fit (stays_without party c (caches_of s.claims) among other)
  by (FailsStore stable) fit other = left_so (FailsStore stable) fit among
  by EndsGrace fit other = left_so EndsGrace fit among

-- a cache whose break runs stands as it is until a deed ends that
pub deeds_keep_break : (n : ℕ) (s : CoreState) (ds : List Deed) (c : Claim) → IsGood s → AreFit n s ds → IsIn c s.claims → is_running c.what ≡ true → any_ends_break n s c ds ≡ false → IsIn c (all_done n s ds).claims
deeds_keep_break n s [] c good fit there runs other = there
deeds_keep_break n s (d ∷ ds) c good fit there runs other =
    let parts = or_parts (ends_break s c d) (any_ends_break n (done n s d) c ds) other in
    deeds_keep_break n (done n s d) ds c (deed_good n s d good fit.0) fit.1 (deed_keeps_break n s d c good fit.0 there runs parts.0) runs parts.1
