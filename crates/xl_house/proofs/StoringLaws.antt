-- What each deed stores, of whose step n stores succeed: one record at most.
use Rattle.std.proofs.Common.{◌≡◌, ℕ, ◌+◌, ◌≤◌, Bool, true, false, not, ◌&&◌, ◌||◌, if◌then◌else◌, inl, inr, List, [], ◌∷◌, ◌++◌, length, take, Option, Some, None, IfSome, is_some, refl, sym, ap, ap₂, subst, ◌∙◌, arith, length-append}
use Rattle.std.specs.Prelude.{nat_lt}
use Rattle.std.specs.List.{AllByRecursion}
use Rattle.std.proofs.lemmas.Bool.{cases_Bool, both_ways, and_parts}
use Rattle.std.proofs.lemmas.Bool.Decides.{nat_tests}
use Rattle.std.proofs.lemmas.List.{take_all, take_at}
use Rattle.xl_base.specs.RecordFile.{with_name}
use Rattle.xl_base.specs.Stable.{Stable, is_recorded}
use Rattle.xl_base.specs.declared.stable.Recorded.{Recorded}
use Rattle.xl_grace.specs.Grace.{reclaimed, shortened}
use Rattle.xl_matrix.specs.declared.claim.Claim.{Claim}
use Rattle.xl_matrix.specs.declared.claim.What.{What}
use Rattle.xl_table.specs.Least.{least}
use Rattle.xl_table.specs.Relock.{granted_claims}
use Rattle.xl_wait.specs.declared.waiter.Rooms.{Rooms}
use Rattle.xl_wait.specs.declared.waiter.Waiter.{Waiter}
use Rattle.xl_core.specs.Askers.{asked_what, asked_whats, asked_claim, asked_claims, is_client}
use Rattle.xl_core.specs.Blockers.{blocker, is_in_line, cache_against, is_stopped}
use Rattle.xl_core.specs.BreakAnswers.{client_of}
use Rattle.xl_core.specs.BreaksBegun.{breaks_begun}
use Rattle.xl_core.specs.Causes.{IsClaimDue, IsEachBehind, asks_claims, back_by, last_answer, name_asked, name_waiting, noted_by, wanted}
use Rattle.xl_core.specs.Decide.{plea_of, is_back, way, ask}
use Rattle.xl_core.specs.Deeds.{Deed, Asks, GivesBack, Weakens, Acks, Cancels, Ends, Serves, Draws, Advances, Lapses, Renews, Expires, Closes, FailsStore, EndsGrace, turned as turned_or, done, all_done, IsFitDeed, AreFit}
use Rattle.xl_core.specs.Dues.{IsInTurn, AreInTurn}
use Rattle.xl_core.specs.Good.{IsGood}
use Rattle.xl_core.specs.Judge.{to_record}
use Rattle.xl_core.specs.Limits.{first_passed, grant_limits}
use Rattle.xl_core.specs.Settle.{way_again, plea_again, settle}
use Rattle.xl_core.specs.Standings.{recorded_as, asker_as, stores_name}
use Rattle.xl_core.specs.State.{CoreState, Aside, aside_of, step_begun}
use Rattle.xl_core.specs.Stores.{may_store, stored, store_failed, client_name, record_left, may_record, unrecorded, bytes_with, without_name}
use Rattle.xl_core.specs.Ticks.{gone_client, forgotten, expire, may_expire, may_lapse, may_lapse_by, lapsed_by, lapse, end_grace}
use Rattle.xl_core.specs.declared.ask.Answer.{Answer}
use Rattle.xl_core.specs.declared.ask.Answer.TheVariants.{Granted, Conflict, Queued, Recall, Grace, NoGrace, NotRecorded, Full, NotHeld, StoreFailed}
use Rattle.xl_core.specs.declared.ask.Ask.{Ask}
use Rattle.xl_core.specs.declared.ask.Effect.{Effect}
use Rattle.xl_core.proofs.AskWishLaws.{wish_claims}
use Rattle.xl_core.proofs.AsideLaws.{failed_already, failed_first}
use Rattle.xl_core.proofs.DecideLaws.{blockers_none, free_unless}
use Rattle.xl_core.proofs.DeedLaws.{deed_good}
use Rattle.xl_core.proofs.FrameLaws.{cancel_aside, give_back_aside, weaken_aside, ack_aside, end_party_aside, close_open_aside, drawn_aside, renew_aside, advanced_aside}
use Rattle.xl_core.proofs.GoodLaws.{IsFirst, IsMoved, Answers, Rests, each_turn, once_answered}
use Rattle.xl_core.proofs.LimitLaws.{grant_found}
use Rattle.xl_core.proofs.StoreLaws.{SameStores, stores_same}
use Rattle.xl_core.proofs.TickCode.{gone_stores}
use Rattle.xl_core.proofs.WayAsks.{ask_due, ask_own, ask_way_noted}
use Rattle.xl_core.proofs.WayLaws.{way_keeps}
use Rattle.xl_plan.specs.Plans.{AllAt}
use Rattle.xl_house.specs.Recording.{last_of}
use Rattle.xl_house.proofs.MarkLaws.{one_what}

-- the deed is one of the clock that may store
abbrev pub is_clocked : Deed → Bool
is_clocked (Lapses cache) = true
is_clocked (Expires client) = true
is_clocked (FailsStore stable) = true
is_clocked EndsGrace = true
is_clocked deed = false

-- ---- one store

-- nothing is stored; or this record is, as a store more succeeds; or it isn't, as none does
pub data Stores (n : ℕ) (s t : CoreState) : Type 0 where
  Nothing : SameStores s t → Stores n s t
  Succeeds : (stable : Stable) → may_store n s ≡ true → SameStores (stored stable s) t → Stores n s t
  Fails : (stable : Stable) → may_store n s ≡ false → SameStores (store_failed stable s) t → Stores n s t

same_self : (s : CoreState) → SameStores s s
same_self s = stores_same s s refl

same_then : (s t u : CoreState) → SameStores s t → SameStores t u → SameStores s u
same_then s t u first next = record { stable = next.stable ∙ first.stable; made = next.made ∙ first.made; failed = next.failed ∙ first.failed; given = next.given ∙ first.given }

stores_then : (n : ℕ) (s t u : CoreState) → Stores n s t → SameStores t u → Stores n s u
stores_then n s t u (Nothing same) next = Nothing (same_then s t u same next)
stores_then n s t u (Succeeds stable may same) next = Succeeds stable may (same_then (stored stable s) t u same next)
stores_then n s t u (Fails stable out same) next = Fails stable out (same_then (store_failed stable s) t u same next)

-- what is stored is so by these parts of the state alone
stored_same : (stable : Stable) (s t : CoreState) → SameStores s t → SameStores (stored stable s) (stored stable t)
unfolding stored
stored_same stable s t same = record { stable = refl; made = ap (λ (m : ℕ). m + 1) same.made; failed = same.failed; given = ap (λ (xs : List Stable). xs ++ stable ∷ []) same.given }

failed_same : (stable : Stable) (s t : CoreState) → SameStores s t → SameStores (store_failed stable s) (store_failed stable t)
failed_same stable s t same =
    elim (cases_Bool s.failed) [
      | inl e ↦ subst (λ (x : CoreState). SameStores x (store_failed stable t)) (sym (failed_already stable s e)) (subst (λ (x : CoreState). SameStores s x) (sym (failed_already stable t (same.failed ∙ e))) same)
      | inr e ↦
          subst (λ (x : CoreState). SameStores x (store_failed stable t)) (sym (failed_first stable s e))
          (subst (λ (x : CoreState). SameStores (record s { failed = true; given = s.given ++ stable ∷ [] }) x) (sym (failed_first stable t (same.failed ∙ e)))
          (record { stable = same.stable; made = same.made; failed = refl; given = ap (λ (xs : List Stable). xs ++ stable ∷ []) same.given }))
    ]

may_same : (n : ℕ) (s t : CoreState) → SameStores s t → may_store n t ≡ may_store n s
may_same n s t same = ap₂ (λ (failed : Bool) (made : ℕ). not failed && nat_lt made n) same.failed same.made

stores_behind : (n : ℕ) (s t u : CoreState) → SameStores s t → Stores n t u → Stores n s u
stores_behind n s t u first (Nothing same) = Nothing (same_then s t u first same)
stores_behind n s t u first (Succeeds stable may same) = Succeeds stable (sym (may_same n s t first) ∙ may) (same_then (stored stable s) (stored stable t) u (stored_same stable s t first) same)
stores_behind n s t u first (Fails stable out same) = Fails stable (sym (may_same n s t first) ∙ out) (same_then (store_failed stable s) (store_failed stable t) u (failed_same stable s t first) same)

-- ---- an answer

-- one that is granted what it asks for has its name recorded first, and one is told that the store failed if it did
abbrev IsStoredBy : ℕ → CoreState → Answer → Type 0
IsStoredBy n s (Granted c) = may_store n s ≡ true
IsStoredBy n s StoreFailed = may_store n s ≡ false
IsStoredBy n s answer = Unit {0}

left_stores : (n : ℕ) (s : CoreState) (name : Option Recorded) (answer : Answer) → ((it : Recorded) → name ≡ Some it → IsStoredBy n s answer) → Stores n s (record_left name answer s)
left_stores n s None (Granted c) by = Nothing (same_self s)
left_stores n s (Some it) (Granted c) by = Succeeds (with_name it s.stable) (by it refl) (same_self (stored (with_name it s.stable) s))
left_stores n s None StoreFailed by = Nothing (same_self s)
left_stores n s (Some it) StoreFailed by = Fails (with_name it s.stable) (by it refl) (same_self (store_failed (with_name it s.stable) s))
left_stores n s name (Conflict c) by = Nothing (same_self s)
left_stores n s name (Queued number) by = Nothing (same_self s)
left_stores n s name (Recall c) by = Nothing (same_self s)
left_stores n s name (Grace until) by = Nothing (same_self s)
left_stores n s name (NoGrace clock) by = Nothing (same_self s)
left_stores n s name NotRecorded by = Nothing (same_self s)
left_stores n s name (Full limit) by = Nothing (same_self s)
left_stores n s name NotHeld by = Nothing (same_self s)

-- one claim alone has its client recorded
to_one : (o : Option Recorded) (cs : List Claim) (it : Recorded) → to_record o cs ≡ Some it → (c : Claim) × (cs ≡ c ∷ []) × (o ≡ Some it)
to_one o [] it e = absurd cc
to_one o (c ∷ []) it e = (c, refl, e)
to_one o (c ∷ d ∷ cs) it e = absurd cc

begun_aside : (c : Claim) (s : CoreState) → aside_of (breaks_begun c s).1 ≡ aside_of s
unfolding breaks_begun
begun_aside c s = refl

may_then : (n : ℕ) (s t : CoreState) (name : Option Recorded) → SameStores s t → may_record n t name ≡ may_record n s name
may_then n s t name same = ap (λ (may : Bool). not (is_some name) || may) (may_same n s t same)

-- ---- an ask

back_stores : (a : Ask) (s : CoreState) → SameStores s (is_back a s)
back_stores a s = by a.reclaim where
  by : (b : Bool) → SameStores s (if b then record s { grace = reclaimed (recorded_as a.party) s.grace } else s)
  by true = record { stable = refl; made = refl; failed = refl; given = refl }
  by false = same_self s

noted_stores : (a : Ask) (answer : Answer) (s : CoreState) → SameStores s (back_by a answer s)
noted_stores a (Granted c) s = by (asks_claims a.act) where
  by : (b : Bool) → SameStores s (if b then is_back a s else s)
  by true = back_stores a s
  by false = same_self s
noted_stores a StoreFailed s = same_self s
noted_stores a (Conflict c) s = same_self s
noted_stores a (Queued number) s = same_self s
noted_stores a (Recall c) s = same_self s
noted_stores a (Grace until) s = same_self s
noted_stores a (NoGrace clock) s = same_self s
noted_stores a NotRecorded s = same_self s
noted_stores a (Full limit) s = same_self s
noted_stores a NotHeld s = same_self s

ask_stored_by : (n : ℕ) (left : Rooms) (s : CoreState) (a : Ask) (it : Recorded) → name_asked s a ≡ Some it → IsStoredBy n s (ask n left s a).0
ask_stored_by n left s a it named = by (ask n left s a).0 ((ask_due n left s a one.0 (ask n left s a).0 one.1).0 refl) where
  u : CoreState
  u = (way left s a).1

  alone_is : (c : Claim) × (asked_claims a (asked_whats a.act) s.names ≡ c ∷ []) × (wanted s a ≡ Some it)
  alone_is = to_one (wanted s a) (asked_claims a (asked_whats a.act) s.names) it named

  one : (what : What) × (asked_what a.act ≡ Some what)
  one = one_what a s.names (asked_whats a.act) alone_is.0 alone_is.1

  aside : aside_of u ≡ aside_of s
  aside = way_keeps aside_of s.waiters (plea_of left s a) (asked_claims a (asked_whats a.act) s.names) s (λ c. begun_aside c s)

  may : may_record n u (wanted u a) ≡ may_store n s
  may = may_then n s u (wanted u a) (stores_same s u aside) ∙ ap (λ (x : Aside). may_record n s (unrecorded (stores_name a) (asker_as a) x.stable)) aside ∙ ap (may_record n s) alone_is.2

  by : (answer : Answer) → IsClaimDue n left u a (asked_claim a one.0 s.names) answer → IsStoredBy n s answer
  by (Granted c) due = sym may ∙ due.4
  by StoreFailed due = sym may ∙ due.3
  by (Conflict c) due = tt
  by (Queued number) due = tt
  by (Recall c) due = tt
  by (Grace until) due = tt
  by (NoGrace clock) due = tt
  by NotRecorded due = tt
  by (Full limit) due = tt
  by NotHeld due = tt

ask_stores : (n : ℕ) (left : Rooms) (s : CoreState) (a : Ask) → IsGood s → is_client a.owner a.party ≡ true → Stores n s (ask n left s a).2
ask_stores n left s a good client =
    let answer = (ask n left s a).0 in
    let first = record_left (name_asked s a) answer s in
    let noted = noted_by s a answer in
    stores_then n s first (ask n left s a).2 (left_stores n s (name_asked s a) answer (λ it named. ask_stored_by n left s a it named))
    (same_then first noted (ask n left s a).2 (noted_stores a answer first) (stores_same noted (ask n left s a).2 ((ask_own n left s a good client).noted ∙ ask_way_noted left s a answer)))

-- ---- a turn

-- these come last
abbrev ends : Answer → Bool
ends (Granted c) = true
ends StoreFailed = true
ends answer = false

-- one claim that nothing stops is told what comes last
last_is : (earlier : List Waiter) (left rows : Rooms) (bytes kept : ℕ) (last : Answer) (c : Claim) (t : CoreState) (answer : Answer) → ends answer ≡ true → IsEachBehind earlier left rows bytes kept last (c ∷ []) t answer → answer ≡ last
last_is earlier left rows bytes kept last c t answer end due = by_held (blocker earlier t c) refl where
  held : ℕ
  held = length (granted_claims c t.claims)

  by_room : is_in_line earlier t c ≡ false → (o : Option ℕ) → first_passed (grant_limits left rows held bytes kept) ≡ o → answer ≡ last
  by_room free None e = due.3 free (grant_found left rows held bytes kept None e)
  by_room free (Some limit) e = absurd (both_ways (ends answer) (ap ends (due.2 limit free (grant_found left rows held bytes kept (Some limit) e))) end)

  by_cache : is_stopped earlier t c ≡ false → (o : Option Claim) → cache_against t.claims c ≡ o → answer ≡ last
  by_cache moves None e = by_room (free_unless earlier t c moves e) (first_passed (grant_limits left rows held bytes kept)) refl
  by_cache moves (Some d) e = absurd (both_ways (ends answer) (ap ends (due.1 d moves e)) end)

  by_held : (o : Option Claim) → blocker earlier t c ≡ o → answer ≡ last
  by_held None e = by_cache (blockers_none earlier t c e) (cache_against t.claims c) refl
  by_held (Some d) e = absurd (both_ways (ends answer) (ap ends (due.0 d e)) end)

abbrev is_grant : Answer → Bool
is_grant (Granted c) = true
is_grant answer = false

told_so : (n : ℕ) (s : CoreState) (may : Bool) (c : Claim) (answer : Answer) → may_store n s ≡ may → (ends answer ≡ true → answer ≡ last_answer may c) → IsStoredBy n s answer
told_so n s true c (Granted d) is told = is
told_so n s false c (Granted d) is told = absurd (both_ways true (ap is_grant (told refl)) refl)
told_so n s true c StoreFailed is told = absurd (both_ways false refl (ap is_grant (told refl)))
told_so n s false c StoreFailed is told = is
told_so n s may c (Conflict d) is told = tt
told_so n s may c (Queued number) is told = tt
told_so n s may c (Recall d) is told = tt
told_so n s may c (Grace until) is told = tt
told_so n s may c (NoGrace clock) is told = tt
told_so n s may c NotRecorded is told = tt
told_so n s may c (Full limit) is told = tt
told_so n s may c NotHeld is told = tt

first_stores : (n : ℕ) (left : Rooms) (s : CoreState) (turn : List Effect × CoreState) → IsGood s → IsFirst n left s [] s.waiters turn → Stores n s turn.1
first_stores n left s turn good first = stores_behind n s t turn.1 (stores_same s t (way_keeps aside_of first.before (plea_again s w) w.asked s (λ c. begun_aside c s))) (by first.moved) where
  w : Waiter
  w = first.waiter

  t : CoreState
  t = (way_again first.before s w).1

  all : List Claim
  all = first.claim ∷ first.claims

  name : Option Recorded
  name = to_record (name_waiting t w) all

  rows : ℕ
  rows = bytes_with (name_waiting t w) t.stable

  by : IsMoved n left first.before s w first.claim first.claims turn → Stores n t turn.1
  by (Rests e up) = Nothing (stores_same t turn.1 (ap (λ (x : List Effect × CoreState). aside_of x.1) e))
  by (Answers answer told new due pass clear) =
      stores_then n t (record_left name answer t) turn.1 (left_stores n t name answer stored_by)
      (stores_same (record_left name answer t) turn.1 (ap aside_of (new ∙ wish_claims w.wish answer (once_answered t w all answer))))
    where
      stored_by : (it : Recorded) → name ≡ Some it → IsStoredBy n t answer
      stored_by it named =
          let one = to_one (name_waiting t w) all it named in
          let may : may_record n t name ≡ may_store n t = ap (may_record n t) named in
          let due_one : IsEachBehind first.before left w.rows rows (length s.names) (last_answer (may_record n t name) first.claim) (one.0 ∷ []) t answer = subst (λ (cs : List Claim). IsEachBehind first.before left w.rows rows (length s.names) (last_answer (may_record n t name) first.claim) cs t answer) one.1 due in
          told_so n t (may_record n t name) first.claim answer (sym may) (λ end. last_is first.before left w.rows rows (length s.names) (last_answer (may_record n t name) first.claim) one.0 t answer end due_one)

turn_stores : (n : ℕ) (s : CoreState) (o : Option (List Effect × CoreState)) → IfSome o (λ r. Stores n s r.1) → Stores n s (turned_or s o).2
turn_stores n s None is = Nothing (same_self s)
turn_stores n s (Some r) is = is

-- ---- the clock

forgotten_stores : (n : ℕ) (s : CoreState) (client : List ℕ) → may_expire n s client ≡ true → Stores n s (forgotten s client)
forgotten_stores n s client may =
    elim (cases_Bool (is_recorded (client_name client) s.stable.names)) [
      | inl has ↦ rw has (Succeeds (without_name (client_name client) s.stable) (sym (ap (λ (b : Bool). not b || may_store n s) has) ∙ may) (same_self (stored (without_name (client_name client) s.stable) s)))
      | inr lacks ↦ rw lacks (Nothing (same_self s))
    ]

expire_stores : (n : ℕ) (s : CoreState) (client : List ℕ) → may_expire n s client ≡ true → Stores n s (expire s client).1
unfolding expire
expire_stores n s client may = let t = forgotten s client in stores_then n s t (gone_client t client).1 (forgotten_stores n s client may) (gone_stores t client)

lapse_stores : (n : ℕ) (s : CoreState) (cache : Claim) → may_lapse n s cache ≡ true → Stores n s (lapse s cache).1
unfolding lapse
lapse_stores n s cache = by (client_of s.names cache.party) where
  by : (o : Option (List ℕ)) → may_lapse_by n s o ≡ true → Stores n s (lapsed_by s cache o).1
  by None may = Nothing (record { stable = refl; made = refl; failed = refl; given = refl })
  by (Some client) may = expire_stores n s client may

end_stores : (n : ℕ) (s : CoreState) → may_store n s ≡ true → Stores n s (end_grace s)
unfolding end_grace
end_stores n s may = Succeeds (shortened s.grace s.stable) may (record { stable = refl; made = refl; failed = refl; given = refl })

-- ---- the deeds

-- what the clock stores is done if the store succeeds
abbrev pub IsPaid : ℕ → CoreState → Deed → Type 0
IsPaid n s (Lapses cache) = may_lapse n s cache ≡ true
IsPaid n s (Expires client) = may_expire n s client ≡ true
IsPaid n s (FailsStore stable) = may_store n s ≡ false
IsPaid n s EndsGrace = may_store n s ≡ true
IsPaid n s deed = Unit {0}

pub deed_stores : (n : ℕ) (s : CoreState) (d : Deed) → IsGood s → IsFitDeed s d → IsPaid n s d → Stores n s (done n s d)
deed_stores n s (Asks left a) good fit paid = ask_stores n left s a good fit.party
deed_stores n s (GivesBack claim) good fit paid = Nothing (stores_same s (done n s (GivesBack claim)) (give_back_aside s claim))
deed_stores n s (Weakens share access deny) good fit paid = Nothing (stores_same s (done n s (Weakens share access deny)) (weaken_aside s share access deny))
deed_stores n s (Acks cache to) good fit paid = Nothing (stores_same s (done n s (Acks cache to)) (ack_aside s cache to))
deed_stores n s (Cancels id) good fit paid = Nothing (stores_same s (done n s (Cancels id)) (cancel_aside s id))
deed_stores n s (Ends party) good fit paid = Nothing (stores_same s (done n s (Ends party)) (end_party_aside s party))
deed_stores n s (Serves left) good fit paid = turn_stores n s (settle n left s) (each_turn n left s (λ r. Stores n s r.1) good (λ turn first. first_stores n left s turn good first))
deed_stores n s Draws good fit paid = Nothing (stores_same s (done n s Draws) (drawn_aside s))
deed_stores n s (Advances now) good fit paid = Nothing (stores_same s (done n s (Advances now)) (advanced_aside s now))
deed_stores n s (Lapses cache) good fit paid = lapse_stores n s cache paid
deed_stores n s (Renews client) good fit paid = Nothing (stores_same s (done n s (Renews client)) (renew_aside s client))
deed_stores n s (Expires client) good fit paid = expire_stores n s client paid
deed_stores n s (Closes number party) good fit paid = Nothing (stores_same s (done n s (Closes number party)) (close_open_aside s number party))
deed_stores n s (FailsStore stable) good fit paid = Fails stable paid (same_self (store_failed stable s))
deed_stores n s EndsGrace good fit paid = end_stores n s paid

-- ---- what was stored until then

-- No more than n were made, and one failed only behind n. Each record that was given was stored, except the last, if its store failed;
-- and the record is the last that was stored, of which this was the one before.
pub record HasStored (n : ℕ) (before : Stable) (s : CoreState) : Type 0 where
  pub most : s.made ≤ n
  pub given : length s.given ≡ (if s.failed then s.made + 1 else s.made)
  pub short : s.failed ≡ true → s.made ≡ n
  pub last : s.stable ≡ last_of (take s.made s.given) before

has_same : (n : ℕ) (before : Stable) (s t : CoreState) → SameStores s t → HasStored n before s → HasStored n before t
has_same n before s t same has = record {
  most = omega (arith, same.made, has.most);
  given = ap length same.given ∙ has.given ∙ ap₂ (λ (failed : Bool) (made : ℕ). if failed then made + 1 else made) (sym same.failed) (sym same.made);
  short = λ f. same.made ∙ has.short (sym same.failed ∙ f);
  last = same.stable ∙ has.last ∙ ap₂ (λ (made : ℕ) (given : List Stable). last_of (take made given) before) (sym same.made) (sym same.given);
}

last_more : (given : List Stable) (stable before : Stable) → last_of (given ++ stable ∷ []) before ≡ stable
last_more [] stable before = refl
last_more (first ∷ given) stable before = last_more given stable first

not_true : (b : Bool) → not b ≡ true → b ≡ false
not_true true e = absurd (both_ways false refl e)
not_true false e = refl

-- where none failed all that was given was stored
all_given : (n : ℕ) (before : Stable) (s : CoreState) → HasStored n before s → s.failed ≡ false → length s.given ≡ s.made
all_given n before s has runs = has.given ∙ ap (λ (failed : Bool). if failed then s.made + 1 else s.made) runs

has_one : (n : ℕ) (before stable : Stable) (s : CoreState) → may_store n s ≡ true → HasStored n before s → HasStored n before (stored stable s)
unfolding stored
has_one n before stable s may has = record {
  most = grind (arith, nat_tests, parts.1);
  given = longer ∙ sym (ap (λ (failed : Bool). if failed then (s.made + 1) + 1 else s.made + 1) runs);
  short = λ f. absurd (both_ways s.failed runs f);
  last = sym (ap (λ (xs : List Stable). last_of xs before) (take_all (s.made + 1) (s.given ++ stable ∷ []) (omega (arith, longer))) ∙ last_more s.given stable before);
} where
  parts : (not s.failed ≡ true) × (nat_lt s.made n ≡ true)
  parts = and_parts (not s.failed) (nat_lt s.made n) may

  runs : s.failed ≡ false
  runs = not_true s.failed parts.0

  longer : length (s.given ++ stable ∷ []) ≡ s.made + 1
  longer = omega (arith, length-append s.given (stable ∷ []), all_given n before s has runs)

has_none : (n : ℕ) (before stable : Stable) (s : CoreState) → may_store n s ≡ false → HasStored n before s → HasStored n before (store_failed stable s)
has_none n before stable s out has =
    elim (cases_Bool s.failed) [
      | inl already ↦ subst (λ (t : CoreState). HasStored n before t) (sym (failed_already stable s already)) has
      | inr runs ↦ subst (λ (t : CoreState). HasStored n before t) (sym (failed_first stable s runs)) (first runs)
    ]
  where
    first : s.failed ≡ false → HasStored n before (record s { failed = true; given = s.given ++ stable ∷ [] })
    first runs =
        let all = all_given n before s has runs in
        let none : nat_lt s.made n ≡ false = sym (ap (λ (b : Bool). not b && nat_lt s.made n) runs) ∙ out in
        record {
          most = has.most;
          given = omega (arith, length-append s.given (stable ∷ []), all);
          short = λ f. grind (arith, nat_tests, none, has.most);
          last = has.last ∙ ap (λ (xs : List Stable). last_of xs before) (take_all s.made s.given (omega (arith, all)) ∙ sym (take_at s.given (stable ∷ []) s.made all));
        }

stores_has : (n : ℕ) (before : Stable) (s t : CoreState) → Stores n s t → HasStored n before s → HasStored n before t
stores_has n before s t (Nothing same) has = has_same n before s t same has
stores_has n before s t (Succeeds stable may same) has = has_same n before (stored stable s) t same (has_one n before stable s may has)
stores_has n before s t (Fails stable out same) has = has_same n before (store_failed stable s) t same (has_none n before stable s out has)

pub deeds_store : (n : ℕ) (before : Stable) (s : CoreState) (ds : List Deed) → IsGood s → AreFit n s ds → AllAt (IsPaid n) n s ds → HasStored n before s → HasStored n before (all_done n s ds)
deeds_store n before s [] good fit paid has = has
deeds_store n before s (d ∷ ds) good fit paid has =
    deeds_store n before (done n s d) ds (deed_good n s d good fit.0) fit.1 paid.1 (stores_has n before s (done n s d) (deed_stores n s d good fit.0 paid.0) has)

-- nothing where a step begins
pub begun_has : (n : ℕ) (s : CoreState) → HasStored n s.stable (step_begun s)
unfolding step_begun
begun_has n s = record { most = omega arith; given = refl; short = λ f. absurd (both_ways false refl f); last = refl }

-- a store failed if fewer were made than were given
pub short_is : (n : ℕ) (before : Stable) (s : CoreState) → HasStored n before s → nat_lt s.made (length s.given) ≡ s.failed
short_is n before s has = by s.failed refl where
  by : (b : Bool) → s.failed ≡ b → nat_lt s.made (length s.given) ≡ b
  by true e = let longer : length s.given ≡ s.made + 1 = has.given ∙ ap (λ (failed : Bool). if failed then s.made + 1 else s.made) e in grind (arith, nat_tests, longer)
  by false e = let all = all_given n before s has e in grind (arith, nat_tests, all)

-- ---- the deeds that are paid for

-- those of a reading of the clock are
pub turns_paid : (n : ℕ) (s t : CoreState) (ds : List Deed) → AreInTurn n s ds t → AllAt (IsPaid n) n s ds
turns_paid n s t [] turns = tt
turns_paid n s t (d ∷ ds) turns = (one d turns.0, turns_paid n (done n s d) t ds turns.1) where
  one : (d : Deed) → IsInTurn n s t d → IsPaid n s d
  one (Lapses cache) is = is.0
  one (Expires client) is = is.0
  one (FailsStore stable) is = is.1
  one EndsGrace is = is
  one (Asks left a) is = tt
  one (GivesBack claim) is = tt
  one (Weakens share access deny) is = tt
  one (Acks cache to) is = tt
  one (Cancels id) is = tt
  one (Ends party) is = tt
  one (Serves left) is = tt
  one Draws is = tt
  one (Advances now) is = tt
  one (Renews client) is = tt
  one (Closes number party) is = tt

pub paid_append : (n : ℕ) (s : CoreState) (ds more : List Deed) → AllAt (IsPaid n) n s ds → AllAt (IsPaid n) n (all_done n s ds) more → AllAt (IsPaid n) n s (ds ++ more)
paid_append n s [] more first next = next
paid_append n s (d ∷ ds) more first next = (first.0, paid_append n (done n s d) ds more first.1 next)

-- no other event's deeds store by the clock
pub free_paid : (n : ℕ) (s : CoreState) (ds : List Deed) → AllByRecursion (λ d. is_clocked d ≡ false) ds → AllAt (IsPaid n) n s ds
free_paid n s [] none = tt
free_paid n s (d ∷ ds) none = (one d none.0, free_paid n (done n s d) ds none.1) where
  one : (d : Deed) → is_clocked d ≡ false → IsPaid n s d
  one (Lapses cache) is = absurd (both_ways true is refl)
  one (Expires client) is = absurd (both_ways true is refl)
  one (FailsStore stable) is = absurd (both_ways true is refl)
  one EndsGrace is = absurd (both_ways true is refl)
  one (Asks left a) is = tt
  one (GivesBack claim) is = tt
  one (Weakens share access deny) is = tt
  one (Acks cache to) is = tt
  one (Cancels id) is = tt
  one (Ends party) is = tt
  one (Serves left) is = tt
  one Draws is = tt
  one (Advances now) is = tt
  one (Renews client) is = tt
  one (Closes number party) is = tt
