-- Exactly how each deed changes the record and the grace that runs, and which names and marks come and go.
use Rattle.std.proofs.Common.{◌≡◌, ℕ, Bool, true, false, not, ◌&&◌, ◌==◌, if◌then◌else◌, inl, inr, ◌⊎◌, List, [], ◌∷◌, ◌++◌, Option, Some, None, IfSome, refl, sym, ap, ap₂, subst, ◌∙◌, append-nil}
use Rattle.std.specs.List.{filter}
use Rattle.std.proofs.lemmas.Bool.{cases_Bool, both_ways, and_parts, or_parts, eq-eqb, not-true}
use Rattle.xl_base.proofs.Members.{all_in, in_append_right, in_filter, in_filter_from}
use Rattle.xl_base.proofs.StableLaws.{same_name-sym, like_right, like_recorded}
use Rattle.xl_base.specs.Lists.{IsIn, Pairwise}
use Rattle.xl_base.specs.RecordFile.{with_name}
use Rattle.xl_base.specs.Stable.{Stable, same_name, keeps, is_recorded, is_kept}
use Rattle.xl_base.specs.declared.name.Party.{Party}
use Rattle.xl_base.specs.declared.stable.Mark.{Mark}
use Rattle.xl_base.specs.declared.stable.Recorded.{Recorded}
use Rattle.xl_grace.proofs.GraceLaws.{like_back}
use Rattle.xl_grace.specs.Grace.{Running, expired, is_back, reclaimed, shortened}
use Rattle.xl_matrix.specs.declared.claim.Claim.{Claim}
use Rattle.xl_names.specs.declared.name.Name.{Name}
use Rattle.xl_names.specs.declared.name.Name.TheVariants.{NfsParty}
use Rattle.xl_wait.specs.declared.waiter.Rooms.{Rooms}
use Rattle.xl_wait.specs.declared.waiter.Waiter.{Waiter}
use Rattle.xl_core.specs.Askers.{asked_whats, asked_claims, is_client, party_named}
use Rattle.xl_core.specs.BreakAnswers.{client_of}
use Rattle.xl_core.specs.BreaksBegun.{breaks_begun}
use Rattle.xl_core.specs.Causes.{asks_claims, name_asked, name_waiting, noted_by}
use Rattle.xl_core.specs.Decide.{ask}
use Rattle.xl_core.specs.Deeds.{Deed, Asks, GivesBack, Weakens, Acks, Cancels, Ends, Serves, Draws, Advances, Lapses, Renews, Expires, Closes, FailsStore, EndsGrace, given, turned, done, all_done, IsFitDeed, AreFit}
use Rattle.xl_core.specs.Frames.{serves_none}
use Rattle.xl_core.specs.Good.{IsGood, are_apart}
use Rattle.xl_core.specs.Judge.{to_record}
use Rattle.xl_core.specs.Settle.{settle, way_again, plea_again, end_party}
use Rattle.xl_core.specs.Standings.{recorded_as, marked, asker_as, waiter_as, stores_name}
use Rattle.xl_core.specs.State.{CoreState, Aside, aside_of}
use Rattle.xl_core.specs.Stores.{stored, store_failed, client_name, recorded, record_left, unrecorded, unstored, without_name}
use Rattle.xl_core.specs.Ticks.{end_some, unleased, barred, gone_client, forgotten, expire, lapsed_by, lapse, end_grace}
use Rattle.xl_core.specs.Wishes.{wish_for}
use Rattle.xl_core.specs.declared.ask.Answer.{Answer}
use Rattle.xl_core.specs.declared.ask.Answer.TheVariants.{Granted, Conflict, Queued, Recall, Grace, NoGrace, NotRecorded, Full, NotHeld, StoreFailed}
use Rattle.xl_core.specs.declared.ask.Ask.{Ask}
use Rattle.xl_core.specs.declared.ask.Effect.{Effect}
use Rattle.xl_core.specs.declared.ask.Effect.TheVariants.{Begun, Served, Cancelled, Expired}
use Rattle.xl_core.proofs.AskWishLaws.{wish_claims}
use Rattle.xl_core.proofs.AsideLaws.{left_grace}
use Rattle.xl_core.proofs.DeedLaws.{deed_good}
use Rattle.xl_core.proofs.FrameLaws.{cancel_aside, give_back_aside, weaken_aside, ack_aside, end_party_aside, close_open_aside, drawn_aside, renew_aside, advanced_aside}
use Rattle.xl_core.proofs.GoodLaws.{IsFirst, IsMoved, Answers, Rests, again_waits, each_turn, once_answered}
use Rattle.xl_core.proofs.WayAsks.{ask_own, ask_way_noted}
use Rattle.xl_core.proofs.WayLaws.{way_keeps, way_serves}
use Rattle.xl_house.specs.Recording.{with_some, stable_by, name_waited, stable_served, without_client, stable_left, stable_after, grace_by, grace_without, grace_left, grace_after, AnyAt, HasServed, IsMonitored, IsNamed, IsOver, IsChanged, IsHeldOn, AreHeldOn}
use Rattle.xl_house.proofs.MarkLaws.{kept_in, kept_named, kept_of, kept_with, keeps_apart, like_in, like_marked, one_asked, one_what, recorded_of, some_from, some_stays, wanted_is}

-- it is so of the record and of the grace
pub record IsNoted (s : CoreState) (stable : Stable) (grace : Option Running) (t : CoreState) : Type 0 where
  pub record_is : t.stable ≡ stable
  pub grace_is : t.grace ≡ grace

noted_same : (s t : CoreState) → aside_of t ≡ aside_of s → IsNoted s s.stable s.grace t
noted_same s t same = record { record_is = ap (λ (x : Aside). x.stable) same; grace_is = ap (λ (x : Aside). x.grace) same }

-- ---- a store that fails

pub failed_stable : (stable : Stable) (s : CoreState) → (store_failed stable s).stable ≡ s.stable
unfolding store_failed
failed_stable stable s = by s.failed where
  by : (b : Bool) → (if b then s else record s { failed = true; given = s.given ++ stable ∷ [] }).stable ≡ s.stable
  by true = refl
  by false = refl

failed_grace : (stable : Stable) (s : CoreState) → (store_failed stable s).grace ≡ s.grace
unfolding store_failed
failed_grace stable s = by s.failed where
  by : (b : Bool) → (if b then s else record s { failed = true; given = s.given ++ stable ∷ [] }).grace ≡ s.grace
  by true = refl
  by false = refl

-- ---- an ask

got_stable : (name : Option Recorded) (s : CoreState) → (recorded name s).stable ≡ with_some name s.stable
unfolding stored
got_stable None s = refl
got_stable (Some name) s = refl

got_grace : (name : Option Recorded) (s : CoreState) → (recorded name s).grace ≡ s.grace
unfolding stored
got_grace None s = refl
got_grace (Some name) s = refl

lost_stable : (name : Option Recorded) (s : CoreState) → (unstored name s).stable ≡ s.stable
lost_stable None s = refl
lost_stable (Some name) s = failed_stable (with_name name s.stable) s

lost_grace : (name : Option Recorded) (s : CoreState) → (unstored name s).grace ≡ s.grace
lost_grace None s = refl
lost_grace (Some name) s = failed_grace (with_name name s.stable) s

left_stable : (name : Option Recorded) (answer : Answer) (s : CoreState) → (record_left name answer s).stable ≡ stable_by name answer s.stable
left_stable name (Granted c) s = got_stable name s
left_stable name StoreFailed s = lost_stable name s
left_stable name (Conflict c) s = refl
left_stable name (Queued number) s = refl
left_stable name (Recall c) s = refl
left_stable name (Grace until) s = refl
left_stable name (NoGrace clock) s = refl
left_stable name NotRecorded s = refl
left_stable name (Full limit) s = refl
left_stable name NotHeld s = refl

noted_granted : (s : CoreState) (a : Ask) (c : Claim) → IsNoted s (stable_by (name_asked s a) (Granted c) s.stable) (grace_by a (Granted c) s.grace) (noted_by s a (Granted c))
noted_granted s a c = by (asks_claims a.act) a.reclaim where
  name : Option Recorded
  name = name_asked s a

  got : CoreState
  got = recorded name s

  back : Bool → CoreState
  back b = if b then record got { grace = reclaimed (recorded_as a.party) got.grace } else got

  by : (asks reclaims : Bool) → IsNoted s (with_some name s.stable) (if asks && reclaims then reclaimed (recorded_as a.party) s.grace else s.grace) (if asks then back reclaims else got)
  by true true = record { record_is = got_stable name s; grace_is = ap (reclaimed (recorded_as a.party)) (got_grace name s) }
  by true false = record { record_is = got_stable name s; grace_is = got_grace name s }
  by false reclaims = record { record_is = got_stable name s; grace_is = got_grace name s }

noted_is : (s : CoreState) (a : Ask) (answer : Answer) → IsNoted s (stable_by (name_asked s a) answer s.stable) (grace_by a answer s.grace) (noted_by s a answer)
noted_is s a (Granted c) = noted_granted s a c
noted_is s a StoreFailed = record { record_is = lost_stable (name_asked s a) s; grace_is = lost_grace (name_asked s a) s }
noted_is s a (Conflict c) = record { record_is = refl; grace_is = refl }
noted_is s a (Queued number) = record { record_is = refl; grace_is = refl }
noted_is s a (Recall c) = record { record_is = refl; grace_is = refl }
noted_is s a (Grace until) = record { record_is = refl; grace_is = refl }
noted_is s a (NoGrace clock) = record { record_is = refl; grace_is = refl }
noted_is s a NotRecorded = record { record_is = refl; grace_is = refl }
noted_is s a (Full limit) = record { record_is = refl; grace_is = refl }
noted_is s a NotHeld = record { record_is = refl; grace_is = refl }

ask_noted : (n : ℕ) (left : Rooms) (s : CoreState) (a : Ask) → IsGood s → is_client a.owner a.party ≡ true → (let r = ask n left s a in IsNoted s (stable_by (name_asked s a) r.0 s.stable) (grace_by a r.0 s.grace) r.2)
ask_noted n left s a good client =
    let r = ask n left s a in
    let same : aside_of r.2 ≡ aside_of (noted_by s a r.0) = (ask_own n left s a good client).noted ∙ ask_way_noted left s a r.0 in
    let is = noted_is s a r.0 in
    record { record_is = ap (λ (x : Aside). x.stable) same ∙ is.record_is; grace_is = ap (λ (x : Aside). x.grace) same ∙ is.grace_is }

-- ---- a turn

-- what is told of breaks leaves it
behind_none : (s : CoreState) (told more : List Effect) (stable : Stable) → serves_none told ≡ true → stable_served s (told ++ more) stable ≡ stable_served s more stable
behind_none s [] more stable none = refl
behind_none s (Served party id answer ∷ told) more stable none = absurd (both_ways false refl none)
behind_none s (Begun cache to call ∷ told) more stable none = behind_none s told more stable none
behind_none s (Cancelled party id ∷ told) more stable none = behind_none s told more stable none
behind_none s (Expired client ∷ told) more stable none = behind_none s told more stable none

none_served : (s : CoreState) (told : List Effect) (stable : Stable) → serves_none told ≡ true → stable_served s told stable ≡ stable
none_served s told stable none = ap (λ (es : List Effect). stable_served s es stable) (sym (append-nil told)) ∙ behind_none s told [] stable none

abbrev waited_as : List Name → Waiter → Stable → Option Recorded
waited_as names w stable = to_record (unrecorded w.monitored (waiter_as names w) stable) w.asked

waited_there : (names : List Name) (stable : Stable) (before : List Waiter) (w : Waiter) (behind : List Waiter) → Pairwise are_apart (before ++ w ∷ behind) → name_waited w.id names (before ++ w ∷ behind) stable ≡ waited_as names w stable
waited_there names stable [] w behind apart = ap (λ (b : Bool). if b then waited_as names w stable else name_waited w.id names behind stable) (eq-eqb w.id w.id refl)
waited_there names stable (v ∷ before) w behind apart =
    let other : (v.id == w.id) ≡ false = not-true (v.id == w.id) (all_in (λ x. are_apart v x ≡ true) w (before ++ w ∷ behind) apart.0 (in_append_right w before (w ∷ behind) (inl refl))) in
    ap (λ (b : Bool). if b then waited_as names v stable else name_waited w.id names (before ++ w ∷ behind) stable) other ∙ waited_there names stable before w behind apart.1

begun_aside : (c : Claim) (s : CoreState) → aside_of (breaks_begun c s).1 ≡ aside_of s
unfolding breaks_begun
begun_aside c s = refl

abbrev Turned : Type 0
Turned = List Effect × CoreState

abbrev TurnNotes : CoreState → Turned → Type 0
TurnNotes s r = IsNoted s (stable_served s r.0 s.stable) s.grace r.1

first_noted : (n : ℕ) (left : Rooms) (s : CoreState) (turn : Turned) → IsGood s → IsFirst n left s [] s.waiters turn → TurnNotes s turn
first_noted n left s turn good first = by first.moved where
  w : Waiter
  w = first.waiter

  way : Turned
  way = way_again first.before s w

  t : CoreState
  t = way.1

  all : List Claim
  all = first.claim ∷ first.claims

  same : aside_of t ≡ aside_of s
  same = way_keeps aside_of first.before (plea_again s w) w.asked s (λ c. begun_aside c s)

  quiet : serves_none way.0 ≡ true
  quiet = way_serves first.before (plea_again s w) w.asked s

  name : Option Recorded
  name = to_record (name_waiting t w) all

  waited : name_waited w.id s.names s.waiters s.stable ≡ name
  waited =
      ap (λ (ws : List Waiter). name_waited w.id s.names ws s.stable) first.stood
      ∙ waited_there s.names s.stable first.before w first.behind (subst (λ (ws : List Waiter). Pairwise are_apart ws) first.stood good.apart)
      ∙ (λ i. to_record (again_waits first.before s w i) (first.asked i))

  by : IsMoved n left first.before s w first.claim first.claims turn → TurnNotes s turn
  by (Rests e up) = record {
    record_is = ap (λ (x : Turned). x.1.stable) e ∙ ap (λ (x : Aside). x.stable) same ∙ sym (none_served s way.0 s.stable quiet) ∙ ap (λ (x : Turned). stable_served s x.0 s.stable) (sym e);
    grace_is = ap (λ (x : Turned). x.1.grace) e ∙ ap (λ (x : Aside). x.grace) same;
  }
  by (Answers answer told new due pass clear) =
      let last : turn.1 ≡ record (once_answered t w all answer) { claims = (wish_for w.wish answer (once_answered t w all answer)).claims } = new ∙ wish_claims w.wish answer (once_answered t w all answer) in
      record {
        record_is =
            ap (λ (x : CoreState). x.stable) last
            ∙ left_stable name answer t
            ∙ ap (λ (x : Aside). stable_by name answer x.stable) same
            ∙ ap (λ (o : Option Recorded). stable_by o answer s.stable) (sym waited)
            ∙ sym (behind_none s way.0 (Served w.party w.id answer ∷ []) s.stable quiet)
            ∙ ap (λ (es : List Effect). stable_served s es s.stable) (sym told);
        grace_is = ap (λ (x : CoreState). x.grace) last ∙ left_grace name answer t ∙ ap (λ (x : Aside). x.grace) same;
      }

turn_noted : (s : CoreState) (o : Option Turned) → IfSome o (TurnNotes s) → (let r = turned s o in IsNoted s (stable_served s r.1 s.stable) s.grace r.2)
turn_noted s None each = record { record_is = refl; grace_is = refl }
turn_noted s (Some r) each = each

-- ---- an expiry

none_gone : (name : Recorded) (names : List Recorded) → is_recorded name names ≡ false → names ≡ filter (λ held. not (same_name held name)) names
none_gone name [] out = refl
none_gone name (first ∷ names) out =
    let parts = or_parts (same_name first name) (is_recorded name names) out in
    rw parts.0 (ap (λ (rest : List Recorded). first ∷ rest) (none_gone name names parts.1))

forgotten_noted : (s : CoreState) (client : List ℕ) → IsNoted s (without_name (client_name client) s.stable) s.grace (forgotten s client)
unfolding stored
forgotten_noted s client =
    elim (cases_Bool (is_recorded (client_name client) s.stable.names)) [
      | inl has ↦ rw has (record { record_is = refl; grace_is = refl })
      | inr lacks ↦ rw lacks (record { record_is = λ i. record { epoch = s.stable.epoch; names = none_gone (client_name client) s.stable.names lacks i }; grace_is = refl })
    ]

gone_noted : (s : CoreState) (client : List ℕ) → IsNoted s s.stable (expired (client_name client) s.grace) (gone_client s client).1
unfolding gone_client barred end_party
gone_noted s client = by (party_named s.names (NfsParty client)) where
  by : (o : Option Party) → IsNoted s s.stable (expired (client_name client) s.grace) (unleased client (end_some (record s { grace = expired (client_name client) s.grace }) o)).1
  by None = record { record_is = refl; grace_is = refl }
  by (Some party) = record { record_is = refl; grace_is = refl }

expire_noted : (s : CoreState) (client : List ℕ) → IsNoted s (without_name (client_name client) s.stable) (expired (client_name client) s.grace) (expire s client).1
unfolding expire
expire_noted s client =
    let first = forgotten_noted s client in
    let next = gone_noted (forgotten s client) client in
    record { record_is = next.record_is ∙ first.record_is; grace_is = next.grace_is ∙ ap (expired (client_name client)) first.grace_is }

lapse_noted : (s : CoreState) (cache : Claim) → IsNoted s (without_client (client_of s.names cache.party) s.stable) (grace_without (client_of s.names cache.party) s.grace) (lapse s cache).1
unfolding lapse
lapse_noted s cache = by (client_of s.names cache.party) where
  by : (o : Option (List ℕ)) → IsNoted s (without_client o s.stable) (grace_without o s.grace) (lapsed_by s cache o).1
  by None = record { record_is = refl; grace_is = refl }
  by (Some client) = expire_noted s client

end_noted : (s : CoreState) → IsNoted s (shortened s.grace s.stable) None (end_grace s)
unfolding end_grace stored
end_noted s = record { record_is = refl; grace_is = refl }

-- ---- the deeds

pub deed_noted : (n : ℕ) (s : CoreState) (d : Deed) → IsGood s → IsFitDeed s d → IsNoted s (stable_left n s d s.stable) (grace_left n s d s.grace) (done n s d)
deed_noted n s (Asks left a) good fit = ask_noted n left s a good fit.party
deed_noted n s (GivesBack claim) good fit = noted_same s (done n s (GivesBack claim)) (give_back_aside s claim)
deed_noted n s (Weakens share access deny) good fit = noted_same s (done n s (Weakens share access deny)) (weaken_aside s share access deny)
deed_noted n s (Acks cache to) good fit = noted_same s (done n s (Acks cache to)) (ack_aside s cache to)
deed_noted n s (Cancels id) good fit = noted_same s (done n s (Cancels id)) (cancel_aside s id)
deed_noted n s (Ends party) good fit = noted_same s (done n s (Ends party)) (end_party_aside s party)
deed_noted n s (Serves left) good fit = turn_noted s (settle n left s) (each_turn n left s (TurnNotes s) good (λ turn first. first_noted n left s turn good first))
deed_noted n s Draws good fit = noted_same s (done n s Draws) (drawn_aside s)
deed_noted n s (Advances now) good fit = noted_same s (done n s (Advances now)) (advanced_aside s now)
deed_noted n s (Lapses cache) good fit = lapse_noted s cache
deed_noted n s (Renews client) good fit = noted_same s (done n s (Renews client)) (renew_aside s client)
deed_noted n s (Expires client) good fit = expire_noted s client
deed_noted n s (Closes number party) good fit = noted_same s (done n s (Closes number party)) (close_open_aside s number party)
deed_noted n s (FailsStore stable) good fit = record { record_is = failed_stable stable s; grace_is = failed_grace stable s }
deed_noted n s EndsGrace good fit = end_noted s

pub deeds_noted : (n : ℕ) (s : CoreState) (ds : List Deed) → IsGood s → AreFit n s ds → IsNoted s (stable_after n s ds s.stable) (grace_after n s ds s.grace) (all_done n s ds)
deeds_noted n s [] good fit = record { record_is = refl; grace_is = refl }
deeds_noted n s (d ∷ ds) good fit =
    let t = done n s d in
    let first = deed_noted n s d good fit.0 in
    let later = deeds_noted n t ds (deed_good n s d good fit.0) fit.1 in
    record {
      record_is = later.record_is ∙ ap (λ (stable : Stable). stable_after n t ds stable) first.record_is;
      grace_is = later.grace_is ∙ ap (λ (grace : Option Running). grace_after n t ds grace) first.grace_is;
    }

-- ---- who comes, who stays, and who is kept

not_other : (b : Bool) → not b ≡ false → b ≡ true
not_other true e = refl
not_other false e = absurd (both_ways true e refl)

-- it is granted, and this name is recorded for it
abbrev Got : Option Recorded → Answer → Recorded → Type 0
Got o answer name = ((c : Claim) × (answer ≡ Granted c)) × (o ≡ Some name)

by_from : (name : Recorded) (o : Option Recorded) (answer : Answer) (stable : Stable) → IsIn name (stable_by o answer stable).names → IsIn name stable.names ⊎ Got o answer name
by_from name o (Granted c) stable there = elim (some_from name o stable there) [ inl old ↦ inl old | inr is ↦ inr ((c, refl), is) ]
by_from name o StoreFailed stable there = inl there
by_from name o (Conflict c) stable there = inl there
by_from name o (Queued number) stable there = inl there
by_from name o (Recall c) stable there = inl there
by_from name o (Grace until) stable there = inl there
by_from name o (NoGrace clock) stable there = inl there
by_from name o NotRecorded stable there = inl there
by_from name o (Full limit) stable there = inl there
by_from name o NotHeld stable there = inl there

-- it is granted, and the name is recorded for it with another mark
abbrev Changes : Option Recorded → Answer → Recorded → Type 0
Changes o answer held = (mark : Mark) × (keeps held.mark (Some mark) ≡ false) × Got o answer (marked held (Some mark))

by_stays : (held : Recorded) (o : Option Recorded) (answer : Answer) (stable : Stable) → ((it : Recorded) → o ≡ Some it → is_kept it stable.names ≡ false) → IsIn held stable.names → IsIn held (stable_by o answer stable).names ⊎ Changes o answer held
by_stays held o (Granted c) stable lacks there = elim (some_stays held o stable lacks there) [ inl stays ↦ inl stays | inr other ↦ inr (other.0, other.1, ((c, refl), other.2)) ]
by_stays held o StoreFailed stable lacks there = inl there
by_stays held o (Conflict c) stable lacks there = inl there
by_stays held o (Queued number) stable lacks there = inl there
by_stays held o (Recall c) stable lacks there = inl there
by_stays held o (Grace until) stable lacks there = inl there
by_stays held o (NoGrace clock) stable lacks there = inl there
by_stays held o NotRecorded stable lacks there = inl there
by_stays held o (Full limit) stable lacks there = inl there
by_stays held o NotHeld stable lacks there = inl there

-- of an ask

asked_so : (n : ℕ) (left : Rooms) (s : CoreState) (a : Ask) (name : Recorded) → Got (name_asked s a) (ask n left s a).0 name → IsMonitored name n s (Asks left a)
asked_so n left s a name got =
    let is = wanted_is (stores_name a) (asker_as a) name s.stable (asked_claims a (asked_whats a.act) s.names) got.1 in
    let one = one_what a s.names (asked_whats a.act) is.4.0 is.4.1 in
    let stores = and_parts a.monitored (not a.reclaim) is.0 in
    (one.0, got.0.0, one.1, stores.0, not-true a.reclaim stores.1, is.1, is.3, got.0.1)

ask_stable : (n : ℕ) (left : Rooms) (s : CoreState) (a : Ask) → IsGood s → is_client a.owner a.party ≡ true → (ask n left s a).2.stable ≡ stable_by (name_asked s a) (ask n left s a).0 s.stable
ask_stable n left s a good client = (ask_noted n left s a good client).record_is

ask_from : (n : ℕ) (left : Rooms) (s : CoreState) (a : Ask) (name : Recorded) → IsGood s → is_client a.owner a.party ≡ true → IsIn name (ask n left s a).2.stable.names → IsIn name s.stable.names ⊎ IsMonitored name n s (Asks left a)
ask_from n left s a name good client there =
    elim (by_from name (name_asked s a) (ask n left s a).0 s.stable (subst (λ (x : Stable). IsIn name x.names) (ask_stable n left s a good client) there)) [
      | inl old ↦ inl old
      | inr got ↦ inr (asked_so n left s a name got)
    ]

ask_stays : (n : ℕ) (left : Rooms) (s : CoreState) (a : Ask) (held : Recorded) → IsGood s → is_client a.owner a.party ≡ true → IsIn held s.stable.names → IsIn held (ask n left s a).2.stable.names ⊎ IsChanged held n s (Asks left a)
ask_stays n left s a held good client there = elim (by_stays held (name_asked s a) (ask n left s a).0 s.stable lacks there) [
  | inl stays ↦ inl (subst (λ (x : Stable). IsIn held x.names) (sym (ask_stable n left s a good client)) stays)
  | inr other ↦ inr (inr (other.0, other.1, asked_so n left s a (marked held (Some other.0)) other.2))
] where
  lacks : (it : Recorded) → name_asked s a ≡ Some it → is_kept it s.stable.names ≡ false
  lacks it named = (wanted_is (stores_name a) (asker_as a) it s.stable (asked_claims a (asked_whats a.act) s.names) named).2

ask_keeps : (n : ℕ) (left : Rooms) (s : CoreState) (a : Ask) (name : Recorded) → IsGood s → is_client a.owner a.party ≡ true → IsMonitored name n s (Asks left a) → is_kept name (ask n left s a).2.stable.names ≡ true
ask_keeps n left s a name good client its =
    subst (λ (x : Stable). is_kept name x.names ≡ true) (sym is)
    (subst (λ (it : Recorded). is_kept name (with_some (unrecorded true it s.stable) s.stable).names ≡ true) (sym its.6) (kept_with name s.stable its.5))
  where
    stores : stores_name a ≡ true
    stores = ap₂ (λ (m r : Bool). m && not r) its.3 its.4

    is : (ask n left s a).2.stable ≡ with_some (unrecorded true (asker_as a) s.stable) s.stable
    is =
        ask_stable n left s a good client
        ∙ ap (λ (answer : Answer). stable_by (name_asked s a) answer s.stable) its.7
        ∙ ap (λ (o : Option Recorded). with_some o s.stable) (one_asked a s.names (asked_whats a.act) its.0 (unrecorded (stores_name a) (asker_as a) s.stable) its.2)
        ∙ ap (λ (b : Bool). with_some (unrecorded b (asker_as a) s.stable) s.stable) stores

-- of a turn

none_told : (party : Party) (id : ℕ) (answer : Answer) (told : List Effect) → serves_none told ≡ true → IsIn (Served party id answer) told → ⊥
none_told party id answer [] none there = absurd there
none_told party id answer (Served p i r ∷ told) none there = both_ways false refl none
none_told party id answer (Begun cache to call ∷ told) none (inl e) = absurd cc
none_told party id answer (Begun cache to call ∷ told) none (inr later) = none_told party id answer told none later
none_told party id answer (Cancelled p i ∷ told) none (inl e) = absurd cc
none_told party id answer (Cancelled p i ∷ told) none (inr later) = none_told party id answer told none later
none_told party id answer (Expired client ∷ told) none (inl e) = absurd cc
none_told party id answer (Expired client ∷ told) none (inr later) = none_told party id answer told none later

-- what is told of one behind what serves none is that one
told_last : (party : Party) (id : ℕ) (answer : Answer) (told : List Effect) (effect : Effect) → serves_none told ≡ true → IsIn (Served party id answer) (told ++ effect ∷ []) → effect ≡ Served party id answer
told_last party id answer [] effect none (inl e) = e
told_last party id answer [] effect none (inr never) = absurd never
told_last party id answer (Served p i r ∷ told) effect none there = absurd (both_ways false refl none)
told_last party id answer (Begun cache to call ∷ told) effect none (inl e) = absurd cc
told_last party id answer (Begun cache to call ∷ told) effect none (inr later) = told_last party id answer told effect none later
told_last party id answer (Cancelled p i ∷ told) effect none (inl e) = absurd cc
told_last party id answer (Cancelled p i ∷ told) effect none (inr later) = told_last party id answer told effect none later
told_last party id answer (Expired client ∷ told) effect none (inl e) = absurd cc
told_last party id answer (Expired client ∷ told) effect none (inr later) = told_last party id answer told effect none later

same_served : (p q : Party) (i j : ℕ) (a b : Answer) → Served p i a ≡ Served q j b → (i ≡ j) × (a ≡ b)
same_served p q i j a b e = (ap number e, ap answer e) where
  number : Effect → ℕ
  number (Served party id told) = id
  number effect = 0

  answer : Effect → Answer
  answer (Served party id told) = told
  answer effect = NotHeld

-- each waiter has its number alone
one_numbered : (v w : Waiter) (ws : List Waiter) → Pairwise are_apart ws → IsIn v ws → IsIn w ws → w.id ≡ v.id → v ≡ w
one_numbered v w [] apart there here same = absurd there
one_numbered v w (u ∷ ws) apart (inl e) (inl f) same = sym e ∙ f
one_numbered v w (u ∷ ws) apart (inl e) (inr later) same = absurd (both_ways (u.id == w.id) (not-true (u.id == w.id) (all_in (λ x. are_apart u x ≡ true) w ws apart.0 later)) (eq-eqb u.id w.id (ap (λ (x : Waiter). x.id) e ∙ sym same)))
one_numbered v w (u ∷ ws) apart (inr later) (inl f) same = absurd (both_ways (u.id == v.id) (not-true (u.id == v.id) (all_in (λ x. are_apart u x ≡ true) v ws apart.0 later)) (eq-eqb u.id v.id (ap (λ (x : Waiter). x.id) f ∙ same)))
one_numbered v w (u ∷ ws) apart (inr there) (inr here) same = one_numbered v w ws apart.1 there here same

-- what a turn that tells this makes of the names
pub record TurnRecords (s : CoreState) (told : List Effect) (t : CoreState) : Type 0 where
  pub comes : (name : Recorded) → IsIn name t.stable.names → IsIn name s.stable.names ⊎ HasServed name s told
  pub stays : (held : Recorded) → IsIn held s.stable.names → IsIn held t.stable.names ⊎ ((mark : Mark) × (keeps held.mark (Some mark) ≡ false) × HasServed (marked held (Some mark)) s told)
  pub holds : (name : Recorded) → HasServed name s told → is_kept name t.stable.names ≡ true

first_records : (n : ℕ) (left : Rooms) (s : CoreState) (turn : Turned) → IsGood s → IsFirst n left s [] s.waiters turn → TurnRecords s turn.0 turn.1
first_records n left s turn good first = by first.moved where
  w : Waiter
  w = first.waiter

  way : Turned
  way = way_again first.before s w

  t : CoreState
  t = way.1

  all : List Claim
  all = first.claim ∷ first.claims

  same : aside_of t ≡ aside_of s
  same = way_keeps aside_of first.before (plea_again s w) w.asked s (λ c. begun_aside c s)

  quiet : serves_none way.0 ≡ true
  quiet = way_serves first.before (plea_again s w) w.asked s

  among : IsIn w s.waiters
  among = subst (λ (ws : List Waiter). IsIn w ws) (sym first.stood) (in_append_right w first.before (w ∷ first.behind) (inl refl))

  name : Option Recorded
  name = to_record (unrecorded w.monitored (waiter_as s.names w) s.stable) all

  rests : turn ≡ way → TurnRecords s turn.0 turn.1
  rests e = record {
    comes = λ it there. inl (subst (λ (x : Stable). IsIn it x.names) is there);
    stays = λ held there. inl (subst (λ (x : Stable). IsIn held x.names) (sym is) there);
    holds = λ it served. absurd (none_told served.0.party served.0.id (Granted served.2) turn.0 (ap (λ (x : Turned). serves_none x.0) e ∙ quiet) served.8);
  } where
    is : turn.1.stable ≡ s.stable
    is = ap (λ (x : Turned). x.1.stable) e ∙ ap (λ (x : Aside). x.stable) same

  answered_so : (answer : Answer) → turn.0 ≡ way.0 ++ Served w.party w.id answer ∷ [] → turn.1 ≡ wish_for w.wish answer (once_answered t w all answer) → TurnRecords s turn.0 turn.1
  answered_so answer told new = record { comes = comes; stays = stays; holds = holds } where
    is : turn.1.stable ≡ stable_by name answer s.stable
    is =
        ap (λ (x : CoreState). x.stable) (new ∙ wish_claims w.wish answer (once_answered t w all answer))
        ∙ left_stable (to_record (name_waiting t w) all) answer t
        ∙ ap (λ (x : Aside). stable_by (to_record (name_waiting t w) all) answer x.stable) same
        ∙ ap (λ (o : Option Recorded). stable_by (to_record o all) answer s.stable) (sym (again_waits first.before s w))

    served_so : (it : Recorded) → Got name answer it → HasServed it s turn.0
    served_so it got =
        let asks = wanted_is w.monitored (waiter_as s.names w) it s.stable all got.1 in (
          w,
          asks.4.0,
          got.0.0,
          among,
          first.asked ∙ asks.4.1,
          asks.0,
          asks.1,
          asks.3,
          subst (λ (es : List Effect). IsIn (Served w.party w.id (Granted got.0.0)) es) (sym told)
              (in_append_right (Served w.party w.id (Granted got.0.0)) way.0 (Served w.party w.id answer ∷ []) (inl (ap (λ (x : Answer). Served w.party w.id x) got.0.1))),
        )

    comes : (it : Recorded) → IsIn it turn.1.stable.names → IsIn it s.stable.names ⊎ HasServed it s turn.0
    comes it there = elim (by_from it name answer s.stable (subst (λ (x : Stable). IsIn it x.names) is there)) [ inl old ↦ inl old | inr got ↦ inr (served_so it got) ]

    lacks : (it : Recorded) → name ≡ Some it → is_kept it s.stable.names ≡ false
    lacks it named = (wanted_is w.monitored (waiter_as s.names w) it s.stable all named).2

    stays : (held : Recorded) → IsIn held s.stable.names → IsIn held turn.1.stable.names ⊎ ((mark : Mark) × (keeps held.mark (Some mark) ≡ false) × HasServed (marked held (Some mark)) s turn.0)
    stays held there = elim (by_stays held name answer s.stable lacks there) [
      | inl stays_there ↦ inl (subst (λ (x : Stable). IsIn held x.names) (sym is) stays_there)
      | inr other ↦ inr (other.0, other.1, served_so (marked held (Some other.0)) other.2)
    ]

    holds : (it : Recorded) → HasServed it s turn.0 → is_kept it turn.1.stable.names ≡ true
    holds it served =
        let v = served.0 in
        let last : Served w.party w.id answer ≡ Served v.party v.id (Granted served.2) =
        told_last v.party v.id (Granted served.2) way.0 (Served w.party w.id answer) quiet (subst (λ (es : List Effect). IsIn (Served v.party v.id (Granted served.2)) es) told served.8) in
        let its = same_served w.party v.party w.id v.id answer (Granted served.2) last in
        let one : v ≡ w = one_numbered v w s.waiters good.apart served.3 among its.0 in
        let alone_is : all ≡ served.1 ∷ [] = sym first.asked ∙ ap (λ (x : Waiter). x.asked) (sym one) ∙ served.4 in
        let stores : w.monitored ≡ true = ap (λ (x : Waiter). x.monitored) (sym one) ∙ served.5 in
        let named : waiter_as s.names w ≡ it = ap (waiter_as s.names) (sym one) ∙ served.7 in
        let left_by : turn.1.stable ≡ with_some (unrecorded true it s.stable) s.stable =
        is
        ∙ ap (λ (x : Answer). stable_by name x s.stable) its.1
        ∙ ap (λ (cs : List Claim). with_some (to_record (unrecorded w.monitored (waiter_as s.names w) s.stable) cs) s.stable) alone_is
        ∙ ap₂ (λ (b : Bool) (x : Recorded). with_some (unrecorded b x s.stable) s.stable) stores named in
        subst (λ (x : Stable). is_kept it x.names ≡ true) (sym left_by) (kept_with it s.stable served.6)

  by : IsMoved n left first.before s w first.claim first.claims turn → TurnRecords s turn.0 turn.1
  by (Rests e up) = rests e
  by (Answers answer told new due pass clear) = answered_so answer told new

turn_records : (s : CoreState) (o : Option Turned) → IfSome o (λ r. TurnRecords s r.0 r.1) → TurnRecords s (turned s o).1 (turned s o).2
turn_records s None each = record { comes = λ name there. inl there; stays = λ held there. inl there; holds = λ name served. absurd served.8 }
turn_records s (Some r) each = each

serving_records : (n : ℕ) (left : Rooms) (s : CoreState) → IsGood s → TurnRecords s (given n s (Serves left)).1 (done n s (Serves left))
serving_records n left s good = turn_records s (settle n left s) (each_turn n left s (λ r. TurnRecords s r.0 r.1) good (λ turn first. first_records n left s turn good first))

-- of the other deeds

same_from : (name : Recorded) (s t : CoreState) → t.stable ≡ s.stable → IsIn name t.stable.names → IsIn name s.stable.names
same_from name s t same there = subst (λ (x : Stable). IsIn name x.names) same there

still : (n : ℕ) (s : CoreState) (d : Deed) → aside_of (done n s d) ≡ aside_of s → (done n s d).stable ≡ s.stable
still n s d same = ap (λ (x : Aside). x.stable) same

fewer_from : (name : Recorded) (s t : CoreState) (q : Recorded → Bool) → t.stable.names ≡ filter q s.stable.names → IsIn name t.stable.names → IsIn name s.stable.names
fewer_from name s t q fewer there = (in_filter_from q name s.stable.names (subst (λ (names : List Recorded). IsIn name names) fewer there)).0

-- a name that the record lacks then is one that the test leaves out
fewer_stay : (held : Recorded) (s t : CoreState) (q : Recorded → Bool) → t.stable.names ≡ filter q s.stable.names → IsIn held s.stable.names → IsIn held t.stable.names ⊎ (q held ≡ false)
fewer_stay held s t q fewer there =
    elim (cases_Bool (q held)) [
      | inl stays ↦ inl (subst (λ (names : List Recorded). IsIn held names) (sym fewer) (in_filter q held s.stable.names there stays))
      | inr goes ↦ inr goes
    ]

without_from : (name : Recorded) (client : List ℕ) (s t : CoreState) → t.stable ≡ without_name (client_name client) s.stable → IsIn name t.stable.names → IsIn name s.stable.names
without_from name client s t is there = fewer_from name s t (λ held. not (same_name held (client_name client))) (ap (λ (x : Stable). x.names) is) there

without_stays : (held : Recorded) (client : List ℕ) (s t : CoreState) → t.stable ≡ without_name (client_name client) s.stable → IsIn held s.stable.names → IsIn held t.stable.names ⊎ (same_name (client_name client) held ≡ true)
without_stays held client s t is there =
    elim (fewer_stay held s t (λ one. not (same_name one (client_name client))) (ap (λ (x : Stable). x.names) is) there) [
      | inl stays ↦ inl stays
      | inr goes ↦ inr (same_name-sym (client_name client) held ∙ not_other (same_name held (client_name client)) goes)
    ]

lapse_from : (name : Recorded) (s : CoreState) (cache : Claim) → IsIn name (lapse s cache).1.stable.names → IsIn name s.stable.names
lapse_from name s cache there = by (client_of s.names cache.party) (lapse_noted s cache).record_is where
  by : (o : Option (List ℕ)) → (lapse s cache).1.stable ≡ without_client o s.stable → IsIn name s.stable.names
  by None is = same_from name s (lapse s cache).1 is there
  by (Some client) is = without_from name client s (lapse s cache).1 is there

lapse_stays : (held : Recorded) (s : CoreState) (cache : Claim) → IsIn held s.stable.names → IsIn held (lapse s cache).1.stable.names ⊎ IsNamed held (client_of s.names cache.party)
lapse_stays held s cache there = by (client_of s.names cache.party) (lapse_noted s cache).record_is where
  by : (o : Option (List ℕ)) → (lapse s cache).1.stable ≡ without_client o s.stable → IsIn held (lapse s cache).1.stable.names ⊎ IsNamed held o
  by None is = inl (same_from held (lapse s cache).1 s (sym is) there)
  by (Some client) is = without_stays held client s (lapse s cache).1 is there

-- each name that is there after a deed was there, or came by it
pub deed_from : (n : ℕ) (s : CoreState) (d : Deed) (name : Recorded) → IsGood s → IsFitDeed s d → IsIn name (done n s d).stable.names → IsIn name s.stable.names ⊎ IsMonitored name n s d
deed_from n s (Asks left a) name good fit there = ask_from n left s a name good fit.party there
deed_from n s (Serves left) name good fit there = (serving_records n left s good).comes name there
deed_from n s (GivesBack claim) name good fit there = inl (same_from name s (done n s (GivesBack claim)) (still n s (GivesBack claim) (give_back_aside s claim)) there)
deed_from n s (Weakens share access deny) name good fit there = inl (same_from name s (done n s (Weakens share access deny)) (still n s (Weakens share access deny) (weaken_aside s share access deny)) there)
deed_from n s (Acks cache to) name good fit there = inl (same_from name s (done n s (Acks cache to)) (still n s (Acks cache to) (ack_aside s cache to)) there)
deed_from n s (Cancels id) name good fit there = inl (same_from name s (done n s (Cancels id)) (still n s (Cancels id) (cancel_aside s id)) there)
deed_from n s (Ends party) name good fit there = inl (same_from name s (done n s (Ends party)) (still n s (Ends party) (end_party_aside s party)) there)
deed_from n s Draws name good fit there = inl (same_from name s (done n s Draws) (still n s Draws (drawn_aside s)) there)
deed_from n s (Advances now) name good fit there = inl (same_from name s (done n s (Advances now)) (still n s (Advances now) (advanced_aside s now)) there)
deed_from n s (Renews client) name good fit there = inl (same_from name s (done n s (Renews client)) (still n s (Renews client) (renew_aside s client)) there)
deed_from n s (Closes number party) name good fit there = inl (same_from name s (done n s (Closes number party)) (still n s (Closes number party) (close_open_aside s number party)) there)
deed_from n s (FailsStore stable) name good fit there = inl (same_from name s (done n s (FailsStore stable)) (failed_stable stable s) there)
deed_from n s (Lapses cache) name good fit there = inl (lapse_from name s cache there)
deed_from n s (Expires client) name good fit there = inl (without_from name client s (done n s (Expires client)) (expire_noted s client).record_is there)
deed_from n s EndsGrace name good fit there = inl (fewer_from name s (done n s EndsGrace) (λ held. is_back held s.grace) (ap (λ (x : Stable). x.names) (end_noted s).record_is) there)

-- each name that was there stays with its mark, or is changed by the deed
deed_stays : (n : ℕ) (s : CoreState) (d : Deed) (held : Recorded) → IsGood s → IsFitDeed s d → IsIn held s.stable.names → IsIn held (done n s d).stable.names ⊎ IsChanged held n s d
deed_stays n s (Asks left a) held good fit there = ask_stays n left s a held good fit.party there
deed_stays n s (Serves left) held good fit there = elim ((serving_records n left s good).stays held there) [ inl stays ↦ inl stays | inr other ↦ inr (inr other) ]
deed_stays n s (GivesBack claim) held good fit there = inl (same_from held (done n s (GivesBack claim)) s (sym (still n s (GivesBack claim) (give_back_aside s claim))) there)
deed_stays n s (Weakens share access deny) held good fit there = inl (same_from held (done n s (Weakens share access deny)) s (sym (still n s (Weakens share access deny) (weaken_aside s share access deny))) there)
deed_stays n s (Acks cache to) held good fit there = inl (same_from held (done n s (Acks cache to)) s (sym (still n s (Acks cache to) (ack_aside s cache to))) there)
deed_stays n s (Cancels id) held good fit there = inl (same_from held (done n s (Cancels id)) s (sym (still n s (Cancels id) (cancel_aside s id))) there)
deed_stays n s (Ends party) held good fit there = inl (same_from held (done n s (Ends party)) s (sym (still n s (Ends party) (end_party_aside s party))) there)
deed_stays n s Draws held good fit there = inl (same_from held (done n s Draws) s (sym (still n s Draws (drawn_aside s))) there)
deed_stays n s (Advances now) held good fit there = inl (same_from held (done n s (Advances now)) s (sym (still n s (Advances now) (advanced_aside s now))) there)
deed_stays n s (Renews client) held good fit there = inl (same_from held (done n s (Renews client)) s (sym (still n s (Renews client) (renew_aside s client))) there)
deed_stays n s (Closes number party) held good fit there = inl (same_from held (done n s (Closes number party)) s (sym (still n s (Closes number party) (close_open_aside s number party))) there)
deed_stays n s (FailsStore stable) held good fit there = inl (same_from held (done n s (FailsStore stable)) s (sym (failed_stable stable s)) there)
deed_stays n s (Lapses cache) held good fit there = elim (lapse_stays held s cache there) [ inl stays ↦ inl stays | inr over ↦ inr (inl over) ]
deed_stays n s (Expires client) held good fit there = elim (without_stays held client s (done n s (Expires client)) (expire_noted s client).record_is there) [ inl stays ↦ inl stays | inr over ↦ inr (inl over) ]
deed_stays n s EndsGrace held good fit there = elim (fewer_stay held s (done n s EndsGrace) (λ one. is_back one s.grace) (ap (λ (x : Stable). x.names) (end_noted s).record_is) there) [ inl stays ↦ inl stays | inr over ↦ inr (inl over) ]

-- each name that is recorded for a deed is kept then
deed_keeps : (n : ℕ) (s : CoreState) (d : Deed) (name : Recorded) → IsGood s → IsFitDeed s d → IsMonitored name n s d → is_kept name (done n s d).stable.names ≡ true
deed_keeps n s (Asks left a) name good fit its = ask_keeps n left s a name good fit.party its
deed_keeps n s (Serves left) name good fit its = (serving_records n left s good).holds name its
deed_keeps n s d name good fit its = absurd its

-- ---- a name under each mark

named_like : (held name : Recorded) (o : Option (List ℕ)) → same_name held name ≡ true → IsNamed held o → IsNamed name o
named_like held name None same over = absurd over
named_like held name (Some client) same over = sym (like_right (client_name client) held name same) ∙ over

over_like : (s : CoreState) (d : Deed) (held name : Recorded) → same_name held name ≡ true → IsOver held s d → IsOver name s d
over_like s (Lapses cache) held name same over = named_like held name (client_of s.names cache.party) same over
over_like s (Expires client) held name same over = sym (like_right (client_name client) held name same) ∙ over
over_like s EndsGrace held name same over = sym (like_back held name s.grace same) ∙ over
over_like s d held name same over = absurd over

pub changed_like : (n : ℕ) (s : CoreState) (d : Deed) (held name : Recorded) → same_name held name ≡ true → keeps held.mark name.mark ≡ true → IsChanged held n s d → IsChanged name n s d
changed_like n s d held name same kept (inl over) = inl (over_like s d held name same over)
changed_like n s d held name same kept (inr anew) =
    inr (anew.0, keeps_apart held.mark name.mark anew.0 kept anew.1, subst (λ (x : Recorded). IsMonitored x n s d) (like_marked held name (Some anew.0) same) anew.2)

-- it goes by one of its ends alone
deed_goes : (n : ℕ) (s : CoreState) (d : Deed) (name : Recorded) → IsGood s → IsFitDeed s d → is_recorded name s.stable.names ≡ true → is_recorded name (done n s d).stable.names ≡ false → IsOver name s d
deed_goes n s d name good fit there gone = by (deed_stays n s d held.0 good fit held.1) where
  held : (one : Recorded) × IsIn one s.stable.names × (same_name one name ≡ true)
  held = recorded_of name s.stable.names there

  lost : is_recorded name (done n s d).stable.names ≡ true → ⊥
  lost there_still = both_ways (is_recorded name (done n s d).stable.names) gone there_still

  by : IsIn held.0 (done n s d).stable.names ⊎ IsChanged held.0 n s d → IsOver name s d
  by (inl stays) = absurd (lost (like_in name held.0 (done n s d).stable.names stays held.2))
  by (inr (inl over)) = over_like s d held.0 name held.2 over
  by (inr (inr anew)) =
      let other = marked held.0 (Some anew.0) in
      absurd (lost (sym (like_recorded other name (done n s d).stable.names held.2) ∙ kept_named other (done n s d).stable.names (deed_keeps n s d other good fit anew.2)))

-- ---- the names after all of them

pub deeds_from : (n : ℕ) (s : CoreState) (ds : List Deed) (name : Recorded) → IsGood s → AreFit n s ds → IsIn name (all_done n s ds).stable.names → IsIn name s.stable.names ⊎ AnyAt (λ u d. IsMonitored name n u d) n s ds
deeds_from n s [] name good fit there = inl there
deeds_from n s (d ∷ ds) name good fit there =
    elim (deeds_from n (done n s d) ds name (deed_good n s d good fit.0) fit.1 there) [
      | inl now ↦ elim (deed_from n s d name good fit.0 now) [ inl before ↦ inl before | inr by ↦ inr (inl by) ]
      | inr later ↦ inr (inr later)
    ]

pub deeds_stay : (n : ℕ) (s : CoreState) (ds : List Deed) (held : Recorded) → IsGood s → AreFit n s ds → IsIn held s.stable.names → IsIn held (all_done n s ds).stable.names ⊎ AnyAt (λ u d. IsChanged held n u d) n s ds
deeds_stay n s [] held good fit there = inl there
deeds_stay n s (d ∷ ds) held good fit there =
    elim (deed_stays n s d held good fit.0 there) [
      | inl now ↦ elim (deeds_stay n (done n s d) ds held (deed_good n s d good fit.0) fit.1 now) [ inl last ↦ inl last | inr later ↦ inr (inr later) ]
      | inr changed ↦ inr (inl changed)
    ]

pub deeds_go : (n : ℕ) (s : CoreState) (ds : List Deed) (name : Recorded) → IsGood s → AreFit n s ds → is_recorded name s.stable.names ≡ true → is_recorded name (all_done n s ds).stable.names ≡ false → AnyAt (λ u d. IsOver name u d) n s ds
deeds_go n s [] name good fit there gone = both_ways (is_recorded name s.stable.names) gone there
deeds_go n s (d ∷ ds) name good fit there gone =
    elim (cases_Bool (is_recorded name (done n s d).stable.names)) [
      | inr now ↦ inl (deed_goes n s d name good fit.0 there now)
      | inl later ↦ inr (deeds_go n (done n s d) ds name (deed_good n s d good fit.0) fit.1 later gone)
    ]

pub any_weaker : (P Q : CoreState → Deed → Type 0) (n : ℕ) (s : CoreState) (ds : List Deed) → ((u : CoreState) (d : Deed) → P u d → Q u d) → AnyAt P n s ds → AnyAt Q n s ds
any_weaker P Q n s [] step any = absurd any
any_weaker P Q n s (d ∷ ds) step (inl one) = inl (step s d one)
any_weaker P Q n s (d ∷ ds) step (inr later) = inr (any_weaker P Q n (done n s d) ds step later)

held_on : (n : ℕ) (s : CoreState) (ds : List Deed) (name : Recorded) → IsGood s → AreFit n s ds → is_kept name s.stable.names ≡ true → IsHeldOn name n s ds (all_done n s ds).stable
held_on n s ds name good fit kept = record {
  named =
      elim (cases_Bool (is_recorded name (all_done n s ds).stable.names)) [
        | inl last ↦ inl last
        | inr gone ↦ inr (deeds_go n s ds name good fit (kept_named name s.stable.names kept) gone)
      ];
  kept =
      elim (deeds_stay n s ds held.0 good fit held.1) [
        | inl last ↦ inl (kept_in name held.0 (all_done n s ds).stable.names last held.2 held.3)
        | inr changed ↦ inr (any_weaker (λ u d. IsChanged held.0 n u d) (λ u d. IsChanged name n u d) n s ds (λ u d is. changed_like n u d held.0 name held.2 held.3 is) changed)
      ];
} where
  held : (one : Recorded) × IsIn one s.stable.names × (same_name one name ≡ true) × (keeps one.mark name.mark ≡ true)
  held = kept_of name s.stable.names kept

pub deeds_hold : (n : ℕ) (s : CoreState) (ds : List Deed) → IsGood s → AreFit n s ds → AreHeldOn n s ds (all_done n s ds).stable
deeds_hold n s [] good fit = tt
deeds_hold n s (d ∷ ds) good fit =
    let sound = deed_good n s d good fit.0 in
    (λ name its. held_on n (done n s d) ds name sound fit.1 (deed_keeps n s d name good fit.0 its), deeds_hold n (done n s d) ds sound fit.1)
