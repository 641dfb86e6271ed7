-- What each entry makes of the record and of the grace, what it stores, and who is let in by it.
use Rattle.std.proofs.Common.{◌≡◌, ℕ, ◌+◌, Bool, true, false, not, ◌&&◌, if◌then◌else◌, List, [], ◌∷◌, length, take, inl, inr, refl, sym, ap, subst, ◌∙◌, arith}
use Rattle.std.specs.Prelude.{nat_lt, min}
use Rattle.std.specs.List.{AllByRecursion, list_any}
use Rattle.std.proofs.lemmas.Bool.{both_ways, cases_Bool}
use Rattle.std.proofs.lemmas.Bool.Decides.{nat_tests}
use Rattle.std.proofs.lemmas.Slice.Eq.{bytes_eq-Decides}
use Rattle.std.specs.Prelude.{◌||◌}
use Rattle.xl_base.proofs.Members.{all_weaker}
use Rattle.xl_base.specs.Lists.{IsIn}
use Rattle.xl_base.specs.Stable.{Stable, raised, same_name, is_recorded}
use Rattle.xl_base.specs.declared.event.Event.{Event}
use Rattle.xl_base.specs.declared.event.Event.TheVariants.{Open, Message, End, Called, Tick, Restart}
use Rattle.xl_base.specs.declared.event.Moment.{Moment}
use Rattle.xl_base.specs.declared.journal.Entry.{Entry}
use Rattle.xl_base.specs.declared.journal.Head.{Head}
use Rattle.xl_wait.specs.declared.waiter.Waiter.{Waiter}
use Rattle.xl_core.specs.Deeds.{Deed, Asks, GivesBack, Weakens, Acks, Cancels, Ends, Serves, Draws, Advances, Lapses, Renews, Expires, Closes, FailsStore, EndsGrace, all_done, AreFit}
use Rattle.xl_core.specs.Dues.{has_expired}
use Rattle.xl_core.specs.Frames.{who_expired}
use Rattle.xl_core.specs.Good.{IsGood}
use Rattle.xl_core.specs.State.{CoreState, step_begun}
use Rattle.xl_core.specs.Stores.{client_name}
use Rattle.xl_core.specs.Ticks.{tick}
use Rattle.xl_core.specs.declared.ask.Effect.{Effect}
use Rattle.xl_core.proofs.DeedLists.{deeds_good, done_append}
use Rattle.xl_core.proofs.GoodLaws.{begun_good}
use Rattle.xl_core.proofs.ThinLaws.{tick_thins}
use Rattle.xl_core.proofs.TickLaws.{tick_done, tick_in_turn, tick_tells}
use Rattle.xl_plan.specs.Plans.{AllAt}
use Rattle.xl_house.specs.Done.{behind_own, deeds, round_deeds, round_of, rounds}
use Rattle.xl_house.specs.Free.{WaitsForItself, IsFree}
use Rattle.xl_house.specs.Journals.{IsLegal, is_restart, may_enter}
use Rattle.xl_house.specs.Lawful.{Always, found, may_do, may_follow}
use Rattle.xl_house.specs.Machine.{Turn, step}
use Rattle.xl_house.specs.Own.{own_of}
use Rattle.xl_house.specs.Recording.{IsRecordedBy, IsForgetting, IsRaised, IsRecordingBy, AreStored, IsRecording, IsAdmittedBy, IsAdmitting, last_of}
use Rattle.xl_house.specs.State.{Whole, as_found, start_of}
use Rattle.xl_house.proofs.AdmittingLaws.{deeds_admit}
use Rattle.xl_house.proofs.DoneLaws.{behind_follows, deeds_hold as each_hold, deeds_taken, each_event, left_by, left_is, own_row}
use Rattle.xl_house.proofs.EachEntry.{always}
use Rattle.xl_house.proofs.ForgettingLaws.{all_unrecorded, clock_clears, deeds_wait, is_of_clock, parts_forget}
use Rattle.xl_house.proofs.LawfulLaws.{next_core}
use Rattle.xl_house.proofs.MachineLaws.{begin_free, begun_knows, step_free, step_is}
use Rattle.xl_house.proofs.RecordingLaws.{deeds_from, deeds_go, deeds_hold, deeds_noted, deeds_stay}
use Rattle.xl_house.proofs.StoringLaws.{HasStored, IsPaid, begun_has, deeds_store, free_paid, is_clocked, paid_append, short_is, turns_paid}
use Rattle.xl_house.proofs.PartLaws.{Behind, own_first}
use Rattle.xl_house.proofs.TimedLaws.{fit_behind}

-- ---- what is paid for

abbrev is_reading : Event → Bool
is_reading (Tick now) = true
is_reading event = false

message_free : (number : ℕ) (bytes : List ℕ) (d : Deed) → may_do (Message number bytes) d ≡ true → is_clocked d ≡ false
message_free number bytes (Asks left a) may = refl
message_free number bytes (GivesBack claim) may = refl
message_free number bytes (Weakens share access deny) may = refl
message_free number bytes (Acks cache to) may = refl
message_free number bytes (Cancels id) may = refl
message_free number bytes (Ends party) may = refl
message_free number bytes (Closes opened party) may = refl
message_free number bytes (Renews client) may = refl
message_free number bytes Draws may = refl
message_free number bytes d may = absurd (both_ways false refl may)

-- no event but a reading of the clock does what is the clock's
others_free : (event : Event) (d : Deed) → is_reading event ≡ false → may_do event d ≡ true → is_clocked d ≡ false
others_free (Tick now) d other may = absurd (both_ways true other refl)
others_free (Message number bytes) d other may = message_free number bytes d may
others_free (End number) (Closes opened party) other may = refl
others_free (End number) d other may = absurd (both_ways false refl may)
others_free (Called number bytes) (Asks left a) other may = refl
others_free (Called number bytes) d other may = absurd (both_ways false refl may)
others_free (Open kind) d other may = absurd (both_ways false refl may)
others_free Restart d other may = absurd (both_ways false refl may)

follow_free : (d : Deed) → may_follow d ≡ true → is_clocked d ≡ false
follow_free (Serves left) follows = refl
follow_free Draws follows = refl
follow_free d follows = absurd (both_ways false refl follows)

own_paid : (n : ℕ) (s : Whole) (event : Event) → IsGood s.core → AllAt (IsPaid n) n s.core (own_of n s event).deeds
own_paid n s (Tick now) good = turns_paid n s.core (tick n s.core now).1 (own_of n s (Tick now)).deeds (tick_in_turn n s.core now good)
own_paid n s event good = free_paid n s.core (own_of n s event).deeds (all_weaker (λ d. may_do event d ≡ true) (λ d. is_clocked d ≡ false) (own_of n s event).deeds (λ d may. others_free event d refl may) ((own_row n s event).may good))

round_paid : (n : ℕ) (s : Whole) (event : Event) → IsGood s.core → AllAt (IsPaid n) n s.core (round_deeds (round_of n s event))
round_paid n s event good =
    let own = (own_of n s event).deeds in
    let behind = behind_own (round_of n s event) in
    paid_append n s.core own behind (own_paid n s event good)
    (free_paid n (all_done n s.core own) behind (all_weaker (λ d. may_follow d ≡ true) (λ d. is_clocked d ≡ false) behind (λ d follows. follow_free d follows) (behind_follows (round_of n s event))))

pub deeds_paid : (n : ℕ) (s : Whole) (event : Event) → is_restart event ≡ false → IsGood (step_begun s.core) → AllAt (IsPaid n) n (step_begun s.core) (deeds n s event)
deeds_paid n s event other good = each_hold n (λ u ds. AllAt (IsPaid n) n u ds) ((λ u. tt), (λ u ds es first later. paid_append n u ds es first later), (λ t e well. round_paid n t e well)) s event other good

-- ---- what is stored

pub left_stored : (n : ℕ) (s : Whole) (event : Event) → is_restart event ≡ false → IsFree s → HasStored n s.core.stable (left_by n (as_found s) event)
left_stored n s event other free =
    let good = begun_good s.core free.good in
    subst (λ (t : CoreState). HasStored n s.core.stable t) (sym (left_is n s event other))
    (deeds_store n s.core.stable (step_begun s.core) (deeds n s event) good (deeds_taken n s event other good) (deeds_paid n s event other good) (begun_has n s.core))

begun_stable : (s : CoreState) → (step_begun s).stable ≡ s.stable
unfolding step_begun
begun_stable s = refl

stored_turn : (n : ℕ) (s : Whole) (event : Event) → is_restart event ≡ false → IsFree s → AreStored n s.core.stable (step n s event)
stored_turn n s event other free =
    let t = left_by n (as_found s) event in
    let has = left_stored n s event other free in
    let short : nat_lt t.made (length t.given) ≡ t.failed = short_is n s.core.stable t has in
    subst (λ (turn : Turn). AreStored n s.core.stable turn) (sym (step_is n s event other))
    (record {
      most = has.most;
      given = has.given ∙ ap (λ (b : Bool). if b then t.made + 1 else t.made) (sym short);
      short = λ falls. has.short (sym short ∙ falls);
      last = begun_stable t ∙ has.last;
    })

some_stores : (n : ℕ) → may_enter n Restart ≡ true → min n 1 ≡ 1
some_stores n may = grind (arith, nat_tests, may)

restart_stored : (n : ℕ) (s : Whole) → may_enter n Restart ≡ true → AreStored n s.core.stable (step n s Restart)
unfolding step
restart_stored n s may =
    let one : min n 1 ≡ 1 = some_stores n may in
    record {
      most = grind (arith, nat_tests, one);
      given = sym (ap (λ (made : ℕ). if nat_lt made 1 then made + 1 else made) one);
      short = λ falls. absurd (both_ways false refl (sym (ap (λ (made : ℕ). nat_lt made 1) one) ∙ falls));
      last = sym (ap (λ (made : ℕ). last_of (take made (raised s.core.stable ∷ [])) s.core.stable) one);
    }

stored_by : (n : ℕ) (s : Whole) (event : Event) → IsFree s → may_enter n event ≡ true → AreStored n s.core.stable (step n s event)
stored_by n s event free may = each_event (λ e. may_enter n e ≡ true → AreStored n s.core.stable (step n s e)) (λ e other may. stored_turn n s e other free) (λ may. restart_stored n s may) event may

-- ---- the record

begun_recorded : (n : ℕ) (u : CoreState) (ds : List Deed) (t : CoreState) → IsRecordedBy n u ds t → IsRecordedBy n u ds (step_begun t)
unfolding step_begun
begun_recorded n u ds t is = record { stable = is.stable; grace = is.grace; comes = is.comes; goes = is.goes; stays = is.stays; held = is.held }

recorded_by : (n : ℕ) (s : Whole) (event : Event) → is_restart event ≡ false → IsFree s → IsRecordedBy n (found s) (deeds n s event) (step n s event).next.core
recorded_by n s event other free =
    let ds = deeds n s event in
    let good = begun_good s.core free.good in
    let fit = deeds_taken n s event other good in
    let noted = deeds_noted n (found s) ds good fit in
    subst (λ (t : CoreState). IsRecordedBy n (found s) ds t) (sym (next_core n s event other))
    (begun_recorded n (found s) ds (all_done n (found s) ds)
    (record {
      stable = noted.record_is;
      grace = noted.grace_is;
      comes = λ name there. deeds_from n (found s) ds name good fit there;
      goes = λ name there gone. deeds_go n (found s) ds name good fit there gone;
      stays = λ name there. deeds_stay n (found s) ds name good fit there;
      held = deeds_hold n (found s) ds good fit;
    }))

-- ---- who expired

self_named : (client : List ℕ) → same_name (client_name client) (client_name client) ≡ true
self_named client = (bytes_eq-Decides client client).1 refl

told_expired : (client : List ℕ) (ids : List (List ℕ)) → IsIn client ids → list_any (λ id. same_name (client_name id) (client_name client)) ids ≡ true
told_expired client [] there = absurd there
told_expired client (id ∷ ids) (inl e) = ap (λ (x : List ℕ). same_name (client_name x) (client_name client) || list_any (λ y. same_name (client_name y) (client_name client)) ids) e ∙ ap (λ (b : Bool). b || list_any (λ y. same_name (client_name y) (client_name client)) ids) (self_named client)
told_expired client (id ∷ ids) (inr later) = (elim (cases_Bool (same_name (client_name id) (client_name client))) [ inl e ↦ ap (λ (b : Bool). b || list_any (λ y. same_name (client_name y) (client_name client)) ids) e | inr e ↦ ap (λ (b : Bool). b || list_any (λ y. same_name (client_name y) (client_name client)) ids) e ∙ told_expired client ids later ])

out_both : (a b c : Bool) → b ≡ true → ((a && not b) && c) ≡ false
out_both true true c e = refl
out_both false true c e = refl
out_both a false c e = absurd (both_ways false refl e)

tick_lacks : (n : ℕ) (s : CoreState) (now : Moment) (client : List ℕ) → IsIn client (who_expired (tick n s now).0) → is_recorded (client_name client) (tick n s now).1.stable.names ≡ false
tick_lacks n s now client there =
    let r = tick n s now in
    (tick_thins n s now).names (client_name client) ∙ out_both (is_recorded (client_name client) s.stable.names) (has_expired (client_name client) r.0) _ (told_expired client (who_expired r.0) there)

reading_clocked : (now : Moment) (d : Deed) → may_do (Tick now) d ≡ true → is_of_clock d ≡ true
reading_clocked now (Advances moment) may = refl
reading_clocked now (Lapses cache) may = refl
reading_clocked now (Expires client) may = refl
reading_clocked now (FailsStore stable) may = refl
reading_clocked now EndsGrace may = refl
reading_clocked now d may = absurd (both_ways false refl may)

begun_waiters : (s : CoreState) → (step_begun s).waiters ≡ s.waiters
unfolding step_begun
begun_waiters s = refl

forgets : (n : ℕ) (s : Whole) (now : Moment) → IsFree s → IsForgetting n s now (step n s (Tick now)).next
forgets n s now free client there =
    ap (λ (t : CoreState). is_recorded (client_name client) t.stable.names) (next_core n s (Tick now) refl)
    ∙ ap (λ (x : Stable). is_recorded (client_name client) x.names) (begun_stable (all_done n u (deeds n s (Tick now))))
    ∙ ap (λ (ds : List Deed). is_recorded (client_name client) (all_done n u ds).stable.names) is.1
    ∙ ap (λ (t : CoreState). is_recorded (client_name client) t.stable.names) (done_append n u own is.0)
    ∙ parts_forget n t is.0 client is.2 sound (fit_behind n u own is.0 (subst (λ (ds : List Deed). AreFit n u ds) is.1 (deeds_taken n s (Tick now) refl good)))
    (all_unrecorded t client sound (deeds_wait n u own good takes waits)
    (clock_clears n u own client (all_weaker (λ d. may_do (Tick now) d ≡ true) (λ d. is_of_clock d ≡ true) own (λ d may. reading_clocked now d may) ((own_row n (as_found s) (Tick now)).may good)) good takes waits there))
    lacks
  where
    u : CoreState
    u = step_begun s.core

    own : List Deed
    own = (own_of n (as_found s) (Tick now)).deeds

    is : Behind own (deeds n s (Tick now))
    is = own_first n s (Tick now) refl refl

    t : CoreState
    t = all_done n u own

    good : IsGood u
    good = begun_good s.core free.good

    takes : AreFit n u own
    takes = (own_row n (as_found s) (Tick now)).takes good

    sound : IsGood t
    sound = deeds_good n u own good takes

    waits : AllByRecursion WaitsForItself u.waiters
    waits = subst (λ (ws : List Waiter). AllByRecursion WaitsForItself ws) (sym (begun_waiters s.core)) free.waiters

    lacks : is_recorded (client_name client) t.stable.names ≡ false
    lacks = ap (λ (x : CoreState). is_recorded (client_name client) x.stable.names) (tick_done n u now) ∙ tick_lacks n u now client (subst (λ (told : List Effect). IsIn client (who_expired told)) (tick_tells n u now) there)

-- ---- each entry

raises : (n : ℕ) (s : Whole) → IsRaised s (step n s Restart).next
unfolding step
raises n s = record { stable = refl; grace = refl }

recording_by : (n : ℕ) (s : Whole) (event : Event) → IsFree s → IsRecordingBy n s event (step n s event).next
recording_by n s Restart free = raises n s
recording_by n s (Tick now) free = (recorded_by n s (Tick now) refl free, forgets n s now free)
recording_by n s (Open kind) free = recorded_by n s (Open kind) refl free
recording_by n s (Message number bytes) free = recorded_by n s (Message number bytes) refl free
recording_by n s (End number) free = recorded_by n s (End number) refl free
recording_by n s (Called number reply) free = recorded_by n s (Called number reply) refl free

-- a restart is entered only once its record is stored
recording_from : (s : Whole) (es : List Entry) → IsFree s → IsLegal s es → Always IsRecording s es
recording_from s [] free legal = tt
recording_from s (e ∷ es) free legal =
    ((recording_by e.stores s e.event free, stored_by e.stores s e.event free legal.0.2), recording_from (step e.stores s e.event).next es (step_free e.stores s e.event free) legal.1)

pub always_recording : (head : Head) (es : List Entry) → IsLegal (start_of head) es → Always IsRecording (start_of head) es
always_recording head es legal = recording_from (start_of head) es (begin_free head) legal

admits_nobody : (n : ℕ) (s : Whole) → AllAt (λ u d. IsAdmittedBy n u d) n (found s) (deeds n s Restart)
unfolding deeds rounds
admits_nobody n s = tt

admits : (n : ℕ) (s : Whole) (event : Event) → IsFree s → AllAt (λ u d. IsAdmittedBy n u d) n (found s) (deeds n s event)
admits n s event free =
    let good = begun_good s.core free.good in
    each_event (λ e. AllAt (λ u d. IsAdmittedBy n u d) n (found s) (deeds n s e)) (λ e other. deeds_admit n (found s) (deeds n s e) good (deeds_taken n s e other good) (begun_knows s.core free.knows)) (admits_nobody n s) event

pub always_admitting : (head : Head) (es : List Entry) → Always IsAdmitting (start_of head) es
always_admitting head es = always IsAdmitting (λ n s e free. admits n s e.event free) head es
