-- What each deed makes of the leases and of the clock, and so what an entry does.
use Rattle.std.proofs.Common.{◌≡◌, ℕ, ◌+◌, Bool, true, false, List, [], ◌∷◌, ◌++◌, Option, Some, None, IfSome, inl, inr, refl, sym, ap, subst, ◌∙◌}
use Rattle.std.specs.List.{AllByRecursion}
use Rattle.std.proofs.lemmas.Bool.{both_ways, cases_Bool}
use Rattle.xl_base.specs.declared.event.Event.{Event}
use Rattle.xl_base.specs.declared.event.Event.TheVariants.{Tick, Restart}
use Rattle.xl_base.specs.declared.event.Moment.{Moment}
use Rattle.xl_base.specs.declared.name.Party.{Party}
use Rattle.xl_matrix.specs.declared.claim.Claim.{Claim}
use Rattle.xl_names.specs.declared.name.Name.{Name}
use Rattle.xl_names.specs.declared.name.Name.TheVariants.{NfsParty}
use Rattle.xl_wait.specs.declared.waiter.Waiter.{Waiter}
use Rattle.xl_core.specs.State.{CoreState, step_begun, drawn}
use Rattle.xl_core.specs.Askers.{party_named}
use Rattle.xl_core.specs.BreakAnswers.{ack, client_of}
use Rattle.xl_core.specs.Decide.{ask}
use Rattle.xl_core.specs.Deeds.{Deed, Asks, Acks, Cancels, Closes, Serves, Draws, Advances, Lapses, Expires, FailsStore, EndsGrace, turned, done, all_done, IsFitDeed, AreFit}
use Rattle.xl_core.specs.Frames.{calls_in, drawn_by, names_after, come_by, IsFrame}
use Rattle.xl_core.specs.Good.{IsGood}
use Rattle.xl_core.specs.Leases.{Lease, later, without_lease}
use Rattle.xl_core.specs.Settle.{settle, cancel, give_back, weaken, end_party, close_open}
use Rattle.xl_core.specs.Ticks.{advanced, renew, end_some, unleased, expire, lapsed_by, lapse}
use Rattle.xl_core.specs.declared.ask.Effect.{Effect}
use Rattle.xl_core.proofs.AsideLaws.{failed_aside, grace_aside, of_expire, with_aside}
use Rattle.xl_core.proofs.DeedLaws.{deed_good}
use Rattle.xl_core.proofs.DeedLists.{deeds_good, done_append}
use Rattle.xl_core.proofs.FrameLaws.{ask_frame, turn_frame, tick_frame}
use Rattle.xl_core.proofs.TickLaws.{tick_done}
use Rattle.xl_house.specs.Done.{deeds}
use Rattle.xl_house.specs.Own.{own_of}
use Rattle.xl_house.specs.Journals.{is_restart}
use Rattle.xl_house.specs.Lawful.{may_do}
use Rattle.xl_house.specs.Sifting.{brings_frame}
use Rattle.xl_house.specs.State.{Whole, as_found}
use Rattle.xl_house.specs.Timed.{without_some, leases_left, leases_after, clock_after}
use Rattle.xl_house.proofs.DoneLaws.{own_row, deeds_taken}
use Rattle.xl_house.proofs.PartLaws.{AreOfParts, brought, own_first}

-- ---- the calls of the core

-- the leases that run, and the clock
abbrev pub Running : Type 0
Running = List Lease × Moment

abbrev pub times_in : CoreState → Running
times_in s = (s.leases, s.clock)

frame_times : (s t : CoreState) (told : List Effect) (given : ℕ) (known : List Name) (come : List Waiter) → IsFrame s told t given known come → times_in t ≡ times_in s
frame_times s t told given known come frame = λ i. (frame.leases i, frame.clock i)

turn_times : (s : CoreState) (o : Option (List Effect × CoreState)) → IfSome o (λ r. IsFrame s r.0 r.1 (calls_in r.0) s.names []) → times_in (turned s o).2 ≡ times_in s
turn_times s None frame = refl
turn_times s (Some r) frame = frame_times s r.1 r.0 (calls_in r.0) s.names [] frame

ended_times : (s : CoreState) (client : List ℕ) (party : Option Party) → times_in (unleased client (end_some s party)).1 ≡ (without_lease client s.leases, s.clock)
unfolding end_party
ended_times s client None = refl
ended_times s client (Some party) = refl

expire_times : (s : CoreState) (client : List ℕ) → times_in (expire s client).1 ≡ (without_lease client s.leases, s.clock)
expire_times s client =
    of_expire (λ (r : List Effect × CoreState). let same : Running = (without_lease client s.leases, s.clock) in times_in r.1 ≡ same) s client (λ x. ended_times (with_aside x s) client (party_named s.names (NfsParty client)))

lapsed_times : (s : CoreState) (cache : Claim) (client : Option (List ℕ)) → times_in (lapsed_by s cache client).1 ≡ (without_some client s.leases, s.clock)
lapsed_times s cache None = refl
lapsed_times s cache (Some client) = expire_times s client

lapse_times : (s : CoreState) (cache : Claim) → times_in (lapse s cache).1 ≡ (without_some (client_of s.names cache.party) s.leases, s.clock)
unfolding lapse
lapse_times s cache = lapsed_times s cache (client_of s.names cache.party)

-- ---- deeds

abbrev clock_left : Deed → Moment → Moment
clock_left (Advances now) clock = later clock now
clock_left deed clock = clock

abbrev clock_by : List Deed → Moment → Moment
clock_by [] clock = clock
clock_by (d ∷ ds) clock = clock_by ds (clock_left d clock)

pub deed_times : (n : ℕ) (s : CoreState) (d : Deed) → IsGood s → IsFitDeed s d → times_in (done n s d) ≡ (leases_left s d s.leases, clock_left d s.clock)
unfolding give_back weaken ack cancel end_party close_open drawn advanced renew
deed_times n s (Asks left a) good fit =
    let r = ask n left s a in
    frame_times s r.2 r.1 (drawn_by r.0 + calls_in r.1) (names_after a r.0 s.names) (come_by a r.0 s.names) (ask_frame n left s a good fit.party)
deed_times n s (Serves left) good fit = turn_times s (settle n left s) (turn_frame n left s good)
deed_times n s (Lapses cache) good fit = lapse_times s cache
deed_times n s (Expires client) good fit = expire_times s client
deed_times n s (FailsStore stable) good fit = ap times_in (failed_aside stable s)
deed_times n s EndsGrace good fit = ap times_in (grace_aside s)
deed_times n s d good fit = refl

deeds_times : (n : ℕ) (s : CoreState) (ds : List Deed) → IsGood s → AreFit n s ds → times_in (all_done n s ds) ≡ (leases_after n s ds s.leases, clock_by ds s.clock)
deeds_times n s [] good fit = refl
deeds_times n s (d ∷ ds) good fit =
    deeds_times n (done n s d) ds (deed_good n s d good fit.0) fit.1
    ∙ ap (λ (x : Running). (leases_after n (done n s d) ds x.0, clock_by ds x.1)) (deed_times n s d good fit.0)

-- ---- turns, and what the parts of frames do, leave both

part_times : (n : ℕ) (s : CoreState) (ds : List Deed) (leases : List Lease) (clock : Moment) → AreOfParts ds → (let same : Running = (leases, clock) in (leases_after n s ds leases, clock_by ds clock) ≡ same)
part_times n s [] leases clock parts = refl
part_times n s (Asks left a ∷ ds) leases clock parts = part_times n (done n s (Asks left a)) ds leases clock parts.1
part_times n s (Acks cache to ∷ ds) leases clock parts = part_times n (done n s (Acks cache to)) ds leases clock parts.1
part_times n s (Cancels id ∷ ds) leases clock parts = part_times n (done n s (Cancels id)) ds leases clock parts.1
part_times n s (Closes number party ∷ ds) leases clock parts = part_times n (done n s (Closes number party)) ds leases clock parts.1
part_times n s (Serves left ∷ ds) leases clock parts = part_times n (done n s (Serves left)) ds leases clock parts.1
part_times n s (Draws ∷ ds) leases clock parts = part_times n (done n s Draws) ds leases clock parts.1
part_times n s (d ∷ ds) leases clock parts = absurd parts.0

parts_time : (n : ℕ) (s : CoreState) (ds : List Deed) → IsGood s → AreFit n s ds → AreOfParts ds → times_in (all_done n s ds) ≡ times_in s
parts_time n s ds good fit parts = deeds_times n s ds good fit ∙ part_times n s ds s.leases s.clock parts

pub fit_behind : (n : ℕ) (s : CoreState) (ds es : List Deed) → AreFit n s (ds ++ es) → AreFit n (all_done n s ds) es
fit_behind n s [] es fit = fit
fit_behind n s (d ∷ ds) es fit = fit_behind n (done n s d) ds es fit.1

pub left_times : (n : ℕ) (s : Whole) (event : Event) → is_restart event ≡ false → IsGood (step_begun s.core) → (let found = step_begun s.core in times_in (all_done n found (deeds n s event)) ≡ times_in (all_done n found (own_of n (as_found s) event).deeds))
left_times n s event other good = elim (cases_Bool (brings_frame s.connections event)) [ inl brings ↦ in_frames brings | inr none ↦ alone none ] where
  found : CoreState
  found = step_begun s.core

  own : List Deed
  own = (own_of n (as_found s) event).deeds

  takes : AreFit n found own
  takes = (own_row n (as_found s) event).takes good

  fit : AreFit n found (deeds n s event)
  fit = deeds_taken n s event other good

  alone : brings_frame s.connections event ≡ false → times_in (all_done n found (deeds n s event)) ≡ times_in (all_done n found own)
  alone none =
      let is = own_first n s event other none in
      ap (λ (ds : List Deed). times_in (all_done n found ds)) is.1
      ∙ ap times_in (done_append n found own is.0)
      ∙ parts_time n (all_done n found own) is.0 (deeds_good n found own good takes) (fit_behind n found own is.0 (subst (λ (ds : List Deed). AreFit n found ds) is.1 fit)) is.2

  in_frames : brings_frame s.connections event ≡ true → times_in (all_done n found (deeds n s event)) ≡ times_in (all_done n found own)
  in_frames brings =
      let parts = brought n s event brings in
      parts_time n found (deeds n s event) good fit parts.0 ∙ sym (parts_time n found own good takes parts.1)

-- ---- the clock

abbrev is_reading : Event → Bool
is_reading (Tick now) = true
is_reading event = false

reads_none : (event : Event) (now : Moment) → is_reading event ≡ false → may_do event (Advances now) ≡ false
reads_none (Tick moment) now other = absurd (both_ways true other refl)
reads_none event now other = refl

stands : (event : Event) (d : Deed) (clock : Moment) → is_reading event ≡ false → may_do event d ≡ true → clock_left d clock ≡ clock
stands event (Advances now) clock other may = absurd (both_ways (may_do event (Advances now)) (reads_none event now other) may)
stands event d clock other may = refl

all_stand : (event : Event) (ds : List Deed) (clock : Moment) → is_reading event ≡ false → AllByRecursion (λ d. may_do event d ≡ true) ds → clock_by ds clock ≡ clock
all_stand event [] clock other may = refl
all_stand event (d ∷ ds) clock other may = all_stand event ds (clock_left d clock) other may.1 ∙ stands event d clock other may.0

stood : (n : ℕ) (s : Whole) (event : Event) → is_reading event ≡ false → IsGood s.core → (all_done n s.core (own_of n s event).deeds).clock ≡ s.core.clock
stood n s event other good =
    let found = s.core in
    ap (λ (x : Running). x.1) (deeds_times n found (own_of n s event).deeds good ((own_row n s event).takes good)) ∙ all_stand event (own_of n s event).deeds found.clock other ((own_row n s event).may good)

pub own_clock : (n : ℕ) (s : Whole) (event : Event) → IsGood s.core → (all_done n s.core (own_of n s event).deeds).clock ≡ clock_after event s.core.clock
own_clock n s (Tick now) good = ap (λ (t : CoreState). t.clock) (tick_done n s.core now) ∙ (tick_frame n s.core now good).clock
own_clock n s Restart good = refl
own_clock n s event good = stood n s event refl good

-- what is made of the leases by all that an event does
pub leases_are : (n : ℕ) (s : Whole) (event : Event) → is_restart event ≡ false → IsGood (step_begun s.core) → (let found = step_begun s.core in (all_done n found (deeds n s event)).leases ≡ leases_after n found (deeds n s event) found.leases)
leases_are n s event other good = ap (λ (x : Running). x.0) (deeds_times n (step_begun s.core) (deeds n s event) good (deeds_taken n s event other good))
