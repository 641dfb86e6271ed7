-- The laws of each entry hold of every journal.
use Rattle.std.proofs.Common.{◌≡◌, ℕ, true, false, inl, inr, List, [], ◌∷◌, refl, sym, ap, subst, ◌∙◌}
use Rattle.std.specs.List.{AllByRecursion}
use Rattle.std.proofs.lemmas.Bool.{both_ways}
use Rattle.xl_base.proofs.Members.{all_in, all_weaker}
use Rattle.xl_base.specs.Lists.{IsIn, Pairwise}
use Rattle.xl_base.specs.declared.event.Event.{Event}
use Rattle.xl_base.specs.declared.event.Event.TheVariants.{Tick, Restart}
use Rattle.xl_base.specs.declared.event.Moment.{Moment}
use Rattle.xl_base.specs.declared.journal.Entry.{Entry}
use Rattle.xl_base.specs.declared.journal.Head.{Head}
use Rattle.xl_cache.specs.BreakPlans.{is_running}
use Rattle.xl_matrix.proofs.SideLaws.{compat-sym}
use Rattle.xl_matrix.specs.Matrix.{compat}
use Rattle.xl_matrix.specs.declared.claim.Claim.{Claim}
use Rattle.xl_matrix.specs.declared.claim.What.{What}
use Rattle.xl_matrix.specs.declared.claim.What.TheVariants.{Share, Range, Cache}
use Rattle.xl_table.specs.Held.{is_cache}
use Rattle.xl_wait.specs.declared.waiter.Waiter.{Waiter}
use Rattle.xl_names.specs.declared.name.Name.{Name}
use Rattle.xl_core.specs.State.{CoreState, step_begun}
use Rattle.xl_core.specs.Deeds.{Deed, all_done, queue_after, any_ends_break, KeepNames}
use Rattle.xl_core.specs.Dues.{AreDue, IsPutOff}
use Rattle.xl_core.specs.Good.{IsGood}
use Rattle.xl_core.specs.Ticks.{tick}
use Rattle.xl_core.specs.Leases.{ended}
use Rattle.xl_core.specs.Places.{Place, ByteOf, ShareOf, RangesOf, CacheOf, held_at, stands}
use Rattle.xl_core.proofs.DeedCaches.{deeds_keep_break}
use Rattle.xl_core.proofs.DeedLists.{deeds_make, deeds_queue, deeds_names, deeds_due}
use Rattle.xl_core.proofs.GoodLaws.{begun_good}
use Rattle.xl_core.proofs.TickLaws.{tick_done, tick_in_turn, tick_late, tick_off, tick_over}
use Rattle.xl_house.specs.Done.{rounds, deeds, messages}
use Rattle.xl_house.specs.Own.{own_of}
use Rattle.xl_house.specs.Free.{IsFree}
use Rattle.xl_house.specs.Journals.{IsLegal, is_restart}
use Rattle.xl_house.specs.Lawful.{Always, IsLawful, IsLawfulBy, IsLeftBy, IsWaiting, IsWaitingBy, IsGuarding, IsKept, IsKeptBy, IsOnTime, IsOnTimeWith, IsOnTimeBy, IsComplete, IsCaused, IsTold}
use Rattle.xl_house.specs.Machine.{Turn, step}
use Rattle.xl_house.specs.State.{Whole, as_found, start_of}
use Rattle.xl_house.specs.Timed.{leases_after, clock_after}
use Rattle.xl_house.proofs.DoneLaws.{left_is, deeds_taken, each_event, rounds_caused, all_sent, restart_sends}
use Rattle.xl_house.proofs.EachEntry.{always}
use Rattle.xl_house.proofs.MachineLaws.{step_is, step_free}
use Rattle.xl_house.proofs.TimedLaws.{Running, times_in, left_times, own_clock, leases_are}

-- ---- the core after an entry

pub begun_held : (s : CoreState) (p : Place) → held_at (step_begun s) p ≡ held_at s p
unfolding step_begun
begun_held s (ByteOf file owner byte) = refl
begun_held s (ShareOf file owner) = refl
begun_held s (RangesOf file number) = refl
begun_held s (CacheOf file party) = refl

pub begun_waits : (s : CoreState) → (step_begun s).waiters ≡ s.waiters
unfolding step_begun
begun_waits s = refl

begun_names : (s : CoreState) → (step_begun s).names ≡ s.names
unfolding step_begun
begun_names s = refl

pub next_core : (n : ℕ) (s : Whole) (event : Event) → is_restart event ≡ false → (step n s event).next.core ≡ step_begun (all_done n (step_begun s.core) (deeds n s event))
next_core n s event other = ap (λ (t : Turn). t.next.core) (step_is n s event other) ∙ ap step_begun (left_is n s event other)

-- ---- one entry

changed : (n : ℕ) (s : Whole) (event : Event) → is_restart event ≡ false → IsFree s → IsLeftBy n s (deeds n s event) (step n s event).next.core
changed n s event other free = λ p.
    let found = step_begun s.core in
    ap (λ (t : CoreState). held_at t p) (next_core n s event other)
    ∙ begun_held (all_done n found (deeds n s event)) p
    ∙ deeds_make n found (deeds n s event) p (begun_good s.core free.good) (deeds_taken n s event other (begun_good s.core free.good))
    ∙ ap (λ (had : List What). stands n found (deeds n s event) p had) (begun_held s.core p)

begun_times : (s : CoreState) → times_in (step_begun s) ≡ times_in s
unfolding step_begun
begun_times s = refl

next_times : (n : ℕ) (s : Whole) (event : Event) → is_restart event ≡ false → IsFree s → times_in (step n s event).next.core ≡ times_in (all_done n (step_begun s.core) (own_of n (as_found s) event).deeds)
next_times n s event other free =
    ap times_in (next_core n s event other) ∙ begun_times (all_done n (step_begun s.core) (deeds n s event)) ∙ left_times n s event other (begun_good s.core free.good)

leased : (n : ℕ) (s : Whole) (event : Event) → is_restart event ≡ false → IsFree s → (step n s event).next.core.leases ≡ leases_after n (step_begun s.core) (deeds n s event) s.core.leases
leased n s event other free =
    let found = step_begun s.core in
    ap (λ (t : CoreState). t.leases) (next_core n s event other)
    ∙ ap (λ (x : Running). x.0) (begun_times (all_done n found (deeds n s event)))
    ∙ leases_are n s event other (begun_good s.core free.good)
    ∙ ap (λ (x : Running). leases_after n found (deeds n s event) x.0) (begun_times s.core)

clocked : (n : ℕ) (s : Whole) (event : Event) → is_restart event ≡ false → IsFree s → (step n s event).next.core.clock ≡ clock_after event s.core.clock
clocked n s event other free =
    ap (λ (x : Running). x.1) (next_times n s event other free) ∙ own_clock n (as_found s) event (begun_good s.core free.good) ∙ ap (λ (x : Running). clock_after event x.1) (begun_times s.core)

lawfully : (n : ℕ) (s : Whole) (event : Event) → is_restart event ≡ false → IsFree s → (let t = (step n s event).next in
    IsLeftBy n s (deeds n s event) t.core × (t.core.leases ≡ leases_after n (step_begun s.core) (deeds n s event) s.core.leases) × (t.core.clock ≡ clock_after event s.core.clock))
lawfully n s event other free = (changed n s event other free, leased n s event other free, clocked n s event other free)

emptied : (n : ℕ) (s : Whole) (p : Place) → held_at (step n s Restart).next.core p ≡ []
unfolding step
emptied n s (ByteOf file owner byte) = refl
emptied n s (ShareOf file owner) = refl
emptied n s (RangesOf file number) = refl
emptied n s (CacheOf file party) = refl

cleared : (n : ℕ) (s : Whole) → (let t = (step n s Restart).next in (t.core.leases ≡ []) × (t.core.clock ≡ s.core.clock))
unfolding step
cleared n s = (refl, refl)

lawful_by : (n : ℕ) (s : Whole) (event : Event) → IsFree s → IsLawfulBy n s event (step n s event).next
lawful_by n s Restart free = let same = cleared n s in (λ p. emptied n s p, same.0, same.1)
lawful_by n s event free = lawfully n s event refl free

waiting : (n : ℕ) (s : Whole) (event : Event) → is_restart event ≡ false → IsFree s
    → (let t = (step n s event).next in (t.core.waiters ≡ queue_after n (step_begun s.core) (deeds n s event) s.core.waiters) × KeepNames s.core.names t.core.names)
waiting n s event other free =
    let found = step_begun s.core in
    let ds = deeds n s event in
    let good = begun_good s.core free.good in
    let fit = deeds_taken n s event other good in (
      ap (λ (t : CoreState). t.waiters) (next_core n s event other)
          ∙ begun_waits (all_done n found ds)
          ∙ deeds_queue n found ds good fit
          ∙ ap (λ (ws : List Waiter). queue_after n found ds ws) (begun_waits s.core),
      subst (λ (names : List Name). KeepNames s.core.names names) (sym (ap (λ (t : CoreState). t.names) (next_core n s event other) ∙ begun_names (all_done n found ds)))
          (subst (λ (names : List Name). KeepNames names (all_done n found ds).names) (begun_names s.core) (deeds_names n found ds good fit)),
    )

nobody : (n : ℕ) (s : Whole) → (step n s Restart).next.core.waiters ≡ []
unfolding step
nobody n s = refl

waiting_by : (n : ℕ) (s : Whole) (event : Event) → IsFree s → IsWaitingBy n s event (step n s event).next
waiting_by n s Restart free = nobody n s
waiting_by n s event free = waiting n s event refl free

begun_claims : (s : CoreState) → (step_begun s).claims ≡ s.claims
unfolding step_begun
begun_claims s = refl

-- of claims that may be held together none is one that a cache among them guards against
guards : (c : Claim) (claims : List Claim) → Pairwise compat claims → IsIn c claims → is_cache c.what ≡ true → AllByRecursion (λ d. is_cache d.what ≡ false → compat c d ≡ true) claims
guards c [] pairs there cache = tt
guards c (d ∷ ds) pairs (inl e) cache = (
  λ other. absurd (both_ways (is_cache d.what) other (subst (λ (x : Claim). is_cache x.what ≡ true) (sym e) cache)),
  all_weaker (λ x. compat d x ≡ true) (λ x. is_cache x.what ≡ false → compat c x ≡ true) ds (λ x with_it other. subst (λ (y : Claim). compat y x ≡ true) e with_it) pairs.0,
)
guards c (d ∷ ds) pairs (inr later) cache = (λ other. compat-sym c d ∙ all_in (λ x. compat d x ≡ true) c ds pairs.0 later, guards c ds pairs.1 later cache)

running_cache : (what : What) → is_running what ≡ true → is_cache what ≡ true
running_cache (Cache kind running) h = refl
running_cache (Share access deny) h = absurd (both_ways false refl h)
running_cache (Range extent exclusive) h = absurd (both_ways false refl h)

stays_held : (n : ℕ) (s : Whole) (event : Event) → is_restart event ≡ false → IsFree s → (c : Claim) → IsIn c s.core.claims → is_running c.what ≡ true → any_ends_break n (step_begun s.core) c (deeds n s event) ≡ false → IsIn c (step n s event).next.core.claims
stays_held n s event other free c there runs lasts =
    let found = step_begun s.core in
    let ds = deeds n s event in
    let good = begun_good s.core free.good in
    subst (λ (claims : List Claim). IsIn c claims) (sym (ap (λ (t : CoreState). t.claims) (next_core n s event other) ∙ begun_claims (all_done n found ds)))
    (deeds_keep_break n found ds c good (deeds_taken n s event other good) (subst (λ (claims : List Claim). IsIn c claims) (sym (begun_claims s.core)) there) runs lasts)

kept : (n : ℕ) (s : Whole) (event : Event) → is_restart event ≡ false → IsFree s → (c : Claim) → IsIn c s.core.claims → is_running c.what ≡ true → any_ends_break n (step_begun s.core) c (deeds n s event) ≡ false → IsGuarding c (step n s event).next.core.claims
kept n s event other free c there runs lasts =
    let stays = stays_held n s event other free c there runs lasts in
    (stays, guards c (step n s event).next.core.claims (step_free n s event free).good.compatible stays (running_cache c.what runs))

none_held : (n : ℕ) (s : Whole) → (step n s Restart).next.core.claims ≡ []
unfolding step
none_held n s = refl

kept_by : (n : ℕ) (s : Whole) (event : Event) → IsFree s → IsKeptBy n s event (step n s event).next
kept_by n s Restart free = none_held n s
kept_by n s event free = kept n s event refl free

deeds_given : (n : ℕ) (s : Whole) (event : Event) → is_restart event ≡ false → IsFree s → AreDue n (step_begun s.core) (deeds n s event)
deeds_given n s event other free = deeds_due n (step_begun s.core) (deeds n s event) (begun_good s.core free.good) (deeds_taken n s event other (begun_good s.core free.good))

nothing_due : (n : ℕ) (s : Whole) → AreDue n (step_begun s.core) (deeds n s Restart)
unfolding deeds rounds
nothing_due n s = tt

due_by : (n : ℕ) (s : Whole) (event : Event) → IsFree s → AreDue n (step_begun s.core) (deeds n s event)
due_by n s event free = each_event (λ e. AreDue n (step_begun s.core) (deeds n s e)) (λ e other. deeds_given n s e other free) (nothing_due n s) event

-- a reading of the clock leaves nothing that is due by then, but what waits for a store that failed
on_time : (n : ℕ) (s : Whole) (now : Moment) → IsFree s → IsOnTime n s now (step n s (Tick now)).next
on_time n s now free =
    subst (λ (left : CoreState). IsOnTimeWith n s ds left (step n s (Tick now)).next) (sym done)
    (record {
      breaks = tick_late n found now good;
      leases = subst (λ (ids : List (List ℕ)). AllByRecursion (λ client. IsPutOff (tick n found now).1.failed (tick n found now).1.stable client) ids) (sym same) (tick_off n found now);
      grace = tick_over n found now;
      turns = tick_in_turn n found now good;
    })
  where
    found : CoreState
    found = step_begun s.core

    ds : List Deed
    ds = (own_of n (as_found s) (Tick now)).deeds

    good : IsGood found
    good = begun_good s.core free.good

    done : all_done n found ds ≡ (tick n found now).1
    done = tick_done n found now

    same : ended (step n s (Tick now)).next.core.clock (step n s (Tick now)).next.core.leases ≡ ended (tick n found now).1.clock (tick n found now).1.leases
    same = ap (λ (x : Running). ended x.1 x.0) (next_times n s (Tick now) refl free ∙ ap times_in done)

on_time_by : (n : ℕ) (s : Whole) (event : Event) → IsFree s → IsOnTimeBy n s event (step n s event).next
on_time_by n s (Tick now) free = on_time n s now free
on_time_by n s event free = tt

sends : (n : ℕ) (s : Whole) (event : Event) → is_restart event ≡ false → (step n s event).outs ≡ messages n s event
sends n s event other = ap (λ (t : Turn). t.outs) (step_is n s event other) ∙ all_sent n s event other

sends_nothing : (n : ℕ) (s : Whole) → (step n s Restart).outs ≡ messages n s Restart
unfolding step
sends_nothing n s = sym (restart_sends n s)

sends_by : (n : ℕ) (s : Whole) (event : Event) → (step n s event).outs ≡ messages n s event
sends_by n s event = each_event (λ e. (step n s e).outs ≡ messages n s e) (λ e other. sends n s e other) (sends_nothing n s) event

-- ---- each entry

told_from : (s : Whole) (es : List Entry) → IsLegal s es → Always IsTold s es
told_from s [] legal = tt
told_from s (e ∷ es) legal = (legal.0.1 ∙ sends_by e.stores s e.event, told_from (step e.stores s e.event).next es legal.1)

-- ---- each journal

pub always_lawful : (head : Head) (es : List Entry) → Always IsLawful (start_of head) es
always_lawful head es = always IsLawful (λ n s e free. lawful_by n s e.event free) head es

pub always_waiting : (head : Head) (es : List Entry) → Always IsWaiting (start_of head) es
always_waiting head es = always IsWaiting (λ n s e free. waiting_by n s e.event free) head es

pub always_kept : (head : Head) (es : List Entry) → Always IsKept (start_of head) es
always_kept head es = always IsKept (λ n s e free. kept_by n s e.event free) head es

pub always_complete : (head : Head) (es : List Entry) → Always IsComplete (start_of head) es
always_complete head es = always IsComplete (λ n s e free. (due_by n s e.event free, on_time_by n s e.event free)) head es

pub always_caused : (head : Head) (es : List Entry) → Always IsCaused (start_of head) es
always_caused head es = always IsCaused (λ n s e free. rounds_caused n s e.event (begun_good s.core free.good)) head es

pub always_told : (head : Head) (es : List Entry) → IsLegal (start_of head) es → Always IsTold (start_of head) es
always_told head es legal = told_from (start_of head) es legal
