-- What each event keeps.
use Rattle.std.proofs.Common.{◌≡◌, ℕ, zero, suc, ◌+◌, Bool, true, false, List, [], ◌∷◌, Option, Some, None, refl, sym, ap, subst, ◌∙◌}
use Rattle.std.specs.List.{AllByRecursion}
use Rattle.xl_base.specs.Stable.{Stable, raised}
use Rattle.xl_base.specs.declared.event.Event.{Event}
use Rattle.xl_base.specs.declared.event.Event.TheVariants.{Message, Restart}
use Rattle.xl_base.specs.declared.event.Moment.{Moment}
use Rattle.xl_base.specs.declared.journal.Entry.{Entry}
use Rattle.xl_base.specs.declared.journal.Head.{Head}
use Rattle.xl_core.specs.State.{CoreState, MayBe, started, step_begun}
use Rattle.xl_core.proofs.DeedLists.{deeds_good}
use Rattle.xl_core.specs.Blockers.{range_ahead, ranges_ahead}
use Rattle.xl_core.specs.Good.{IsGood, IsSettled}
use Rattle.xl_core.specs.Knowing.{KnowsRecord}
use Rattle.xl_core.proofs.GoodLaws.{started_good, begun_good}
use Rattle.xl_house.specs.declared.layers.Fronts.{Fronts}
use Rattle.xl_house.specs.Free.{WaitsForItself, IsFree, AlwaysFree}
use Rattle.xl_house.specs.Journals.{is_restart}
use Rattle.xl_core.specs.declared.lease.Times.{Times}
use Rattle.xl_smb_frames.specs.Steps.{next_step}
use Rattle.xl_smb_frames.specs.declared.frame.Frame.{Frame}
use Rattle.xl_smb_frames.specs.declared.steps.Step.{Step}
use Rattle.xl_smb_frames.specs.declared.steps.Step.TheVariants as next
use Rattle.xl_house.specs.Machine.{Gone, Ground, Turn, advanced_by, advanced_for, begun_by, connected, found_in, frames_begun, gone, gone_by, gone_further, gone_on, heard, heard_in, is_plain, part_done, restarted, run, step, steps_left, turn_of}
use Rattle.xl_house.specs.Sifting.{brings_frame, is_smb, popped}
use Rattle.xl_house.specs.declared.frames.Going.{Going}
use Rattle.xl_house.specs.State.{Whole, as_found, kind_of, times_of, start_of}
use Rattle.xl_house.specs.declared.connections.Connection.{Connection}
use Rattle.xl_house.specs.Done.{deeds}
use Rattle.xl_house.proofs.DoneLaws.{each_event, own_and_told, heard_does, heard_takes, left_by, left_is, deeds_taken, frames_good, further_good}
use Rattle.xl_house.proofs.SettleLaws.{settling_ends}
use Rattle.xl_core.proofs.KnowingLaws.{deeds_know, started_knows}
use Rattle.xl_house.proofs.ForgettingLaws.{deeds_wait}

-- ---- an event other than a restart

pub step_is : (n : ℕ) (s : Whole) (e : Event) → is_restart e ≡ false → step n s e ≡ turn_of s (connected s.connections s.place e) (gone n (as_found s) e)
unfolding step
step_is n s Restart other = absurd cc
step_is n s e other = refl

-- where no frame goes on, and the event brings none
gone_plain : (n : ℕ) (s : Whole) (e : Event) → is_plain s e ≡ true → gone n s e ≡ gone_by n s e true
unfolding gone
gone_plain n s e plain = ap (gone_by n s e) plain

pub step_plain : (n : ℕ) (s : Whole) (e : Event) → is_restart e ≡ false → is_plain s e ≡ true → step n s e ≡ turn_of s (connected s.connections s.place e) (gone_by n (as_found s) e true)
step_plain n s e other plain = step_is n s e other ∙ ap (λ (g : Gone). turn_of s (connected s.connections s.place e) g) (gone_plain n (as_found s) e plain)

-- ---- what an event gives before the table is settled

pub heard_good : (n : ℕ) (s : Whole) (e : Event) → IsGood s.core → IsGood (heard n s e).2
heard_good n s e good = subst (λ (t : CoreState). IsGood t) (sym (heard_does n s e)) (deeds_good n s.core (own_and_told n s e) good (heard_takes n s e good))

-- ---- where a step begins

begun_none : (s : CoreState) → ((step_begun s).made ≡ 0) × ((step_begun s).failed ≡ false) × ((step_begun s).given ≡ [])
unfolding step_begun
begun_none s = (refl, refl, refl)

begun_settled : (s : CoreState) → IsSettled s → IsSettled (step_begun s)
unfolding step_begun range_ahead ranges_ahead
begun_settled s settled = settled

begun_waits : (s : CoreState) → AllByRecursion WaitsForItself s.waiters → AllByRecursion WaitsForItself (step_begun s).waiters
unfolding step_begun
begun_waits s waits = waits

pub begun_knows : (s : CoreState) → KnowsRecord s → KnowsRecord (step_begun s)
unfolding step_begun
begun_knows s knows = λ g runs. knows g runs

-- ---- the core at the end of a step

left_good : (n : ℕ) (s : Whole) (e : Event) → is_restart e ≡ false → IsGood s.core → IsGood (left_by n (as_found s) e)
left_good n s e other good =
    subst (λ (t : CoreState). IsGood t) (sym (left_is n s e other)) (deeds_good n (step_begun s.core) (deeds n s e) (begun_good s.core good) (deeds_taken n s e other (begun_good s.core good)))

-- who waits then waits for itself
left_waits : (n : ℕ) (s : Whole) (e : Event) → is_restart e ≡ false → IsGood s.core → AllByRecursion WaitsForItself s.core.waiters → AllByRecursion WaitsForItself (left_by n (as_found s) e).waiters
left_waits n s e other good waits =
    subst (λ (t : CoreState). AllByRecursion WaitsForItself t.waiters) (sym (left_is n s e other))
    (deeds_wait n (step_begun s.core) (deeds n s e) (begun_good s.core good) (deeds_taken n s e other (begun_good s.core good)) (begun_waits s.core waits))

-- and who may reclaim is whom the record has
left_knows : (n : ℕ) (s : Whole) (e : Event) → is_restart e ≡ false → IsGood s.core → KnowsRecord s.core → KnowsRecord (left_by n (as_found s) e)
left_knows n s e other good knows =
    subst (λ (t : CoreState). KnowsRecord t) (sym (left_is n s e other))
    (deeds_know n (step_begun s.core) (deeds n s e) (begun_good s.core good) (deeds_taken n s e other (begun_good s.core good)) (begun_knows s.core knows))

-- ---- settled at the end

part_settles : (n : ℕ) (at : Ground) (g : Gone) (f : Frame) (message : List ℕ) (smb : Bool) → IsGood g.2 → IsSettled g.2 → IsSettled (part_done n at g f message smb).2
part_settles n at g f message true good settled = let h = heard n (found_in at g.1 g.2) (Message f.conn message) in settling_ends n at.0 h.1 h.2 (heard_good n (found_in at g.1 g.2) (Message f.conn message) good)
part_settles n at g f message false good settled = settled

step_settles : (n : ℕ) (at : Ground) (g : Gone) (f : Frame) (next : Step) → IsGood g.2 → IsSettled g.2 → IsSettled (gone_on n at g f next).2
step_settles n at g f next.Ends good settled = settled
step_settles n at g f (next.Replied reply) good settled = settled
step_settles n at g f (next.Asked message) good settled = part_settles n at g f message (is_smb (kind_of at.1 f.conn)) good settled

further_settles : (n : ℕ) (at : Ground) (g : Gone) → IsGood g.2 → IsSettled g.2 → IsSettled (gone_further n at g).2
unfolding gone_further
further_settles n at g good settled = by (popped g.0.stack) where
  by : (p : Option Frame × List Frame) → IsSettled (advanced_by n at g p).2
  by (None, rest) = settled
  by (Some f, rest) = step_settles n at (record g.0 { stack = rest }, g.1, g.2) f (next_step f) good settled

steps_settle : (fuel n : ℕ) (at : Ground) (g : Gone) → IsGood g.2 → IsSettled g.2 → IsSettled (advanced_for fuel n at g).2
steps_settle zero n at g good settled = settled
steps_settle (suc fuel) n at g good settled = steps_settle fuel n at (gone_further n at g) (further_good n at g good) (further_settles n at g good settled)

begun_settles : (n : ℕ) (s : Whole) (e : Event) → IsGood s.core → IsSettled s.core → IsSettled (frames_begun n s e).2
unfolding frames_begun
begun_settles n s e good settled = by (brings_frame s.connections e) where
  by : (brings : Bool) → IsSettled (begun_by n s e brings).2
  by true = settled
  by false = let h = heard n s e in settling_ends n s.exports h.1 h.2 (heard_good n s e good)

gone_settles : (n : ℕ) (s : Whole) (e : Event) → IsGood s.core → IsSettled s.core → IsSettled (gone n s e).2
unfolding gone heard_in run
gone_settles n s e good settled = by (is_plain s e) where
  by : (plain : Bool) → IsSettled (gone_by n s e plain).2
  by true = let h = heard n s e in settling_ends n s.exports h.1 h.2 (heard_good n s e good)
  by false = let g = frames_begun n s e in steps_settle (steps_left g.0) n (s.exports, s.connections) g (frames_good n s e good) (begun_settles n s e good settled)

-- ---- free moments

pub free_from : (s : Whole) (connections : List Connection) (g : Gone) → IsGood g.2 → IsSettled g.2 → AllByRecursion WaitsForItself g.2.waiters → KnowsRecord g.2 → IsFree (turn_of s connections g).next
free_from s connections g good settled waits knows = record {
  good = begun_good g.2 good;
  settled = begun_settled g.2 settled;
  waiters = begun_waits g.2 waits;
  knows = begun_knows g.2 knows;
  made = (begun_none g.2).0;
  failed = (begun_none g.2).1;
  given = (begun_none g.2).2;
}

turn_free : (n : ℕ) (s : Whole) (e : Event) (connections : List Connection) → is_restart e ≡ false → IsFree s → IsFree (turn_of s connections (gone n (as_found s) e)).next
turn_free n s e connections other free =
    free_from s connections (gone n (as_found s) e)
    (left_good n s e other free.good)
    (gone_settles n (as_found s) e (begun_good s.core free.good) (begun_settled s.core free.settled))
    (left_waits n s e other free.good free.waiters)
    (left_knows n s e other free.good free.knows)

pub started_free : (s : Whole) (stable : Stable) (clock : Moment) (times : Times) → s.core ≡ started stable clock times → IsFree s
started_free s stable clock times e = record {
  good = subst (λ (t : CoreState). IsGood t) (sym e) (started_good stable clock times);
  settled = subst (λ (t : CoreState). IsSettled t) (sym e) tt;
  waiters = subst (λ (t : CoreState). AllByRecursion WaitsForItself t.waiters) (sym e) tt;
  knows = subst (λ (t : CoreState). KnowsRecord t) (sym e) (started_knows stable clock times);
  made = ap (λ (t : CoreState). t.made) e;
  failed = ap (λ (t : CoreState). t.failed) e;
  given = ap (λ (t : CoreState). t.given) e;
}

restart_free : (n : ℕ) (s : Whole) → IsFree (step n s Restart).next
unfolding step
restart_free n s = started_free (restarted n s).next (raised s.core.stable) s.core.clock (times_of s.exports) refl

pub step_free : (n : ℕ) (s : Whole) (e : Event) → IsFree s → IsFree (step n s e).next
step_free n s e free =
    each_event (λ d. IsFree (step n s d).next) (λ d other. subst (λ (r : Turn). IsFree r.next) (sym (step_is n s d other)) (turn_free n s d (connected s.connections s.place d) other free)) (restart_free n s) e

pub begin_free : (head : Head) → IsFree (start_of head)
begin_free head = started_free (start_of head) (raised head.record) head.start (times_of head.exports) refl

pub free_always : (s : Whole) (es : List Entry) → IsFree s → AlwaysFree s es
free_always s [] free = (free, tt)
free_always s (e ∷ es) free = (free, free_always (step e.stores s e.event).next es (step_free e.stores s e.event free))

-- at each free moment of a journal
pub begun_free : (head : Head) (es : List Entry) → AlwaysFree (start_of head) es
begun_free head es = free_always (start_of head) es (begin_free head)

-- ---- places

pub next_place : (n : ℕ) (s : Whole) (e : Event) → (step n s e).next.place ≡ s.place + 1
unfolding step
next_place n s e = each_event (λ d. (step n s d).next.place ≡ s.place + 1) (λ d other. ap (λ (r : Turn). r.next.place) (step_is n s d other)) refl e

-- ---- as the code acts

-- with each number of stores that it may be, the event gives this
abbrev pub IsActed : Whole → Event → Going → Fronts → CoreState → Type 0
IsActed s e go g last = (n : ℕ) → MayBe n last → gone n (as_found s) e ≡ (go, g, last)

pub acted_step : (s : Whole) (e : Event) (go : Going) (g : Fronts) (last next : CoreState) (connections : List Connection)
    → is_restart e ≡ false → IsActed s e go g last → connections ≡ connected s.connections s.place e → next ≡ step_begun last → (n : ℕ) → MayBe n last
    → step n s e ≡ record { next = record { exports = s.exports; place = s.place + 1; connections = connections; paused = go.paused; front = g; core = next }; made = last.made; given = last.given; outs = go.outs }
acted_step s e go g last next connections other acted links begun n may =
    let built : List Connection → CoreState → Turn = λ cs core. record { next = record { exports = s.exports; place = s.place + 1; connections = cs; paused = go.paused; front = g; core = core }; made = last.made; given = last.given; outs = go.outs } in
    step_is n s e other
    ∙ ap (λ (r : Gone). turn_of s (connected s.connections s.place e) r) (acted n may)
    ∙ (λ i. built (sym links i) (sym begun i))
