-- Truthful reclaims never collide, over any journal and any crashes.
use Rattle.std.proofs.Common.{◌≡◌, ℕ, Bool, true, false, ◌&&◌, if◌then◌else◌, List, [], ◌∷◌, Option, Some, None, is_some, refl, sym, ap, subst, ◌∙◌}
use Rattle.xl_base.specs.Stable.{Stable, raised}
use Rattle.xl_base.specs.declared.event.Event.{Event}
use Rattle.xl_base.specs.declared.event.Event.TheVariants.{Open, Message, End, Called, Tick, Restart}
use Rattle.xl_base.specs.declared.event.Moment.{Moment}
use Rattle.xl_base.specs.declared.journal.Head.{Head}
use Rattle.xl_grace.specs.Grace.{Running, reclaimed}
use Rattle.xl_reclaims.specs.Truthful.{Before, held_in, WereHeld, AreWithin, HoldsWithin, TellsTruth, IsLetIn}
use Rattle.xl_reclaims.proofs.Keeps.{deed_lies, deed_lets_in}
use Rattle.xl_core.specs.BreakAnswers.{client_of}
use Rattle.xl_core.specs.Causes.{asks_claims}
use Rattle.xl_core.specs.Decide.{ask}
use Rattle.xl_core.specs.Deeds.{Deed, Asks, GivesBack, Weakens, Acks, Cancels, Ends, Serves, Draws, Advances, Lapses, Renews, Expires, Closes, FailsStore, EndsGrace, done, all_done, IsFitDeed, AreFit}
use Rattle.xl_core.specs.Good.{IsGood}
use Rattle.xl_core.specs.Knowing.{KnowsRecord}
use Rattle.xl_core.specs.Standings.{recorded_as}
use Rattle.xl_core.specs.State.{CoreState, started, step_begun}
use Rattle.xl_core.specs.declared.ask.Answer.{Answer}
use Rattle.xl_core.specs.declared.ask.Answer.TheVariants.{Granted, Conflict, Queued, Recall, Grace, NoGrace, NotRecorded, Full, NotHeld, StoreFailed}
use Rattle.xl_core.specs.declared.ask.Ask.{Ask}
use Rattle.xl_core.specs.declared.lease.Times.{Times}
use Rattle.xl_core.proofs.DeedLaws.{deed_good}
use Rattle.xl_core.proofs.GoodLaws.{begun_good}
use Rattle.xl_core.proofs.KnowingLaws.{deeds_know}
use Rattle.xl_plan.specs.Plans.{AllAt}
use Rattle.xl_house.specs.Done.{rounds, deeds}
use Rattle.xl_house.specs.Free.{IsFree}
use Rattle.xl_house.specs.Journals.{is_restart}
use Rattle.xl_house.specs.Lawful.{found}
use Rattle.xl_house.specs.Machine.{step}
use Rattle.xl_house.specs.Recording.{grace_by, grace_without, grace_left}
use Rattle.xl_house.specs.State.{Whole, start_of, times_of}
use Rattle.xl_house.specs.Truthful.{Happening, Enters, Crashes, record_left, crashed, before_start, AreTruthful, AreLetIn, NeverCollideSince, NeverCollide}
use Rattle.xl_house.proofs.DoneLaws.{deeds_taken}
use Rattle.xl_house.proofs.LawfulLaws.{next_core}
use Rattle.xl_house.proofs.MachineLaws.{begun_knows, started_free, step_free, begin_free}
use Rattle.xl_house.proofs.RecordingLaws.{deed_noted}

-- ---- a grace that is over doesn't begin again

none_runs : {A : Type 0} (g : Running) → None ≡ Some g → A
none_runs g e = absurd cc

none_by : (a : Ask) (answer : Answer) → grace_by a answer None ≡ None
none_by a (Granted c) = by (asks_claims a.act && a.reclaim) where
  by : (b : Bool) → (let old : Option Running = None in (if b then reclaimed (recorded_as a.party) old else old) ≡ None)
  by true = refl
  by false = refl
none_by a (Conflict c) = refl
none_by a (Queued number) = refl
none_by a (Recall c) = refl
none_by a (Grace until) = refl
none_by a (NoGrace clock) = refl
none_by a NotRecorded = refl
none_by a (Full limit) = refl
none_by a NotHeld = refl
none_by a StoreFailed = refl

none_without : (client : Option (List ℕ)) → grace_without client None ≡ None
none_without None = refl
none_without (Some client) = refl

none_left : (n : ℕ) (s : CoreState) (d : Deed) → grace_left n s d None ≡ None
none_left n s (Asks left a) = none_by a (ask n left s a).0
none_left n s (GivesBack claim) = refl
none_left n s (Weakens share access deny) = refl
none_left n s (Acks cache to) = refl
none_left n s (Cancels id) = refl
none_left n s (Ends party) = refl
none_left n s (Serves left) = refl
none_left n s Draws = refl
none_left n s (Advances now) = refl
none_left n s (Lapses cache) = none_without (client_of s.names cache.party)
none_left n s (Renews client) = refl
none_left n s (Expires client) = refl
none_left n s (Closes number party) = refl
none_left n s (FailsStore stable) = refl
none_left n s EndsGrace = refl

stays_over : (n : ℕ) (s : CoreState) (d : Deed) → IsGood s → IsFitDeed s d → s.grace ≡ None → (done n s d).grace ≡ None
stays_over n s d good fit over = (deed_noted n s d good fit).grace_is ∙ ap (grace_left n s d) over ∙ none_left n s d

-- ---- deeds

holds_on : (n : ℕ) (before : Before) (s : CoreState) (d : Deed) → WereHeld before → IsGood s → KnowsRecord s → IsFitDeed s d → HoldsWithin before s → TellsTruth before s d → HoldsWithin before (done n s d)
holds_on n before s d were good knows fit holds truth later runs = by s.grace refl where
  by : (o : Option Running) → s.grace ≡ o → AreWithin before (done n s d).names (done n s d).claims
  by None over = none_runs later (sym (stays_over n s d good fit over) ∙ runs)
  by (Some g) now = deed_lies n before s d g were good knows fit now (holds g now) truth

pub deeds_let_in : (n : ℕ) (before : Before) (s : CoreState) (ds : List Deed) → WereHeld before → IsGood s → KnowsRecord s → AreFit n s ds → HoldsWithin before s → AllAt (λ u d. TellsTruth before u d) n s ds
    → AllAt (λ u d. IsLetIn n u d) n s ds × HoldsWithin before (all_done n s ds)
deeds_let_in n before s [] were good knows fit holds truth = (tt, holds)
deeds_let_in n before s (d ∷ ds) were good knows fit holds truth =
    let rest =
    deeds_let_in n before (done n s d) ds were (deed_good n s d good fit.0) (deeds_know n s (d ∷ []) good (fit.0, tt) knows) fit.1 (holds_on n before s d were good knows fit.0 holds truth.0) truth.1 in
    ((deed_lets_in n before s d were good knows fit.0 holds truth.0, rest.0), rest.1)

-- ---- entries

begun_holds : (before : Before) (s : CoreState) → HoldsWithin before s → HoldsWithin before (step_begun s)
unfolding step_begun
begun_holds before s holds = holds

pub free_held : (s : Whole) → IsFree s → WereHeld (held_in s.core)
free_held s free = record { compatible = free.good.compatible; single = free.good.single; known = free.good.known; distinct = free.good.distinct }

pub start_held : (before : Before) (s : Whole) → WereHeld before → IsFree s → WereHeld (before_start before s)
start_held before s were free = by (is_some s.core.grace) where
  by : (b : Bool) → WereHeld (if b then before else held_in s.core)
  by true = were
  by false = free_held s free

entry_lets_in : (n : ℕ) (before : Before) (s : Whole) (event : Event) → is_restart event ≡ false → WereHeld before → IsFree s → HoldsWithin before s.core → AreTruthful before n s event → AreLetIn n s event × HoldsWithin before (step n s event).next.core
entry_lets_in n before s event other were free holds truth =
    let good = begun_good s.core free.good in
    let both = deeds_let_in n before (found s) (deeds n s event) were good (begun_knows s.core free.knows) (deeds_taken n s event other good) (begun_holds before s.core holds) truth in
    (both.0, subst (λ (t : CoreState). HoldsWithin before t) (sym (next_core n s event other)) (begun_holds before (all_done n (found s) (deeds n s event)) both.1))

none_held : (before : Before) (stable : Stable) (clock : Moment) (times : Times) → HoldsWithin before (started stable clock times)
none_held before stable clock times g runs = tt

restart_asks : (n : ℕ) (s : Whole) → AreLetIn n s Restart
unfolding deeds rounds
restart_asks n s = tt

restart_holds : (n : ℕ) (before : Before) (s : Whole) → HoldsWithin before (step n s Restart).next.core
unfolding step
restart_holds n before s = none_held before (raised s.core.stable) s.core.clock (times_of s.exports)

first : (so_far : Type 0) (before : Before) (n : ℕ) (s : Whole) (e : Event) → is_restart e ≡ false → WereHeld before → IsFree s → (so_far → HoldsWithin before s.core) → so_far → AreTruthful before n s e → AreLetIn n s e
first so_far before n s e other were free holds so truth = (entry_lets_in n before s e other were free (holds so) truth).0

after : (so_far : Type 0) (before : Before) (n : ℕ) (s : Whole) (e : Event) → is_restart e ≡ false → WereHeld before → IsFree s → (so_far → HoldsWithin before s.core) → so_far × AreTruthful before n s e → HoldsWithin before (step n s e).next.core
after so_far before n s e other were free holds so = (entry_lets_in n before s e other were free (holds so.0) so.1).1

pub never : (so_far : Type 0) (before : Before) (s : Whole) (more : List Happening) → WereHeld before → IsFree s → (so_far → HoldsWithin before s.core) → NeverCollideSince so_far before s more
never so_far before s [] were free holds = tt
never so_far before s (Crashes event n k now ∷ more) were free holds =
    never (Unit {0}) (before_start before s) (crashed k n now s event) more (start_held before s were free) (started_free (crashed k n now s event) (raised (record_left k n s event)) now (times_of s.exports) refl)
    (λ u. none_held (before_start before s) (raised (record_left k n s event)) now (times_of s.exports))
never so_far before s (Enters Restart n ∷ more) were free holds = (
  λ so truth. restart_asks n s,
  never (Unit {0}) (before_start before s) (step n s Restart).next more (start_held before s were free) (step_free n s Restart free) (λ u. restart_holds n (before_start before s) s),
)
never so_far before s (Enters (Open kind) n ∷ more) were free holds =
    (first so_far before n s (Open kind) refl were free holds, never (so_far × AreTruthful before n s (Open kind)) before (step n s (Open kind)).next more were (step_free n s (Open kind) free) (after so_far before n s (Open kind) refl were free holds))
never so_far before s (Enters (Message number bytes) n ∷ more) were free holds =
    (first so_far before n s (Message number bytes) refl were free holds, never (so_far × AreTruthful before n s (Message number bytes)) before (step n s (Message number bytes)).next more were (step_free n s (Message number bytes) free) (after so_far before n s (Message number bytes) refl were free holds))
never so_far before s (Enters (End number) n ∷ more) were free holds =
    (first so_far before n s (End number) refl were free holds, never (so_far × AreTruthful before n s (End number)) before (step n s (End number)).next more were (step_free n s (End number) free) (after so_far before n s (End number) refl were free holds))
never so_far before s (Enters (Called number reply) n ∷ more) were free holds =
    (first so_far before n s (Called number reply) refl were free holds, never (so_far × AreTruthful before n s (Called number reply)) before (step n s (Called number reply)).next more were (step_free n s (Called number reply) free) (after so_far before n s (Called number reply) refl were free holds))
never so_far before s (Enters (Tick moment) n ∷ more) were free holds =
    (first so_far before n s (Tick moment) refl were free holds, never (so_far × AreTruthful before n s (Tick moment)) before (step n s (Tick moment)).next more were (step_free n s (Tick moment) free) (after so_far before n s (Tick moment) refl were free holds))

nothing_held : (head : Head) (before : Before) → HoldsWithin before (start_of head).core
nothing_held head before g runs = tt

-- from a start, whatever was held before it
pub never_collide : (head : Head) (before : Before) (more : List Happening) → WereHeld before → NeverCollide before (start_of head) more
unfolding NeverCollide
never_collide head before more were = never (Unit {0}) before (start_of head) more were (begin_free head) (λ u. nothing_held head before)
