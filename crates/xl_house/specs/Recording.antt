-- What an entry makes of the record and of the grace that runs, what is stored for it, and who is let in while grace runs (RFC 7530
-- 9.6.2, 9.6.3; XNFS C702, NLM_LOCK).
use Rattle.std.specs.Prelude.{◌≡◌, ◌⊎◌, ℕ, ◌+◌, ◌-◌, ◌≤◌, Bool, true, false, ◌&&◌, ◌==◌, nat_lt, if◌then◌else◌, List, [], ◌∷◌, length, take, Option, Some, None}
use Rattle.xl_base.specs.Lists.{IsIn}
use Rattle.xl_base.specs.Outside.{Rose}
use Rattle.xl_base.specs.RecordFile.{with_name}
use Rattle.xl_base.specs.Stable.{Stable, raised, same_name, is_recorded, is_recordable, keeps, is_kept}
use Rattle.xl_base.specs.declared.event.Event.{Event}
use Rattle.xl_base.specs.declared.event.Event.TheVariants.{Tick, Restart}
use Rattle.xl_base.specs.declared.event.Moment.{Moment}
use Rattle.xl_base.specs.declared.journal.Entry.{Entry}
use Rattle.xl_base.specs.declared.stable.Mark.{Mark}
use Rattle.xl_base.specs.declared.stable.Recorded.{Recorded}
use Rattle.xl_grace.specs.Grace.{Running, begun, expired, is_back, is_known, reclaimed, shortened}
use Rattle.xl_matrix.specs.declared.claim.Claim.{Claim}
use Rattle.xl_matrix.specs.declared.claim.What.{What}
use Rattle.xl_names.specs.declared.name.Name.{Name}
use Rattle.xl_wait.specs.declared.waiter.Waiter.{Waiter}
use Rattle.xl_core.specs.Askers.{asked_what, asked_whats, asked_claims}
use Rattle.xl_core.specs.BreakAnswers.{client_of}
use Rattle.xl_core.specs.Causes.{asks_claims}
use Rattle.xl_core.specs.Decide.{ask}
use Rattle.xl_core.specs.Deeds.{Deed, Asks, Serves, Lapses, Expires, EndsGrace, given, done, all_told_of}
use Rattle.xl_core.specs.Frames.{who_expired}
use Rattle.xl_core.specs.Judge.{to_record}
use Rattle.xl_core.specs.Settle.{settle}
use Rattle.xl_core.specs.Standings.{recorded_as, marked, asker_as, waiter_as, stores_name}
use Rattle.xl_core.specs.State.{CoreState}
use Rattle.xl_core.specs.Stores.{Telling, Holds, client_name, given_more, unrecorded, without_name}
use Rattle.xl_core.specs.declared.ask.Answer.{Answer}
use Rattle.xl_core.specs.declared.ask.Answer.TheVariants.{Granted}
use Rattle.xl_core.specs.declared.ask.Ask.{Ask}
use Rattle.xl_core.specs.declared.ask.Effect.{Effect}
use Rattle.xl_core.specs.declared.ask.Effect.TheVariants.{Served}
use Rattle.xl_plan.specs.Plans.{AllAt}
use Rattle.xl_house.specs.Done.{deeds}
use Rattle.xl_house.specs.Lawful.{Law, found}
use Rattle.xl_house.specs.Machine.{Turn, step}
use Rattle.xl_house.specs.Own.{own_of}
use Rattle.xl_house.specs.State.{Whole, as_found}

-- ---- the record

-- with this name and its mark, in its place or behind the others, if there is one
abbrev pub with_some : Option Recorded → Stable → Stable
with_some None stable = stable
with_some (Some name) stable = with_name name stable

-- once one is answered so, before whose grant this name is to be recorded: a grant has it recorded
abbrev pub stable_by : Option Recorded → Answer → Stable → Stable
stable_by name (Granted c) stable = with_some name stable
stable_by name answer stable = stable

-- the name that is to be recorded with its mark before the waiter of this number is granted what it waits for
abbrev pub name_waited : ℕ → List Name → List Waiter → Stable → Option Recorded
name_waited id names [] stable = None
name_waited id names (w ∷ ws) stable = if w.id == id then to_record (unrecorded w.monitored (waiter_as names w) stable) w.asked else name_waited id names ws stable

-- once a turn tells this
abbrev pub stable_served : CoreState → List Effect → Stable → Stable
stable_served s [] stable = stable
stable_served s (Served party id answer ∷ effects) stable = stable_served s effects (stable_by (name_waited id s.names s.waiters stable) answer stable)
stable_served s (effect ∷ effects) stable = stable_served s effects stable

-- without the client of this id string, if there is one
abbrev pub without_client : Option (List ℕ) → Stable → Stable
without_client None stable = stable
without_client (Some client) stable = without_name (client_name client) stable

-- The record after one deed, of what it was: it gains the name of one who is monitored, reclaims nothing and is granted what it asks
-- or waits for, if it lacks that, and its mark, if it came with one that isn't kept; it loses the name of a client that expires, and
-- at the end of grace those that reclaimed nothing.
abbrev pub stable_left : ℕ → CoreState → Deed → Stable → Stable
stable_left n s (Asks left a) stable = stable_by (to_record (unrecorded (stores_name a) (asker_as a) stable) (asked_claims a (asked_whats a.act) s.names)) (ask n left s a).0 stable
stable_left n s (Serves left) stable = stable_served s (given n s (Serves left)).1 stable
stable_left n s (Lapses cache) stable = without_client (client_of s.names cache.party) stable
stable_left n s (Expires client) stable = without_name (client_name client) stable
stable_left n s EndsGrace stable = shortened s.grace stable
stable_left n s deed stable = stable

-- and after these, in order
abbrev pub stable_after : ℕ → CoreState → List Deed → Stable → Stable
stable_after n s [] stable = stable
stable_after n s (d ∷ ds) stable = stable_after n (done n s d) ds (stable_left n s d stable)

-- ---- the grace that runs

abbrev pub grace_by : Ask → Answer → Option Running → Option Running
grace_by a (Granted c) grace = if asks_claims a.act && a.reclaim then reclaimed (recorded_as a.party) grace else grace
grace_by a answer grace = grace

abbrev pub grace_without : Option (List ℕ) → Option Running → Option Running
grace_without None grace = grace
grace_without (Some client) grace = expired (client_name client) grace

-- The grace that runs after one deed, of what it was: a reclaim that is granted is noted, who expires may reclaim no more, and its
-- end leaves none.
abbrev pub grace_left : ℕ → CoreState → Deed → Option Running → Option Running
grace_left n s (Asks left a) grace = grace_by a (ask n left s a).0 grace
grace_left n s (Lapses cache) grace = grace_without (client_of s.names cache.party) grace
grace_left n s (Expires client) grace = expired (client_name client) grace
grace_left n s EndsGrace grace = None
grace_left n s deed grace = grace

abbrev pub grace_after : ℕ → CoreState → List Deed → Option Running → Option Running
grace_after n s [] grace = grace
grace_after n s (d ∷ ds) grace = grace_after n (done n s d) ds (grace_left n s d grace)

-- ---- who comes into the record, and who goes

-- it is so of one of these, in the state that those before it left
abbrev pub AnyAt : (CoreState → Deed → Type 0) → ℕ → CoreState → List Deed → Type 0
AnyAt P n s [] = ⊥
AnyAt P n s (d ∷ ds) = P s d ⊎ AnyAt P n (done n s d) ds

-- one who waited for one thing by a monitored ask, of the client of this name with this mark, or without one, is told of its grant
abbrev pub HasServed : Recorded → CoreState → List Effect → Type 0
HasServed name s told =
    (w : Waiter) × (asked : Claim) × (c : Claim) × IsIn w s.waiters × (w.asked ≡ asked ∷ []) × (w.monitored ≡ true) × (is_recordable name ≡ true) × (waiter_as s.names w ≡ name) × IsIn (Served w.party w.id (Granted c)) told

-- The deed is a monitored ask for one thing, and no reclaim, of the client of this name with this mark, or without one, which is
-- granted; or it serves one who waited by such an ask with its grant.
abbrev pub IsMonitored : Recorded → ℕ → CoreState → Deed → Type 0
IsMonitored name n s (Asks left a) =
    (what : What) × (c : Claim) × (asked_what a.act ≡ Some what) × (a.monitored ≡ true) × (a.reclaim ≡ false) × (is_recordable name ≡ true) × (asker_as a ≡ name) × ((ask n left s a).0 ≡ Granted c)
IsMonitored name n s (Serves left) = HasServed name s (given n s (Serves left)).1
IsMonitored name n s deed = ⊥

-- the deed is such a grant to the client of this name, which came with another mark than this one
abbrev pub IsMarkedAnew : Recorded → ℕ → CoreState → Deed → Type 0
IsMarkedAnew name n s deed = (mark : Mark) × (keeps name.mark (Some mark) ≡ false) × IsMonitored (marked name (Some mark)) n s deed

abbrev pub IsNamed : Recorded → Option (List ℕ) → Type 0
IsNamed name None = ⊥
IsNamed name (Some client) = same_name (client_name client) name ≡ true

-- the deed is the expiry of the client of this name, whatever its mark, or the end of a grace in which it reclaimed nothing
abbrev pub IsOver : Recorded → CoreState → Deed → Type 0
IsOver name s (Lapses cache) = IsNamed name (client_of s.names cache.party)
IsOver name s (Expires client) = same_name (client_name client) name ≡ true
IsOver name s EndsGrace = is_back name s.grace ≡ false
IsOver name s deed = ⊥

-- the deed ends the name, or gives it another mark
abbrev pub IsChanged : Recorded → ℕ → CoreState → Deed → Type 0
IsChanged name n s deed = IsOver name s deed ⊎ IsMarkedAnew name n s deed

-- Behind these deeds the name is recorded, unless one of them ends it; and its mark is kept, if it has one, unless one of them ends
-- the name or gives it another.
pub record IsHeldOn (name : Recorded) (n : ℕ) (s : CoreState) (ds : List Deed) (stable : Stable) : Type 0 where
  pub named : (is_recorded name stable.names ≡ true) ⊎ AnyAt (λ u d. IsOver name u d) n s ds
  pub kept : (is_kept name stable.names ≡ true) ⊎ AnyAt (λ u d. IsChanged name n u d) n s ds

-- so it is behind each of these deeds of each name that is to be recorded for it
abbrev pub AreHeldOn : ℕ → CoreState → List Deed → Stable → Type 0
AreHeldOn n s [] stable = Unit {0}
AreHeldOn n s (d ∷ ds) stable = ((name : Recorded) → IsMonitored name n s d → IsHeldOn name n (done n s d) ds stable) × AreHeldOn n (done n s d) ds stable

-- What becomes of the record and of the grace by these deeds. A name comes into the record, and a mark beside it, only by a monitored
-- ask of its client with that mark, which reclaims nothing; it goes only as its client expires, or at the end of a grace in which it
-- reclaimed nothing; and while it stays a kept mark goes only by such an ask with another. Each such ask that is granted leaves the
-- name recorded, with its mark if it has one.
pub record IsRecordedBy (n : ℕ) (s : CoreState) (ds : List Deed) (t : CoreState) : Type 0 where
  pub stable : t.stable ≡ stable_after n s ds s.stable
  pub grace : t.grace ≡ grace_after n s ds s.grace
  pub comes : (name : Recorded) → IsIn name t.stable.names → IsIn name s.stable.names ⊎ AnyAt (λ u d. IsMonitored name n u d) n s ds
  pub goes : (name : Recorded) → is_recorded name s.stable.names ≡ true → is_recorded name t.stable.names ≡ false → AnyAt (λ u d. IsOver name u d) n s ds
  pub stays : (name : Recorded) → IsIn name s.stable.names → IsIn name t.stable.names ⊎ AnyAt (λ u d. IsChanged name n u d) n s ds
  pub held : AreHeldOn n s ds t.stable

-- Who is told of as expired at a reading of the clock isn't in the record at the end of the entry.
abbrev pub IsForgetting : ℕ → Whole → Moment → Whole → Type 0
IsForgetting n s now t = (client : List ℕ) → IsIn client (who_expired (all_told_of n (found s) (own_of n (as_found s) (Tick now)).deeds)) → is_recorded (client_name client) t.core.stable.names ≡ false

-- A restart raises the epoch and leaves the names; grace runs from then on if there are any.
pub record IsRaised (s t : Whole) : Type 0 where
  pub stable : t.core.stable ≡ raised s.core.stable
  pub grace : t.core.grace ≡ begun t.core.stable s.core.clock s.exports.grace

abbrev pub IsRecordingBy : ℕ → Whole → Event → Whole → Type 0
IsRecordingBy n s Restart t = IsRaised s t
IsRecordingBy n s (Tick now) t = IsRecordedBy n (found s) (deeds n s (Tick now)) t.core × IsForgetting n s now t
IsRecordingBy n s event t = IsRecordedBy n (found s) (deeds n s event) t.core

-- ---- how long

-- one of these deeds grants a monitored ask of the client of this name with this mark, or without one, that is no reclaim; none behind
-- it ends it so
abbrev pub IsToStayBy : (ℕ → CoreState → Deed → Type 0) → Recorded → ℕ → CoreState → List Deed → Type 0
IsToStayBy ends name n s [] = ⊥
IsToStayBy ends name n s (d ∷ ds) = (IsMonitored name n s d × (AnyAt (ends n) n (done n s d) ds → ⊥)) ⊎ IsToStayBy ends name n (done n s d) ds

-- no deed of these entries ends it so
abbrev pub NeverEnds : (ℕ → CoreState → Deed → Type 0) → Whole → List Entry → Type 0
NeverEnds ends s [] = Unit {0}
NeverEnds ends s (e ∷ es) = (AnyAt (ends e.stores) e.stores (found s) (deeds e.stores s e.event) → ⊥) × NeverEnds ends (step e.stores s e.event).next es

-- in one of these entries such an ask is granted, and nothing ends it so behind that
abbrev pub IsToStay : (ℕ → CoreState → Deed → Type 0) → Recorded → Whole → List Entry → Type 0
IsToStay ends name s [] = ⊥
IsToStay ends name s (e ∷ es) = (IsToStayBy ends name e.stores (found s) (deeds e.stores s e.event) × NeverEnds ends (step e.stores s e.event).next es) ⊎ IsToStay ends name (step e.stores s e.event).next es

-- ---- stores

-- a store that was wanted was not made
abbrev pub falls_short : Turn → Bool
falls_short turn = nat_lt turn.made (length turn.given)

abbrev pub last_of : List Stable → Stable → Stable
last_of [] stable = stable
last_of (later ∷ more) stable = last_of more later

-- The stores of an event, of which n succeed and before which this was the record: no more are made; each record that is given is
-- stored, except the last if its store fails, which it does only if n were made; and the record is the last that was stored.
pub record AreStored (n : ℕ) (before : Stable) (turn : Turn) : Type 0 where
  pub most : turn.made ≤ n
  pub given : length turn.given ≡ (if falls_short turn then turn.made + 1 else turn.made)
  pub short : falls_short turn ≡ true → turn.made ≡ n
  pub last : turn.next.core.stable ≡ last_of (take turn.made turn.given) before

-- Exactly how the record changes and what is stored for it; and what becomes of the grace that runs.
abbrev pub IsRecording : Law
IsRecording n s e t = IsRecordingBy n s e.event t × AreStored n s.core.stable (step n s e.event)

-- What a keeper tells once an event gave this, that told the other before it: it holds the record as it is stored, was given those of
-- the event behind the others, in order, and its count of faults rose if a store that was wanted was not made, and only then. If it
-- told how many stores succeed, so many are left as were not made.
pub record HasKept (turn : Turn) (before now : Telling) : Type 0 where
  pub held : Holds now.held turn.next.core.stable
  pub given : now.given ≡ given_more before.given turn.given
  pub rose : falls_short turn ≡ true → Rose before.faults now.faults
  pub still : falls_short turn ≡ false → now.faults ≡ before.faults
  pub left : (n : ℕ) → before.left ≡ Some n → (turn.made ≤ n) × (now.left ≡ Some (n - turn.made))

-- ---- in grace

-- While grace runs a share or a lock is granted only to one who reclaims it and whose client the record has, with a mark that agrees
-- with its own; and nobody who waits has a turn.
abbrev pub IsAdmittedBy : ℕ → CoreState → Deed → Type 0
IsAdmittedBy n s (Asks left a) = (g : Running) (c : Claim) → s.grace ≡ Some g → asks_claims a.act ≡ true → (ask n left s a).0 ≡ Granted c → (a.reclaim ≡ true) × (is_known (asker_as a) s.stable.names ≡ true)
IsAdmittedBy n s (Serves left) = (g : Running) → s.grace ≡ Some g → settle n left s ≡ None
IsAdmittedBy n s deed = Unit {0}

-- so it is of each deed of an entry
abbrev pub IsAdmitting : Law
IsAdmitting n s e t = AllAt (λ u d. IsAdmittedBy n u d) n (found s) (deeds n s e.event)
