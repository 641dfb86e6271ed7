-- Reclaims over restarts and crashes: what was held before the server started, and that truthful reclaims never collide (RFC 7530
-- 9.6.2, 9.6.3; XNFS C702, NLM_LOCK).
use Rattle.std.specs.Prelude.{◌≡◌, ◌⊎◌, ℕ, ◌≤◌, true, false, if◌then◌else◌, List, [], ◌∷◌, map, take, is_some}
use Rattle.xl_base.specs.Lists.{IsIn}
use Rattle.xl_base.specs.Stable.{Stable, raised, is_recorded}
use Rattle.xl_base.specs.declared.event.Event.{Event}
use Rattle.xl_base.specs.declared.event.Event.TheVariants.{Restart}
use Rattle.xl_base.specs.declared.event.Moment.{Moment}
use Rattle.xl_base.specs.declared.journal.Entry.{Entry}
use Rattle.xl_base.specs.declared.stable.Recorded.{Recorded}
use Rattle.xl_reclaims.specs.Truthful.{Before, held_in, TellsTruth, IsLetIn}
use Rattle.xl_core.specs.State.{started}
use Rattle.xl_plan.specs.Plans.{AllAt}
use Rattle.xl_house.specs.Done.{deeds}
use Rattle.xl_house.specs.Lawful.{found}
use Rattle.xl_house.specs.Machine.{step}
use Rattle.xl_house.specs.Recording.{AnyAt, IsMonitored, IsOver, IsChanged, last_of}
use Rattle.xl_house.specs.State.{Whole, no_fronts, times_of}

-- ---- crashes

-- What happens next: an event, of whose stores n succeed; or a crash in the step of such an event, once its first k stores were made,
-- and a start at this moment.
pub data Happening : Type 0 where
  Enters : Event → ℕ → Happening
  Crashes : Event → ℕ → ℕ → Moment → Happening

-- what happened as these entries tell it
abbrev pub happened : List Entry → List Happening
happened es = map (λ e. Enters e.event e.stores) es

-- the record as the first k stores of the step left it, of which n would have succeeded
abbrev pub record_left : ℕ → ℕ → Whole → Event → Stable
record_left k n s event = last_of (take k (step n s event).given) s.core.stable

-- A start on that record: all else of the step is lost, and all that was held (HOUSE-9).
abbrev pub crashed : ℕ → ℕ → Moment → Whole → Event → Whole
crashed k n now s event =
    record { exports = s.exports; place = 0; connections = []; paused = []; front = no_fronts; core = started (raised (record_left k n s event)) now (times_of s.exports) }

-- What a crash makes of the record, in the step of an event of whose stores n would have succeeded, once its first k stores were
-- made: a name comes into it, and a mark beside it, only by a monitored ask of its client with that mark in that step, which
-- reclaims nothing; it goes only as its client expires in it, or at the end of a grace in which it reclaimed nothing; and while it
-- stays a kept mark goes only by such an ask with another.
pub record IsRecordCut (k n : ℕ) (s : Whole) (event : Event) : Type 0 where
  pub comes : (name : Recorded) → IsIn name (record_left k n s event).names → IsIn name s.core.stable.names ⊎ AnyAt (λ u d. IsMonitored name n u d) n (found s) (deeds n s event)
  pub goes : (name : Recorded) → is_recorded name s.core.stable.names ≡ true → is_recorded name (record_left k n s event).names ≡ false → AnyAt (λ u d. IsOver name u d) n (found s) (deeds n s event)
  pub stays : (name : Recorded) → IsIn name s.core.stable.names → IsIn name (record_left k n s event).names ⊎ AnyAt (λ u d. IsChanged name n u d) n (found s) (deeds n s event)

-- so it is of whatever event comes then, behind any of the stores that it makes
unfoldable pub IsCutWell : Whole → Type 0
IsCutWell s = (k n : ℕ) (event : Event) → k ≤ (step n s event).made → IsRecordCut k n s event

-- so it is before the first of these entries and behind each
abbrev pub AlwaysCut : Whole → List Entry → Type 0
AlwaysCut s [] = IsCutWell s × Unit {0}
AlwaysCut s (e ∷ es) = IsCutWell s × AlwaysCut (step e.stores s e.event).next es

-- ---- what was held before

-- What was held before the server started: just before it stopped; or if grace ran then, before that began.
abbrev pub before_start : Before → Whole → Before
before_start before s = if is_some s.core.grace then before else held_in s.core

abbrev pub before_then : Before → Whole → Event → Before
before_then before s Restart = before_start before s
before_then before s event = before

-- ---- reclaims

-- each reclaim of the entry tells the truth
abbrev pub AreTruthful : Before → ℕ → Whole → Event → Type 0
AreTruthful before n s event = AllAt (λ u d. TellsTruth before u d) n (found s) (deeds n s event)

-- none of them is turned away: by what is held, for want of its name in the record, with a mark that agrees, or of a grace that runs
abbrev pub AreLetIn : ℕ → Whole → Event → Type 0
AreLetIn n s event = AllAt (λ u d. IsLetIn n u d) n (found s) (deeds n s event)

-- each reclaim told the truth since the server started
abbrev pub truthful_then : Type 0 → Before → ℕ → Whole → Event → Type 0
truthful_then so_far before n s Restart = Unit {0}
truthful_then so_far before n s event = so_far × AreTruthful before n s event

-- While grace runs, if each reclaim since the server started told the truth, none is turned away.
abbrev pub NeverCollideSince : Type 0 → Before → Whole → List Happening → Type 0
NeverCollideSince so_far before s [] = Unit {0}
NeverCollideSince so_far before s (Enters event n ∷ more) =
    (so_far → AreTruthful before n s event → AreLetIn n s event) × NeverCollideSince (truthful_then so_far before n s event) (before_then before s event) (step n s event).next more
NeverCollideSince so_far before s (Crashes event n k now ∷ more) = NeverCollideSince (Unit {0}) (before_start before s) (crashed k n now s event) more

-- Truthful reclaims never collide, whatever happens from this state on, in which nothing was reclaimed yet.
unfoldable pub NeverCollide : Before → Whole → List Happening → Type 0
NeverCollide before s more = NeverCollideSince (Unit {0}) before s more
