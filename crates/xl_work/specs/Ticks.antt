-- Which readings of a clock are entered.
use Rattle.std.specs.Prelude.{◌≡◌, ℕ, ◌+◌, ◌-◌, nat_le, Bool, true, false, List, [], ◌∷◌, ◌++◌, map, length, if◌then◌else◌, Option, Some, None}
use Rattle.std.specs.List.{AllByRecursion}
use mathlib.Core.List.{IsPrefix}
use Rattle.xl_base.specs.Telling.{Follows}
use Rattle.xl_base.specs.declared.event.Event.{Event}
use Rattle.xl_base.specs.declared.event.Event.TheVariants.{Tick}
use Rattle.xl_base.specs.declared.event.Moment.{Moment}
use Rattle.xl_desk.specs.declared.view.View.{View}
use Rattle.xl_desk.specs.Passes.{Goes}
use Rattle.xl_work.specs.Calls.{RoseBy}
use Rattle.xl_work.specs.declared.first.Ticks.{Ticks}

-- by how many milliseconds a moment has to be above that of the last tick
abbrev pub tick_step : ℕ
tick_step = 1000

-- the first reading: this one, if there was none before
abbrev pub first_of : Option Moment → Moment → Moment
first_of None reading = reading
first_of (Some first) reading = first

-- a reading's moment: how far it is behind the first one, and not below 0
abbrev pub moment_of : Ticks → Moment → Moment
moment_of t reading = record { 0 = reading.0 - (first_of t.first reading).0 }

-- whether it is entered
abbrev pub is_due : Ticks → Moment → Bool
is_due t moment = nat_le tick_step (moment.0 - t.last.0)

abbrev pub entered : Bool → Moment → List Event
entered true moment = Tick moment ∷ []
entered _ moment = []

-- what a reading enters, and what is known behind it
abbrev pub tick_of : Ticks → Moment → List Event
tick_of t reading = entered (is_due t (moment_of t reading)) (moment_of t reading)

abbrev pub read : Ticks → Moment → Ticks
read t reading = record { first = Some (first_of t.first reading); last = if is_due t (moment_of t reading) then moment_of t reading else t.last }

abbrev pub ticks_from : Ticks → List Moment → List Event
ticks_from t [] = []
ticks_from t (m ∷ ms) = tick_of t m ++ ticks_from (read t m) ms

abbrev pub read_all : Ticks → List Moment → Ticks
read_all t [] = t
read_all t (m ∷ ms) = read_all (read t m) ms

-- before the first reading
abbrev pub no_ticks : Ticks
no_ticks = record { first = None; last = record { 0 = 0 } }

-- the readings that are entered: of the moments behind the first reading each that is at least 1,000 above the one entered before
-- it, which is 0 at first
abbrev pub ticks : List Moment → List Event
ticks readings = ticks_from no_ticks readings

abbrev pub is_tick : Event → Bool
is_tick (Tick moment) = true
is_tick _ = false

abbrev pub event_of : ℕ × Event → Event
event_of call = call.1

abbrev pub events : List (ℕ × Event) → List Event
events calls = map event_of calls

-- Calls that are readings of a clock: the first that are entered; of a whole lane all, and then there were as many readings as the
-- lane waited for a link or for its bytes.
pub record AreTicks (whole : Bool) (asked asked' : ℕ) (told told' : Option (List Moment)) (calls : List (ℕ × Event)) : Type 0 where
  pub are : AllByRecursion (λ c. is_tick c.1 ≡ true) calls
  pub ticks : Follows told told' (λ old new. (readings : List Moment) × (new ≡ old ++ readings) × IsPrefix (events calls) (ticks readings) × (whole ≡ true → (events calls ≡ ticks readings) × RoseBy (length readings) asked asked'))

-- what the clock of a lane made by the calls of its pass
pub record IsTimed {O : Type 0} (whole : Bool) (asked asked' : ℕ) (told : Option (List Moment)) (before : View O) (told' : Option (List Moment)) (after : View O) : Type 0 where
  pub goes : Goes before after
  pub shares : after.shares ≡ before.shares
  pub calls : List (ℕ × Event)
  pub mine : after.mine ≡ before.mine ++ calls
  pub made : after.made ≡ before.made + length calls
  pub ticks : AreTicks whole asked asked' told told' calls

-- a clock goes on: what is known of its readings, of which there were so many if the gate is open
pub record IsTicking {O : Type 0} (open_gate : Bool) (t : Ticks) (done : ℕ) (told : Option (List Moment)) (before : View O) (told' : Option (List Moment)) (after : View O) : Type 0 where
  pub goes : Goes before after
  pub shares : after.shares ≡ before.shares
  pub calls : List (ℕ × Event)
  pub mine : after.mine ≡ before.mine ++ calls
  pub made : after.made ≡ before.made + length calls
  pub are : AllByRecursion (λ c. is_tick c.1 ≡ true) calls
  pub ticks : Follows told told' (λ old new. (readings : List Moment) × (new ≡ old ++ readings) × (events calls ≡ ticks readings) × (read_all no_ticks readings ≡ t) × (open_gate ≡ true → length readings ≡ done))
