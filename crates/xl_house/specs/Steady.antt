-- Where an entry's deeds begin, what they leave alone, and how many numbers they give out.
use Rattle.std.specs.Prelude.{◌≡◌, ℕ, ◌+◌, List, [], ◌∷◌}
use Rattle.xl_base.specs.Stable.{raised}
use Rattle.xl_base.specs.declared.event.Event.{Event}
use Rattle.xl_base.specs.declared.event.Event.TheVariants.{Restart}
use Rattle.xl_core.specs.Decide.{ask}
use Rattle.xl_core.specs.Deeds.{Deed, Asks, Serves, Draws, given, done}
use Rattle.xl_core.specs.Frames.{calls_in, drawn_by}
use Rattle.xl_core.specs.State.{CoreState}
use Rattle.xl_house.specs.Done.{deeds}
use Rattle.xl_house.specs.Lawful.{Law, found}
use Rattle.xl_house.specs.State.{Whole, no_fronts, times_of}

-- ---- numbers

-- how many numbers a deed gives out: one to an ask that has to wait, one for each recall of a delegation that it or a turn
-- tells of, and one that is drawn
abbrev pub numbers_in : ℕ → CoreState → Deed → ℕ
numbers_in n s (Asks left a) = drawn_by (ask n left s a).0 + calls_in (ask n left s a).1
numbers_in n s (Serves left) = calls_in (given n s (Serves left)).1
numbers_in n s Draws = 1
numbers_in n s deed = 0

-- and these, in order
abbrev pub all_numbers_in : ℕ → CoreState → List Deed → ℕ
all_numbers_in n s [] = 0
all_numbers_in n s (d ∷ ds) = numbers_in n s d + all_numbers_in n (done n s d) ds

-- ---- an entry

-- The entry's deeds find the core as the entry before left it. They change neither the times nor the epoch of the record, and the
-- last number that was given out goes on by as many as they give out.
pub record IsSteadyIn (n : ℕ) (s : Whole) (event : Event) (t : Whole) : Type 0 where
  pub begins : found s ≡ s.core
  pub times : t.core.times ≡ s.core.times
  pub epoch : t.core.stable.epoch ≡ s.core.stable.epoch
  pub numbers : t.core.counter ≡ s.core.counter + all_numbers_in n (found s) (deeds n s event)

-- A restart has the times that were exported, raises the epoch of the record, and begins with the numbers and the names anew. It
-- leaves no connection, and nothing of the fronts: no host, client, session, open, request that waits or call without an answer.
pub record IsBegunAnew (s t : Whole) : Type 0 where
  pub connections : t.connections ≡ []
  pub front : t.front ≡ no_fronts
  pub times : t.core.times ≡ times_of s.exports
  pub stable : t.core.stable ≡ raised s.core.stable
  pub numbers : t.core.counter ≡ 0
  pub names : t.core.names ≡ []

abbrev pub IsSteadyBy : ℕ → Whole → Event → Whole → Type 0
IsSteadyBy n s Restart t = IsBegunAnew s t
IsSteadyBy n s event t = IsSteadyIn n s event t

-- What is exported stays, and the next place is one further.
abbrev pub IsSteady : Law
IsSteady n s e t = (t.exports ≡ s.exports) × (t.place ≡ s.place + 1) × IsSteadyBy n s e.event t
