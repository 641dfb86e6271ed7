-- Readings of a clock, as they are told.
use Rattle.std.specs.Prelude.{◌≡◌, List, [], ◌∷◌, ◌++◌, Option}
use Rattle.xl_base.specs.declared.event.Moment.{Moment}

-- one reading more
abbrev pub Reads : Moment → List Moment → List Moment → Type 0
Reads moment old new = new ≡ old ++ moment ∷ []

-- a clock in memory: its next reading, those behind it, and the readings that it gave, if it tells them still
pub record MemoryReadings : Type 0 where
  pub next : Moment
  pub later : List Moment
  pub told : Option (List Moment)

-- the first of these, or that one if there is none
abbrev pub first_or : Moment → List Moment → Moment
first_or moment [] = moment
first_or moment (m ∷ ms) = m
