-- A house as its callers see it.
use Rattle.std.specs.Prelude.{◌≡◌, ◌+◌, ◌*◌, ◌≤◌, Bool, true, false, List, length, Option, Some}
use Rattle.xl_base.specs.Limits.{most_numbers}
use Rattle.xl_base.specs.declared.halt.Halt.{Halt}
use Rattle.xl_base.specs.declared.halt.Halt.TheVariants.{NoMemory}
use Rattle.xl_base.specs.declared.journal.Entry.{Entry}
use Rattle.xl_base.specs.declared.journal.Head.{Head}
use Rattle.xl_core.specs.Numbers.{numbers_of}
pub use Rattle.xl_core.specs.Stores.{Holds}
use Rattle.xl_front_nlm.specs.Short.{AreShort}
use Rattle.xl_house.specs.Awaited.{IsAwaiting}
use Rattle.xl_house.specs.Sifting.{paused_left}
use Rattle.xl_house.specs.State.{Whole}
use Rattle.xl_house.specs.Journals.{replay}
use Rattle.xl_house.specs.Free.{IsFree}

-- what it began from, its entries, the halt that it stopped with, and its keeper
pub record Housed (K : Type 0) : Type 0 where
  pub head : Head
  pub entries : List Entry
  pub halt : Option Halt
  pub keeper : K

-- a house that found no memory in a step is spent: its state counts for nothing (HOUSE-11)
abbrev pub is_spoiled : Option Halt → Bool
is_spoiled (Some NoMemory) = true
is_spoiled _ = false

-- The state is the one that the entries lead to, at its place and a free moment, at which each request of SMB that
-- waits is awaited. Each entry gives out 512 numbers at most, those among them that one who comes to wait, the call
-- that sends its grant, the recall of a delegation that came, and the parts of a frame behind one that waits may take
-- later; and the names fit the messages that carry them.
pub record Stands (start : Whole) (es : List Entry) (s : Whole) : Type 0 where
  pub replayed : s ≡ replay start es
  pub place : s.place ≡ length es
  pub free : IsFree s
  pub awaiting : IsAwaiting s
  pub numbers : numbers_of s.core + 3 * paused_left s.paused ≤ most_numbers * length es
  pub short : AreShort s.core.names
