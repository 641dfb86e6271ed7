-- What holds at each free moment: before the first entry of a journal, and after each.
use Rattle.std.specs.Prelude.{◌≡◌, false, List, [], ◌∷◌}
use Rattle.std.specs.List.{AllByRecursion}
use Rattle.xl_base.specs.declared.journal.Entry.{Entry}
use Rattle.xl_core.specs.Good.{IsGood, IsSettled}
use Rattle.xl_core.specs.Knowing.{KnowsRecord}
use Rattle.xl_wait.specs.declared.waiter.Waiter.{Waiter}
use Rattle.xl_house.specs.Machine.{step}
use Rattle.xl_house.specs.State.{Whole}

-- the waiter waits for claims of its own party
abbrev pub WaitsForItself : Waiter → Type 0
WaitsForItself w = AllByRecursion (λ c. c.party ≡ w.party) w.asked

-- The core's state is good: any two claims may be held together by the matrix, an owner has one share and a party one
-- cache on a file, each POSIX owner's ranges are sorted maximal runs. Nobody is forgotten: each waiter is held up, by
-- something that blocks what it asks for first, for good if it waits for that, be it held or a range that one in front of it waits
-- for, and else by caches whose breaks all run; or by the grace that runs. Who may reclaim then is whom the record has. No store of
-- a step is left to tell of.
pub record IsFree (s : Whole) : Type 0 where
  pub good : IsGood s.core
  pub settled : IsSettled s.core
  pub waiters : AllByRecursion WaitsForItself s.core.waiters
  pub knows : KnowsRecord s.core
  pub made : s.core.made ≡ 0
  pub failed : s.core.failed ≡ false
  pub given : s.core.given ≡ []

-- the state is free before the first entry and after each
abbrev pub AlwaysFree : Whole → List Entry → Type 0
AlwaysFree s [] = IsFree s × Unit {0}
AlwaysFree s (e ∷ es) = IsFree s × AlwaysFree (step e.stores s e.event).next es
