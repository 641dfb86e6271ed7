-- What a step of a front needs of the core, and what it leaves: how many numbers it may draw, and which names may come by it.
use Rattle.std.specs.Prelude.{◌≡◌, ℕ, ◌+◌, ◌<◌, ◌≤◌, ◌^◌, List, ◌++◌}
use Rattle.std.specs.List.{AllByRecursion}
use Rattle.xl_base.specs.Limits.{numbers_left}
use Rattle.xl_names.specs.declared.name.Name.{Name}
use Rattle.xl_core.specs.Good.{IsGood}
use Rattle.xl_core.specs.Numbers.{numbers_of}
use Rattle.xl_core.specs.State.{CoreState, GoesOn}
use Rattle.xl_core.specs.declared.ask.Ask.{Ask}
use Rattle.xl_core.specs.declared.ask.Who.{Who}
use Rattle.xl_core.specs.declared.ask.Who.TheVariants.{Named, Open}

-- the names that were kept, and behind them names of which P holds
pub record Come (P : Name → Type 0) (old new : List Name) : Type 0 where
  pub more : List Name
  pub is : new ≡ old ++ more
  pub all : AllByRecursion P more

-- the state is good, and beside these numbers, and those that who waits and the recalls of delegations may take, at least
-- 65,536 are left to give out
pub record IsReady (most : ℕ) (s : CoreState) : Type 0 where
  pub good : IsGood s
  pub numbers : numbers_of s + most + numbers_left < 2 ^ 32

-- the state is good, the stores of the step go on, these numbers more were given out at most, also with those that who
-- waits and the recalls of delegations may take, and no name came except one of which P holds
pub record Leaves (P : Name → Type 0) (most : ℕ) (old new : CoreState) : Type 0 where
  pub on : GoesOn old new
  pub good : IsGood new
  pub numbers : numbers_of new ≤ numbers_of old + most
  pub names : Come P old.names new.names

-- ---- an ask

-- P holds of the names that it may enter
abbrev pub IsWho : (Name → Type 0) → Who → Type 0
IsWho P (Named name) = P name
IsWho P (Open number) = Unit {0}

abbrev pub IsAskOf : (Name → Type 0) → Ask → Type 0
IsAskOf P a = IsWho P a.owner × IsWho P a.party
