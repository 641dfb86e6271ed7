-- Numbers that the parts of frames may take yet.
use Rattle.std.specs.Prelude.{ℕ, ◌+◌, ◌*◌, ◌≤◌}
use Rattle.xl_base.specs.Limits.{most_numbers}
use Rattle.xl_core.specs.Good.{IsGood}
use Rattle.xl_core.specs.Numbers.{numbers_of}
use Rattle.xl_core.specs.State.{CoreState, GoesOn}
use Rattle.xl_plan.specs.Budgets.{Come}
use Rattle.xl_front_nlm.specs.Short.{IsShort}

-- An entry gives out most_numbers at most, among them three for each step that a frame which waits may take: so many steps were owed
-- before, and so many are.
pub record LeavesOwed (before after : ℕ) (old new : CoreState) : Type 0 where
  pub on : GoesOn old new
  pub good : IsGood new
  pub numbers : numbers_of new + 3 * after ≤ numbers_of old + 3 * before + most_numbers
  pub names : Come IsShort old.names new.names
