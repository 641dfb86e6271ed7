-- What SMB needs of the core, and what it leaves.
use Rattle.std.specs.Prelude.{◌≡◌, ℕ, true, false}
use Rattle.xl_names.specs.declared.name.Name.{Name}
use Rattle.xl_core.specs.Askers.{is_lease, is_named, IsFit}
use Rattle.xl_core.specs.State.{CoreState}
use Rattle.xl_core.specs.declared.ask.Ask.{Ask}
use Rattle.xl_plan.specs.Budgets as budgets
pub use Rattle.xl_plan.specs.Budgets.{IsReady}

abbrev pub IsLease : Name → Type 0
IsLease name = is_lease name ≡ true

-- the state is good, the stores of the step go on, numbers may go so many further at most, and no names come except
-- those of leases
abbrev pub Leaves : ℕ → CoreState → CoreState → Type 0
Leaves most old new = budgets.Leaves IsLease most old new

-- the ask is an open's, and the core takes it: it reclaims nothing, and no record names its client
pub record IsOpenAsk (a : Ask) : Type 0 where
  pub fit : IsFit a
  pub unnamed : is_named a.owner ≡ false
  pub reclaim : a.reclaim ≡ false
  pub monitored : a.monitored ≡ false
