-- What an operation leaves of the core: names of NFSv4 alone come by it.
use Rattle.std.specs.Prelude.{◌≡◌, ℕ}
use Rattle.xl_base.specs.declared.name.Protocol.TheVariants.{Nfs}
use Rattle.xl_names.specs.Names.{protocol_of}
use Rattle.xl_names.specs.declared.name.Name.{Name}
use Rattle.xl_core.specs.State.{CoreState}
use Rattle.xl_core.specs.declared.ask.Ask.{Ask}
use Rattle.xl_plan.specs.Budgets as budgets

abbrev pub IsNfs : Name → Type 0
IsNfs name = protocol_of name ≡ Nfs

abbrev pub Leaves : ℕ → CoreState → CoreState → Type 0
Leaves most old new = budgets.Leaves IsNfs most old new

-- the names that an ask may enter are of NFSv4
abbrev pub IsNfsAsk : Ask → Type 0
IsNfsAsk a = budgets.IsAskOf IsNfs a
