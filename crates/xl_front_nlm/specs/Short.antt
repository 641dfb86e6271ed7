-- Names whose parts fit the messages that carry them, and what a step adds to the core at most.
use Rattle.std.specs.Prelude.{ℕ, List}
use Rattle.std.specs.List.{AllByRecursion}
use Rattle.xl_names.specs.declared.name.Name.{Name}
use Rattle.xl_names.specs.declared.name.Name.TheVariants.{NlmRange}
use Rattle.xl_nlm.specs.Arguments.{TextFits}
use Rattle.xl_core.specs.State.{CoreState}
use Rattle.xl_plan.specs.Budgets as budgets
use Rattle.xl_front_nlm.specs.declared.grant.Grant.{Grant}

-- TEST gives the oh of an owner of NLM ranges, and GRANTED its caller too
abbrev pub IsShort : Name → Type 0
IsShort (NlmRange caller svid oh) = TextFits caller × TextFits oh
IsShort _ = Unit {0}

abbrev pub AreShort : List Name → Type 0
AreShort names = AllByRecursion IsShort names

abbrev pub IsShortGrant : Grant → Type 0
IsShortGrant g = TextFits g.caller × TextFits g.oh

-- ---- what each function of the front needs of the core, and what it leaves

-- the state is good, so many numbers are left to give out, and the names fit the messages that carry them
pub record IsReady (most : ℕ) (s : CoreState) : Type 0 where
  pub core : budgets.IsReady most s
  pub short : AreShort s.names

-- the state is good, the stores of the step go on, so many numbers at most were given out or may be still, as that of
-- one who comes to wait, and that of the call which sends its grant; and the names that came fit too
abbrev pub Leaves : ℕ → CoreState → CoreState → Type 0
Leaves most old new = budgets.Leaves IsShort most old new
