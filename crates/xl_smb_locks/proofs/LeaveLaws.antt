-- What the calls of the core leave, one behind the other.
use Rattle.std.proofs.Common.{◌≡◌, true, false}
use Rattle.std.proofs.lemmas.Bool.{true≢false}
use Rattle.xl_core.specs.Askers.{is_named, is_client}
use Rattle.xl_core.specs.State.{CoreState}
use Rattle.xl_core.specs.declared.ask.Ask.{Ask}
use Rattle.xl_core.specs.declared.ask.Who.{Who}
use Rattle.xl_core.specs.declared.ask.Who.TheVariants as who
use Rattle.xl_plan.proofs.BudgetLaws as budget
use Rattle.xl_plan.specs.Budgets.{IsWho, IsAskOf}
use Rattle.xl_smb_locks.specs.Short.{IsReady, IsLease, Leaves, IsOpenAsk}

-- a step that draws nothing, behind others
pub leaves_on : (s t u : CoreState) → Leaves 0 s t → Leaves 0 t u → Leaves 0 s u
leaves_on s t u first second = budget.leaves_then s t u 0 0 first second

pub ready_on : (s t : CoreState) → IsReady 0 s → Leaves 0 s t → IsReady 0 t
ready_on s t ready leaves = budget.ready_then s t 0 0 ready leaves

-- an ask behind a draw
pub ready_drawn : (s t : CoreState) → IsReady 3 s → Leaves 1 s t → IsReady 2 t
ready_drawn s t ready leaves = budget.ready_then s t 1 2 ready leaves

pub drawn_then : (s t u : CoreState) → Leaves 1 s t → Leaves 2 t u → Leaves 3 s u
drawn_then s t u first second = budget.leaves_then s t u 1 2 first second

-- an open's ask enters no name but a lease's
names_of : (owner party : Who) → is_named owner ≡ false → is_client owner party ≡ true → IsWho IsLease owner × IsWho IsLease party
names_of (who.Named name) party unnamed client = absurd (true≢false unnamed)
names_of (who.Open number) (who.Named name) unnamed client = (tt, client)
names_of (who.Open number) (who.Open other) unnamed client = (tt, tt)

pub open_names : (a : Ask) → IsOpenAsk a → IsAskOf IsLease a
open_names a is = names_of a.owner a.party is.unnamed is.fit.party
