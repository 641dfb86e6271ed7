-- What the front leaves of the core.
use Rattle.std.proofs.Common.{ℕ}
use Rattle.xl_core.specs.State.{CoreState}
use Rattle.xl_plan.proofs.BudgetLaws as budget
use Rattle.xl_front_nlm.specs.Short.{IsShort, AreShort, IsReady, Leaves}

pub leaves_self : (s : CoreState) (least most : ℕ) → IsReady least s → Leaves most s s
leaves_self s least most ready = budget.leaves_self s least most ready.core

pub leaves_short : (s t : CoreState) (most : ℕ) → Leaves most s t → AreShort s.names → AreShort t.names
leaves_short s t most leaves short = budget.all_come IsShort s.names t.names (λ name is. is) leaves.names short
