use Rattle.std.proofs.Common.{ap, arith, refl}
use Rattle.xl_base.specs.Memory.{BudgetStorage}
use Rattle.xl_jobs.proofs.starts.start.Goals as goal

pub unreachable-requires-in-StartStore : goal.unreachable-requires-in-StartStore
unreachable-requires-in-StartStore c =
    omega (arith, ap (λ (k : BudgetStorage). k.left) c.new-keeper.ensures, c.in-Err.ensures.spent c.new-keeper.result.left c.in-StartStore.field-0 refl c.in-StartStore.is)
