use Rattle.std.proofs.Common.{rules}
use Rattle.xl_base.proofs.SortLaws.{sorted_from_sort_by}
use Rattle.xl_core.proofs.LeaseLaws.{ids_ranked}
use Rattle.xl_core.proofs.lease.in_order.Goals as goal

pub returns : goal.returns
returns c = sorted_from_sort_by ids_ranked _ _ c.in_ok-sort_by.ensures.sorted c.sort_by.ensures.stable (λ a r q k. search rules)
