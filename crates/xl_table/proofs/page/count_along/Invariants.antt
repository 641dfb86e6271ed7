use Rattle.std.proofs.Common.{◌≡◌, ◌+◌, drop}
use Rattle.std.specs.List.{prefix_len}
use Rattle.xl_table.specs.Pages.{passes}
use Rattle.xl_table.proofs.page.count_along.Given as goal

abbrev pub invariant-loop-claim : goal.invariant-loop-claim
invariant-loop-claim l =
    (l.count + prefix_len (passes l.mark l.front) (drop l.claim-index l.claims) ≡ prefix_len (passes l.mark l.front) l.claims)
    × (l.count ≡ l.claim-index)
