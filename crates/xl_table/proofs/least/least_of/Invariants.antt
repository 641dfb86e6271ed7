use Rattle.std.proofs.Common.{◌≡◌, None, drop}
use Rattle.xl_base.specs.Leasts.{least_from}
use Rattle.xl_table.specs.Least.{range_before}
use Rattle.xl_table.proofs.least.least_of.Given as goal

abbrev pub invariant-loop-claim : goal.invariant-loop-claim
invariant-loop-claim l = least_from (range_before l.names) l.least (drop l.claim-index l.claims) ≡ least_from (range_before l.names) None l.claims
