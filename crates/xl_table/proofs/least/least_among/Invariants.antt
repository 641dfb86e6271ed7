use Rattle.std.proofs.Common.{◌≡◌, drop}
use Rattle.std.specs.List.{filter}
use Rattle.xl_base.specs.Leasts.{least_from}
use Rattle.xl_table.specs.Least.{range_before, counts}
use Rattle.xl_table.proofs.least.least_among.Given as goal

abbrev pub invariant-loop-claim : goal.invariant-loop-claim
invariant-loop-claim l = least_from (range_before l.names) l.least (filter (counts l.ask l.ranges) (drop l.claim-index l.claims)) ≡ least_from (range_before l.names) l.fn.least (filter (counts l.ask l.ranges) l.claims)
