use Rattle.std.proofs.Common.{◌≡◌, drop}
use Rattle.xl_table.specs.Bounds.{bounds_from}
use Rattle.xl_table.proofs.bounds.widened_by.Given as goal

abbrev pub invariant-loop-claim : goal.invariant-loop-claim
invariant-loop-claim l = bounds_from l.bounds (drop l.claim-index l.claims) ≡ bounds_from l.fn.bounds l.claims
