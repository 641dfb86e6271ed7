use Rattle.std.proofs.Common.{◌≡◌, ◌++◌, drop}
use Rattle.xl_grace.specs.Grace.{newly}
use Rattle.xl_grace.proofs.reclaimant.newly.Given as goal

abbrev pub invariant-names : goal.invariant-names
invariant-names l = l.reclaimants.items ++ newly (drop l.name-index l.names) ≡ newly l.names
