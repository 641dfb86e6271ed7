use Rattle.std.proofs.Common.{◌≡◌, ◌++◌, drop}
use Rattle.xl_exact.specs.Elements.{AreRanges}
use Rattle.xl_table.specs.Exact.{elements_in}
use Rattle.xl_table.proofs.exact.elements_in.Given as goal

abbrev pub invariant-loop-claim : goal.invariant-loop-claim
invariant-loop-claim l = (l.elements.items ++ elements_in (drop l.claim-index l.claims) ≡ elements_in l.claims) × AreRanges l.elements.items
