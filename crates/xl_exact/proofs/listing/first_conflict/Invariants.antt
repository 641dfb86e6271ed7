use Rattle.std.proofs.Common.{◌≡◌, drop}
use Rattle.xl_exact.specs.Elements.{first_conflict}
use Rattle.xl_exact.proofs.listing.first_conflict.Given as goal

abbrev pub invariant-elements : goal.invariant-elements
invariant-elements l = first_conflict l.first l.len l.exclusive (drop l.element-index l.elements) ≡ first_conflict l.first l.len l.exclusive l.elements
