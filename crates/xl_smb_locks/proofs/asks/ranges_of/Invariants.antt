use Rattle.std.proofs.Common.{◌≡◌, ◌++◌, false, map, drop}
use Rattle.std.specs.List.{list_any}
use Rattle.xl_smb_locks.specs.Elements.{wraps}
use Rattle.xl_smb_locks.specs.Locks.{range_of}
use Rattle.xl_smb_locks.proofs.asks.ranges_of.Given as goal

abbrev pub invariant-elements : goal.invariant-elements
invariant-elements l = (l.ranges ++ map range_of (drop l.element-index l.elements) ≡ map range_of l.elements) × (list_any wraps (drop l.element-index l.elements) ≡ false)
