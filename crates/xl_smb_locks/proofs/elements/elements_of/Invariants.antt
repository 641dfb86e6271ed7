use Rattle.std.proofs.Common.{◌≡◌, ◌++◌, ◌-◌, ◌≤◌, length, drop}
use Rattle.xl_smb.specs.Locks.{elements_of}
use Rattle.xl_smb_locks.proofs.elements.elements_of.Given as goal

abbrev pub invariant-elements : goal.invariant-elements
invariant-elements l = (l.listed.items ++ drop l.index (elements_of l.elements.0.now) ≡ elements_of l.elements.0.now) × (l.index ≤ length (elements_of l.elements.0.now))

abbrev pub decreases-elements : goal.decreases-elements
decreases-elements l = length (elements_of l.elements.0.now) - l.index
