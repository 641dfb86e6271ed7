-- An open's ranges on a file as one list of elements, in the order of locking (MS-FSA 2.1.5.8, 2.1.5.9).
use Rattle.std.specs.Prelude.{ℕ, ◌+◌, ◌-◌, ◌==◌, if◌then◌else◌}
use Rattle.xl_exact.specs.declared.element.Element.{Element}
use Rattle.xl_matrix.specs.declared.claim.Extent.{Extent}
use Rattle.xl_matrix.specs.declared.claim.Extent.TheVariants.{Bytes, Empty}
use Rattle.xl_matrix.specs.declared.claim.What.{What}
use Rattle.xl_matrix.specs.declared.claim.What.TheVariants.{Range}
use Rattle.xl_smb.specs.declared.lock.LockElement.{LockElement}
use Rattle.xl_smb_locks.specs.Elements.{is_exclusive}

-- so many bytes from this one on
abbrev pub extent_at : ℕ → ℕ → Extent
extent_at first len = if len == 0 then Empty first else Bytes first (first + (len - 1))

-- an element as the core holds it
abbrev pub what_of : Element → What
what_of e = Range (extent_at e.first e.len) e.exclusive

-- the element that a range of LOCK is, once it is locked
abbrev pub element_of : LockElement → Element
element_of e = record { first = e.offset; len = e.length; exclusive = is_exclusive e }
