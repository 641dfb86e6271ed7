use Rattle.std.proofs.Common.{◌≡◌, ◌-◌, ◌≤◌, length}
use Rattle.xl_wait.specs.Waiting.{nearer}
use Rattle.xl_wait.proofs.FileLaws.{done_to}
use Rattle.xl_wait.proofs.files.bring_nearer.Given as goal

abbrev pub invariant-places : goal.invariant-places
invariant-places l = (l.i ≤ length l.initial.places.items) × (l.places.items ≡ done_to (nearer l.at) l.i l.initial.places.items)

abbrev pub decreases-places : goal.decreases-places
decreases-places l = length l.initial.places.items - l.i
