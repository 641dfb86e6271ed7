use Rattle.xl_frame.specs.Progress.{Resumes}
use Rattle.xl_frame.proofs.message.look.Given as goal

abbrev pub invariant-fragments : goal.invariant-fragments
invariant-fragments l = Resumes l.kind (record { at = l.at; left = l.left; sum = l.sum }) l.bytes

abbrev pub decreases-fragments : goal.decreases-fragments
decreases-fragments l = l.left
