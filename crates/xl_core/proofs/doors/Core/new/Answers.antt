use Rattle.std.proofs.Common.{refl}
use Rattle.xl_core.proofs.HeldUpLaws.{none_up}
use Rattle.xl_core.proofs.PassedLaws.{nobody_passed}
use Rattle.xl_core.proofs.doors.Core.new.Goals as goal

pub invariant_of-result : goal.invariant_of-result
invariant_of-result c = (none_up _ _ c.new-2.ensures, nobody_passed _ _ refl)
