use Rattle.std.proofs.Common.{refl, subst, sym}
use Rattle.xl_core.specs.State.{CoreState}
use Rattle.xl_core.specs.Unsettled.{AreHeldUp}
use Rattle.xl_core.specs.Whole.{state_of}
use Rattle.xl_core.proofs.HeldUpLaws.{begun_up}
use Rattle.xl_core.proofs.PassedLaws.{nobody_passed}
use Rattle.xl_core.proofs.doors.Core.begin_step.Goals as goal

pub invariant_of-self : goal.invariant_of-self
invariant_of-self c = (
  subst (λ (s : CoreState). AreHeldUp c.self.inside.unsettled s) (sym c.begin_step.ensures) (begun_up c.self.inside.unsettled (state_of c.self.inside.parts) c.self.invariant.0),
  nobody_passed _ _ refl,
)
