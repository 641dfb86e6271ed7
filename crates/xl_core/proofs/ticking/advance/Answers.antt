use Rattle.std.proofs.Common.{refl}
use Rattle.xl_core.specs.Whole.{state_of}
use Rattle.xl_core.proofs.UnsettledLaws.{kept_up}
use Rattle.xl_core.proofs.ticking.advance.Goals as goal

pub returns-clause-held_up : goal.returns-clause-held_up
returns-clause-held_up c = λ u all. kept_up u (state_of c.args.parts.now) _ refl refl refl all
