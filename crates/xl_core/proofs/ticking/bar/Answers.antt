use Rattle.std.proofs.Common.{refl}
use Rattle.xl_core.specs.Whole.{state_of}
use Rattle.xl_core.proofs.TickCode.{barred_up}
use Rattle.xl_core.proofs.ticking.bar.Goals as goal

pub returns-clause-held_up : goal.returns-clause-held_up
returns-clause-held_up c = λ u all. barred_up u (state_of c.args.parts.now) _ c.in_ok-client_name.field-0 refl refl c.expired.ensures all
