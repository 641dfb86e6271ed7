use Rattle.std.proofs.Common.{List, sym, subst}
use Rattle.xl_core.specs.State.{CoreState}
use Rattle.xl_core.specs.Unsettled.{AreHeldUp}
use Rattle.xl_core.specs.Whole.{state_of}
use Rattle.xl_core.specs.declared.ask.Effect.{Effect}
use Rattle.xl_core.specs.declared.unsettled.Unsettled.{Unsettled}
use Rattle.xl_core.proofs.HeldUpLaws.{renew_up}
use Rattle.xl_core.proofs.calls.renew.Goals as goal

pub returns-clause-held_up : goal.returns-clause-held_up
returns-clause-held_up c =
    subst (λ (u : Unsettled). AreHeldUp u (state_of c.renew.new.parts)) (sym c.replace-before.ensures.value)
    (subst (λ (x : List Effect × CoreState). AreHeldUp c.args.unsettled.now x.1) c.in_ok-effects.ensures (renew_up c.args.unsettled.now (state_of c.args.parts.now) c.args.client.now c.requires.held_up))
