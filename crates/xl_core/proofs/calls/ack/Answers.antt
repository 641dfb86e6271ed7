use Rattle.std.proofs.Common.{List, subst}
use Rattle.xl_core.specs.State.{CoreState}
use Rattle.xl_core.specs.Unsettled.{AreHeldUp}
use Rattle.xl_core.specs.Whole.{state_of}
use Rattle.xl_core.specs.declared.ask.Effect.{Effect}
use Rattle.xl_core.proofs.UnsettledLaws.{ack_noted}
use Rattle.xl_core.proofs.calls.ack.Goals as goal

pub returns-clause-held_up : goal.returns-clause-held_up
returns-clause-held_up c =
    subst (λ (x : List Effect × CoreState). AreHeldUp c.note.new.unsettled x.1) c.ack.ensures
    (ack_noted c.args.unsettled.now c.note.new.unsettled (state_of c.args.parts.now) c.args.cache.now c.args.to c.note.ensures c.requires.held_up)
