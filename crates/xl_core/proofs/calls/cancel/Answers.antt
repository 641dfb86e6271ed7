use Rattle.std.proofs.Common.{List, subst}
use Rattle.xl_core.specs.State.{CoreState}
use Rattle.xl_core.specs.Unsettled.{NotesOne, AreHeldUp}
use Rattle.xl_wait.specs.declared.waiter.Waiter.{Waiter}
use Rattle.xl_core.specs.Whole.{state_of}
use Rattle.xl_core.specs.declared.ask.Effect.{Effect}
use Rattle.xl_core.specs.declared.unsettled.Unsettled.{Unsettled}
use Rattle.xl_core.proofs.HeldUpLaws.{cancel_up}
use Rattle.xl_core.proofs.calls.cancel.Goals as goal

pub returns-clause-held_up : goal.returns-clause-held_up
returns-clause-held_up c =
    subst (λ (x : List Effect × CoreState). AreHeldUp c.note_one.new.unsettled x.1) c.in_ok-effects.ensures
    (cancel_up c.args.unsettled.now c.note_one.new.unsettled (state_of c.args.parts.now) c.args.id c.requires.good
    (subst (λ (u : Unsettled). NotesOne u c.note_one.new.unsettled c.args.id c.args.parts.now.queue) c.replace-before.ensures.value (subst (λ (ws : List Waiter). NotesOne c.replace-before.result c.note_one.new.unsettled c.args.id ws) c.waiters.ensures.waiters c.note_one.ensures)) c.requires.held_up)
