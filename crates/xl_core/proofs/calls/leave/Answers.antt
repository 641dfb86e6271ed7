use Rattle.std.proofs.Common.{List, subst}
use Rattle.xl_core.specs.State.{CoreState}
use Rattle.xl_core.specs.Unsettled.{NotesLeft, NotesGone, AreHeldUp}
use Rattle.xl_wait.specs.declared.waiter.Waiter.{Waiter}
use Rattle.xl_core.specs.Whole.{state_of}
use Rattle.xl_core.specs.declared.ask.Effect.{Effect}
use Rattle.xl_core.specs.declared.unsettled.Unsettled.{Unsettled}
use Rattle.xl_core.proofs.UnsettledLaws.{left_up}
use Rattle.xl_core.proofs.calls.leave.Goals as goal

pub returns-clause-held_up : goal.returns-clause-held_up
returns-clause-held_up c =
    subst (λ (x : List Effect × CoreState). AreHeldUp c.note_gone.new.unsettled x.1) c.in_ok-effects.ensures
    (left_up c.args.unsettled.now c.note_left.new.unsettled c.note_gone.new.unsettled (state_of c.args.parts.now) c.args.leaver c.requires.good
    (subst (λ (u : Unsettled). NotesLeft u c.note_left.new.unsettled c.args.leaver c.args.parts.now.table c.args.parts.now.queue) c.replace-before.ensures.value c.note_left.ensures)
    (subst (λ (ws : List Waiter). NotesGone c.note_left.new.unsettled c.note_gone.new.unsettled c.args.leaver ws) c.waiters-2.ensures.waiters c.note_gone.ensures) c.requires.held_up)
