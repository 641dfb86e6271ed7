use Rattle.std.proofs.Common.{take}
use Rattle.xl_core.specs.Unsettled.{NotesGone}
use Rattle.xl_core.proofs.unsettled.note_each.Given as goal

abbrev pub invariant-waiters : goal.invariant-waiters
invariant-waiters l = NotesGone l.fn.unsettled l.unsettled l.leaver (take l.waiter-index l.waiters)
