use Rattle.std.proofs.Common.{take}
use Rattle.xl_core.specs.Unsettled.{NotesOne}
use Rattle.xl_core.proofs.unsettled.note_one.Given as goal

abbrev pub invariant-waiters : goal.invariant-waiters
invariant-waiters l = NotesOne l.fn.unsettled l.unsettled l.id (take l.waiter-index l.waiters)
