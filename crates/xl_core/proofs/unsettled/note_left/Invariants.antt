use Rattle.xl_table.proofs.LeavingLaws.{files_left}
use Rattle.xl_core.proofs.UnsettledLaws.{IsNoting}
use Rattle.xl_core.proofs.unsettled.note_left.Given as goal

abbrev pub decreases-files : goal.decreases-files
decreases-files l = files_left l.past

abbrev pub invariant-files : goal.invariant-files
invariant-files l = IsNoting l.fn.unsettled l.unsettled l.leaver l.past l.table l.queue
