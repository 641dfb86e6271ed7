use Rattle.std.proofs.Common.{◌≤◌, length}
use Rattle.xl_index.specs.Index.{IsIndexOf}
use Rattle.xl_table.specs.Files.{joined, IsFiled}
use Rattle.xl_table.specs.Held.{most_claims}
use Rattle.xl_table.proofs.LeavingLaws.{IsDropping, files_left}
use Rattle.xl_table.proofs.leaving.drop_by.Given as goal

abbrev pub decreases-files : goal.decreases-files
decreases-files l = files_left l.past

abbrev pub invariant-files : goal.invariant-files
invariant-files l =
    IsDropping l.leaver l.who l.past (joined l.fn.lists.items) (joined l.lists.items)
    × IsFiled l.lists.items
    × IsIndexOf l.index (joined l.lists.items)
    × (length (joined l.lists.items) ≤ most_claims)
