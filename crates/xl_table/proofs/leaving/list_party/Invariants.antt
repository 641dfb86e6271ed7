use Rattle.std.proofs.Common.{◌≡◌}
use Rattle.xl_table.specs.Files.{joined}
use Rattle.xl_table.proofs.LeavingLaws.{files_left, listed}
use Rattle.xl_table.proofs.leaving.list_party.Given as goal

abbrev pub decreases-files : goal.decreases-files
decreases-files l = files_left l.past

abbrev pub invariant-files : goal.invariant-files
invariant-files l = l.found.items ≡ listed l.fn.party l.past (joined l.lists)
