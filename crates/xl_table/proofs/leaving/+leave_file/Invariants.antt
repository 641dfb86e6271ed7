use Rattle.std.proofs.Common.{length}
use Rattle.xl_table.proofs.leaving.+leave_file.Given as goal

abbrev pub decreases-leave_file : goal.decreases-leave_file
decreases-leave_file l = length l.pages.now
