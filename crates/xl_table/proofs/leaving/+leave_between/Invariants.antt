use Rattle.std.proofs.Common.{length}
use Rattle.xl_table.proofs.leaving.+leave_between.Given as goal

abbrev pub decreases-leave_between : goal.decreases-leave_between
decreases-leave_between l = length l.pages.now
