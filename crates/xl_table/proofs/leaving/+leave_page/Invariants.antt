use Rattle.std.proofs.Common.{length}
use Rattle.xl_table.proofs.leaving.+leave_page.Given as goal

abbrev pub decreases-leave_page : goal.decreases-leave_page
decreases-leave_page l = length l.claims.now
