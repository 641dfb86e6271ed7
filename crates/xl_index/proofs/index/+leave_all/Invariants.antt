use Rattle.std.proofs.Common.{length}
use Rattle.xl_index.proofs.index.+leave_all.Given as goal

abbrev pub decreases-leave_all : goal.decreases-leave_all
decreases-leave_all l = length l.claims.now
