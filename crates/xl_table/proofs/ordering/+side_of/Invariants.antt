use Rattle.std.proofs.Common.{length}
use Rattle.xl_table.proofs.ordering.+side_of.Given as goal

abbrev pub decreases-side_of : goal.decreases-side_of
decreases-side_of l = length l.front.now
