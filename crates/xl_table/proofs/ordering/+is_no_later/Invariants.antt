use Rattle.std.proofs.Common.{length}
use Rattle.xl_table.proofs.ordering.+is_no_later.Given as goal

abbrev pub decreases-is_no_later : goal.decreases-is_no_later
decreases-is_no_later l = length l.a.now
