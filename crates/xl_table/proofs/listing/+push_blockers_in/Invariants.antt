use Rattle.std.proofs.Common.{length}
use Rattle.xl_table.proofs.listing.+push_blockers_in.Given as goal

abbrev pub decreases-push_blockers_in : goal.decreases-push_blockers_in
decreases-push_blockers_in g l = length l.pages.now
