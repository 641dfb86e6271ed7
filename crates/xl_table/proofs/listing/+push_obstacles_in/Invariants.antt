use Rattle.std.proofs.Common.{length}
use Rattle.xl_table.proofs.listing.+push_obstacles_in.Given as goal

abbrev pub decreases-push_obstacles_in : goal.decreases-push_obstacles_in
decreases-push_obstacles_in l = length l.pages.now
