use Rattle.std.proofs.Common.{length}
use Rattle.xl_table.proofs.pages.+push_between.Given as goal

abbrev pub decreases-push_between : goal.decreases-push_between
decreases-push_between l = length l.pages.now
