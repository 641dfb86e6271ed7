use Rattle.std.proofs.Common.{length}
use Rattle.xl_nfs_opens.proofs.shares.+give_all.Given as goal

abbrev pub decreases-give_all : goal.decreases-give_all
decreases-give_all l = length l.rows.now
