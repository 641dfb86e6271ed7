use Rattle.std.proofs.Common.{length}
use Rattle.xl_table.proofs.pages.+claim_at.Given as goal

abbrev pub decreases-claim_at : goal.decreases-claim_at
decreases-claim_at l = length l.pages.now
