use Rattle.std.proofs.Common.{length}
use Rattle.xl_core.proofs.judge.+judge_row.Given as goal

abbrev pub decreases-judge_row : goal.decreases-judge_row
decreases-judge_row l = length l.claims.now
