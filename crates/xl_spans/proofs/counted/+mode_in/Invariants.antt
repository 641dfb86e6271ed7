use Rattle.std.proofs.Common.{length}
use Rattle.xl_spans.proofs.counted.+mode_in.Given as goal

abbrev pub decreases-mode_in : goal.decreases-mode_in
decreases-mode_in g l = length l.spans.now
