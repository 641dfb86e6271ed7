use Rattle.xl_spans.proofs.InPlace.{listed_runs}
use Rattle.xl_spans.proofs.relock.pieces.Goals as goal

pub returns-clause-value : goal.returns-clause-value
returns-clause-value c = rw c.in-Some.is (listed_runs _ _ _ _ _ _ _ c.join_right-right.ensures c.join_left-left.ensures)
