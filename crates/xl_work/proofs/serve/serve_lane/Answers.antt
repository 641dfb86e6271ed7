use Rattle.xl_work.proofs.RestLaws.{left_served}
use Rattle.xl_work.proofs.serve.serve_lane.Goals as goal

pub returns-clause-served : goal.returns-clause-served
returns-clause-served g c = left_served _ _ _ _ _ _ _ _ c.leave_lane.ensures.left
