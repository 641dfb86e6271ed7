use Rattle.std.proofs.Common.{◌+◌, ◌*◌, vec_len}
use Rattle.xl_work.proofs.crew.+lanes.Given as goal

abbrev pub decreases-serve_lanes : goal.decreases-serve_lanes
decreases-serve_lanes g l = 2 * vec_len l.lanes

abbrev pub decreases-front : goal.decreases-front
decreases-front g l = 2 * vec_len l.lanes + 1

abbrev pub decreases-back : goal.decreases-back
decreases-back g l = 2 * vec_len l.others + 1
