use Rattle.std.proofs.Common.{vec_len}
use Rattle.xl_work.proofs.rest.+send_rests.Given as goal

abbrev pub decreases-send_rests : goal.decreases-send_rests
decreases-send_rests g l = vec_len l.lanes
