use Rattle.std.proofs.Common.{◌+◌, ◌*◌, vec_len}
use Rattle.xl_work.proofs.crew.+callers.Given as goal

abbrev pub decreases-serve_callers : goal.decreases-serve_callers
decreases-serve_callers g l = 2 * vec_len l.callers

abbrev pub decreases-front : goal.decreases-front
decreases-front g l = 2 * vec_len l.callers + 1

abbrev pub decreases-back : goal.decreases-back
decreases-back g l = 2 * vec_len l.others + 1
