use Rattle.xl_matrix.proofs.SideLaws.{compat-sym}
use Rattle.xl_matrix.proofs.law.has_no_sides.Goals as goal

pub returns : goal.returns
returns c = compat-sym
