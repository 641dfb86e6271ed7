use Rattle.std.proofs.Common.{◌∙◌}
use Rattle.xl_matrix.proofs.SideLaws.{compat-sym}
use Rattle.xl_matrix.proofs.WeakerLaws.{compat_later}
use Rattle.xl_matrix.proofs.law.compatible_when_weaker.Goals as goal

pub returns-clause-left : goal.returns-clause-left
returns-clause-left c = λ a b d w h. compat_later a d b w h

pub returns-clause-right : goal.returns-clause-right
returns-clause-right c = λ a b d w h. compat-sym a b ∙ compat_later b d a w (compat-sym d a ∙ h)
