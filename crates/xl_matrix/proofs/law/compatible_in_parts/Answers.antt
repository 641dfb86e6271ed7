use Rattle.xl_matrix.proofs.PartLaws.{compat_parts}
use Rattle.xl_matrix.proofs.law.compatible_in_parts.Goals as goal

pub returns : goal.returns
returns c = compat_parts
