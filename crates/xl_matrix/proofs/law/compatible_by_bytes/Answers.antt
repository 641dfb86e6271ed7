use Rattle.xl_matrix.proofs.PartLaws.{compat_bytes}
use Rattle.xl_matrix.proofs.law.compatible_by_bytes.Goals as goal

pub returns : goal.returns
returns c = compat_bytes
