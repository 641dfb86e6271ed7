use Rattle.xl_cache.proofs.TargetLaws.{target_of-together}
use Rattle.xl_cache.proofs.law.leaves_what_all_leave.Goals as goal

pub returns : goal.returns
returns c = λ kind p q left. target_of-together kind p q left
