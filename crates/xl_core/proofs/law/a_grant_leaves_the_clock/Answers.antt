use Rattle.xl_core.proofs.WayAsks.{grant_frame}
use Rattle.xl_core.proofs.law.a_grant_leaves_the_clock.Goals as goal

pub returns : goal.returns
returns c = λ n left s a claim good fit at. grant_frame n left s a claim good fit.party at
