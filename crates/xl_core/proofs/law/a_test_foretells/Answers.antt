use Rattle.xl_core.proofs.WayAsks.{ask_foretells}
use Rattle.xl_core.proofs.law.a_test_foretells.Goals as goal

pub returns : goal.returns
returns c = λ n left s test lock first last exclusive good fit named same tests locks hurries fresh. ask_foretells n left s test lock first last exclusive good fit.party named same tests locks hurries fresh
