use Rattle.xl_core.proofs.WayAsks.{ask_own, test_stands}
use Rattle.xl_core.proofs.law.nothing_else_changes.Goals as goal

pub returns-clause-asks : goal.returns-clause-asks
returns-clause-asks c = λ n left s a good fit. ask_own n left s a good fit.party

pub returns-clause-tests : goal.returns-clause-tests
returns-clause-tests c = test_stands
