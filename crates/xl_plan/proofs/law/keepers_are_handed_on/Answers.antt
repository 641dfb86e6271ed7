use Rattle.xl_plan.proofs.KeeperLaws.{told_begun, told_on}
use Rattle.xl_plan.proofs.law.keepers_are_handed_on.Goals as goal

pub returns-clause-begun : goal.returns-clause-begun
returns-clause-begun c = told_begun

pub returns-clause-on : goal.returns-clause-on
returns-clause-on c = told_on
