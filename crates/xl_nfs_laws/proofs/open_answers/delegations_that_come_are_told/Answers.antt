use Rattle.xl_nfs_laws.proofs.OpenFlagLaws.{open_fresh, open_silent}
use Rattle.xl_nfs_laws.proofs.open_answers.delegations_that_come_are_told.Goals as goal

pub returns-clause-silent : goal.returns-clause-silent
returns-clause-silent c = open_silent

pub returns-clause-fresh : goal.returns-clause-fresh
returns-clause-fresh c = open_fresh
