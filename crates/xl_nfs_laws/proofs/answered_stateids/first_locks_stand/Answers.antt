use Rattle.xl_nfs_laws.proofs.FirstLockLaws.{first_again, first_comes, stood_joins}
use Rattle.xl_nfs_laws.proofs.answered_stateids.first_locks_stand.Goals as goal

pub returns-clause-comes : goal.returns-clause-comes
returns-clause-comes c = first_comes

pub returns-clause-again : goal.returns-clause-again
returns-clause-again c = first_again

pub returns-clause-stood : goal.returns-clause-stood
returns-clause-stood c = stood_joins
