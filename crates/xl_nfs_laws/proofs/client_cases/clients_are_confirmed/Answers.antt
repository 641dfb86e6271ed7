use Rattle.xl_nfs_laws.proofs.ClientCaseLaws.{confirm_again, confirm_comes, confirm_other, confirm_same, confirm_stale}
use Rattle.xl_nfs_laws.proofs.client_cases.clients_are_confirmed.Goals as goal

pub returns-clause-stale : goal.returns-clause-stale
returns-clause-stale c = confirm_stale

pub returns-clause-again : goal.returns-clause-again
returns-clause-again c = confirm_again

pub returns-clause-comes : goal.returns-clause-comes
returns-clause-comes c = confirm_comes

pub returns-clause-same : goal.returns-clause-same
returns-clause-same c = confirm_same

pub returns-clause-other : goal.returns-clause-other
returns-clause-other c = confirm_other
