use Rattle.xl_nfs_laws.proofs.CalmOpenLaws.{close_tied, confirm_tied, downgrade_tied}
use Rattle.xl_nfs_laws.proofs.OpenDelegationLaws.{open_tied, return_tied}
use Rattle.xl_nfs_laws.proofs.delegations.delegations_are_caches.Goals as goal

pub returns-clause-opens : goal.returns-clause-opens
returns-clause-opens c = open_tied

pub returns-clause-confirms : goal.returns-clause-confirms
returns-clause-confirms c = confirm_tied

pub returns-clause-downgrades : goal.returns-clause-downgrades
returns-clause-downgrades c = downgrade_tied

pub returns-clause-closes : goal.returns-clause-closes
returns-clause-closes c = close_tied

pub returns-clause-returns : goal.returns-clause-returns
returns-clause-returns c = return_tied
