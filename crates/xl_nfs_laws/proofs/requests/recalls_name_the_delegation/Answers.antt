use Rattle.xl_nfs_laws.proofs.RecallLaws.{recall_alone, recall_exactly, uncalled_silent}
use Rattle.xl_nfs_laws.proofs.requests.recalls_name_the_delegation.Goals as goal

pub returns-clause-exactly : goal.returns-clause-exactly
returns-clause-exactly c = recall_exactly

pub returns-clause-alone : goal.returns-clause-alone
returns-clause-alone c = recall_alone

pub returns-clause-silent : goal.returns-clause-silent
returns-clause-silent c = uncalled_silent
