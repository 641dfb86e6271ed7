use Rattle.xl_nfs_laws.proofs.OpenNumberLaws.{start_given, open_given, confirm_given, downgrade_given, close_given, return_given}
use Rattle.xl_nfs_laws.proofs.open_numbers.stateids_have_given_numbers.Goals as goal

pub returns-clause-start : goal.returns-clause-start
returns-clause-start c = start_given

pub returns-clause-opens : goal.returns-clause-opens
returns-clause-opens c = open_given

pub returns-clause-confirms : goal.returns-clause-confirms
returns-clause-confirms c = confirm_given

pub returns-clause-downgrades : goal.returns-clause-downgrades
returns-clause-downgrades c = downgrade_given

pub returns-clause-closes : goal.returns-clause-closes
returns-clause-closes c = close_given

pub returns-clause-returns : goal.returns-clause-returns
returns-clause-returns c = return_given
