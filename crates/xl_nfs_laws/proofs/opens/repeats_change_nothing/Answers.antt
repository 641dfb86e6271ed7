use Rattle.xl_nfs_laws.proofs.OpenLaws.{open_repeated, confirm_repeated, downgrade_repeated, close_repeated, last_repeats}
use Rattle.xl_nfs_laws.proofs.opens.repeats_change_nothing.Goals as goal

pub returns-clause-opens : goal.returns-clause-opens
returns-clause-opens c = open_repeated

pub returns-clause-confirms : goal.returns-clause-confirms
returns-clause-confirms c = confirm_repeated

pub returns-clause-downgrades : goal.returns-clause-downgrades
returns-clause-downgrades c = downgrade_repeated

pub returns-clause-closes : goal.returns-clause-closes
returns-clause-closes c = close_repeated

pub returns-clause-last : goal.returns-clause-last
returns-clause-last c = last_repeats
