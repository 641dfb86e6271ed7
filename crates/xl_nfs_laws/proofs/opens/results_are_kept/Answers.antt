use Rattle.xl_nfs_laws.proofs.KeptResultLaws.{new_kept, more_kept, refusal_kept, confirm_kept, downgrade_kept, close_kept, failure_kept}
use Rattle.xl_nfs_laws.proofs.opens.results_are_kept.Goals as goal

pub returns-clause-first : goal.returns-clause-first
returns-clause-first c = new_kept

pub returns-clause-more : goal.returns-clause-more
returns-clause-more c = more_kept

pub returns-clause-refused : goal.returns-clause-refused
returns-clause-refused c = refusal_kept

pub returns-clause-confirms : goal.returns-clause-confirms
returns-clause-confirms c = confirm_kept

pub returns-clause-downgrades : goal.returns-clause-downgrades
returns-clause-downgrades c = downgrade_kept

pub returns-clause-closes : goal.returns-clause-closes
returns-clause-closes c = close_kept

pub returns-clause-fails : goal.returns-clause-fails
returns-clause-fails c = failure_kept
