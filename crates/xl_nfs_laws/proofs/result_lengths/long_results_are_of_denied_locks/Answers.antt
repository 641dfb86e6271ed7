use Rattle.xl_nfs_laws.proofs.LengthLaws.{told_short, told_again}
use Rattle.xl_nfs_laws.proofs.result_lengths.long_results_are_of_denied_locks.Goals as goal

pub returns-clause-short : goal.returns-clause-short
returns-clause-short c = told_short

pub returns-clause-repeats : goal.returns-clause-repeats
returns-clause-repeats c = told_again
