use Rattle.xl_matrix.specs.Matrix.{compat}
use Rattle.xl_table.proofs.FlatLaws.{pairwise_removed}
use Rattle.xl_table.proofs.FitLaws.{fits_inserted, unblocked_fits, weakened_fits, raised_fits}
use Rattle.xl_table.proofs.law.stays_compatible.Goals as goal

pub returns-clause-fitting : goal.returns-clause-fitting
returns-clause-fitting c = λ claim held all fits. fits_inserted claim held fits all

pub returns-clause-entered : goal.returns-clause-entered
returns-clause-entered c = unblocked_fits

pub returns-clause-taken : goal.returns-clause-taken
returns-clause-taken c = pairwise_removed compat

pub returns-clause-weakened : goal.returns-clause-weakened
returns-clause-weakened c = weakened_fits

pub returns-clause-raised : goal.returns-clause-raised
returns-clause-raised c = raised_fits
