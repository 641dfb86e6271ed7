use Rattle.xl_smb_laws.proofs.AsToldLaws.{kept_by_logoff_is, level_untrue_is, open_dropped_is, waits_on_is}
use Rattle.xl_smb_laws.proofs.telling.replies_are_as_told.Goals as goal

pub returns-clause-dropped : goal.returns-clause-dropped
returns-clause-dropped c = open_dropped_is

pub returns-clause-left_behind : goal.returns-clause-left_behind
returns-clause-left_behind c = kept_by_logoff_is

pub returns-clause-untrue : goal.returns-clause-untrue
returns-clause-untrue c = level_untrue_is

pub returns-clause-waits_on : goal.returns-clause-waits_on
returns-clause-waits_on c = waits_on_is
