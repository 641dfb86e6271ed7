use Rattle.xl_smb_laws.proofs.BeginningLaws.{negotiates, negotiates_again, negotiates_bare, negotiates_first, negotiates_others}
use Rattle.xl_smb_laws.proofs.beginnings.a_connection_negotiates_once.Goals as goal

pub returns-clause-done : goal.returns-clause-done
returns-clause-done c = negotiates

pub returns-clause-again : goal.returns-clause-again
returns-clause-again c = negotiates_again

pub returns-clause-bare : goal.returns-clause-bare
returns-clause-bare c = negotiates_bare

pub returns-clause-others : goal.returns-clause-others
returns-clause-others c = negotiates_others

pub returns-clause-first : goal.returns-clause-first
returns-clause-first c = negotiates_first
