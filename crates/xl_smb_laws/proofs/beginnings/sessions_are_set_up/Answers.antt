use Rattle.xl_smb_laws.proofs.BeginningLaws.{setup_again, setup_full, setup_lost, sets_up}
use Rattle.xl_smb_laws.proofs.beginnings.sessions_are_set_up.Goals as goal

pub returns-clause-begins : goal.returns-clause-begins
returns-clause-begins c = sets_up

pub returns-clause-full : goal.returns-clause-full
returns-clause-full c = setup_full

pub returns-clause-again : goal.returns-clause-again
returns-clause-again c = setup_again

pub returns-clause-lost : goal.returns-clause-lost
returns-clause-lost c = setup_lost
