use Rattle.xl_smb_laws.proofs.BeginningLaws.{echoes, not_served}
use Rattle.xl_smb_laws.proofs.beginnings.an_echo_changes_nothing.Goals as goal

pub returns-clause-echoes : goal.returns-clause-echoes
returns-clause-echoes c = echoes

pub returns-clause-others : goal.returns-clause-others
returns-clause-others c = not_served
