use Rattle.xl_smb_laws.proofs.OpenRightLaws.{told_bare, told_resting, told_running}
use Rattle.xl_smb_laws.proofs.opens.leases_are_told_as_they_stand.Goals as goal

pub returns-clause-running : goal.returns-clause-running
returns-clause-running c = told_running

pub returns-clause-resting : goal.returns-clause-resting
returns-clause-resting c = told_resting

pub returns-clause-bare : goal.returns-clause-bare
returns-clause-bare c = told_bare
