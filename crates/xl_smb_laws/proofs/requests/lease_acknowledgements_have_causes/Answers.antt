use Rattle.xl_smb_laws.proofs.BreakLaws.{lease_unknown, lease_bare, lease_resting, lease_refused, lease_taken, lease_holds}
use Rattle.xl_smb_laws.proofs.requests.lease_acknowledgements_have_causes.Goals as goal

pub returns-clause-unknown : goal.returns-clause-unknown
returns-clause-unknown c = lease_unknown

pub returns-clause-bare : goal.returns-clause-bare
returns-clause-bare c = lease_bare

pub returns-clause-resting : goal.returns-clause-resting
returns-clause-resting c = lease_resting

pub returns-clause-refused : goal.returns-clause-refused
returns-clause-refused c = lease_refused

pub returns-clause-taken : goal.returns-clause-taken
returns-clause-taken c = lease_taken

pub returns-clause-left : goal.returns-clause-left
returns-clause-left c = lease_holds
