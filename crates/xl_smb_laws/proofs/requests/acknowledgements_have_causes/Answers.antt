use Rattle.xl_smb_laws.proofs.BreakLaws.{ack_closed, ack_leased, ack_bare, ack_resting, ack_refused, ack_taken, ack_left}
use Rattle.xl_smb_laws.proofs.requests.acknowledgements_have_causes.Goals as goal

pub returns-clause-closed : goal.returns-clause-closed
returns-clause-closed c = ack_closed

pub returns-clause-leased : goal.returns-clause-leased
returns-clause-leased c = ack_leased

pub returns-clause-bare : goal.returns-clause-bare
returns-clause-bare c = ack_bare

pub returns-clause-resting : goal.returns-clause-resting
returns-clause-resting c = ack_resting

pub returns-clause-refused : goal.returns-clause-refused
returns-clause-refused c = ack_refused

pub returns-clause-taken : goal.returns-clause-taken
returns-clause-taken c = ack_taken

pub returns-clause-left : goal.returns-clause-left
returns-clause-left c = ack_left
