use Rattle.xl_smb_laws.proofs.CancelLaws.{cancel_sends, cancel_over, cancel_unnamed, named_came}
use Rattle.xl_smb_laws.proofs.cancelling.a_cancel_sends_one_final_reply.Goals as goal

pub returns-clause-sent : goal.returns-clause-sent
returns-clause-sent c = cancel_sends

pub returns-clause-over : goal.returns-clause-over
returns-clause-over c = cancel_over

pub returns-clause-unnamed : goal.returns-clause-unnamed
returns-clause-unnamed c = cancel_unnamed

pub returns-clause-named : goal.returns-clause-named
returns-clause-named c = named_came
