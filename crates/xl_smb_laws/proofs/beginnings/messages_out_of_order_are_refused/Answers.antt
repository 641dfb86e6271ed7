use Rattle.xl_smb_laws.proofs.BeginningLaws.{is_silent, refuses_past, refuses_several, refuses_unread, refuses_unserved}
use Rattle.xl_smb_laws.proofs.beginnings.messages_out_of_order_are_refused.Goals as goal

pub returns-clause-silent : goal.returns-clause-silent
returns-clause-silent c = is_silent

pub returns-clause-several : goal.returns-clause-several
returns-clause-several c = refuses_several

pub returns-clause-past : goal.returns-clause-past
returns-clause-past c = refuses_past

pub returns-clause-unserved : goal.returns-clause-unserved
returns-clause-unserved c = refuses_unserved

pub returns-clause-unread : goal.returns-clause-unread
returns-clause-unread c = refuses_unread
