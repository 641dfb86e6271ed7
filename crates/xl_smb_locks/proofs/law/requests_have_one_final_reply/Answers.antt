use Rattle.xl_smb_locks.proofs.NoticeLaws.{served_final, cancelled_final, cancelled_once}
use Rattle.xl_smb_locks.proofs.law.requests_have_one_final_reply.Goals as goal

pub returns-clause-served : goal.returns-clause-served
returns-clause-served c = served_final

pub returns-clause-cancelled : goal.returns-clause-cancelled
returns-clause-cancelled c = cancelled_final

pub returns-clause-once : goal.returns-clause-once
returns-clause-once c = cancelled_once
