use Rattle.xl_smb_laws.proofs.ReplyHeadLaws.{cancel_silent, nothing_silent, reply_carries, silent_nothing}
use Rattle.xl_smb_laws.proofs.replying.replies_repeat_their_requests.Goals as goal

pub returns-clause-carried : goal.returns-clause-carried
returns-clause-carried c = reply_carries

pub returns-clause-silent : goal.returns-clause-silent
returns-clause-silent c = cancel_silent

pub returns-clause-nothing : goal.returns-clause-nothing
returns-clause-nothing c = nothing_silent

pub returns-clause-answered : goal.returns-clause-answered
returns-clause-answered c = silent_nothing
