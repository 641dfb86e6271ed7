use Rattle.xl_smb_laws.proofs.RowEndLaws.{others_stay}
use Rattle.xl_smb_laws.proofs.OnceAnsweredLaws.{left_once, sent_once}
use Rattle.xl_smb_laws.proofs.replying.who_waits_no_more_is_answered_once.Goals as goal

pub returns-clause-sent : goal.returns-clause-sent
returns-clause-sent c = sent_once

pub returns-clause-left : goal.returns-clause-left
returns-clause-left c = left_once

pub returns-clause-ends : goal.returns-clause-ends
returns-clause-ends c = others_stay
