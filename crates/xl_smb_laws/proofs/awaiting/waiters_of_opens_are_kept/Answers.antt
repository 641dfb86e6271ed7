use Rattle.xl_smb_laws.proofs.KeptWaiterLaws.{begin_keeps, deeds_keep, end_keeps, shown_keeps, start_keeps, step_keeps}
use Rattle.xl_smb_laws.proofs.StillUntoldLaws.{waits_still}
use Rattle.xl_smb_laws.proofs.awaiting.waiters_of_opens_are_kept.Goals as goal

pub returns-clause-start : goal.returns-clause-start
returns-clause-start c = start_keeps

pub returns-clause-begins : goal.returns-clause-begins
returns-clause-begins c = begin_keeps

pub returns-clause-messages : goal.returns-clause-messages
returns-clause-messages c = step_keeps

pub returns-clause-shown : goal.returns-clause-shown
returns-clause-shown c = shown_keeps

pub returns-clause-ends : goal.returns-clause-ends
returns-clause-ends c = end_keeps

pub returns-clause-deeds : goal.returns-clause-deeds
returns-clause-deeds c = deeds_keep

pub returns-clause-still : goal.returns-clause-still
returns-clause-still c = waits_still
