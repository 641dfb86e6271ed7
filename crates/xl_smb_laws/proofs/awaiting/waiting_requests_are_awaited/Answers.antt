use Rattle.xl_smb_laws.proofs.AwaitedRequestLaws.{all_wait, begin_awaited, end_awaited, shown_awaited, start_awaited, step_awaited}
use Rattle.xl_smb_laws.proofs.SparedLaws.{spared_awaited}
use Rattle.xl_smb_laws.proofs.StillWaitingLaws.{told_awaited}
use Rattle.xl_smb_laws.proofs.RoomLaws.{queued_kept}
use Rattle.xl_smb_laws.proofs.awaiting.waiting_requests_are_awaited.Goals as goal

pub returns-clause-waits : goal.returns-clause-waits
returns-clause-waits c = all_wait

pub returns-clause-start : goal.returns-clause-start
returns-clause-start c = start_awaited

pub returns-clause-messages : goal.returns-clause-messages
returns-clause-messages c = step_awaited

pub returns-clause-shown : goal.returns-clause-shown
returns-clause-shown c = shown_awaited

pub returns-clause-ends : goal.returns-clause-ends
returns-clause-ends c = end_awaited

pub returns-clause-kept : goal.returns-clause-kept
returns-clause-kept c = queued_kept

pub returns-clause-begins : goal.returns-clause-begins
returns-clause-begins c = begin_awaited

pub returns-clause-deeds : goal.returns-clause-deeds
returns-clause-deeds c = told_awaited

pub returns-clause-spared : goal.returns-clause-spared
returns-clause-spared c = spared_awaited
