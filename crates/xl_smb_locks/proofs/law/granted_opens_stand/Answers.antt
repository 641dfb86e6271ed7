use Rattle.xl_smb_locks.proofs.NoticeLaws.{granted_told, granted_stands}
use Rattle.xl_smb_locks.proofs.law.granted_opens_stand.Goals as goal

pub returns-clause-told : goal.returns-clause-told
returns-clause-told c = granted_told

pub returns-clause-stands : goal.returns-clause-stands
returns-clause-stands c = granted_stands
