use Rattle.xl_smb_laws.proofs.GrantedCreateLaws.{granted_lease, granted_reply, granted_row, granted_share}
use Rattle.xl_smb_laws.proofs.awaiting.granted_creates_stand.Goals as goal

pub returns-clause-share : goal.returns-clause-share
returns-clause-share c = λ n left s t f party id row made claim. granted_share n left s t s f party id row made claim

pub returns-clause-stands : goal.returns-clause-stands
returns-clause-stands c = granted_row

pub returns-clause-told : goal.returns-clause-told
returns-clause-told c = granted_reply

pub returns-clause-leased : goal.returns-clause-leased
returns-clause-leased c = granted_lease
