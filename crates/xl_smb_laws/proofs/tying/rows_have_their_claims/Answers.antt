use Rattle.xl_smb_laws.proofs.GrantedShareLaws.{granted_holds}
use Rattle.xl_smb_laws.proofs.SharedOpenLaws.{deeds_keep_share}
use Rattle.xl_smb_laws.proofs.TiedLaws.{begun_tied, end_tied, shareless_is, start_tied, step_tied}
use Rattle.xl_smb_laws.proofs.tying.rows_have_their_claims.Goals as goal

pub returns-clause-start : goal.returns-clause-start
returns-clause-start c = start_tied

pub returns-clause-begins : goal.returns-clause-begins
returns-clause-begins c = begun_tied

pub returns-clause-messages : goal.returns-clause-messages
returns-clause-messages c = step_tied

pub returns-clause-ends : goal.returns-clause-ends
returns-clause-ends c = end_tied

pub returns-clause-spared : goal.returns-clause-spared
returns-clause-spared c = λ n s ds number row good fit spare holds. deeds_keep_share n s ds row.file number good fit spare holds

pub returns-clause-granted : goal.returns-clause-granted
returns-clause-granted c = granted_holds

pub returns-clause-shareless : goal.returns-clause-shareless
returns-clause-shareless c = shareless_is
