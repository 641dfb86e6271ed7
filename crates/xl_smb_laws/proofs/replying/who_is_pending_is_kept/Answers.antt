use Rattle.xl_smb_laws.proofs.WaitRowLaws.{no_row_comes, row_comes}
use Rattle.xl_smb_laws.proofs.replying.who_is_pending_is_kept.Goals as goal

pub returns-clause-comes : goal.returns-clause-comes
returns-clause-comes c = row_comes

pub returns-clause-stays : goal.returns-clause-stays
returns-clause-stays c = no_row_comes
