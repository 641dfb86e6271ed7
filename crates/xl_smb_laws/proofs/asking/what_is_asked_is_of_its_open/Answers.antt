use Rattle.xl_smb_laws.proofs.AskedRowLaws.{create_asks_of, lock_asks_of}
use Rattle.xl_smb_laws.proofs.asking.what_is_asked_is_of_its_open.Goals as goal

pub returns-clause-locks : goal.returns-clause-locks
returns-clause-locks c = lock_asks_of

pub returns-clause-creates : goal.returns-clause-creates
returns-clause-creates c = create_asks_of
