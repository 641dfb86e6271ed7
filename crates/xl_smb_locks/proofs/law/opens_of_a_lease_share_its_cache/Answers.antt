use Rattle.xl_smb_locks.proofs.LevelLaws.{party_alone, party_under, told_alike}
use Rattle.xl_smb_locks.proofs.law.opens_of_a_lease_share_its_cache.Goals as goal

pub returns-clause-party : goal.returns-clause-party
returns-clause-party c = party_under

pub returns-clause-told : goal.returns-clause-told
returns-clause-told c = told_alike

pub returns-clause-alone : goal.returns-clause-alone
returns-clause-alone c = party_alone
