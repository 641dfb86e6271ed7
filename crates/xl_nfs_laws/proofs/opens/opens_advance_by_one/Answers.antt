use Rattle.xl_nfs_laws.proofs.FirstSeqidLaws.{new_come, more_come, refusal_come, refusal_alone}
use Rattle.xl_nfs_laws.proofs.opens.opens_advance_by_one.Goals as goal

pub returns-clause-first : goal.returns-clause-first
returns-clause-first c = new_come

pub returns-clause-more : goal.returns-clause-more
returns-clause-more c = more_come

pub returns-clause-refused : goal.returns-clause-refused
returns-clause-refused c = refusal_come

pub returns-clause-only : goal.returns-clause-only
returns-clause-only c = refusal_alone
