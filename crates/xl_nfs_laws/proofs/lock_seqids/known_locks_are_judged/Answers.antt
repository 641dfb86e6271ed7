use Rattle.xl_nfs_state.specs.declared.owner.OwnerKind.TheVariants as kinds
use Rattle.xl_nfs_laws.proofs.LockStateidLaws.{locks_is, passes_exactly}
use Rattle.xl_nfs_laws.proofs.OpenSeqidLaws.{refused_not}
use Rattle.xl_nfs_laws.proofs.OpenStateidLaws.{last_repeated, others_refused}
use Rattle.xl_nfs_laws.proofs.lock_seqids.known_locks_are_judged.Goals as goal

pub returns-clause-exactly : goal.returns-clause-exactly
returns-clause-exactly c = passes_exactly

pub returns-clause-last : goal.returns-clause-last
returns-clause-last c = λ s l op seqid stateid r w o is. last_repeated kinds.Lock s l op seqid stateid r w o (locks_is s l stateid r w o is)

pub returns-clause-others : goal.returns-clause-others
returns-clause-others c = λ s l op seqid stateid r w o is. others_refused kinds.Lock s l op seqid stateid r w o (locks_is s l stateid r w o is)

pub returns-clause-refused : goal.returns-clause-refused
returns-clause-refused c = refused_not kinds.Lock
