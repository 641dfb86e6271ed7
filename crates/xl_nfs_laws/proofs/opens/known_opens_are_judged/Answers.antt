use Rattle.xl_nfs_state.specs.declared.owner.OwnerKind.TheVariants as kinds
use Rattle.xl_nfs_laws.proofs.OpenStateidLaws.{last_repeated, next_passes, opened_is, others_refused}
use Rattle.xl_nfs_laws.proofs.opens.known_opens_are_judged.Goals as goal

pub returns-clause-next : goal.returns-clause-next
returns-clause-next c = λ s l op seqid stateid r w o is. next_passes kinds.Open s l op seqid stateid r w o (opened_is s l stateid r w o is)

pub returns-clause-last : goal.returns-clause-last
returns-clause-last c = λ s l op seqid stateid r w o is. last_repeated kinds.Open s l op seqid stateid r w o (opened_is s l stateid r w o is)

pub returns-clause-others : goal.returns-clause-others
returns-clause-others c = λ s l op seqid stateid r w o is. others_refused kinds.Open s l op seqid stateid r w o (opened_is s l stateid r w o is)
