use Rattle.xl_nfs_state.specs.declared.owner.OwnerKind.TheVariants as kinds
use Rattle.xl_nfs_laws.proofs.OpenSeqidLaws.{confirm_alone, downgrade_alone, close_alone, refused_not}
use Rattle.xl_nfs_laws.proofs.open_seqids.requests_that_do_not_count_change_nothing.Goals as goal

pub returns-clause-confirms : goal.returns-clause-confirms
returns-clause-confirms c = confirm_alone

pub returns-clause-downgrades : goal.returns-clause-downgrades
returns-clause-downgrades c = downgrade_alone

pub returns-clause-closes : goal.returns-clause-closes
returns-clause-closes c = close_alone

pub returns-clause-refused : goal.returns-clause-refused
returns-clause-refused c = refused_not kinds.Open
