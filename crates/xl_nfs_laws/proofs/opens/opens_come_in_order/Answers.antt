use Rattle.xl_nfs_laws.proofs.EnteredOpenLaws.{next_goes_on, others_are_bad}
use Rattle.xl_nfs_laws.proofs.opens.opens_come_in_order.Goals as goal

pub returns-clause-next : goal.returns-clause-next
returns-clause-next c = next_goes_on

pub returns-clause-others : goal.returns-clause-others
returns-clause-others c = others_are_bad
