use Rattle.xl_nfs_laws.proofs.RequestDelegationLaws.{one_recall}
use Rattle.xl_nfs_laws.proofs.request_order.each_break_is_recalled.Goals as goal

pub returns : goal.returns
returns c = one_recall
