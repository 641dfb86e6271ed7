use Rattle.xl_nfs_laws.proofs.OtherDeedLaws.{others_delegated}
use Rattle.xl_nfs_laws.proofs.RequestDelegationLaws.{expire_tied, expired_tied, item_tied, lapse_tied, request_tied, start_tied, tick_tied}
use Rattle.xl_nfs_laws.proofs.request_order.delegations_are_caches.Goals as goal

pub returns-clause-start : goal.returns-clause-start
returns-clause-start c = start_tied

pub returns-clause-operations : goal.returns-clause-operations
returns-clause-operations c = item_tied

pub returns-clause-requests : goal.returns-clause-requests
returns-clause-requests c = request_tied

pub returns-clause-ticks : goal.returns-clause-ticks
returns-clause-ticks c = tick_tied

pub returns-clause-expires : goal.returns-clause-expires
returns-clause-expires c = expire_tied

pub returns-clause-lapses : goal.returns-clause-lapses
returns-clause-lapses c = lapse_tied

pub returns-clause-shown : goal.returns-clause-shown
returns-clause-shown c = expired_tied

pub returns-clause-others : goal.returns-clause-others
returns-clause-others c = others_delegated
