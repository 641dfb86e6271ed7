use Rattle.xl_nfs_laws.proofs.LeaseLaws.{expired_leased, expires_leased, item_leased, request_leased, start_leased, tick_leased}
use Rattle.xl_nfs_laws.proofs.leases.confirmed_clients_have_leases.Goals as goal

pub returns-clause-start : goal.returns-clause-start
returns-clause-start c = start_leased

pub returns-clause-operations : goal.returns-clause-operations
returns-clause-operations c = item_leased

pub returns-clause-requests : goal.returns-clause-requests
returns-clause-requests c = request_leased

pub returns-clause-ticks : goal.returns-clause-ticks
returns-clause-ticks c = tick_leased

pub returns-clause-expires : goal.returns-clause-expires
returns-clause-expires c = expires_leased

pub returns-clause-shown : goal.returns-clause-shown
returns-clause-shown c = expired_leased
