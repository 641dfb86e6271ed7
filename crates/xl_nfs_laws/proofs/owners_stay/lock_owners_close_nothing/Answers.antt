use Rattle.xl_nfs_laws.proofs.OwnerStayLaws.{item_calm, request_calm, shown_calm, start_calm, tick_calm}
use Rattle.xl_nfs_laws.proofs.owners_stay.lock_owners_close_nothing.Goals as goal

pub returns-clause-start : goal.returns-clause-start
returns-clause-start c = start_calm

pub returns-clause-operations : goal.returns-clause-operations
returns-clause-operations c = item_calm

pub returns-clause-requests : goal.returns-clause-requests
returns-clause-requests c = request_calm

pub returns-clause-ticks : goal.returns-clause-ticks
returns-clause-ticks c = tick_calm

pub returns-clause-shown : goal.returns-clause-shown
returns-clause-shown c = shown_calm
