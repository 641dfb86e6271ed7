use Rattle.xl_nfs_laws.proofs.RequestOrderLaws.{item_orderly, request_orderly, shown_orderly, tick_orderly}
use Rattle.xl_nfs_laws.proofs.request_order.stateids_are_orderly.Goals as goal

pub returns-clause-start : goal.returns-clause-start
returns-clause-start c = record { rising = tt; apart = tt; held = tt }

pub returns-clause-operations : goal.returns-clause-operations
returns-clause-operations c = item_orderly

pub returns-clause-requests : goal.returns-clause-requests
returns-clause-requests c = request_orderly

pub returns-clause-ticks : goal.returns-clause-ticks
returns-clause-ticks c = tick_orderly

pub returns-clause-shown : goal.returns-clause-shown
returns-clause-shown c = shown_orderly
