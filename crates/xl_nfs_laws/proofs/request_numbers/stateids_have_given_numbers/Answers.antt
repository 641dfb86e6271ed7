use Rattle.xl_nfs_laws.proofs.RequestNumberLaws.{start_given, item_given, request_given, tick_given, shown_given}
use Rattle.xl_nfs_laws.proofs.request_numbers.stateids_have_given_numbers.Goals as goal

pub returns-clause-start : goal.returns-clause-start
returns-clause-start c = start_given

pub returns-clause-operations : goal.returns-clause-operations
returns-clause-operations c = item_given

pub returns-clause-requests : goal.returns-clause-requests
returns-clause-requests c = request_given

pub returns-clause-ticks : goal.returns-clause-ticks
returns-clause-ticks c = tick_given

pub returns-clause-shown : goal.returns-clause-shown
returns-clause-shown c = shown_given
