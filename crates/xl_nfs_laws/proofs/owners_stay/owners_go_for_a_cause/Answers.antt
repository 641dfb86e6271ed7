use Rattle.xl_nfs_laws.proofs.OwnerStayLaws.{item_names, shown_names, tick_owners}
use Rattle.xl_nfs_laws.proofs.owners_stay.owners_go_for_a_cause.Goals as goal

pub returns-clause-operations : goal.returns-clause-operations
returns-clause-operations c = item_names

pub returns-clause-ticks : goal.returns-clause-ticks
returns-clause-ticks c = tick_owners

pub returns-clause-shown : goal.returns-clause-shown
returns-clause-shown c = shown_names
