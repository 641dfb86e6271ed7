use Rattle.xl_nfs_laws.proofs.OpenStateidLaws.{stands_exactly, confirm_confirms}
use Rattle.xl_nfs_laws.proofs.opens.current_stateids_stand.Goals as goal

pub returns-clause-stands : goal.returns-clause-stands
returns-clause-stands c = stands_exactly

pub returns-clause-confirms : goal.returns-clause-confirms
returns-clause-confirms c = confirm_confirms
