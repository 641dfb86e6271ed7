use Rattle.xl_nfs_laws.proofs.LockOwnerLaws.{release_forgets, release_unnames, release_refused, release_told}
use Rattle.xl_nfs_laws.proofs.lock_owners.released_owners_are_forgotten.Goals as goal

pub returns-clause-forgotten : goal.returns-clause-forgotten
returns-clause-forgotten c = release_forgets

pub returns-clause-named : goal.returns-clause-named
returns-clause-named c = release_unnames

pub returns-clause-refused : goal.returns-clause-refused
returns-clause-refused c = release_refused

pub returns-clause-told : goal.returns-clause-told
returns-clause-told c = release_told
