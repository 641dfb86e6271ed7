use Rattle.xl_nfs_state.specs.declared.owner.OwnerKind.TheVariants as kinds
use Rattle.xl_nfs_laws.proofs.CheckStatusLaws.{is_stale, no_file, no_other}
use Rattle.xl_nfs_laws.proofs.LockStateidLaws.{astray_exactly}
use Rattle.xl_nfs_laws.proofs.refusals.locks_are_refused_so.Goals as goal

pub returns-clause-no_file : goal.returns-clause-no_file
returns-clause-no_file c = no_file kinds.Lock

pub returns-clause-stale : goal.returns-clause-stale
returns-clause-stale c = is_stale kinds.Lock

pub returns-clause-astray : goal.returns-clause-astray
returns-clause-astray c = astray_exactly

pub returns-clause-no_other : goal.returns-clause-no_other
returns-clause-no_other c = no_other kinds.Lock
