use Rattle.xl_nfs_state.specs.declared.owner.OwnerKind.TheVariants as kinds
use Rattle.xl_nfs_laws.proofs.CheckStatusLaws.{is_stale, no_file, no_other}
use Rattle.xl_nfs_laws.proofs.OpenCheckLaws.{astray_exactly, open_exactly}
use Rattle.xl_nfs_laws.proofs.refusals.opens_are_refused_so.Goals as goal

pub returns-clause-passed : goal.returns-clause-passed
returns-clause-passed c = open_exactly

pub returns-clause-no_file : goal.returns-clause-no_file
returns-clause-no_file c = no_file kinds.Open

pub returns-clause-stale : goal.returns-clause-stale
returns-clause-stale c = is_stale kinds.Open

pub returns-clause-astray : goal.returns-clause-astray
returns-clause-astray c = astray_exactly

pub returns-clause-no_other : goal.returns-clause-no_other
returns-clause-no_other c = no_other kinds.Open
