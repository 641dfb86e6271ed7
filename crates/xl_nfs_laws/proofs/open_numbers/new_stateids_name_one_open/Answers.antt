use Rattle.xl_nfs_laws.proofs.OpenNumberLaws.{next_unused, new_alone}
use Rattle.xl_nfs_laws.proofs.open_numbers.new_stateids_name_one_open.Goals as goal

pub returns-clause-unused : goal.returns-clause-unused
returns-clause-unused c = next_unused

pub returns-clause-alone : goal.returns-clause-alone
returns-clause-alone c = new_alone
