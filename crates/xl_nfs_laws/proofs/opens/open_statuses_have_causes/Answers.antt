use Rattle.xl_nfs_laws.proofs.OpenStatusLaws.{further_told, anew_told, further_fails, further_full}
use Rattle.xl_nfs_laws.proofs.opens.open_statuses_have_causes.Goals as goal

pub returns-clause-told : goal.returns-clause-told
returns-clause-told c = further_told

pub returns-clause-anew : goal.returns-clause-anew
returns-clause-anew c = anew_told

pub returns-clause-fails : goal.returns-clause-fails
returns-clause-fails c = further_fails

pub returns-clause-full : goal.returns-clause-full
returns-clause-full c = further_full
