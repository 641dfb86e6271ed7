use Rattle.xl_nfs_laws.proofs.OpenStatusLaws.{anew_has_asked, ok_share, ok_has_asked}
use Rattle.xl_nfs_laws.proofs.opens.opens_are_shares.Goals as goal

pub returns-clause-united : goal.returns-clause-united
returns-clause-united c = ok_share

pub returns-clause-asked : goal.returns-clause-asked
returns-clause-asked c = ok_has_asked

pub returns-clause-anew : goal.returns-clause-anew
returns-clause-anew c = anew_has_asked
