use Rattle.xl_smb_laws.proofs.LeaseLaws.{closed_unlisted, lease_goes, lease_stays, others_leased}
use Rattle.xl_smb_laws.proofs.requests.a_lease_goes_with_its_last_open.Goals as goal

pub returns-clause-stays : goal.returns-clause-stays
returns-clause-stays c = lease_stays

pub returns-clause-goes : goal.returns-clause-goes
returns-clause-goes c = lease_goes

pub returns-clause-others : goal.returns-clause-others
returns-clause-others c = others_leased

pub returns-clause-left : goal.returns-clause-left
returns-clause-left c = closed_unlisted
