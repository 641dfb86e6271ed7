use Rattle.xl_nfs_laws.proofs.KnownOpenLaws.{told_is_known}
use Rattle.xl_nfs_laws.proofs.open_order.told_opens_are_known.Goals as goal

pub returns : goal.returns
returns c = told_is_known
