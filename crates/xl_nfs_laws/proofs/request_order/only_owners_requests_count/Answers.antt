use Rattle.xl_nfs_laws.proofs.RequestOrderLaws.{others_stood}
use Rattle.xl_nfs_laws.proofs.request_order.only_owners_requests_count.Goals as goal

pub returns : goal.returns
returns c = others_stood
