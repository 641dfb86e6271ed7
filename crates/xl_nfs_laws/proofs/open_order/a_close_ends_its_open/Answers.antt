use Rattle.xl_nfs_laws.proofs.CloseLaws.{close_gives, close_is_marked}
use Rattle.xl_nfs_laws.proofs.open_order.a_close_ends_its_open.Goals as goal

pub returns-clause-marked : goal.returns-clause-marked
returns-clause-marked c = close_is_marked

pub returns-clause-share : goal.returns-clause-share
returns-clause-share c = close_gives
