use Rattle.xl_smb_locks.proofs.FitLaws.{lock_is_by}
use Rattle.xl_smb_locks.proofs.asks.lock_ask.Goals as goal

pub returns-clause-open : goal.returns-clause-open
returns-clause-open c = lock_is_by _ c.args.conn c.args.number c.args.row.now c.any_waits-blocking.result c.args.elements.now _ c.range_ask.ensures c.in_ok-ranges.ensures c.any_waits-blocking.ensures c.requires.sound c.requires.some
