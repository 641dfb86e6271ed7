use Rattle.xl_core.proofs.UnsettledLaws.{none_gone}
use Rattle.xl_core.proofs.unsettled.note_gone.Goals as goal

pub returns-in-empty : goal.returns-in-empty
returns-in-empty c = none_gone c.args.unsettled.now c.args.leaver c.args.waiters.now c.args.told.now c.requires.told c.in-empty.len_below
