use Rattle.xl_core.proofs.UnsettledLaws.{noting_first, noting_more, noting_done}
use Rattle.xl_core.proofs.unsettled.note_left.Goals as goal

pub files-init : goal.files-init
files-init c = noting_first c.args.unsettled.now c.args.leaver c.args.table.now c.args.queue.now

pub files-preserved : goal.files-preserved
files-preserved c = noting_more c.args.unsettled.now c.files.unsettled c.note.new.unsettled c.args.leaver c.files.past c.in-Some.file c.args.table.now c.args.queue.now c.files.invariant c.in-Some.ensures c.note.ensures

pub returns : goal.returns
returns c = noting_done c.args.unsettled.now c.files.unsettled c.args.leaver c.files.past c.args.table.now c.args.queue.now c.files.invariant c.in_default.ensures
