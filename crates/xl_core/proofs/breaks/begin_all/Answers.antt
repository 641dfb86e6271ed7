use Rattle.std.proofs.Common.{◌∙◌}
use Rattle.xl_core.proofs.BreaksInOrderLaws.{one_more}
use Rattle.xl_core.proofs.breaks.begin_all.Goals as goal

pub loop-begun-preserved : goal.loop-begun-preserved
loop-begun-preserved c =
    let before = c.loop-begun.invariant in
    let more = one_more c.args.deadline c.args.breaks.now c.loop-begun.begun-index _ c.loop-begun.table c.begin.new.table c.loop-begun-test.true c.begin.ensures before.held before.sound in
    record { claims = more.0 ∙ before.claims; held = more.1; sound = more.2 }
