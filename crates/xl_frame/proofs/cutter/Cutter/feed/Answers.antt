use Rattle.xl_frame.proofs.FrameLaws.{fed_bad, fed_good}
use Rattle.xl_frame.proofs.cutter.Cutter.feed.Goals as goal
use Rattle.xl_frame.proofs.cutter.Cutter.feed.Goals.{in-None, in-Some-taken}

pub returns-in-Some-clause-feeds : goal.returns-in-Some-clause-feeds
returns-in-Some-clause-feeds c =
    rw (← c.self.view_is) (fed_bad (record { kind = c.self.inside.kind; ready = c.self.inside.ready.items; rest = c.self.inside.held.items; bad = c.self.inside.bad }) c.args.piece.now c.in-Some.fault c.in-Some.is, c.in-Some.is)

pub returns-clause-feeds : goal.returns-clause-feeds
returns-clause-feeds c =
    let is = c.in_ok-taken.ensures in
    let new = fed_good c.self.inside.kind c.self.inside.ready.items c.self.inside.held.items c.self.inside.bad c.args.piece.now c.take_in.new.ready.items c.take_in.new.held.items c.in_ok-taken.taken c.in_default.is is.ready is.rest is.bad in
    elim c.match-taken.branch [
      | in-None w ↦ rw (w.result-is, ← c.self.view_is) (new, w.in-None.is)
      | in-Some-taken w ↦ rw (w.result-is, ← c.self.view_is) (new, w.in-Some-taken.is)
    ]
