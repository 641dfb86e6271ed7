use Rattle.std.proofs.Common.{◌∙◌, ap, length}
use Rattle.xl_work.specs.Crews.{tells_caller, tells_lane}
use Rattle.xl_serve.proofs.ServeLaws.{concluded_full, served_by, served_runs, served_worked, worked_over, worked_started}
use Rattle.xl_serve.proofs.serving.serve_house.Goals as goal

pub conclude-status-requires : goal.conclude-status-requires
conclude-status-requires g c = record { over = worked_over c.status_of-worked.result c.status_of-worked.ensures.known }

pub returns-clause-started : goal.returns-clause-started
returns-clause-started g c = λ five. worked_started c.conclude-status.result c.status_of-worked.result c.status_of-worked.ensures.known c.conclude-status.ensures.kept five

pub returns-clause-still : goal.returns-clause-still
returns-clause-still g c = λ written full.
    c.conclude-status.ensures.still written (λ five. worked_started c.conclude-status.result c.status_of-worked.result c.status_of-worked.ensures.known c.conclude-status.ensures.kept five) full

pub returns-clause-full : goal.returns-clause-full
returns-clause-full g c = λ full.
    ap length c.end-journal.ensures.journal.1 ∙ c.status_of-worked.ensures.full (concluded_full c.conclude-status.result c.status_of-worked.result full c.conclude-status.ensures.kept)

pub returns-clause-crew : goal.returns-clause-crew
returns-clause-crew g c = λ is.
    let tl = tells_lane g.L.Lane.told g.L.Lane.asked g.L.Lane.lost g.L.Lane.faults g.L.Lane.ended in
    let tc = tells_caller g.C.Caller.told g.C.Caller.asked in
    let shift = c.serve_desk-house.result in
    let back = c.hand_back-lanes.result in
    let kept = c.conclude-status.ensures.kept in
    let done = c.conclude-status.ensures.done in
    let worked = served_worked c.conclude-status.result c.status_of-worked.result is kept done in
    served_by tl tc c.args.crew (g.T.Clock.told c.args.clock) (g.T.Clock.told shift.clock) shift.house.entries c.end-journal.result.0.entries shift.house.halt c.conclude-status.result shift.done back.lanes.items back.callers.items
    c.serve_desk-house.ensures.served (c.hand_back-lanes.ensures (c.status_of-worked.ensures.fine worked)) c.end-journal.ensures.journal.1
    (λ other. c.status_of-worked.ensures.runs worked (served_runs c.conclude-status.result c.status_of-worked.result is kept done other))

pub returns-clause-holds : goal.returns-clause-holds
returns-clause-holds g c = λ is.
    c.end-journal.ensures.holds (c.status_of-worked.ensures.whole (served_worked c.conclude-status.result c.status_of-worked.result is c.conclude-status.ensures.kept c.conclude-status.ensures.done))
