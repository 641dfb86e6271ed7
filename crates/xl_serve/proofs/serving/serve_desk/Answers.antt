use Rattle.std.proofs.Common.{◌∙◌, ap}
use Rattle.xl_base.specs.declared.journal.Head.{Head}
use Rattle.xl_desk.specs.declared.view.View.{View}
use Rattle.xl_work.specs.Crews.{tells_caller, tells_lane}
use Rattle.xl_serve.proofs.ServeLaws.{same_origin}
use Rattle.xl_serve.proofs.ServeLaws.{all_worked}
use Rattle.xl_serve.proofs.serving.serve_desk.Goals as goal

pub returns-clause-head : goal.returns-clause-head
returns-clause-head g c =
    same_origin _ _ _ _ c.serve_all-pass.result.0.view c.close-house.result c.args.house.head c.close-house.ensures
    (c.serve_all-pass.ensures.goes.origin ∙ ap (λ (v : View Head). v.origin) c.in-Ok.ensures.pass)

pub returns-clause-served : goal.returns-clause-served
returns-clause-served g c =
    let tl = tells_lane g.L.Lane.told g.L.Lane.asked g.L.Lane.lost g.L.Lane.faults g.L.Lane.ended in
    let tc = tells_caller g.C.Caller.told g.C.Caller.asked in
    let house = c.args.house in
    let served = c.serve_all-pass in
    all_worked tl tc c.args.crew (g.T.Clock.told c.args.clock) (g.T.Clock.told served.result.2) house.head house.entries house.halt c.in-Ok.made.1.view served.result.0.view c.close-house.result served.result.1
    c.in-Ok.ensures.pass c.requires.begun.0 c.requires.begun.1 c.close-house.ensures served.ensures.served
