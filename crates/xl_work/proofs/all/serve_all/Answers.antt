use Rattle.std.proofs.Common.{◌++◌, ◌∙◌, refl, subst}
use Rattle.xl_work.specs.Crews.{IsCrewLeft, first_lane, tells_caller, tells_lane}
use Rattle.std.specs.Result.{IfOk}
use Rattle.xl_work.proofs.AllLaws.{crew_served, done_placed}
use Rattle.xl_work.proofs.CallLaws.{goes_then}
use Rattle.xl_work.proofs.LifeLaws.{in_time_of}
use Rattle.xl_work.proofs.RestLaws.{placed_goes}
use Rattle.xl_work.proofs.all.serve_all.Goals as goal

pub send_rests-lanes-requires-clause-places : goal.send_rests-lanes-requires-clause-places
send_rests-lanes-requires-clause-places g c =
    let tl = tells_lane g.L.Lane.told g.L.Lane.asked g.L.Lane.lost g.L.Lane.faults g.L.Lane.ended in
    let tc = tells_caller g.C.Caller.told g.C.Caller.asked in
    let open_gate = g.G.Gate.is_open c.args.gate.now in
    let v = c.serve_both-pass.result.0.view in
    let left = subst (λ r. IfOk r (λ done. IsCrewLeft tl tc g.H.Serial.may_halt open_gate c.args.crew (g.T.Clock.told c.args.clock) c.args.pass.view (g.T.Clock.told c.serve_both-pass.result.2) v done)) c.in-Ok.is c.serve_both-pass.ensures.served in
    placed_goes v c.see.new.pass.view c.in-Ok.field-0.lanes.items c.see.ensures.looked.goes (done_placed tl g.H.Serial.may_halt open_gate v (first_lane c.args.crew) c.args.crew.lanes.items c.in-Ok.field-0.lanes.items (left.first ++ left.others) left.lanes)

pub returns-clause-goes : goal.returns-clause-goes
returns-clause-goes g c =
    let v = c.serve_both-pass.result.0.view in
    let x = c.see.new.pass.view in
    let y = c.send_rests-lanes.new.pass.view in
    let z = c.see-2.new.pass.view in
    goes_then c.args.pass.view v z c.serve_both-pass.ensures.goes (goes_then v x z c.see.ensures.looked.goes (goes_then x y z c.send_rests-lanes.ensures.looked.goes c.see-2.ensures.looked.goes))

pub returns-clause-served : goal.returns-clause-served
returns-clause-served g c =
    let tl = tells_lane g.L.Lane.told g.L.Lane.asked g.L.Lane.lost g.L.Lane.faults g.L.Lane.ended in
    let tc = tells_caller g.C.Caller.told g.C.Caller.asked in
    let open_gate = g.G.Gate.is_open c.args.gate.now in
    let told = g.T.Clock.told c.args.clock in
    let told' = g.T.Clock.told c.serve_both-pass.result.2 in
    let b = c.args.pass.view in
    let v = c.serve_both-pass.result.0.view in
    let x = c.see.new.pass.view in
    let y = c.send_rests-lanes.new.pass.view in
    let z = c.see-2.new.pass.view in
    let left = subst (λ r. IfOk r (λ done. IsCrewLeft tl tc g.H.Serial.may_halt open_gate c.args.crew told b told' v done)) c.in-Ok.is c.serve_both-pass.ensures.served in
    let shares = c.see.ensures.looked.none.shares ∙ c.serve_both-pass.ensures.shares ∙ c.requires.shares in
    crew_served tl tc g.H.Serial.may_halt open_gate c.args.crew told told' b v x y z c.in-Ok.field-0 (record { lanes = c.send_rests-lanes.result; callers = c.in-Ok.field-0.callers }) left
    c.see.ensures.looked (in_time_of g.H.Serial.first g.H.Serial.lawful x g.H.Serial.in_time c.see.ensures.lawful) (c.see.ensures.whole shares)
    c.send_rests-lanes.ensures.looked c.see-2.ensures.looked (in_time_of g.H.Serial.first g.H.Serial.lawful z g.H.Serial.in_time c.see-2.ensures.lawful) (c.see-2.ensures.whole (c.see-2.ensures.looked.none.shares ∙ c.send_rests-lanes.ensures.looked.none.shares ∙ shares))
    (c.send_rests-lanes.ensures.rested open_gate) refl
