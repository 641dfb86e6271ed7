use Rattle.std.proofs.Common.{◌≡◌, ◌++◌, ◌+◌, ◌∙◌, ℕ, ap, subst, sym}
use Rattle.xl_work.specs.Crews.{AreServed, LeavesLane, next_lane, tells_lane}
use Rattle.xl_work.specs.declared.worker.LanePost.{LanePost}
use Rattle.xl_work.proofs.CrewLaws.{if_both, lanes_behind, leaves_goes, served_both}
use Rattle.xl_work.proofs.LifeLaws.{in_time_of}
use Rattle.xl_work.proofs.crew.+lanes.Goals as goal

pub returns-clause-served : goal.returns-clause-served
returns-clause-served g t c =
    let tells = tells_lane g.L.Lane.told g.L.Lane.asked g.L.Lane.lost g.L.Lane.faults g.L.Lane.ended in
    let open_gate = g.G.Gate.is_open c.args.gate.now in
    let front = c.halve.new.workers.items in
    let back = c.in-Ok.others.items in
    let v = c.join-first.result.0.0.view in
    let w = c.join-first.result.1.0.view in
    let u = c.join.new.pass.view in
    let post2 : LanePost = record { place = c.args.post.place + c.len-2.result; turns = c.args.post.turns } in
    let timely = in_time_of g.H.Serial.first g.H.Serial.lawful u g.H.Serial.in_time c.join.ensures.lawful in
    if_both (λ v. v.items) (λ v. v.items) c.both.result c.join-first.result.0.1 c.join-first.result.1.1
    (λ ds. AreServed next_lane (LeavesLane tells g.H.Serial.may_halt open_gate) c.args.post front c.halve.new.pass.view v ds)
    (λ ds. AreServed next_lane (LeavesLane tells g.H.Serial.may_halt open_gate) post2 back c.in-Ok.theirs.view w ds)
    (λ all. AreServed next_lane (LeavesLane tells g.H.Serial.may_halt open_gate) c.args.post c.args.lanes.items c.args.pass.view u all.items)
    (λ all xs ys. all.items ≡ xs ++ ys) c.both.ensures c.join-first.ensures.first.3 c.join-first.ensures.second.3
    (λ all xs ys cut one two. served_both next_lane (LeavesLane tells g.H.Serial.may_halt open_gate) c.args.post post2 c.args.lanes.items front back c.args.pass.view v w u xs ys all.items c.in-Ok.ensures.workers
    (ap (λ (n : ℕ). record { place = c.args.post.place + n; turns = c.args.post.turns }) (c.len-2.ensures ∙ c.halve.new.workers.ok.0) ∙ sym (lanes_behind front c.args.post)) cut
    (subst (λ b. AreServed next_lane (LeavesLane tells g.H.Serial.may_halt open_gate) c.args.post front b v xs) c.in-Ok.ensures.pass one)
    (subst (λ b. AreServed next_lane (LeavesLane tells g.H.Serial.may_halt open_gate) post2 back b w ys) c.in-Ok.ensures.other two)
    c.join.ensures.joined (λ z goes. leaves_goes tells g.H.Serial.may_halt open_gate z u goes timely))
