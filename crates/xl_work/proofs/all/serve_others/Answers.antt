use Rattle.std.proofs.Common.{◌≡◌, ◌+◌, ◌∙◌, ℕ, length, subst}
use Rattle.xl_desk.specs.Turns.{half}
use Rattle.xl_work.specs.Crews.{AreOthersServed, AreServed, DoesCaller, LeavesLane, next_caller, next_lane, tells_caller, tells_lane}
use Rattle.xl_work.specs.declared.calls.CallerPost.{CallerPost}
use Rattle.xl_work.specs.declared.worker.LanePost.{LanePost}
use Rattle.xl_work.proofs.AllLaws.{others_joined}
use Rattle.xl_work.proofs.CrewLaws.{if_both}
use Rattle.xl_work.proofs.LifeLaws.{in_time_of}
use Rattle.xl_work.proofs.all.serve_others.Goals as goal

pub returns-clause-served : goal.returns-clause-served
returns-clause-served g c =
    let tl = tells_lane g.L.Lane.told g.L.Lane.asked g.L.Lane.lost g.L.Lane.faults g.L.Lane.ended in
    let tc = tells_caller g.C.Caller.told g.C.Caller.asked in
    let open_gate = g.G.Gate.is_open c.args.gate.now in
    let crew = c.args.crew in
    let b = c.args.pass.view in
    let v = c.join-first.result.0.0.view in
    let w = c.join-first.result.1.0.view in
    let u = c.join.new.pass.view in
    let lane_post : LanePost = record { place = c.args.place; turns = crew.turns } in
    let caller_post : ℕ → ℕ → CallerPost = λ lanes callers. record { place = c.args.place + lanes; turns = crew.turns; share = 0; of = callers } in
    if_both (λ x. x) (λ x. x) c.done_both.result c.join-first.result.0.1 c.join-first.result.1.1
    (λ xs. AreServed next_lane (LeavesLane tl g.H.Serial.may_halt open_gate) lane_post crew.lanes.items c.split-theirs.new.pass.view v xs.items)
    (λ ys. AreServed next_caller (DoesCaller tc g.H.Serial.may_halt open_gate (c.split-theirs.result.view.first + length c.split-theirs.result.view.seen)) (caller_post c.len.result c.len-2.result) crew.callers.items c.split-theirs.result.view w ys.items)
    (λ done. AreOthersServed tl tc g.H.Serial.may_halt open_gate crew c.args.place b u done)
    (λ done xs ys. (xs ≡ done.lanes) × (ys ≡ done.callers)) c.done_both.ensures c.join-first.ensures.first.3 c.join-first.ensures.second.3
    (λ done xs ys same one two. others_joined tl tc g.H.Serial.may_halt open_gate crew c.args.place b v w u done
    (subst (λ z. AreServed next_lane (LeavesLane tl g.H.Serial.may_halt open_gate) lane_post crew.lanes.items z v done.lanes.items) c.split-theirs.ensures.pass (subst (λ xs. AreServed next_lane (LeavesLane tl g.H.Serial.may_halt open_gate) lane_post crew.lanes.items c.split-theirs.new.pass.view v xs.items) same.0 one))
    (subst (λ (n : ℕ × ℕ). AreServed next_caller (DoesCaller tc g.H.Serial.may_halt open_gate (b.first + length b.seen)) (caller_post n.0 n.1) crew.callers.items (half b) w done.callers.items) (λ i. ((c.len.ensures ∙ crew.lanes.ok.0) i, (c.len-2.ensures ∙ crew.callers.ok.0) i))
    (subst (λ z. AreServed next_caller (DoesCaller tc g.H.Serial.may_halt open_gate (z.first + length z.seen)) (caller_post c.len.result c.len-2.result) crew.callers.items z w done.callers.items) c.split-theirs.ensures.new (subst (λ ys. AreServed next_caller (DoesCaller tc g.H.Serial.may_halt open_gate (c.split-theirs.result.view.first + length c.split-theirs.result.view.seen)) (caller_post c.len.result c.len-2.result) crew.callers.items c.split-theirs.result.view w ys.items) same.1 two)))
    c.join.ensures.joined (in_time_of g.H.Serial.first g.H.Serial.lawful u g.H.Serial.in_time c.join.ensures.lawful))
