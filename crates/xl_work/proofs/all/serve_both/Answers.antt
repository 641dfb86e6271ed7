use Rattle.std.proofs.Common.{◌≡◌, ◌∷◌, ◌==◌, ◌∙◌, ap, refl, subst, sym}
use Rattle.xl_work.specs.Crews.{AreOthersServed, IsCrewLeft, IsFirstServed, first_lane, tells_caller, tells_lane}
use Rattle.xl_work.specs.declared.all.Crew.{Crew}
use Rattle.xl_work.proofs.AllLaws.{both_joined, first_of_items, no_items, none_first}
use Rattle.xl_work.proofs.CrewLaws.{if_ok_as, if_one}
use Rattle.xl_work.proofs.LifeLaws.{in_time_of}
use Rattle.xl_work.proofs.all.serve_both.Goals as goal

pub returns-then-is_empty-clause-served : goal.returns-then-is_empty-clause-served
returns-then-is_empty-clause-served g c =
    let tl = tells_lane g.L.Lane.told g.L.Lane.asked g.L.Lane.lost g.L.Lane.faults g.L.Lane.ended in
    let tc = tells_caller g.C.Caller.told g.C.Caller.asked in
    let open_gate = g.G.Gate.is_open c.args.gate.now in
    let told = g.T.Clock.told c.args.clock in
    let none = no_items c.args.crew.lanes.items (ap (λ n. n == 0) (sym c.args.crew.lanes.ok.0) ∙ sym c.is_empty.ensures ∙ c.if-is_empty.true) in
    if_ok_as c.serve_others-pass.result.1 (λ done. AreOthersServed tl tc g.H.Serial.may_halt open_gate c.args.crew 0 c.args.pass.view c.serve_others-pass.result.0.view done)
    (λ done. IsCrewLeft tl tc g.H.Serial.may_halt open_gate c.args.crew told c.args.pass.view told c.serve_others-pass.result.0.view done) c.serve_others-pass.ensures.served
    (λ done others. none_first tl tc g.H.Serial.may_halt open_gate c.args.crew told c.args.pass.view c.serve_others-pass.result.0.view done none others)

pub returns-clause-served : goal.returns-clause-served
returns-clause-served g c =
    let tl = tells_lane g.L.Lane.told g.L.Lane.asked g.L.Lane.lost g.L.Lane.faults g.L.Lane.ended in
    let tc = tells_caller g.C.Caller.told g.C.Caller.asked in
    let open_gate = g.G.Gate.is_open c.args.gate.now in
    let crew = c.args.crew in
    let rest : Crew g.row.L.Denot g.row.C.Denot = record { lanes = c.remove-lane.new.self; callers = crew.callers; turns = crew.turns } in
    let lane = c.remove-lane.result in
    let told = g.T.Clock.told c.args.clock in
    let told' = g.T.Clock.told c.serve_sides-first.result.0.2 in
    let b = c.args.pass.view in
    let v = c.serve_sides-first.result.0.0.view in
    let w = c.serve_sides-first.result.1.0.view in
    let u = c.join.new.pass.view in
    let d = c.serve_sides-first.result.0.1 in
    let cut = first_of_items crew.lanes.items c.remove-lane.new.self.items lane (ap (λ n. n == 0) (sym crew.lanes.ok.0) ∙ sym c.is_empty.ensures ∙ c.if-is_empty.false) c.remove-lane.ensures.value c.remove-lane.ensures.by_index.2 in
    let first = subst (λ z. IsFirstServed tl g.H.Serial.may_halt open_gate (first_lane crew) lane told z told' v d) c.split-theirs.ensures.pass c.serve_sides-first.ensures.first.1 in
    if_one (λ o. o) c.with_first.result c.serve_sides-first.result.1.1 (λ o. AreOthersServed tl tc g.H.Serial.may_halt open_gate rest 1 c.split-theirs.result.view w o) (λ done. IsCrewLeft tl tc g.H.Serial.may_halt open_gate crew told b told' u done)
    (λ done o. (done.lanes.items ≡ d ∷ o.lanes.items) × (done.callers ≡ o.callers)) c.with_first.ensures c.serve_sides-first.ensures.others.3
    (λ done o same more. both_joined tl tc g.H.Serial.may_halt open_gate crew rest lane told told' b v w u d o done cut refl refl first
    (subst (λ z. AreOthersServed tl tc g.H.Serial.may_halt open_gate rest 1 z w o) c.split-theirs.ensures.new more)
    c.join.ensures.joined (in_time_of g.H.Serial.first g.H.Serial.lawful u g.H.Serial.in_time c.join.ensures.lawful) same.0 same.1)
