use Rattle.std.proofs.Common.{List, subst, sym}
use Rattle.xl_work.specs.Crews.{tells_lane}
use Rattle.xl_work.specs.Rests.{AreRested}
use Rattle.xl_work.specs.declared.worker.LaneDone.{LaneDone}
use Rattle.xl_work.proofs.LifeLaws.{in_time_of}
use Rattle.xl_work.proofs.RestLaws.{rested_snoc}
use Rattle.xl_work.proofs.rest.+send_rests.Goals as goal

pub returns-clause-rested : goal.returns-clause-rested
returns-clause-rested g t c open_gate =
    let tells = tells_lane g.L.Lane.told g.L.Lane.asked g.L.Lane.lost g.L.Lane.faults g.L.Lane.ended in
    let v = c.args.pass.now.view in
    let w = c.send_rests-done.new.pass.view in
    let u = c.send_rest.new.pass.view in
    subst (λ (z : List (LaneDone g.row.L.Denot) × List (LaneDone g.row.L.Denot)). AreRested tells open_gate v u z.0 z.1) (λ i. (sym c.in-Some.ensures.items i, sym c.push_reserved.ensures.items i))
    (rested_snoc tells open_gate v w u c.pop.new.self.items c.send_rests-done.result.items c.in-Some.last c.send_rest.new.done c.send_rests-done.ensures.looked.goes (in_time_of g.H.Serial.first g.H.Serial.lawful w g.H.Serial.in_time c.send_rests-done.ensures.lawful) c.send_rest.ensures.looked.goes (in_time_of g.H.Serial.first g.H.Serial.lawful u g.H.Serial.in_time c.send_rest.ensures.lawful)
    (c.send_rests-done.ensures.rested open_gate) (c.send_rest.ensures.rested open_gate))
