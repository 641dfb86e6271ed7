use Rattle.std.proofs.Common.{refl, [], sym, subst, None, List, Option}
use Rattle.xl_base.specs.declared.lane_end.LaneEnd.TheVariants as lane_end
use Rattle.xl_work.specs.Crews.{tells_lane}
use Rattle.xl_work.specs.Lives.{Nothing, IsLeft, IsServing}
use Rattle.xl_work.specs.declared.worker.Conn.{Conn}
use Rattle.xl_work.specs.declared.worker.Live.{Live}
use Rattle.xl_work.proofs.AllLaws.{first_done, first_starved}
use Rattle.xl_work.proofs.LifeLaws.{in_time_of}
use Rattle.xl_work.proofs.ServeLaws.{serving_begins, serving_starved}
use Rattle.xl_work.proofs.first.serve_first.Goals as goal

pub returns-in_default-clause-served : goal.returns-in_default-clause-served
returns-in_default-clause-served g c =
    let told = g.L.Lane.told c.args.work.1 in
    let view = c.args.pass.view in
    let open_gate = g.G.Gate.is_open c.args.gate.now in
    let same = c.unserved.ensures in
    first_starved (tells_lane g.L.Lane.told g.L.Lane.asked g.L.Lane.lost g.L.Lane.faults g.L.Lane.ended) g.H.Serial.may_halt open_gate c.args.work.0 c.args.work.1 (g.T.Clock.told c.args.clock.now) view c.unserved.result
    (subst (λ (z : g.row.L.Denot × List Conn × Option Live). IsLeft open_gate lane_end.NoMemory told view (g.L.Lane.told z.0) view z.1 z.2) (λ i. (sym same.0 i, sym same.2 i, sym same.3 i)) (serving_starved told view open_gate lane_end.NoMemory told view [] None Nothing (serving_begins told view) tt refl)) same.0 same.1

pub returns-clause-served : goal.returns-clause-served
returns-clause-served g c =
    let told = g.L.Lane.told c.args.work.1 in
    let cut = c.split-own.new.pass.view in
    let served = c.serve_timed-end.new.timed in
    let same = c.done_of-pass.ensures.lane in
    first_done (tells_lane g.L.Lane.told g.L.Lane.asked g.L.Lane.lost g.L.Lane.faults g.L.Lane.ended) g.H.Serial.may_halt (g.G.Gate.is_open c.args.gate.now) c.args.work.0 c.args.work.1 (g.T.Clock.told c.args.clock.now) (g.T.Clock.told c.serve_timed-end.new.clock)
    c.args.pass.view cut c.split-own.result.view c.done_of-pass.result.0.view served.worker.pass.view served.pass.view c.join.new.pass.view c.done_of-pass.result.1 served.worker.lane c.serve_timed-end.result _ served.worker.live
    c.split-own.ensures.pass c.split-own.ensures.new (λ i. (c.done_of-pass.ensures.pass i).view) same.0 same.1 c.done_of-pass.ensures.conns same.2
    (c.serve_timed-end.ensures.left told cut (subst (λ conns. IsServing told cut told cut conns None Nothing) (sym c.in-Ok.ensures.items) (serving_begins told cut)))
    c.serve_timed-end.ensures.timed c.serve_timed-end.ensures.end c.serve_timed-end.ensures.most c.join.ensures.joined
    (in_time_of g.H.Serial.first g.H.Serial.lawful c.join.new.pass.view g.H.Serial.in_time c.join.ensures.lawful)
