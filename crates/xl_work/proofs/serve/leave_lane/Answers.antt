use Rattle.std.proofs.Common.{refl, [], sym, subst, None, List, Option}
use Rattle.xl_base.specs.declared.lane_end.LaneEnd.{LaneEnd}
use Rattle.xl_base.specs.declared.lane_end.LaneEnd.TheVariants as lane_end
use Rattle.xl_desk.specs.Passes.{Known}
use Rattle.xl_work.specs.Lives.{Nothing, IsLeft, IsServing}
use Rattle.xl_work.specs.declared.worker.Conn.{Conn}
use Rattle.xl_work.specs.declared.worker.Live.{Live}
use Rattle.xl_work.proofs.ServeLaws.{serving_begins, serving_starved}
use Rattle.xl_work.proofs.serve.leave_lane.Goals as goal

pub returns-in_default-clause-left : goal.returns-in_default-clause-left
returns-in_default-clause-left g c =
    let told = g.L.Lane.told c.args.lane in
    let view = c.args.pass.view in
    let open_gate = g.G.Gate.is_open c.args.gate.now in
    let same = c.unserved.ensures in
    subst (λ (z : g.row.L.Denot × LaneEnd × List Conn × Option Live). IsLeft open_gate z.1 told view (g.L.Lane.told z.0) view z.2 z.3) (λ i. (sym same.0 i, sym same.1 i, sym same.2 i, sym same.3 i))
    (serving_starved told view open_gate lane_end.NoMemory told view [] None Nothing (serving_begins told view) tt refl)

pub returns-clause-left : goal.returns-clause-left
returns-clause-left g c =
    let told = g.L.Lane.told c.args.lane in
    let view = c.args.pass.view in
    let open_gate = g.G.Gate.is_open c.args.gate.now in
    let same = c.done_of.ensures.lane in
    subst (λ (z : Known g.row.H-Origin.Denot × g.row.L.Denot × LaneEnd × List Conn × Option Live). IsLeft open_gate z.2 told view (g.L.Lane.told z.1) z.0.view z.3 z.4) (λ i. (sym c.done_of.ensures.pass i, sym same.0 i, sym same.1 i, sym c.done_of.ensures.conns i, sym same.2 i))
    (c.serve-end.ensures.served told view (subst (λ conns. IsServing told view told view conns None Nothing) (sym c.in-Ok.ensures.items) (serving_begins told view)))
