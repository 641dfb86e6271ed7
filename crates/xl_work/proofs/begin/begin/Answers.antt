use Rattle.std.proofs.Common.{◌≡◌, subst}
use Rattle.xl_base.specs.declared.lane_end.LaneEnd.TheVariants as lane_end
use Rattle.xl_work.specs.Lives.{Nothing, HasPlace, IsServing}
use Rattle.xl_work.proofs.ServeLaws.{both_err, if_err_as, on_ok_as, serving_carried, serving_lost}
use Rattle.xl_work.proofs.begin.begin.Goals as goal

pub returns-clause-serving : goal.returns-clause-serving
returns-clause-serving g c told before s =
    let here = subst (λ live. IsServing told before (g.L.Lane.told c.args.worker.now.lane) c.args.worker.now.pass.view c.args.worker.now.conns.items live Nothing) c.in-Some.is s in
    on_ok_as c.receive.result _ _ (λ carries. serving_carried told before _ _ _ _ _ _ here carries c.receive.ensures.same.0) c.receive.ensures.carries

pub returns-clause-left : goal.returns-clause-left
returns-clause-left g c told before s =
    let here = subst (λ live. IsServing told before (g.L.Lane.told c.args.worker.now.lane) c.args.worker.now.pass.view c.args.worker.now.conns.items live Nothing) c.in-Some.is s in
    if_err_as c.receive.result _ (λ end. end ≡ lane_end.NoMemory) _ (λ end loses is. serving_lost told before _ end _ _ _ _ c.in-Some.live c.receive.new.live here loses.0 is loses.1 (subst (HasPlace c.args.worker.now.pass.view) c.in-Some.is c.requires.place)) (both_err c.receive.result _ _ c.receive.ensures.loses c.receive.ensures.kept) c.receive.ensures.memory
