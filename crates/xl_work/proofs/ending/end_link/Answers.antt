use Rattle.std.proofs.Common.{◌≡◌, subst, sym}
use Rattle.xl_base.specs.declared.lane_end.LaneEnd.TheVariants as lane_end
use Rattle.xl_work.specs.Lives.{Nothing, HasPlace, IsServing}
use Rattle.xl_work.proofs.ServeLaws.{closing_still, err_gives, if_err_as, on_err, serving_starved}
use Rattle.xl_work.proofs.ending.end_link.Goals as goal

pub returns-in_err-catch_up-clause-left : goal.returns-in_err-catch_up-clause-left
returns-in_err-catch_up-clause-left g c told before s =
    err_gives c.from_residual-in_err-catch_up.result c.in_err-catch_up.field-0.0 _ c.from_residual-in_err-catch_up.ensures.1 (serving_starved told before _ _ _ _ _ _ Nothing (c.catch_up.ensures.serving told before Nothing (c.in_ok-enter_end.ensures.serving told before s)) c.catch_up.ensures.place c.in_err-catch_up.ensures.memory)

pub returns-clause-left : goal.returns-clause-left
returns-clause-left g c told before s =
    let over = c.put_away.ensures.serving told before (c.catch_up.ensures.serving told before Nothing (c.in_ok-enter_end.ensures.serving told before s)) (closing_still _ _ c.catch_up.ensures.still c.in_ok-enter_end.ensures.closing) c.in_ok-catch_up.ensures.caught in
    let here = subst (λ live. IsServing told before (g.L.Lane.told c.put_away.new.worker.lane) c.put_away.new.worker.pass.view c.put_away.new.worker.conns.items live Nothing) (sym c.put_away.ensures.gone) over in
    if_err_as c.put_away.result Unit (λ end. end ≡ lane_end.NoMemory) _ (λ end _ is. serving_starved told before _ end _ _ _ _ Nothing here (subst (HasPlace c.put_away.new.worker.pass.view) (sym c.put_away.ensures.gone) tt) is) (on_err c.put_away.result Unit tt) c.put_away.ensures.memory
