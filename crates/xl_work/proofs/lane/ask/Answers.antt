use Rattle.std.proofs.Common.{arith}
use Rattle.xl_work.proofs.LifeLaws.{serving_left}
use Rattle.xl_work.proofs.ServeLaws.{err_gives, not_open, serving_starved}
use Rattle.xl_work.proofs.lane.ask.Goals as goal

pub returns-in_err-catch_up-clause-left : goal.returns-in_err-catch_up-clause-left
returns-in_err-catch_up-clause-left g c told before hand s =
    err_gives c.from_residual.result c.in_err-catch_up.field-0.0 _ c.from_residual.ensures.1 (serving_starved told before _ _ _ _ _ _ hand (c.in_err-catch_up.ensures.serving told before hand (c.asks.invariant.serving told before hand s)) c.in_err-catch_up.ensures.place c.in_err-catch_up.ensures.memory)

pub returns-clause-left : goal.returns-clause-left
returns-clause-left g c told before hand s =
    let turns = c.requires.turns in
    let over = c.asks.auto in
    serving_left told before _ _ _ _ _ _ hand (c.asks.invariant.serving told before hand s) c.asks.invariant.place (not_open _ (λ is. let same = c.asks.invariant.passes is in omega arith)) (λ _. c.asks.invariant.caught (omega arith))
