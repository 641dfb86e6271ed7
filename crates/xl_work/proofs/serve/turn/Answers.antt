use Rattle.xl_work.specs.Lives.{Nothing}
use Rattle.xl_work.proofs.ServeLaws.{err_gives}
use Rattle.xl_work.proofs.serve.turn.Goals as goal

pub returns-in_err-check-clause-left : goal.returns-in_err-check-clause-left
returns-in_err-check-clause-left g c told before s =
    err_gives c.from_residual-in_err-check.result c.in_err-check.field-0.0 _ c.from_residual-in_err-check.ensures.1
    (c.in_err-check.ensures.left (g.G.Gate.is_open c.args.gate.now) told before Nothing (c.in_ok-finish.ensures.serving told before (c.in_ok-enter_messages.ensures.serving told before (c.in_ok-begin.ensures.serving told before s))))
