use Rattle.xl_work.specs.Lives.{Nothing}
use Rattle.xl_work.proofs.ServeLaws.{err_gives, serving_starved}
use Rattle.xl_work.proofs.serve.finish.Goals as goal

pub returns-in_err-catch_up-clause-left : goal.returns-in_err-catch_up-clause-left
returns-in_err-catch_up-clause-left g c told before s =
    err_gives c.from_residual.result c.in_err-catch_up.field-0.0 _ c.from_residual.ensures.1 (serving_starved told before _ _ _ _ _ _ Nothing (c.catch_up.ensures.serving told before Nothing s) c.catch_up.ensures.place c.in_err-catch_up.ensures.memory)
