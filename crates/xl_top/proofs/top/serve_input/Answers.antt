use Rattle.xl_top.proofs.ServeLaws.{concluded_stepped}
use Rattle.xl_jobs.proofs.WriteLaws.{began_none}
use Rattle.xl_top.proofs.top.serve_input.Goals as goal

pub returns-in-Ok-clause-idle : goal.returns-in-Ok-clause-idle
returns-in-Ok-clause-idle g c = λ idle. absurd (concluded_stepped c.serve.result.status c.serve.ensures.known idle)

pub returns-in-Err-clause-began_starved : goal.returns-in-Err-clause-began_starved
returns-in-Err-clause-began_starved g c = λ starved. began_none _ _
