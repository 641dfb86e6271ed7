use Rattle.std.proofs.Common.{◌∙◌, ℕ, List, [], Result, sym, ap}
use Rattle.xl_rpc.specs.declared.fault.RpcBad.{RpcBad}
use Rattle.xl_plan.specs.Plans.{carried}
use Rattle.xl_front_nfs.specs.Courses.{course_of}
use Rattle.xl_front_nfs.specs.Steps.{Course, fault_of, step_plan, goes_on}
use Rattle.xl_front_nfs.proofs.compound.refuse_rest.Goals as goal

pub returns-in_ok-refuse-in-Ok-clause-done : goal.returns-in_ok-refuse-in-Ok-clause-done
unfolding step_plan
returns-in_ok-refuse-in-Ok-clause-done c = λ n files others lists core.
    ap (λ (r : Result (ℕ × List ℕ) RpcBad). carried n core lists (step_plan files others (course_of c.args.progress.now) core lists (fault_of r))) c.in-Ok.ensures
    ∙ ap (λ (d : Course). (d, [], lists, core)) (sym c.in_ok-refuse-in-Ok.ensures.noted)

pub returns-in_ok-refuse-in-Ok-clause-ends : goal.returns-in_ok-refuse-in-Ok-clause-ends
returns-in_ok-refuse-in-Ok-clause-ends c = ap goes_on c.in_ok-refuse-in-Ok.ensures.noted
