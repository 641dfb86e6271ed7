use Rattle.std.proofs.Common.{ap, sym, subst}
use Rattle.xl_base.specs.Limits.{most_numbers}
use Rattle.xl_core.specs.State.{CoreState, step_begun}
use Rattle.xl_front_nlm.specs.Short.{Leaves}
use Rattle.xl_house.specs.declared.machine.Machine.{Machine}
use Rattle.xl_house.proofs.HearLaws.{settle_ready}
use Rattle.xl_plan.proofs.BudgetLaws.{leaves_then}
use Rattle.xl_house.proofs.machine.hear_plain.Goals as goal

pub settle-requires : goal.settle-requires
settle-requires g c = record { ready = settle_ready _ _ c.requires.ready c.in_ok-outs.ensures.leaves }

pub returns-clause-leaves : goal.returns-clause-leaves
returns-clause-leaves g c =
    subst (λ (t : CoreState). Leaves most_numbers (step_begun c.args.machine.now.layers.core) t) (sym (ap (λ (m : Machine). m.layers.core) c.take_paused.ensures.rest))
    (leaves_then _ _ _ most_numbers 0 c.in_ok-outs.ensures.leaves c.in_ok-settle.ensures.leaves)
