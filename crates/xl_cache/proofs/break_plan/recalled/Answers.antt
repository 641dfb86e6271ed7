use Rattle.std.proofs.Common.{◌≡◌, Option, Some, map, sym, subst, ◌∙◌}
use Rattle.std.specs.Prelude.{IfSome}
use Rattle.std.specs.List.{filter}
use Rattle.xl_base.specs.Lists.{IsIn}
use Rattle.xl_matrix.specs.declared.claim.Claim.{Claim}
use Rattle.xl_cache.specs.BreakPlans.{is_slow, broken_claim}
use Rattle.xl_cache.proofs.BreakPlanLaws.{awaited_is_recalled, slow_is_recalled, none_is_slow}
use Rattle.xl_cache.proofs.break_plan.recalled.Goals as goal

pub returns-clause-awaited : goal.returns-clause-awaited
returns-clause-awaited c = subst (λ (o : Option Claim). IfSome c.args.plan.now.awaited (λ d. o ≡ Some d)) (sym c.find_recalled.ensures) (awaited_is_recalled c.args.plan.now)

pub returns-clause-begun : goal.returns-clause-begun
returns-clause-begun c = λ none.
    subst (λ (o : Option Claim). IfSome o (λ d. IsIn d (map broken_claim (filter is_slow c.args.plan.now.breaks)))) (sym c.find_recalled.ensures) (slow_is_recalled c.args.plan.now none)

pub returns-clause-none : goal.returns-clause-none
returns-clause-none c = λ none. none_is_slow c.args.plan.now (sym c.find_recalled.ensures ∙ none)
