use Rattle.std.proofs.Common.{sym, subst}
use Rattle.std.proofs.lemmas.Result.{IfOk-weaker}
use Rattle.xl_cache.specs.declared.break_plan.BreakPlan.{BreakPlan}
use Rattle.xl_cache.specs.BreakPlans.{NamesAll, NamesOnly, MakesWay, IsFreeUnlessRecalled}
use Rattle.xl_cache.proofs.BreakPlanLaws.{names_all, names_only}
use Rattle.xl_cache.proofs.BreakLaws.{plan_fits, plan_less, plan_frees}
use Rattle.xl_cache.proofs.breaks.plan_breaks.Goals as goal

pub returns-clause-all : goal.returns-clause-all
returns-clause-all c =
    IfOk-weaker c.make_plan.result _ _ (λ p is. subst (λ (q : BreakPlan). NamesAll c.args.ask.now c.args.held.now q) (sym is) (names_all c.args.ask.now c.args.held.now)) c.make_plan.ensures

pub returns-clause-only : goal.returns-clause-only
returns-clause-only c =
    IfOk-weaker c.make_plan.result _ _ (λ p is. subst (λ (q : BreakPlan). NamesOnly c.args.ask.now c.args.held.now q) (sym is) (names_only c.args.ask.now c.args.held.now)) c.make_plan.ensures

pub returns-clause-makes_way : goal.returns-clause-makes_way
returns-clause-makes_way c =
    IfOk-weaker c.make_plan.result _ _
    (λ p is. subst (λ (q : BreakPlan). MakesWay c.args.ask.now q) (sym is) (λ n b i. (plan_fits c.args.ask.now c.args.held.now n b i, plan_less c.args.ask.now c.args.held.now n b i)))
    c.make_plan.ensures

pub returns-clause-free : goal.returns-clause-free
returns-clause-free c =
    IfOk-weaker c.make_plan.result _ _
    (λ p is. subst (λ (q : BreakPlan). IsFreeUnlessRecalled c.args.ask.now c.args.held.now q) (sym is) (λ none free. plan_frees c.args.ask.now c.args.held.now none free))
    c.make_plan.ensures
