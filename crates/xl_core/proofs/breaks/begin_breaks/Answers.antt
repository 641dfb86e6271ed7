use Rattle.std.proofs.Common.{List, length, ap, subst, sym, ◌∙◌, Option, arith}
use Rattle.xl_cache.specs.declared.break_plan.BreakPlan.{BreakPlan}
use Rattle.xl_matrix.specs.declared.claim.CacheKind.{CacheKind}
use Rattle.xl_matrix.specs.declared.claim.Claim.{Claim}
use Rattle.xl_core.specs.BreaksInOrder.{AreHeldThen}
use Rattle.xl_core.specs.Whole.{state_of}
use Rattle.xl_core.proofs.BreaksInOrderLaws.{all_held, breaks_few, begun_so}
use Rattle.xl_core.proofs.breaks.begin_breaks.Goals as goal

pub tell_all-requires : goal.tell_all-requires
tell_all-requires c =
    let same = c.as_slice-breaks.ensures ∙ ap (λ (p : BreakPlan). p.breaks) c.requires.plan in
    let many = ap length same in
    let few = breaks_few c.args.ask.now c.args.parts.now.table in
    omega (arith, many, few, c.requires.good.kept.room, c.requires.numbers)

pub begin_all-requires-clause-held : goal.begin_all-requires-clause-held
begin_all-requires-clause-held c =
    let same = c.as_slice-breaks.ensures ∙ ap (λ (p : BreakPlan). p.breaks) c.requires.plan in
    subst (λ (bs : List (Claim × Option CacheKind)). AreHeldThen c.moment_after-deadline.result bs c.args.parts.now.table) (sym same)
    (all_held c.moment_after-deadline.result c.args.ask.now c.args.parts.now.table c.requires.good.kept.ordered c.requires.good.single)

pub returns-clause-state : goal.returns-clause-state
returns-clause-state c =
    let same = c.as_slice-breaks.ensures ∙ ap (λ (p : BreakPlan). p.breaks) c.requires.plan in
    begun_so (state_of c.args.parts.now) c.args.ask.now c.as_slice-breaks.result.now c.moment_after-deadline.result c.in_ok-effects.effects c.in_ok-effects.last c.begin_all.new.table c.requires.good same c.moment_after-deadline.ensures c.in_ok-effects.ensures.told c.in_ok-effects.ensures.last c.begin_all.ensures
