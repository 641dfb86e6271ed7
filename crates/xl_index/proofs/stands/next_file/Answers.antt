use Rattle.std.proofs.Common.{ℕ, List, subst}
use Rattle.std.specs.BTreeMap.Range.{IsRangeOf}
use Rattle.std.specs.declared.ops.Bound.{Bound}
use Rattle.std.specs.declared.ops.Bound.TheVariants.{Unbounded}
use Rattle.xl_index.specs.Stands.{stand_cmp}
use Rattle.xl_index.specs.declared.stands.Stand.{Stand}
use Rattle.xl_index.proofs.NextLaws.{next_found, next_other, next_none, IsRest}
use Rattle.xl_index.proofs.stands.next_file.Goals as goal

pub returns-in-Some : goal.returns-in-Some
returns-in-Some c cs told standing =
    next_found c.args.stands.now c.args.who c.args.past (c.in-Some.at.now, c.in-Some.field-0-1.now) _ (subst (λ (r : List (Stand × ℕ)). IsRest c.args.stands.now c.args.who c.args.past r) c.in-Some.ensures.steps (subst (λ (b : Bound Stand). IsRangeOf stand_cmp b Unbounded c.args.stands.now c.range.result) c.first_past-first.ensures (c.range.ensures.in_range tt))) c.if-at-who.true cs told standing

pub returns-in_default : goal.returns-in_default
returns-in_default c cs told standing =
    next_other c.args.stands.now c.args.who c.args.past (c.in-Some.at.now, c.in-Some.field-0-1.now) _ (subst (λ (r : List (Stand × ℕ)). IsRest c.args.stands.now c.args.who c.args.past r) c.in-Some.ensures.steps (subst (λ (b : Bound Stand). IsRangeOf stand_cmp b Unbounded c.args.stands.now c.range.result) c.first_past-first.ensures (c.range.ensures.in_range tt))) c.if-at-who.false cs standing

pub returns-in_default-2 : goal.returns-in_default-2
returns-in_default-2 c cs told standing =
    next_none c.args.stands.now c.args.who c.args.past (subst (λ (r : List (Stand × ℕ)). IsRest c.args.stands.now c.args.who c.args.past r) (rw c.in_default.is at c.next.ensures.steps).0 (subst (λ (b : Bound Stand). IsRangeOf stand_cmp b Unbounded c.args.stands.now c.range.result) c.first_past-first.ensures (c.range.ensures.in_range tt))) cs standing
