use Rattle.std.proofs.Common.{◌≡◌, [], Option, IfOk, sym, subst, ◌∙◌}
use Rattle.std.specs.Option.{IfSome}
use Rattle.xl_core.specs.Judge.{Ruled}
use Rattle.xl_core.specs.State.{MayBe}
use Rattle.xl_core.specs.InFront.{in_front_of}
use Rattle.xl_core.specs.Whole.{state_of}
use Rattle.xl_core.specs.declared.judge.Ruling.{Ruling}
use Rattle.xl_core.specs.declared.judge.Ruling.TheVariants.{Gets, Waits}
use Rattle.xl_core.proofs.AskCode.{only_one, parts_stores}
use Rattle.xl_core.proofs.RowLaws.{judged_alone, gets_few, waits_room}
use Rattle.xl_core.proofs.StoreLaws.{hands_same}
use Rattle.xl_core.proofs.judge.judge_all.Goals as goal

pub returns-in-Some-2-clause-few : goal.returns-in-Some-2-clause-few
returns-in-Some-2-clause-few g c = λ e. absurd ((subst (λ (o : Option Ruling). IfSome o (λ r. (r ≡ Gets → ⊥) × (r ≡ Waits → ⊥))) c.in-Some-2.is c.in_ok-ruling.ensures.told).0 cc)

pub returns-in-Some-2-clause-waits : goal.returns-in-Some-2-clause-waits
returns-in-Some-2-clause-waits g c = λ e. absurd ((subst (λ (o : Option Ruling). IfSome o (λ r. (r ≡ Gets → ⊥) × (r ≡ Waits → ⊥))) c.in-Some-2.is c.in_ok-ruling.ensures.told).1 cc)

pub returns-in-len1-clause-judged : goal.returns-in-len1-clause-judged
returns-in-len1-clause-judged g c =
    let s = state_of c.args.parts.now in
    let t = state_of c.judge_alone.new.parts in
    λ n earlier at. subst (λ (x : Ruled). IfOk c.judge_alone.result (λ r. MayBe n t → x ≡ (r, [], t)))
    (sym (judged_alone n earlier (in_front_of c.args.front c.args.parts.now.queue) c.args.left.now c.args.plea.now c.args.claims.now _ s c.check_grace.result c.in_ok-ruling.field-0 at (only_one c.args.claims.now _ c.in-len1.len_at_least c.in-len1.len_below) (c.check_grace.ensures.ruling s) c.in_default.is c.in_ok-ruling.ensures.ruling c.in_default-2.is))
    (c.judge_alone.ensures.ruled n)

pub returns-clause-few : goal.returns-clause-few
returns-clause-few g c = λ e. gets_few (in_front_of c.args.front c.args.parts.now.queue) c.args.left.now c.args.plea.now c.args.claims.now (state_of c.args.parts.now) c.in_ok-stop.stop c.in_ok-stop.ensures.stop (sym c.unwrap_or.ensures ∙ cc)

pub returns-clause-waits : goal.returns-clause-waits
returns-clause-waits g c = λ e. waits_room (in_front_of c.args.front c.args.parts.now.queue) c.args.left.now c.args.plea.now c.args.claims.now (state_of c.args.parts.now) c.in_ok-stop.stop c.in_ok-stop.ensures.stop (sym c.unwrap_or.ensures ∙ cc)

pub returns-clause-keeper : goal.returns-clause-keeper
returns-clause-keeper g c = hands_same (state_of c.args.parts.now) (state_of c.judge_row.new.parts) _ (parts_stores c.args.parts.now c.judge_row.new.parts c.judge_row.ensures.stable c.judge_row.ensures.failed c.judge_row.ensures.given)
