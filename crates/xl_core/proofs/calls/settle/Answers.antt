use Rattle.std.proofs.Common.{◌≡◌, ◌<◌, Bool, if◌then◌else◌, Option, Some, None, [], List, Ok, ap, sym, subst, ◌∙◌, is_some, option_map, IfSome, refl}
use Rattle.xl_wait.specs.declared.waiter.Waiter.{Waiter}
use Rattle.xl_core.specs.Blockers.{before_number}
use Rattle.xl_core.specs.Passed.{ArePassed, FreesNobody, StandBefore}
use Rattle.xl_core.specs.Settle.{first_called}
use Rattle.xl_core.specs.State.{CoreState}
use Rattle.xl_core.specs.Ways.{made_way}
use Rattle.xl_core.specs.Unsettled.{AreHeldUp}
use Rattle.xl_core.specs.Whole.{state_of}
use Rattle.xl_core.specs.declared.ask.Effect.{Effect}
use Rattle.xl_core.specs.declared.passed.Passed.{Passed}
use Rattle.xl_core.specs.declared.unsettled.Unsettled.{Unsettled}
use Rattle.xl_core.specs.declared.unsettled.Unsettled.TheVariants.{Files}
use Rattle.xl_core.proofs.HeldUpLaws.{any_up, idle_none, settle_up}
use Rattle.xl_core.proofs.PassedLaws.{nobody_passed, turn_passed}
use Rattle.xl_core.proofs.calls.settle.Goals as goal

abbrev told_with : List Effect → CoreState → List Effect × CoreState
told_with effects t = (effects, t)

pub returns-then-is_none-clause-turn : goal.returns-then-is_none-clause-turn
returns-then-is_none-clause-turn g c =
    λ n may. idle_none c.args.unsettled.now c.args.left.now (state_of c.args.parts.now) c.requires.good (sym c.is_none.ensures ∙ c.if-is_none.true) c.requires.held_up n

pub returns-in_err-turn-clause-held_up : goal.returns-in_err-turn-clause-held_up
returns-in_err-turn-clause-held_up g c = subst (λ (u : Unsettled). AreHeldUp u (state_of c.settle.new.parts)) (sym c.replace-before.ensures.after) (any_up (state_of c.settle.new.parts))

pub returns-in_err-turn-clause-passed : goal.returns-in_err-turn-clause-passed
returns-in_err-turn-clause-passed g c = subst (λ (p : Passed). ArePassed p (state_of c.settle.new.parts)) (sym c.replace-front.ensures.after) (nobody_passed _ _ refl)

pub returns-in_default-clause-held_up : goal.returns-in_default-clause-held_up
returns-in_default-clause-held_up g c =
    let t = state_of c.settle.new.parts in
    let up =
    settle_up c.args.unsettled.now c.args.left.now (state_of c.args.parts.now) t None (λ n may. c.in_ok-turn.ensures.turn n may ∙ ap (λ (r : Option (List Effect × Passed)). option_map (λ x. told_with x.0 t) r) c.in_default.is)
    (λ e. ap state_of (c.in_ok-turn.ensures.none (ap (λ (r : Option (List Effect × Passed)). Ok r) c.in_default.is))) c.requires.good c.requires.held_up in
    subst (λ (u : Unsettled). AreHeldUp u t) (sym c.left_by_turn.ensures)
    (subst (λ (b : Bool). AreHeldUp (if b then c.replace-before.result else Files []) t) (sym (c.is_some.ensures ∙ ap is_some c.in_default.is)) up)

pub returns-clause-held_up : goal.returns-clause-held_up
returns-clause-held_up g c =
    let t = state_of c.settle.new.parts in
    let up =
    settle_up c.args.unsettled.now c.args.left.now (state_of c.args.parts.now) t (Some c.in-Some.effects) (λ n may. c.in_ok-turn.ensures.turn n may ∙ ap (λ (r : Option (List Effect × Passed)). option_map (λ x. told_with x.0 t) r) c.in-Some.is)
    (λ e. absurd cc) c.requires.good c.requires.held_up in
    subst (λ (u : Unsettled). AreHeldUp u t) (sym c.left_by_turn.ensures)
    (subst (λ (b : Bool). AreHeldUp (if b then c.replace-before.result else Files []) t) (sym (c.is_some.ensures ∙ ap is_some c.in-Some.is))
    (subst (λ (u : Unsettled). AreHeldUp u t) (sym c.replace-before.ensures.value) up))

pub returns-clause-passed : goal.returns-clause-passed
returns-clause-passed g c =
    let s = state_of c.args.parts.now in
    let t = state_of c.settle.new.parts in
    turn_passed c.args.left.now s t c.in-Some.effects c.in-Some.stay (λ n may. c.in_ok-turn.ensures.turn n may ∙ ap (λ (r : Option (List Effect × Passed)). option_map (λ x. told_with x.0 t) r) c.in-Some.is) c.requires.good
    (subst (λ (r : Option (List Effect × Passed)). IfSome r (λ x. 0 < x.1.count → IfSome (first_called s [] c.args.parts.now.queue) (λ called. FreesNobody called x.1.file s × StandBefore called x.1 s × ((made_way (before_number called.id c.args.parts.now.queue) called.plea called.asked s).0 ≡ [])))) c.in-Some.is c.in_ok-turn.ensures.before)
