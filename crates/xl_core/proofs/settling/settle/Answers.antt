use Rattle.std.proofs.Common.{◌≡◌, true, false, [], List, Option, option_map, ap, sym, subst, ◌∙◌}
use Rattle.std.specs.Option.{IfSome}
use Rattle.std.specs.List.{AllByRecursion}
use Rattle.xl_matrix.specs.declared.claim.Claim.{Claim}
use Rattle.xl_table.specs.Held.{has_one_party}
use Rattle.xl_core.specs.Blockers.{before_number}
use Rattle.xl_core.specs.InFront.{IsInLine, IsKnown}
use Rattle.xl_core.specs.declared.blockers.Front.TheVariants.{Before}
use Rattle.xl_core.proofs.UnsettledLaws.{called_front, called_line, free_is_called}
use Rattle.xl_core.specs.Judge.{IsRow, judged}
use Rattle.xl_core.specs.Passed.{FreesNobody, StandBefore}
use Rattle.xl_core.specs.Settle.{settle}
use Rattle.xl_core.specs.Whole.{state_of}
use Rattle.xl_core.specs.Ways.{made_way}
use Rattle.xl_wait.specs.declared.waiter.Waiter.{Waiter}
use Rattle.xl_core.specs.State.{CoreState}
use Rattle.xl_core.specs.declared.ask.Effect.{Effect}
use Rattle.xl_core.specs.declared.passed.Passed.{Passed}
use Rattle.xl_core.specs.declared.settling.Called.{Called}
use Rattle.xl_core.proofs.DoorLaws.{called_row}
use Rattle.xl_core.proofs.AskCode.{parts_stores, may_before, hands_between}
use Rattle.xl_core.proofs.TurnCode.{called_new, called_timely, timely_front}
use Rattle.xl_core.proofs.WayCode.{called_alone_then}
use Rattle.xl_core.proofs.TurnLaws.{turn_is_found, none_is_found}
use Rattle.xl_core.proofs.settling.settle.Goals as goal

pub returns-in_default-clause-turn : goal.returns-in_default-clause-turn
unfolding settle
returns-in_default-clause-turn g c =
    λ n may. none_is_found c.args.left.now (state_of c.args.parts.now) [] c.args.parts.now.queue
    (sym (free_is_called (state_of c.args.parts.now) c.requires.good) ∙ sym c.in_ok-called.ensures.called ∙ ap (λ (r : Option (Called × Passed)). option_map (λ x. x.0) r) c.in_default.is) n

pub judge_all-requires-clause-known : goal.judge_all-requires-clause-known
judge_all-requires-clause-known g c =
    subst (λ (cs : List Claim). IsKnown (before_number c.in-Some.called.id c.make_way.new.parts.queue) c.in_ok-begun.known (state_of c.make_way.new.parts) cs) (c.as_slice.ensures ∙ sym c.as_slice-3.ensures) c.in_ok-begun.ensures.known

pub judge_all-requires-clause-row : goal.judge_all-requires-clause-row
judge_all-requires-clause-row g c =
    subst IsRow (sym c.as_slice-3.ensures)
    (called_row c.args.parts.now c.in-Some.called c.requires.good
    (sym (free_is_called (state_of c.args.parts.now) c.requires.good) ∙ sym c.in_ok-called.ensures.called ∙ ap (λ (r : Option (Called × Passed)). option_map (λ x. x.0) r) c.in-Some.is))

pub judge_all-requires-clause-party : goal.judge_all-requires-clause-party
judge_all-requires-clause-party g c =
    subst (λ (cs : List Claim). AllByRecursion (λ d. AllByRecursion (λ e. has_one_party d e ≡ true) c.make_way.new.parts.table) cs) (sym c.as_slice-3.ensures)
    (called_alone_then (before_number c.in-Some.called.id c.args.parts.now.queue) c.args.parts.now c.make_way.new.parts c.in-Some.called c.in_ok-begun.begun c.requires.good
    (sym (free_is_called (state_of c.args.parts.now) c.requires.good) ∙ sym c.in_ok-called.ensures.called ∙ ap (λ (r : Option (Called × Passed)). option_map (λ x. x.0) r) c.in-Some.is)
    (ap (λ (cs : List Claim). made_way (before_number c.in-Some.called.id c.args.parts.now.queue) c.in-Some.called.plea cs (state_of c.args.parts.now)) (sym c.as_slice.ensures) ∙ c.in_ok-begun.ensures.way))

pub judge_all-requires-clause-new : goal.judge_all-requires-clause-new
judge_all-requires-clause-new g c =
    (called_new (state_of c.args.parts.now) [] c.args.parts.now.queue c.in-Some.called (sym (free_is_called (state_of c.args.parts.now) c.requires.good) ∙ sym c.in_ok-called.ensures.called ∙ ap (λ (r : Option (Called × Passed)). option_map (λ x. x.0) r) c.in-Some.is))

pub returns-clause-turn : goal.returns-clause-turn
unfolding settle
returns-clause-turn g c =
    λ n may. turn_is_found c.args.left.now (state_of c.args.parts.now) (state_of c.make_way.new.parts) (state_of c.judge_all.new.parts) (state_of c.serve.new.parts) (before_number c.in-Some.called.id c.args.parts.now.queue) [] c.args.parts.now.queue c.in-Some.called c.in_ok-begun.begun c.in_ok-ruling.ruling c.in_ok-serve.field-0
    (sym (free_is_called (state_of c.args.parts.now) c.requires.good) ∙ sym c.in_ok-called.ensures.called ∙ ap (λ (r : Option (Called × Passed)). option_map (λ x. x.0) r) c.in-Some.is)
    (called_front (state_of c.args.parts.now) c.in-Some.called c.requires.good)
    (ap (λ (cs : List Claim). made_way (before_number c.in-Some.called.id c.args.parts.now.queue) c.in-Some.called.plea cs (state_of c.args.parts.now)) (sym c.as_slice.ensures) ∙ c.in_ok-begun.ensures.way)
    n
    (
    ap (λ (cs : List Claim). judged n (before_number c.in-Some.called.id c.args.parts.now.queue) c.args.left.now c.in-Some.called.plea cs (state_of c.make_way.new.parts)) (sym c.as_slice-3.ensures)
    ∙ c.in_ok-ruling.ensures.judged n (before_number c.in-Some.called.id c.args.parts.now.queue) (timely_front c.in-Some.called.plea _ _ _ (called_timely (state_of c.args.parts.now) c.in-Some.called _ (sym (free_is_called (state_of c.args.parts.now) c.requires.good) ∙ sym c.in_ok-called.ensures.called ∙ ap (λ (r : Option (Called × Passed)). option_map (λ x. x.0) r) c.in-Some.is)) c.make_way.ensures.queue) (may_before n (state_of c.judge_all.new.parts) (state_of c.serve.new.parts) (parts_stores c.judge_all.new.parts c.serve.new.parts c.serve.ensures.stable c.serve.ensures.failed c.serve.ensures.given) may))
    c.in_ok-serve.ensures.turned

pub returns-clause-keeper : goal.returns-clause-keeper
returns-clause-keeper g c =
    hands_between (state_of c.args.parts.now) (state_of c.make_way.new.parts) (state_of c.judge_all.new.parts) (state_of c.serve.new.parts) _ _
    (parts_stores c.args.parts.now c.make_way.new.parts c.make_way.ensures.stable c.make_way.ensures.failed c.make_way.ensures.given)
    c.in_ok-ruling.ensures.on c.in_ok-ruling.ensures.keeper
    (parts_stores c.judge_all.new.parts c.serve.new.parts c.serve.ensures.stable c.serve.ensures.failed c.serve.ensures.given)

pub returns-clause-before : goal.returns-clause-before
returns-clause-before g c = λ some.
    let s = state_of c.args.parts.now in
    let kept = c.passed_then-stay.ensures.seen some in
    let found = sym (free_is_called (state_of c.args.parts.now) c.requires.good) ∙ sym c.in_ok-called.ensures.called ∙ ap (λ (r : Option (Called × Passed)). option_map (λ x. x.0) r) c.in-Some.is in
    subst (λ (o : Option Called). IfSome o (λ called. FreesNobody called c.passed_then-stay.result.file s × StandBefore called c.passed_then-stay.result s × ((made_way (before_number called.id c.args.parts.now.queue) called.plea called.asked s).0 ≡ []))) (sym found) (
      subst (λ (p : Passed). FreesNobody c.in-Some.called p.file s) (sym kept.0) (c.in_ok-frees_nobody.ensures.free kept.1),
      subst (λ (p : Passed). StandBefore c.in-Some.called p s) (sym kept.0) (subst (λ (r : Option (Called × Passed)). IfSome r (λ x. StandBefore x.0 x.1 s)) c.in-Some.is c.in_ok-called.ensures.before),
      ap (λ (way : List Effect × CoreState). way.0) (ap (λ (cs : List Claim). made_way (before_number c.in-Some.called.id c.args.parts.now.queue) c.in-Some.called.plea cs s) (sym c.as_slice.ensures) ∙ c.in_ok-begun.ensures.way) ∙ sym c.as_slice-2.ensures ∙ kept.2,
    )

pub make_way-requires-clause-line : goal.make_way-requires-clause-line
make_way-requires-clause-line g c =
    subst (λ (cs : List Claim). AllByRecursion (IsInLine (Before c.in-Some.called.id) c.args.parts.now.queue) cs) (sym c.as_slice.ensures) (called_line (state_of c.args.parts.now) c.in-Some.called c.requires.good (sym (free_is_called (state_of c.args.parts.now) c.requires.good) ∙ sym c.in_ok-called.ensures.called ∙ ap (λ (r : Option (Called × Passed)). option_map (λ x. x.0) r) c.in-Some.is))

pub judge_all-requires-clause-line : goal.judge_all-requires-clause-line
judge_all-requires-clause-line g c =
    subst (λ (ws : List Waiter). AllByRecursion (IsInLine (Before c.in-Some.called.id) ws) c.as_slice-3.result.now) (sym c.make_way.ensures.queue)
    (subst (λ (cs : List Claim). AllByRecursion (IsInLine (Before c.in-Some.called.id) c.args.parts.now.queue) cs) (sym c.as_slice-3.ensures) (called_line (state_of c.args.parts.now) c.in-Some.called c.requires.good (sym (free_is_called (state_of c.args.parts.now) c.requires.good) ∙ sym c.in_ok-called.ensures.called ∙ ap (λ (r : Option (Called × Passed)). option_map (λ x. x.0) r) c.in-Some.is)))
