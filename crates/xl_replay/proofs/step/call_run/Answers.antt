use Rattle.std.proofs.Common.{rules, ◌≡◌, ◌∷◌, ◌++◌, List, ap, sym, ◌∙◌}
use Rattle.std.specs.Vec.Iter.{into_iter_items}
use Rattle.xl_base.specs.declared.event.Event.{Event}
use Rattle.xl_capture.specs.declared.step.Step.{Step}
use Rattle.xl_replay.specs.Replays.{events_in, events_of}
use Rattle.xl_replay.proofs.EnterLaws.{cut_short}
use Rattle.xl_replay.proofs.step.call_run.Goals as goal

pub returns-in-Err-clause-paused : goal.returns-in-Err-clause-paused
returns-in-Err-clause-paused g c =
    let before = c.steps.pass.view.seen in
    let rest : List Event = events_of (into_iter_items c.next.new.self) in
    let gives : into_iter_items c.steps.steps ≡ c.in-Some.field-0 ∷ into_iter_items c.next.new.self = search rules in
    let event_is : c.in-Some.field-0.event ≡ c.in-Some.event = search rules in
    let entered = c.in-Err.ensures.entered in
    cut_short before c.call_one.new.pass.view.seen c.in-Some.event rest _ c.in-Err.halt entered.0 entered.2
    (ap (λ (event : Event). events_in before ++ event ∷ rest) (sym event_is) ∙ ap (λ (steps : List Step). events_in before ++ events_of steps) (sym gives) ∙ c.steps.invariant.events)
