use Rattle.std.proofs.Common.{rules, ◌≡◌, ◌∙◌, List, Ok, Err, true, false, ap, sym, subst}
use Rattle.std.specs.Vec.Iter.{into_iter_items}
use Rattle.xl_base.specs.declared.event.Event.{Event}
use Rattle.xl_base.specs.declared.journal.Head.{Head}
use Rattle.xl_house.specs.State.{start_of}
use Rattle.xl_replay.specs.Replays.{IsEnded, entries_left, events_of}
use Rattle.xl_replay.proofs.ReplayLaws.{all_ended, made_from, run_all, run_next, run_stopped, stopped_ended}
use Rattle.xl_replay.proofs.step.step_all.Goals as goal

pub returns-in-Ok-false-clause-ended : goal.returns-in-Ok-false-clause-ended
returns-in-Ok-false-clause-ended g c =
    let first = c.args.replayer in
    let paused = c.step_run-paused.result.0 in
    let steps = c.args.steps.items in
    let rest : List Event = events_of (into_iter_items c.step_run-paused.new.steps) in
    let is : c.step_run-paused.result.1 ≡ Ok false = search rules in
    let made = made_from first paused steps (c.step_run-paused.ensures.origin ∙ c.starts.invariant.origin) c.requires.allowed c.step_run-paused.ensures.made in
    let same = run_all paused.house.entries rest _ (events_of steps) c.step_run-paused.result.1 is c.step_run-paused.ensures.run c.starts.invariant.events in
    subst (λ r. IsEnded (start_of first.house.head) steps (entries_left r.left) r.ended) (sym c.stopped.ensures) (all_ended (start_of first.house.head) paused.house.entries steps made same)

pub returns-in-Err-clause-ended : goal.returns-in-Err-clause-ended
returns-in-Err-clause-ended g c =
    let first = c.args.replayer in
    let paused = c.step_run-paused.result.0 in
    let steps = c.args.steps.items in
    let rest : List Event = events_of (into_iter_items c.step_run-paused.new.steps) in
    let is : c.step_run-paused.result.1 ≡ Err c.in-Err.halt = search rules in
    let made = made_from first paused steps (c.step_run-paused.ensures.origin ∙ c.starts.invariant.origin) c.requires.allowed c.step_run-paused.ensures.made in
    let by = run_stopped paused.house.entries rest _ (events_of steps) c.step_run-paused.result.1 c.in-Err.halt is c.step_run-paused.ensures.run c.starts.invariant.events in
    subst (λ r. IsEnded (start_of first.house.head) steps (entries_left r.left) r.ended) (sym c.stopped-in-Err.ensures)
    (stopped_ended (start_of first.house.head) paused.house.entries steps c.in-Err.halt made by.0 by.1)

pub returns-in-Err-start_again-clause-ended : goal.returns-in-Err-start_again-clause-ended
returns-in-Err-start_again-clause-ended g c =
    let first = c.args.replayer in
    let paused = c.step_run-paused.result.0 in
    let steps = c.args.steps.items in
    let rest : List Event = events_of (into_iter_items c.step_run-paused.new.steps) in
    let is : c.step_run-paused.result.1 ≡ Ok true = search rules in
    let origin = c.step_run-paused.ensures.origin ∙ c.starts.invariant.origin in
    let next = run_next paused.house.entries rest _ (events_of steps) c.step_run-paused.result.1 is c.step_run-paused.ensures.run c.starts.invariant.events in
    subst (λ (head : Head). IsEnded (start_of head) steps (entries_left c.in-Err-start_again.replayed.left) c.in-Err-start_again.replayed.ended) (ap (λ o. o.0) origin)
    (c.in-Err-start_again.ensures.ended steps rest (ap (λ o. o.1) origin ∙ c.requires.allowed) next)
