use Rattle.std.proofs.Common.{rules, true, ◌≡◌, ◌++◌, ◌∙◌, List, ap, subst}
use Rattle.std.specs.Vec.Iter.{into_iter_items}
use Rattle.xl_base.specs.declared.event.Event.{Event}
use Rattle.xl_base.specs.declared.journal.Entry.{Entry}
use Rattle.xl_replay.specs.Enter.{HasRun}
use Rattle.xl_replay.specs.Replays.{Replaying, events_in, events_of, origin_of}
use Rattle.xl_replay.proofs.EnterLaws.{goes_on, has_run, none_run, seen_all}
use Rattle.xl_replay.proofs.step.step_run.Goals as goal

pub returns-in-Err-clause-run : goal.returns-in-Err-clause-run
returns-in-Err-clause-run g c =
    let left : List Event = events_of (into_iter_items c.args.steps.now) in
    let same : c.in-Err.field-0.machine.house.entries ≡ c.args.replayer.house.entries = search rules in
    none_run c.in-Err.field-0.machine.house.entries left _ left (ap (λ (es : List Entry). events_in es ++ left) same)

pub returns-clause-run : goal.returns-clause-run
returns-clause-run g c =
    let pass = c.call_run-called.new.pass in
    let rest : List Event = events_of (into_iter_items c.call_run-called.new.steps) in
    let left : List Event = events_of (into_iter_items c.args.steps.now) in
    let seen = seen_all (λ (r : Replaying). r.house.entries) (λ (r : Replaying). r.house.halt) origin_of _ pass.view c.close-replayer.result c.close-replayer.ensures c.call_run-called.ensures.alone in
    let was : c.in-Ok.made.1.view.seen ≡ c.args.replayer.house.entries = ap (λ v. v.seen) c.in-Ok.ensures.pass in
    let run = has_run pass.view.seen rest _ c.call_run-called.result c.ended_in-ended.result c.call_run-called.ensures.paused (λ fine. (c.ended_in-ended.ensures.same fine).0) in
    subst (λ (es : List Entry). HasRun es rest (events_in c.args.replayer.house.entries ++ left) c.ended_in-ended.result) seen
    (subst (λ (es : List Entry). HasRun pass.view.seen rest (events_in es ++ left) c.ended_in-ended.result) was run)

pub returns-clause-fewer : goal.returns-clause-fewer
returns-clause-fewer g c = λ is. c.call_run-called.ensures.fewer ((c.ended_in-ended.ensures.same (goes_on c.ended_in-ended.result true is)).0 ∙ is)

pub returns-clause-whole : goal.returns-clause-whole
returns-clause-whole g c = λ fine. (c.ended_in-ended.ensures.same fine).1
