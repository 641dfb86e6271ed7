-- What was read of the input is what is looked at of it.
use Rattle.std.proofs.Common.{rules, ◌≡◌, ◌∙◌, ap, sym, subst, ℕ, Result}
use Rattle.xl_capture.specs.Capture.{captured}
use Rattle.xl_house.specs.Journals.{most_entries}
use Rattle.xl_replay.specs.Captures.{FailsBefore, IsReplayed, IsBegun, IsCutAt, IsUnstartedAt}
use Rattle.xl_top.specs.Job.{capped}
use Rattle.xl_capture.specs.declared.capture.Capture.{Capture}
use Rattle.xl_top.proofs.JobLaws.{only_starts}
use Rattle.xl_top.proofs.ReadLaws.{read_whole}
use Rattle.xl_top.proofs.top.replay_input.Goals as goal

pub returns-clause-replayed : goal.returns-clause-replayed
returns-clause-replayed g c = λ all told status.
    let same : captured c.deref.result.now ≡ captured (capped all) = ap captured c.deref.ensures.value ∙ sym (read_whole _ _ all _ told c.in-Ok.ensures.took c.in-Ok.ensures.most c.in-Ok.ensures.ended) in
    subst (λ (r : Result Capture ℕ). IsReplayed r c.replay_text.result.journal) same (c.replay_text.ensures.replayed status)

pub returns-clause-unwritten : goal.returns-clause-unwritten
returns-clause-unwritten g c = λ all told status.
    let same : captured c.deref.result.now ≡ captured (capped all) = ap captured c.deref.ensures.value ∙ sym (read_whole _ _ all _ told c.in-Ok.ensures.took c.in-Ok.ensures.most c.in-Ok.ensures.ended) in
    subst (λ (r : Result Capture ℕ). IsReplayed r c.replay_text.result.journal) same (c.replay_text.ensures.unwritten status)

pub returns-clause-full : goal.returns-clause-full
returns-clause-full g c = λ all told status.
    let same : captured c.deref.result.now ≡ captured (capped all) = ap captured c.deref.ensures.value ∙ sym (read_whole _ _ all _ told c.in-Ok.ensures.took c.in-Ok.ensures.most c.in-Ok.ensures.ended) in
    subst (λ (r : Result Capture ℕ). IsCutAt most_entries r c.replay_text.result.journal) same (c.replay_text.ensures.full status)

pub returns-clause-bad : goal.returns-clause-bad
returns-clause-bad g c = λ all told status.
    read_whole _ _ all _ told c.in-Ok.ensures.took c.in-Ok.ensures.most c.in-Ok.ensures.ended ∙ ap captured (sym c.deref.ensures.value) ∙ c.replay_text.ensures.bad status

pub returns-clause-begun : goal.returns-clause-begun
returns-clause-begun g c = λ all told status.
    let same : captured c.deref.result.now ≡ captured (capped all) = ap captured c.deref.ensures.value ∙ sym (read_whole _ _ all _ told c.in-Ok.ensures.took c.in-Ok.ensures.most c.in-Ok.ensures.ended) in
    subst (λ (r : Result Capture ℕ). IsBegun r c.replay_text.result.journal) same (c.replay_text.ensures.begun status)

pub returns-clause-unstarted : goal.returns-clause-unstarted
returns-clause-unstarted g c = λ all told status.
    let same : captured c.deref.result.now ≡ captured (capped all) = ap captured c.deref.ensures.value ∙ sym (read_whole _ _ all _ told c.in-Ok.ensures.took c.in-Ok.ensures.most c.in-Ok.ensures.ended) in
    subst (λ (r : Result Capture ℕ). IsUnstartedAt most_entries r c.replay_text.result.journal) same (c.replay_text.ensures.unstarted status)

pub returns-clause-starts : goal.returns-clause-starts
returns-clause-starts g c = λ all told fails.
    let same : captured (capped all) ≡ captured c.deref.result.now = read_whole _ _ all _ told c.in-Ok.ensures.took c.in-Ok.ensures.most c.in-Ok.ensures.ended ∙ ap captured (sym c.deref.ensures.value) in
    let r = c.replay_text.ensures in
    only_starts (captured c.deref.result.now) c.replay_text.result.journal c.replay_text.result.line c.replay_text.result.status (search rules) r.replayed r.unwritten r.bad r.full (subst (λ (r : Result Capture ℕ). FailsBefore most_entries r) same fails)
