use Rattle.std.proofs.Common.{List, ℕ, ap, subst}
use Rattle.xl_base.specs.Outside.{Added}
use Rattle.xl_base.specs.declared.journal.Entry.{Entry}
use Rattle.xl_capture.specs.Transcript.{entry_lines}
use Rattle.xl_replay.specs.Replays.{entries_left, head_left}
use Rattle.xl_replay.proofs.CaptureLaws.{same_transcript, all_stepped, begun_stepped, full_stepped, start_stepped}
use Rattle.xl_jobs.proofs.WriteLaws.{began_as}
use Rattle.std.proofs.Common.{sym}
use Rattle.xl_replay.proofs.captures.replay.Goals as goal

pub returns-clause-replayed : goal.returns-clause-replayed
returns-clause-replayed g c = λ is.
    let journal = c.journal_left-journal.ensures.journal in
    let left = c.in-Some.replayed.left in
    all_stepped c.args.capture _ (head_left left) (entries_left left) c.in-Some.replayed.ended journal.0 journal.1 c.in-Some.ensures.head c.in-Some.ensures.ended (c.write_replayed-status.ensures.done is)

pub returns-clause-unwritten : goal.returns-clause-unwritten
returns-clause-unwritten g c = λ is.
    let journal = c.journal_left-journal.ensures.journal in
    let left = c.in-Some.replayed.left in
    all_stepped c.args.capture _ (head_left left) (entries_left left) c.in-Some.replayed.ended journal.0 journal.1 c.in-Some.ensures.head c.in-Some.ensures.ended (c.write_replayed-status.ensures.unwritten is)

pub returns-clause-begun : goal.returns-clause-begun
returns-clause-begun g c =
    let journal = c.journal_left-journal.ensures.journal in
    let left = c.in-Some.replayed.left in
    begun_stepped c.args.capture _ (head_left left) (entries_left left) c.in-Some.replayed.ended journal.0 journal.1 c.in-Some.ensures.head c.in-Some.ensures.ended

pub returns-clause-full : goal.returns-clause-full
returns-clause-full g c = λ is.
    let journal = c.journal_left-journal.ensures.journal in
    let left = c.in-Some.replayed.left in
    full_stepped c.args.capture _ (head_left left) (entries_left left) c.in-Some.replayed.ended journal.0 journal.1 c.in-Some.ensures.head c.in-Some.ensures.ended (c.write_replayed-status.ensures.full is)

pub returns-clause-unstarted : goal.returns-clause-unstarted
returns-clause-unstarted g c = λ is.
    let journal = c.journal_left-journal.ensures.journal in
    let left = c.in-Some.replayed.left in
    start_stepped c.args.capture _ (head_left left) (entries_left left) c.in-Some.replayed.ended journal.0 journal.1 c.in-Some.ensures.head c.in-Some.ensures.ended (c.write_replayed-status.ensures.unstarted is)

pub returns-clause-written : goal.returns-clause-written
returns-clause-written g c = λ is.
    let journal = c.journal_left-journal.ensures.journal in
    let left = c.in-Some.replayed.left in
    subst (λ (text : List ℕ). Added (g.O.Sink.held c.args.out.now) text (g.O.Sink.held c.write_replayed-status.new.out)) (same_transcript _ (head_left left) (entries_left left) journal.0 journal.1) (c.write_replayed-status.ensures.written is)

pub returns-clause-began : goal.returns-clause-began
returns-clause-began g c =
    let journal = c.journal_left-journal.ensures.journal in
    let left = c.in-Some.replayed.left in
    began_as _ _ _ _ (same_transcript _ (head_left left) (entries_left left) journal.0 journal.1) c.write_replayed-status.ensures.began

pub returns-clause-written_full : goal.returns-clause-written_full
returns-clause-written_full g c = λ is unless.
    let journal = c.journal_left-journal.ensures.journal in
    let left = c.in-Some.replayed.left in
    subst (λ (text : List ℕ). Added (g.O.Sink.held c.args.out.now) text (g.O.Sink.held c.write_replayed-status.new.out)) (same_transcript _ (head_left left) (entries_left left) journal.0 journal.1) (c.write_replayed-status.ensures.written_full is unless)

pub returns-clause-written_outs : goal.returns-clause-written_outs
returns-clause-written_outs g c = λ is unless.
    let journal = c.journal_left-journal.ensures.journal in
    subst (λ (text : List ℕ). Added (g.O.Sink.held c.args.out.now) text (g.O.Sink.held c.write_replayed-status.new.out)) (ap (λ (es : List Entry). entry_lines 0 es) (sym journal.1)) (c.write_replayed-status.ensures.written_outs is unless)
