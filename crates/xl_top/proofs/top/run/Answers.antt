-- What the words ask to serve is served, unless memory runs out at the words; then nothing is.
use Rattle.std.proofs.Common.{List, ℕ, Option, sym, subst, arith}
use Rattle.xl_base.specs.Outside.{Began}
use Rattle.xl_capture.specs.Written.{capture_of}
use Rattle.xl_top.proofs.ServeLaws.{starved_unexported, starved_unserved}
use Rattle.xl_jobs.proofs.WriteLaws.{began_none}
use Rattle.xl_top.proofs.top.run.Goals as goal

pub returns-clause-exported : goal.returns-clause-exported
returns-clause-exported g c = λ s asked all told is. absurd (starved_unexported c.work-status.result.status (c.work-status.ensures.unserved s asked).0 is)

pub returns-clause-exported_bad : goal.returns-clause-exported_bad
returns-clause-exported_bad g c = λ s asked all told is. absurd (omega (arith, (c.work-status.ensures.unserved s asked).0, is))

pub returns-clause-started : goal.returns-clause-started
returns-clause-started g c = λ s asked is. absurd (starved_unexported c.work-status.result.status (c.work-status.ensures.unserved s asked).0 is)

pub returns-clause-loaded : goal.returns-clause-loaded
returns-clause-loaded g c = λ s asked is. absurd (starved_unserved c.work-status.result.status (c.work-status.ensures.unserved s asked).0 is)

pub returns-clause-holds : goal.returns-clause-holds
returns-clause-holds g c = λ s asked is. absurd (starved_unserved c.work-status.result.status (c.work-status.ensures.unserved s asked).0 is)

pub returns-clause-crew : goal.returns-clause-crew
returns-clause-crew g c = λ s asked is. absurd (starved_unserved c.work-status.result.status (c.work-status.ensures.unserved s asked).0 is)

pub returns-clause-filled : goal.returns-clause-filled
returns-clause-filled g c = λ s asked is. absurd (omega (arith, (c.work-status.ensures.unserved s asked).0, is))

pub returns-clause-captured : goal.returns-clause-captured
returns-clause-captured g c = λ s asked is. absurd (omega (arith, (c.work-status.ensures.unserved s asked).0, is))

pub returns-clause-captured_full : goal.returns-clause-captured_full
returns-clause-captured_full g c = λ s asked is still. absurd (starved_unexported c.work-status.result.status (c.work-status.ensures.unserved s asked).0 is)

pub returns-clause-captured_part : goal.returns-clause-captured_part
returns-clause-captured_part g c = λ s asked is.
    let old : Option (List ℕ) = g.O.Sink.held c.args.out.now in
    subst (λ (new : Option (List ℕ)). Began old (capture_of c.work-status.result.journal) new) (sym (c.work-status.ensures.unserved s asked).1) (began_none old (capture_of c.work-status.result.journal))
