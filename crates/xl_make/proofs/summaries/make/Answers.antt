use Rattle.std.proofs.Common.{List, ℕ, subst}
use Rattle.xl_base.specs.Outside.{Added}
use Rattle.xl_make.proofs.MadeLaws.{same_summary, part_stepped}
use Rattle.xl_jobs.proofs.WriteLaws.{began_as}
use Rattle.xl_make.proofs.summaries.make.Goals as goal

pub returns-clause-begun : goal.returns-clause-begun
returns-clause-begun g c =
    let journal = c.journal_in-journal.ensures.journal in
    part_stepped c.args.seed c.args.count _ c.in-Some.house.head c.in-Some.house.entries journal.0 journal.1 c.in-Some.ensures.head c.in-Some.ensures.begun

pub returns-clause-written : goal.returns-clause-written
returns-clause-written g c = λ is.
    let journal = c.journal_in-journal.ensures.journal in
    subst (λ (text : List ℕ). Added (g.O.Sink.held c.args.out.now) text (g.O.Sink.held c.write_made-status.new.out)) (same_summary _ c.in-Some.house.head c.in-Some.house.entries journal.0 journal.1) (c.write_made-status.ensures.written is)

pub returns-clause-began : goal.returns-clause-began
returns-clause-began g c =
    let journal = c.journal_in-journal.ensures.journal in
    began_as _ _ _ _ (same_summary _ c.in-Some.house.head c.in-Some.house.entries journal.0 journal.1) c.write_made-status.ensures.began
