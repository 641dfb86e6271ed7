use Rattle.xl_spans.proofs.Conflicts.{conflict_found, conflict_least, conflict_none}
use Rattle.xl_spans.proofs.bisect.conflict_in.Goals as goal

pub returns-clause-found : goal.returns-clause-found
returns-clause-found c = rw c.conflict_met.ensures (conflict_found c.args.first c.args.last c.args.mode c.args.spans.now)

pub returns-clause-least : goal.returns-clause-least
returns-clause-least c = rw c.conflict_met.ensures (conflict_least c.args.first c.args.last c.args.mode c.args.spans.now c.requires.canonical)

pub returns-clause-none : goal.returns-clause-none
returns-clause-none c = rw c.conflict_met.ensures (conflict_none c.args.first c.args.last c.args.mode c.args.spans.now c.requires.ends c.requires.canonical)
