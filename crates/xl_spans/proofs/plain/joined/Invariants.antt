use Rattle.std.proofs.Common.{◌≡◌, ◌++◌, drop}
use Rattle.xl_spans.specs.Spans.{joined, runs}
use Rattle.xl_spans.proofs.plain.joined.Given as goal

abbrev pub invariant-loop-next : goal.invariant-loop-next
invariant-loop-next l = l.out.items ++ joined l.run (runs (drop l.next-index l.rest)) ≡ runs l.parts
