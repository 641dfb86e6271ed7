use Rattle.std.proofs.Common.{◌≡◌, drop}
use Rattle.xl_spans.specs.Spans.{first_conflict}
use Rattle.xl_spans.proofs.plain.first_conflict.Given as goal

abbrev pub invariant-loop-span : goal.invariant-loop-span
invariant-loop-span l = first_conflict l.first l.last l.mode (drop l.span-index l.spans) ≡ first_conflict l.first l.last l.mode l.spans
