use Rattle.std.proofs.Common.{◌≡◌, drop}
use Rattle.xl_spans.specs.Spans.{mode_at}
use Rattle.xl_spans.proofs.plain.mode_at.Given as goal

abbrev pub invariant-loop-span : goal.invariant-loop-span
invariant-loop-span l = mode_at (drop l.span-index l.spans) l.byte ≡ mode_at l.spans l.byte
