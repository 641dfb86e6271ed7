use Rattle.std.proofs.Common.{◌≡◌, ◌++◌, drop}
use Rattle.std.specs.List.{filter_map}
use Rattle.xl_spans.specs.Spans.{part_past}
use Rattle.xl_spans.proofs.plain.push_past.Given as goal

abbrev pub invariant-loop-span : goal.invariant-loop-span
invariant-loop-span l = l.out.items ++ filter_map (part_past l.last) (drop l.span-index l.spans) ≡ l.initial.out.items ++ filter_map (part_past l.last) l.spans
