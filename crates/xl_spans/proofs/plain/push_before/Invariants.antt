use Rattle.std.proofs.Common.{◌≡◌, ◌++◌, drop}
use Rattle.std.specs.List.{filter_map}
use Rattle.xl_spans.specs.Spans.{part_before}
use Rattle.xl_spans.proofs.plain.push_before.Given as goal

abbrev pub invariant-loop-span : goal.invariant-loop-span
invariant-loop-span l = l.out.items ++ filter_map (part_before l.first) (drop l.span-index l.spans) ≡ l.initial.out.items ++ filter_map (part_before l.first) l.spans
