use Rattle.std.proofs.Common.{◌≡◌, ◌+◌, drop}
use Rattle.xl_capture.specs.Summary.{granted, denied}
use Rattle.xl_capture.proofs.summaries.counted.Given as goal

abbrev pub invariant-loop-entry : goal.invariant-loop-entry
invariant-loop-entry l = record {
  granted : l.granted + granted (drop l.entry-index l.entries) ≡ granted l.entries;
  denied : l.denied + denied (drop l.entry-index l.entries) ≡ denied l.entries;
}
