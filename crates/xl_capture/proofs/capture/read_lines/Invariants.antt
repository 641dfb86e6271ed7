use Rattle.std.proofs.Common.{◌≡◌, ◌+◌, ◌≤◌, length}
use Rattle.xl_capture.specs.Capture.{lines_of, no_reading, with_lines}
use Rattle.xl_capture.proofs.capture.read_lines.Given as goal

abbrev pub invariant-lines : goal.invariant-lines
invariant-lines l = record {
  few : l.number + length l.rest ≤ length l.text;
  same : with_lines l.past l.reading l.number (lines_of l.rest) ≡ with_lines l.past no_reading 0 (lines_of l.text);
}

abbrev pub decreases-lines : goal.decreases-lines
decreases-lines l = length l.rest
