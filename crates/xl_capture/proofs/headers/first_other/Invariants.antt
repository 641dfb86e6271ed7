use Rattle.std.proofs.Common.{◌≡◌, ◌+◌, ◌≤◌, length}
use Rattle.xl_capture.specs.Capture.{lines_of}
use Rattle.xl_capture.specs.Headers.{first_other}
use Rattle.xl_capture.proofs.headers.first_other.Given as goal

abbrev pub invariant-lines : goal.invariant-lines
invariant-lines l = record {
  few : l.number + length l.rest ≤ length l.text;
  same : first_other l.number (lines_of l.rest) ≡ first_other 0 (lines_of l.text);
}

abbrev pub decreases-lines : goal.decreases-lines
decreases-lines l = length l.rest
