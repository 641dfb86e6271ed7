use Rattle.std.proofs.Common.{◌≡◌, ◌+◌, ◌≤◌, [], length}
use Rattle.xl_capture.specs.Capture.{lines_of}
use Rattle.xl_capture.specs.Show.{show_lines}
use Rattle.xl_capture.proofs.show.lines_shown.Given as goal

abbrev pub invariant-lines : goal.invariant-lines
invariant-lines l = record {
  few : l.number + length l.rest ≤ length l.text;
  same : show_lines l.past l.out.items l.number (lines_of l.rest) ≡ show_lines l.past [] 0 (lines_of l.text);
}

abbrev pub decreases-lines : goal.decreases-lines
decreases-lines l = length l.rest
