use Rattle.std.proofs.Common.{◌≡◌, ◌++◌, drop}
use Rattle.xl_capture.specs.Transcript.{row_lines}
use Rattle.xl_capture.proofs.transcripts.put_rows.Given as goal

abbrev pub invariant-loop-row : goal.invariant-loop-row
invariant-loop-row l = l.bytes.items ++ row_lines (drop l.row-index l.rows) ≡ l.fn.bytes.items ++ row_lines l.rows
