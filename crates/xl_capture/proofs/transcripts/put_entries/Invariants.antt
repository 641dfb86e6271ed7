use Rattle.std.proofs.Common.{◌≡◌, ◌++◌, drop}
use Rattle.std.specs.String.{string_bytes}
use Rattle.xl_capture.specs.Transcript.{entry_lines}
use Rattle.xl_capture.proofs.transcripts.put_entries.Given as goal

abbrev pub invariant-loop-place : goal.invariant-loop-place
invariant-loop-place l = string_bytes l.text ++ entry_lines l.place (drop l.place l.entries) ≡ string_bytes l.fn.text ++ entry_lines 0 l.entries
