use Rattle.std.proofs.Common.{◌≡◌, ◌++◌, drop}
use Rattle.std.specs.String.{string_bytes}
use Rattle.xl_capture.specs.Written.{event_lines}
use Rattle.xl_capture.proofs.written.put_events.Given as goal

abbrev pub invariant-loop-entry : goal.invariant-loop-entry
invariant-loop-entry l = string_bytes l.text ++ event_lines l.all (drop l.entry-index l.all) ≡ string_bytes l.fn.text ++ event_lines l.all l.all
