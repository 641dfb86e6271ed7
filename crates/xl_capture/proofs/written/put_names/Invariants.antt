use Rattle.std.proofs.Common.{◌≡◌, ◌++◌, drop}
use Rattle.xl_capture.specs.Written.{name_lines}
use Rattle.xl_capture.proofs.written.put_names.Given as goal

abbrev pub invariant-loop-client : goal.invariant-loop-client
invariant-loop-client l = l.text.items ++ name_lines (drop l.client-index l.names) ≡ l.fn.text.items ++ name_lines l.names
