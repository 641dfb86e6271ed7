use Rattle.std.proofs.Common.{◌≡◌, ◌++◌, drop}
use Rattle.xl_capture.specs.Written.{file_lines}
use Rattle.xl_capture.proofs.written.put_files.Given as goal

abbrev pub invariant-loop-file : goal.invariant-loop-file
invariant-loop-file l = l.text.items ++ file_lines (drop l.file-index l.files) ≡ l.fn.text.items ++ file_lines l.files
