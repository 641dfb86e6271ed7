use Rattle.std.proofs.Common.{◌≡◌, ◌++◌, drop}
use Rattle.std.specs.String.{string_bytes}
use Rattle.xl_capture.specs.Show.{more_ops}
use Rattle.xl_capture.proofs.show.put_more_ops.Given as goal

abbrev pub invariant-loop-number : goal.invariant-loop-number
invariant-loop-number l = string_bytes l.text ++ more_ops (drop l.number-index l.numbers) ≡ string_bytes l.fn.text ++ more_ops l.numbers
