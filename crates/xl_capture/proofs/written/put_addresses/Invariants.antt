use Rattle.std.proofs.Common.{◌≡◌, ◌++◌, drop}
use Rattle.xl_capture.specs.Written.{address_lines}
use Rattle.xl_capture.proofs.written.put_addresses.Given as goal

abbrev pub invariant-loop-host : goal.invariant-loop-host
invariant-loop-host l = l.text.items ++ address_lines (drop l.host-index l.addresses) ≡ l.fn.text.items ++ address_lines l.addresses
