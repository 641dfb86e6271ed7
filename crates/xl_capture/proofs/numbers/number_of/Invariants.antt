use Rattle.std.proofs.Common.{◌≡◌, drop}
use Rattle.xl_capture.specs.Numbers.{value_from}
use Rattle.xl_capture.proofs.numbers.number_of.Given as goal

abbrev pub invariant-digits : goal.invariant-digits
invariant-digits l = value_from l.number (drop l.byte-index l.word) ≡ value_from 0 l.word
