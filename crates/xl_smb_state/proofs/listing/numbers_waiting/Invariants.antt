use Rattle.std.proofs.Common.{◌≡◌, ◌++◌}
use Rattle.std.specs.Map.{keys_of}
use Rattle.xl_smb_state.proofs.listing.numbers_waiting.Given as goal

abbrev pub invariant-rows : goal.invariant-rows
invariant-rows l = l.numbers.items ++ keys_of l.number-iterator ≡ keys_of l.waiting.entries
