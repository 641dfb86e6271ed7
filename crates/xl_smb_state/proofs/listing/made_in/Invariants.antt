use Rattle.std.proofs.Common.{◌≡◌, ◌++◌}
use Rattle.xl_smb_state.specs.State.{made_in}
use Rattle.xl_smb_state.proofs.listing.made_in.Given as goal

abbrev pub invariant-rows : goal.invariant-rows
invariant-rows l = l.numbers.items ++ made_in l.scope l.row-iterator ≡ made_in l.scope l.waiting.entries
