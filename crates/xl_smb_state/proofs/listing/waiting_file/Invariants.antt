use Rattle.std.proofs.Common.{◌≡◌}
use Rattle.xl_smb_state.specs.State.{waiting_file}
use Rattle.xl_smb_state.proofs.listing.waiting_file.Given as goal

abbrev pub invariant-rows : goal.invariant-rows
invariant-rows l = waiting_file l.key l.row-iterator ≡ waiting_file l.key l.waiting.entries
