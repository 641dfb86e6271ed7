use Rattle.std.proofs.Common.{◌≡◌, ◌++◌, drop}
use Rattle.xl_smb_state.specs.State.{opens_under}
use Rattle.xl_front_smb.specs.Ending.{all_closed, leavers}
use Rattle.xl_front_smb.proofs.ending.close_all.Given as goal

abbrev pub invariant-opens : goal.invariant-opens
invariant-opens l =
    (l.leavers.items ++ leavers l.fn.core.names l.state (drop l.number-index l.numbers) ≡ leavers l.fn.core.names l.initial.state l.numbers)
    × (all_closed (drop l.number-index l.numbers) l.state ≡ all_closed l.numbers l.initial.state) × (opens_under l.fn.under l.state ≡ drop l.number-index l.numbers)
