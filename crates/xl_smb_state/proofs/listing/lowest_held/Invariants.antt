use Rattle.std.proofs.Common.{◌≡◌, ℕ, None, drop}
use Rattle.std.specs.Prelude.{nat_eq, nat_lt, filter}
use Rattle.std.specs.Map.{lookup}
use Rattle.xl_base.specs.Leasts.{least_from}
use Rattle.xl_smb_state.specs.State.{is_held}
use Rattle.xl_smb_state.proofs.listing.lowest_held.Given as goal

abbrev pub invariant-numbers : goal.invariant-numbers
invariant-numbers l =
    least_from nat_lt l.least (filter (λ (n : ℕ). is_held (lookup (nat_eq n) l.opens)) (drop l.number-index l.numbers)) ≡ least_from nat_lt None (filter (λ (n : ℕ). is_held (lookup (nat_eq n) l.opens)) l.numbers)
