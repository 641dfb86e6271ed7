-- The callback addresses that a capture names: each caller's, in order.
use Rattle.std.specs.Prelude.{ℕ, Bool, List, map, bytes_eq}
use Rattle.std.specs.List.{list_any}

-- the callers of these addresses
abbrev pub callers_of : List (List ℕ × List ℕ) → List (List ℕ)
callers_of addresses = map (λ held. held.0) addresses

-- the caller of this name has an address
abbrev pub has_address : List ℕ → List (List ℕ × List ℕ) → Bool
has_address caller addresses = list_any (bytes_eq caller) (callers_of addresses)
