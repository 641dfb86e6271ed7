-- An owner of NLM ranges belongs to its caller.
use Rattle.std.proofs.Common.{◌≡◌, ℕ, List, refl}
use Rattle.std.specs.Prelude.{true, bytes_eq}
use Rattle.std.specs.Cmp.Lexicographic.{bytes_decides}

pub own_client : (caller : List ℕ) → bytes_eq caller caller ≡ true
own_client caller = (bytes_decides caller caller).1 refl
