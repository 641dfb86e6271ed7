-- What stands behind the header of a message that is too short for one.
use Rattle.std.proofs.Common.{◌≡◌, ℕ, List, [], length, drop, sym, arith}
use Rattle.std.specs.Prelude.{◌<◌}
use Rattle.std.proofs.lemmas.List.{drop_all}

pub short_drop : (bytes : List ℕ) → length bytes < 64 → [] ≡ drop 64 bytes
short_drop bytes short = sym (drop_all 64 bytes (omega (arith, short)))
