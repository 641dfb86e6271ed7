-- What a send that failed sent is a beginning of the bytes.
use Rattle.std.proofs.Common.{ℕ, List, take, drop}
use Rattle.std.proofs.lemmas.List.{take-append-drop}
use mathlib.Core.List.{IsPrefix}

pub front_of : (n : ℕ) (bytes : List ℕ) → IsPrefix (take n bytes) bytes
front_of n bytes = (drop n bytes, take-append-drop n bytes)
