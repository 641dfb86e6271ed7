-- What stands in a sink after a write that was perhaps cut short.
use Rattle.std.proofs.Common.{◌≡◌, ℕ, List, ◌++◌, Option, Some, None, sym, subst, arith}
use Rattle.std.proofs.Math.Seq.{take-length, take-append_seam}
use Rattle.std.proofs.lemmas.List.{length-append}
use Rattle.xl_base.specs.Outside.{IsPrefix, Began, Added}

prefix_self : (xs : List ℕ) → IsPrefix xs xs
prefix_self xs = (omega arith, take-length xs)

prefix_append : (xs ys : List ℕ) → IsPrefix xs (xs ++ ys)
prefix_append xs ys = (omega (arith, length-append xs ys), take-append_seam xs ys)

-- nothing was written
pub began_none : (held : Option (List ℕ)) (bytes : List ℕ) → Began held bytes held
began_none None bytes = tt
began_none (Some held) bytes = (prefix_self held, prefix_append held bytes)

-- all was written
pub began_all : (old new : Option (List ℕ)) (bytes : List ℕ) → Added old bytes new → Began old bytes new
began_all None new bytes added = tt
began_all (Some held) None bytes added = absurd added
began_all (Some held) (Some now) bytes added =
    subst (λ (n : List ℕ). IsPrefix held n × IsPrefix n (held ++ bytes)) (sym added) (prefix_append held bytes, prefix_self (held ++ bytes))

-- what began as one text began as an equal one
pub began_as : (old new : Option (List ℕ)) (a b : List ℕ) → a ≡ b → Began old a new → Began old b new
began_as old new a b e began = subst (λ (t : List ℕ). Began old t new) e began
