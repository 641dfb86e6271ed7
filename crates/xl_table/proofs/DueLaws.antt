-- From which moment on an answer is due.
use Rattle.std.proofs.Common.{ℕ, ◌≡◌, ◌<◌, ◌≤◌, false, Some, None, refl, arith}
use Rattle.std.proofs.lemmas.Bool.{lt-leb}
use Rattle.xl_matrix.specs.declared.claim.What.{What}
use Rattle.xl_matrix.specs.declared.claim.What.TheVariants.{Share, Range, Cache}
use Rattle.xl_table.specs.Due.{due_with, IsDueFrom}
use Rattle.xl_table.specs.Flat.{due_by}

pub later : (a b : ℕ) (w : What) → a ≤ b → IsDueFrom b w → IsDueFrom a w
later a b (Cache kind (Some running)) h due = omega (arith, h, due)
later a b (Cache kind None) h due = tt
later a b (Share x y) h due = tt
later a b (Range x y) h due = tt

pub with_less : (from : ℕ) (w : What) → due_with from w ≤ from
with_less from (Cache kind (Some running)) = omega arith
with_less from (Cache kind None) = omega arith
with_less from (Share x y) = omega arith
with_less from (Range x y) = omega arith

pub with_this : (from : ℕ) (w : What) → IsDueFrom (due_with from w) w
with_this from (Cache kind (Some running)) = omega arith
with_this from (Cache kind None) = tt
with_this from (Share x y) = tt
with_this from (Range x y) = tt

pub not_due : (n from : ℕ) (w : What) → n < from → IsDueFrom from w → due_by w n ≡ false
not_due n from (Cache kind (Some running)) h due = lt-leb running.deadline.0 n (omega (arith, h, due))
not_due n from (Cache kind None) h due = refl
not_due n from (Share x y) h due = refl
not_due n from (Range x y) h due = refl
