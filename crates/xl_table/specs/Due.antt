-- From which moment on answers are due to a page's caches whose breaks run.
use Rattle.std.specs.Prelude.{ℕ, ◌≤◌, min, Some}
use Rattle.xl_matrix.specs.declared.claim.What.{What}
use Rattle.xl_matrix.specs.declared.claim.What.TheVariants.{Cache}

-- the lesser of a moment and that at which an answer is due to what is claimed
abbrev pub due_with : ℕ → What → ℕ
due_with from (Cache kind (Some running)) = min from running.deadline.0
due_with from _ = from

-- no answer is due to what is claimed before this moment
abbrev pub IsDueFrom : ℕ → What → Type 0
IsDueFrom from (Cache kind (Some running)) = from ≤ running.deadline.0
IsDueFrom from _ = Unit {0}
