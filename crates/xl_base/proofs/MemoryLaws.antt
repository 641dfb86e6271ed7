-- What one read of a source in memory takes.
use Rattle.std.proofs.Common.{◌≡◌, ℕ, ◌+◌, List, ◌++◌, take, drop, sym, ap, ◌∙◌}
use Rattle.std.proofs.lemmas.List.{take-append-drop, drop-drop}

-- what is left is the part that was taken, and what is left after it
pub taken_front : (left : List ℕ) (at n : ℕ) (items buffer : List ℕ) → drop at items ≡ left → take n buffer ≡ take n (drop at items) → left ≡ take n buffer ++ drop (at + n) items
taken_front left at n items buffer is copied =
    sym is ∙ sym (take-append-drop n (drop at items)) ∙ ap (λ front. front ++ drop n (drop at items)) (sym copied) ∙ ap (λ rest. take n buffer ++ rest) (drop-drop n at items)
