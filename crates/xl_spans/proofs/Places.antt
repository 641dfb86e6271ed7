-- What bisection finds in maximal runs, whose ends and beginnings rise.
use Rattle.std.proofs.Common.{◌≡◌, ℕ, ◌+◌, ◌<◌, ◌≤◌, suc, zero, Bool, true, false, List, [], ◌∷◌, length, get_or, sym, arith}
use Rattle.std.proofs.Math.Nat.{suc-add}
use Rattle.std.specs.List.{prefix_len}
use Rattle.std.specs.List.Sorted.{IsPartitionPoint, IsPartitionedBy}
use Rattle.std.proofs.lemmas.List.Sorted.{IsNonDecreasingBy-from_all_adjacent, IsPartitionedBy-ltb, IsPartitionedBy-leb}
use Rattle.std.proofs.lemmas.List.Sums.{prefix_len_is}
use Rattle.xl_spans.specs.declared.span.Mode.TheVariants.{Shared}
use Rattle.xl_spans.specs.declared.span.Span.{Span}
use Rattle.xl_spans.specs.Spans.{IsCanonical, ends_before, begins_by}

ends_rise : (ss : List Span) → IsCanonical ss → (k : ℕ) (d : Span) → k + 1 < length ss → (get_or ss k d).last ≤ (get_or ss (k + 1) d).last
ends_rise [] c k d h = absurd (omega arith)
ends_rise (s ∷ []) c k d h = absurd (omega arith)
ends_rise (s ∷ t ∷ ts) c zero d h = omega (arith, c.1.0, c.2.0)
ends_rise (s ∷ t ∷ ts) c (suc k) d h = rw (suc-add k 1) (ends_rise (t ∷ ts) c.2 k d (omega (arith, h)))

begins_rise : (ss : List Span) → IsCanonical ss → (k : ℕ) (d : Span) → k + 1 < length ss → (get_or ss k d).first ≤ (get_or ss (k + 1) d).first
begins_rise [] c k d h = absurd (omega arith)
begins_rise (s ∷ []) c k d h = absurd (omega arith)
begins_rise (s ∷ t ∷ ts) c zero d h = omega (arith, c.0, c.1.0)
begins_rise (s ∷ t ∷ ts) c (suc k) d h = rw (suc-add k 1) (begins_rise (t ∷ ts) c.2 k d (omega (arith, h)))

pub ends_parted : (b : ℕ) (ss : List Span) → IsCanonical ss → IsPartitionedBy (ends_before b) ss
ends_parted b ss c = IsPartitionedBy-ltb (λ s. s.last) ss b (IsNonDecreasingBy-from_all_adjacent (λ s. s.last) ss (ends_rise ss c))

pub begins_parted : (b : ℕ) (ss : List Span) → IsCanonical ss → IsPartitionedBy (begins_by b) ss
begins_parted b ss c = IsPartitionedBy-leb (λ s. s.first) ss b (IsNonDecreasingBy-from_all_adjacent (λ s. s.first) ss (begins_rise ss c))

-- the place that parts the spans that pass from those that do not
pub point_is : (p : Span → Bool) (ss : List Span) (i : ℕ) → i ≤ length ss → IsPartitionPoint (λ s. p s ≡ true) (λ s. p s ≡ false) ss i → i ≡ prefix_len p ss
point_is p ss i h parted =
    let none : Span = record { first = 0; last = 0; mode = Shared } in
    sym (prefix_len_is p ss i none h (λ k below. parted.0 k none (omega arith) below) (λ more. parted.1 i none (omega arith) more))
