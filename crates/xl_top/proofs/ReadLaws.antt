-- What several reads took.
use Rattle.std.proofs.Common.{◌≡◌, ℕ, ◌+◌, ◌≤◌, inl, inr, List, ◌++◌, length, take, Option, Some, None, sym, ap, subst, ◌∙◌, append_assoc, length-append, arith}
use Rattle.std.proofs.Math.Seq.{take-append_seam}
use Rattle.std.proofs.lemmas.Bool.{cases_lt}
use Rattle.std.proofs.lemmas.List.{append-nil, length-take-le, take_all}
use Rattle.xl_base.specs.Outside.{Took, Ended, Reads}
use Rattle.xl_base.specs.declared.source.ReadOutcome.{ReadOutcome}
use Rattle.xl_base.specs.declared.source.ReadOutcome.TheVariants.{Got, End, Failed}
use Rattle.xl_capture.specs.Capture.{most_bytes, captured}
use Rattle.xl_capture.specs.Show.{shown}
use Rattle.xl_top.specs.Job.{capped, TookMost}

-- what was taken before, and what one read takes
pub took_more : (whole old new : Option (List ℕ)) (before more : List ℕ) → Took whole before old → Took old more new → Took whole (before ++ more) new
took_more None old new before more a b = tt
took_more (Some left) None new before more a b = absurd a
took_more (Some left) (Some rest) None before more a b = absurd b
took_more (Some left) (Some rest) (Some new) before more a b = a ∙ ap (λ (r : List ℕ). before ++ r) b ∙ sym (append_assoc before more new)

none_left : (new : Option (List ℕ)) (left v : List ℕ) → Took (Some left) v new → Ended new → v ≡ left
none_left None left v took ended = absurd took
none_left (Some rest) left v took ended = sym (took ∙ ap (λ (r : List ℕ). v ++ r) ended ∙ append-nil v)

front_of : (new : Option (List ℕ)) (left v : List ℕ) → Took (Some left) v new → take (length v) left ≡ v
front_of None left v took = absurd took
front_of (Some rest) left v took = ap (λ (l : List ℕ). take (length v) l) took ∙ take-append_seam v rest

-- what is read of an input to its end, or to one byte past the most, is what is looked at of it
pub whole : (left new : Option (List ℕ)) (all v : List ℕ) → left ≡ Some all → Took left v new → length v ≤ most_bytes + 1 → (length v ≤ most_bytes → Ended new) → capped all ≡ v
whole left new all v told took most ended =
    let taken : Took (Some all) v new = subst (λ (l : Option (List ℕ)). Took l v new) told took in
    elim (cases_lt most_bytes (length v)) [
      | inr few ↦
          let same = none_left new all v taken (ended few) in
          ap capped (sym same) ∙ take_all (most_bytes + 1) v (omega (arith, few))
      | inl past ↦
          let full : most_bytes + 1 ≡ length v = omega (arith, past, most) in
          ap (λ (n : ℕ). take n all) full ∙ front_of new all v taken
    ]

pub read_whole : (left new : Option (List ℕ)) (all v : List ℕ) → left ≡ Some all → Took left v new → length v ≤ most_bytes + 1 → (length v ≤ most_bytes → Ended new) → captured (capped all) ≡ captured v
read_whole left new all v told took most ended = ap captured (whole left new all v told took most ended)

pub shown_whole : (left new : Option (List ℕ)) (all v : List ℕ) → left ≡ Some all → Took left v new → length v ≤ most_bytes + 1 → (length v ≤ most_bytes → Ended new) → shown (capped all) ≡ shown v
shown_whole left new all v told took most ended = ap shown (whole left new all v told took most ended)

-- ---- how many bytes were taken

-- nothing was
pub most_same : (n : ℕ) (old new : Option (List ℕ)) → new ≡ old → TookMost n old new
most_same n None new same = tt
most_same n (Some left) new same = subst (λ (z : Option (List ℕ)). TookMost n (Some left) z) (sym same) (omega arith)

pub most_taken : (n : ℕ) (old new : Option (List ℕ)) (v : List ℕ) → Took old v new → length v ≤ n → TookMost n old new
most_taken n None new v took few = tt
most_taken n (Some left) None v took few = took
most_taken n (Some left) (Some rest) v took few = omega (arith, few, ap length took, length-append v rest)

-- a read takes no more than its buffer holds
pub most_read : (outcome : ReadOutcome) (buffer : List ℕ) (old new : Option (List ℕ)) → Reads outcome buffer old new → TookMost (length buffer) old new
most_read (Got n) buffer old new read = most_taken (length buffer) old new (take n buffer) read.2 (omega (arith, read.1, length-take-le n buffer read.1))
most_read End buffer old new read = most_same (length buffer) old new read.1
most_read Failed buffer old new read = most_same (length buffer) old new read

-- and some more behind what was taken
pub most_behind : (m n : ℕ) (old mid new : Option (List ℕ)) (v : List ℕ) → Took old v mid → TookMost m mid new → length v + m ≤ n → TookMost n old new
most_behind m n None mid new v took most few = tt
most_behind m n (Some left) None new v took most few = absurd took
most_behind m n (Some left) (Some rest) None v took most few = most
most_behind m n (Some left) (Some rest) (Some new) v took most few = omega (arith, few, most, ap length took, length-append v rest)
