-- The spans of an owner's ranges on a file, when a claim is taken out.
use Rattle.std.proofs.Common.{◌≡◌, ℕ, ◌+◌, ◌<◌, ◌≤◌, ◌==◌, Bool, ◌||◌, List, [], ◌∷◌, ◌++◌, refl, ap, ◌∙◌, inl, inr, append_assoc, arith}
use Rattle.std.specs.List.{filter, list_any}
use Rattle.std.proofs.lemmas.Bool.{cases_Bool, and_left, ne_eqb}
use Rattle.xl_base.specs.declared.name.Owner.{Owner}
use Rattle.xl_matrix.specs.declared.claim.Extent.TheVariants.{Bytes, Empty}
use Rattle.xl_matrix.specs.declared.claim.What.{What}
use Rattle.xl_matrix.specs.declared.claim.What.TheVariants.{Share, Range, Cache}
use Rattle.xl_matrix.specs.declared.claim.Claim.{Claim}
use Rattle.xl_matrix.specs.Equal.{same_claims}
use Rattle.xl_spans.specs.declared.span.Span.{Span}
use Rattle.xl_spans.specs.Spans.{IsBefore, IsCanonical, same_mode}
use Rattle.xl_table.specs.Flat.{removed}
use Rattle.xl_table.specs.Held.{mode_of, with_span, is_of, spans_of}
use Rattle.xl_table.specs.Sections.{spans_in}

-- what stands before a span stands before those behind it
before_next : (s t : Span) (rest : List Span) → s.last < t.first → t.first ≤ t.last → IsBefore t rest → IsBefore s rest
before_next s t [] h k b = tt
before_next s t (u ∷ us) h k b = (
  omega (arith, b.0),
  and_left (s.last + 1 == u.first) (same_mode s.mode u.mode) (ne_eqb (s.last + 1) u.first (λ e. omega (arith, b.0))),
)

-- one list of spans in the place of another: it is canonical, and stands behind whatever that did
pub record IsAsGood (old new : List Span) : Type 0 where
  pub canonical : IsCanonical old → IsCanonical new
  pub behind : (s : Span) → IsCanonical old → IsBefore s old → IsBefore s new

same_good : (spans : List Span) → IsAsGood spans spans
same_good spans = record { canonical = λ h. h; behind = λ s h b. b }

-- without the span of what is claimed
less_good : (what : What) (spans : List Span) → IsAsGood (with_span what spans) spans
less_good (Share access deny) spans = same_good spans
less_good (Cache kind running) spans = same_good spans
less_good (Range (Empty offset) exclusive) spans = same_good spans
less_good (Range (Bytes first last) exclusive) spans = record {
  canonical = λ h. h.2;
  behind = λ s h b. before_next s _ spans b.0 h.0 h.1;
}

-- the span of what is claimed before both
more_good : (what : What) (old new : List Span) → IsAsGood old new → IsAsGood (with_span what old) (with_span what new)
more_good (Share access deny) old new good = good
more_good (Cache kind running) old new good = good
more_good (Range (Empty offset) exclusive) old new good = good
more_good (Range (Bytes first last) exclusive) old new good = record {
  canonical = λ h. (h.0, good.behind (record { first = first; last = last; mode = mode_of exclusive }) h.2 h.1, good.canonical h.2);
  behind = λ s h b. b;
}

without_good : (file : ℕ) (owner : Owner) (c : Claim) (cs : List Claim) → IsAsGood (spans_of file owner (c ∷ cs)) (spans_of file owner cs)
without_good file owner c cs =
    elim (cases_Bool (is_of file owner c)) [
      | inl own ↦ rw own (less_good c.what (spans_of file owner cs))
      | inr apart ↦ rw apart (same_good (spans_of file owner cs))
    ]

with_good : (file : ℕ) (owner : Owner) (c : Claim) (cs ds : List Claim) → IsAsGood (spans_of file owner cs) (spans_of file owner ds) → IsAsGood (spans_of file owner (c ∷ cs)) (spans_of file owner (c ∷ ds))
with_good file owner c cs ds good =
    elim (cases_Bool (is_of file owner c)) [
      | inl own ↦ rw own (more_good c.what (spans_of file owner cs) (spans_of file owner ds) good)
      | inr apart ↦ rw apart good
    ]

pub filter_good : (file : ℕ) (owner : Owner) (p : Claim → Bool) (cs : List Claim) → IsAsGood (spans_of file owner cs) (spans_of file owner (filter p cs))
filter_good file owner p [] = same_good []
filter_good file owner p (c ∷ cs) =
    elim (cases_Bool (p c)) [
      | inl stays ↦ rw stays (with_good file owner c cs (filter p cs) (filter_good file owner p cs))
      | inr goes ↦ rw goes (on (without_good file owner c cs) (filter_good file owner p cs))
    ]
  where
    on : {a b c : List Span} → IsAsGood a b → IsAsGood b c → IsAsGood a c
    on f g = record { canonical = λ h. g.canonical (f.canonical h); behind = λ s h b. g.behind s (f.canonical h) (f.behind s h b) }

removed_good : (file : ℕ) (owner : Owner) (claim : Claim) (held : List Claim) → IsAsGood (spans_of file owner held) (spans_of file owner (removed claim held))
removed_good file owner claim [] = same_good []
removed_good file owner claim (c ∷ cs) =
    elim (cases_Bool (same_claims c claim)) [
      | inl same ↦ rw same
          (elim (cases_Bool (is_of file owner c)) [
            | inl own ↦ rw own (less_good c.what (spans_of file owner cs))
            | inr apart ↦ rw apart (same_good (spans_of file owner cs))
          ])
      | inr other ↦ rw other
          (elim (cases_Bool (is_of file owner c)) [
            | inl own ↦ rw own (more_good c.what (spans_of file owner cs) (spans_of file owner (removed claim cs)) (removed_good file owner claim cs))
            | inr apart ↦ rw apart (removed_good file owner claim cs)
          ])
    ]

pub canonical_removed : (file : ℕ) (owner : Owner) (claim : Claim) (held : List Claim) → IsCanonical (spans_of file owner held) → IsCanonical (spans_of file owner (removed claim held))
canonical_removed file owner claim held h = (removed_good file owner claim held).canonical h

-- ---- spans built from the claims one after another

pub span_front : (what : What) (rest : List Span) → with_span what [] ++ rest ≡ with_span what rest
span_front (Share access deny) rest = refl
span_front (Range (Bytes first last) exclusive) rest = refl
span_front (Range (Empty offset) exclusive) rest = refl
span_front (Cache kind running) rest = refl

pub spans_more : (out : List Span) (what : What) (rest whole new : List Span) → new ≡ out ++ with_span what [] → out ++ with_span what rest ≡ whole → new ++ rest ≡ whole
spans_more out what rest whole new e is =
    ap (λ (x : List Span). x ++ rest) e ∙ append_assoc out (with_span what []) rest ∙ ap (λ (x : List Span). out ++ x) (span_front what rest) ∙ is

-- a test of spans passes for one of those claimed where it does for what some claim claims
pub any_in_spans : (p : Span → Bool) (cs : List Claim) → list_any (λ c. list_any p (with_span c.what [])) cs ≡ list_any p (spans_in cs)
any_in_spans p [] = refl
any_in_spans p (c ∷ cs) = rw (any_in_spans p cs) (front c.what) where
  front : (w : What) → (list_any p (with_span w []) || list_any p (spans_in cs)) ≡ list_any p (with_span w (spans_in cs))
  front (Share access deny) = refl
  front (Cache kind running) = refl
  front (Range (Empty offset) exclusive) = refl
  front (Range (Bytes first last) exclusive) = elim (cases_Bool (p (record { first = first; last = last; mode = mode_of exclusive }))) [ inl h ↦ rw h refl | inr h ↦ rw h refl ]
