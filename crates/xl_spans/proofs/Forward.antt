-- Runs that are made from the front.
use Rattle.std.proofs.Common.{◌≡◌, ℕ, ◌+◌, ◌<◌, true, false, eqb, ◌&&◌, List, [], ◌∷◌, ◌++◌, drop, length, get_or, refl, sym, ap, ◌∙◌, inl, inr}
use Rattle.std.proofs.lemmas.Bool.{cases_Bool}
use Rattle.std.proofs.lemmas.List.{append_assoc, drop_more}
use Rattle.xl_spans.specs.declared.span.Span.{Span}
use Rattle.xl_spans.specs.Spans.{same_mode, joins, joined, runs}
use Rattle.xl_spans.proofs.Bytes.{touching}

-- where a joins b, it is grown to b's end first
pub joins_front : (a b : Span) (ss : List Span) → joins a b ≡ true → joined a (joined b ss) ≡ joined (record { first = a.first; last = b.last; mode = a.mode }) ss
joins_front a b [] h = rw h refl
joins_front a b (s ∷ ss) h =
    let mode = (touching a b h).1 in
    let same : joins (record { first = a.first; last = b.last; mode = a.mode }) s ≡ joins b s = ap (λ m. eqb (b.last + 1) s.first && same_mode m s.mode) mode in
    elim (cases_Bool (joins b s)) [
      | inl k ↦ rw k (rw h (rw (same ∙ k) refl))
      | inr k ↦ rw k (rw h (rw (same ∙ k) refl))
    ]

-- where it does not, it is a run by itself
pub joins_apart : (a b : Span) (ss : List Span) → joins a b ≡ false → joined a (joined b ss) ≡ a ∷ joined b ss
joins_apart a b [] h = rw h refl
joins_apart a b (s ∷ ss) h = elim (cases_Bool (joins b s)) [ inl k ↦ rw k (rw h refl) | inr k ↦ rw k (rw h refl) ]

-- one more span: it is the run's, or begins the next
pub run_grown : (outs parts rest : List Span) (run : Span) (i : ℕ) (d : Span) → i < length rest → joins run (get_or rest i d) ≡ true → outs ++ joined run (runs (drop i rest)) ≡ runs parts → outs ++ joined (record { first = run.first; last = (get_or rest i d).last; mode = run.mode }) (runs (drop (i + 1) rest)) ≡ runs parts
run_grown outs parts rest run i d within one same =
    ap (λ ss. outs ++ ss) (sym (ap (λ ss. joined run (runs ss)) (drop_more rest i d within) ∙ joins_front run (get_or rest i d) (runs (drop (i + 1) rest)) one)) ∙ same

pub run_begun : (outs parts rest : List Span) (run : Span) (i : ℕ) (d : Span) → i < length rest → joins run (get_or rest i d) ≡ false → outs ++ joined run (runs (drop i rest)) ≡ runs parts → (outs ++ run ∷ []) ++ joined (get_or rest i d) (runs (drop (i + 1) rest)) ≡ runs parts
run_begun outs parts rest run i d within apart same =
    append_assoc outs (run ∷ []) (joined (get_or rest i d) (runs (drop (i + 1) rest)))
    ∙ ap (λ ss. outs ++ ss) (sym (ap (λ ss. joined run (runs ss)) (drop_more rest i d within) ∙ joins_apart run (get_or rest i d) (runs (drop (i + 1) rest)) apart)) ∙ same
