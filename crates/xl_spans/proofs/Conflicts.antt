-- What the first conflict is, by spans and by bytes.
use Rattle.std.proofs.Common.{◌≡◌, ℕ, ◌+◌, ◌≤◌, max, Bool, true, false, not, leb, ◌&&◌, ◌↔◌, List, [], ◌∷◌, Option, Some, None, refl, sym, ap, ◌∙◌, inl, inr, arith}
use Rattle.std.specs.List.{find}
use Rattle.std.specs.Option.{IfSome}
use Rattle.std.proofs.lemmas.Bool.{cases_Bool, cases_lt, and_parts, false≢true}
use Rattle.std.proofs.lemmas.Bool.Decides.{nat_tests}
use Rattle.xl_base.specs.Lists.{IsIn}
use Rattle.xl_spans.specs.declared.span.Mode.{Mode}
use Rattle.xl_spans.specs.declared.span.Span.{Span}
use Rattle.xl_spans.specs.Spans.{within, mode_at, IsCanonical, meets, excludes, conflicts, first_conflict, leaves_free}
use Rattle.xl_spans.proofs.Chains.{IsChain, chain_none, canonical_chain_all}
use Rattle.xl_spans.proofs.SameBytes.{mode_beyond}

chain_begins : (lo : ℕ) (ss : List Span) (t : Span) → IsChain lo ss → IsIn t ss → lo ≤ t.first
chain_begins lo [] t c h = absurd h
chain_begins lo (s ∷ ss) t c h =
    elim h [
      | inl e ↦ omega (arith, c.0, ap (λ (u : Span). u.first) e)
      | inr k ↦ omega (arith, c.0, c.1, chain_begins (s.last + 1) ss t c.2 k)
    ]

further : (s : Span) (found : Option Span) (ss : List Span) (P : Span → Type 0) → IfSome found (λ t. IsIn t ss × P t) → IfSome found (λ t. IsIn t (s ∷ ss) × P t)
further s None ss P h = tt
further s (Some t) ss P h = (inr h.0, h.1)

found_in : (first last : ℕ) (mode : Mode) (ss : List Span) → IfSome (find (conflicts first last mode) ss) (λ s. IsIn s ss × (conflicts first last mode s ≡ true))
found_in first last mode [] = tt
found_in first last mode (s ∷ ss) =
    elim (cases_Bool (conflicts first last mode s)) [
      | inl h ↦ rw h (inl refl, h)
      | inr h ↦ rw h (further s (find (conflicts first last mode) ss) ss (λ t. conflicts first last mode t ≡ true) (found_in first last mode ss))
    ]

later : (s : Span) (found : Option Span) (ss : List Span) (test : Span → Bool) → test s ≡ false → IfSome found (λ f. (t : Span) → IsIn t ss → test t ≡ true → f.first ≤ t.first) → IfSome found (λ f. (t : Span) → IsIn t (s ∷ ss) → test t ≡ true → f.first ≤ t.first)
later s None ss test misses h = tt
later s (Some f) ss test misses h = λ t k e. elim k [ inl same ↦ absurd (false≢true (sym misses ∙ ap test same ∙ e)) | inr behind ↦ h t behind e ]

least_in : (first last : ℕ) (mode : Mode) (lo : ℕ) (ss : List Span) → IsChain lo ss → IfSome (find (conflicts first last mode) ss) (λ s. (t : Span) → IsIn t ss → conflicts first last mode t ≡ true → s.first ≤ t.first)
least_in first last mode lo [] c = tt
least_in first last mode lo (s ∷ ss) c =
    elim (cases_Bool (conflicts first last mode s)) [
      | inl h ↦ rw h (λ t k e. chain_begins s.first (s ∷ ss) t (omega arith, c.1, c.2) k)
      | inr h ↦ rw h (later s (find (conflicts first last mode) ss) ss (λ t. conflicts first last mode t) h (least_in first last mode (s.last + 1) ss c.2))
    ]

some_none : {s : Span} → Some s ≡ None → ⊥
some_none h = cc

not_excluded : (a b f l x : ℕ) (e : Bool) → (leb a x && leb x b) ≡ true → (leb f x && leb x l) ≡ true → ((leb a l && leb f b) && e) ≡ false → not e ≡ true
not_excluded a b f l x true h k misses = grind (arith, nat_tests)
not_excluded a b f l x false h k misses = refl

none_bytes : (first last : ℕ) (mode : Mode) (ss : List Span) → find (conflicts first last mode) ss ≡ None → (x : ℕ) → within first last x ≡ true → leaves_free mode (mode_at ss x) ≡ true
none_bytes first last mode [] none x h = refl
none_bytes first last mode (s ∷ ss) none x h =
    elim (cases_Bool (conflicts first last mode s)) [
      | inl meets_it ↦ absurd (some_none (rw meets_it at none))
      | inr misses ↦
          let rest = none_bytes first last mode ss (rw misses at none) x h in
          elim (cases_Bool (within s.first s.last x)) [
            | inl inside ↦ rw inside (not_excluded s.first s.last first last x (excludes mode s.mode) inside h misses)
            | inr outside ↦ rw outside rest
          ]
    ]

common : (a b f l : ℕ) → a ≤ b → f ≤ l → (leb a l && leb f b) ≡ true → ((leb a (max f a) && leb (max f a) b) ≡ true) × ((leb f (max f a) && leb (max f a) l) ≡ true)
common a b f l h k e = (grind (arith, nat_tests), grind (arith, nat_tests))

true_not : (e : Bool) → e ≡ true → not e ≡ true → ⊥
true_not true h k = cc
true_not false h k = cc

bytes_none : (first last : ℕ) (mode : Mode) (lo : ℕ) (ss : List Span) → first ≤ last → IsChain lo ss → ((x : ℕ) → within first last x ≡ true → leaves_free mode (mode_at ss x) ≡ true) → find (conflicts first last mode) ss ≡ None
bytes_none first last mode lo [] h c free = refl
bytes_none first last mode lo (s ∷ ss) h c free =
    elim (cases_Bool (conflicts first last mode s)) [
      | inl meets_it ↦
          let parts = and_parts (meets first last s) (excludes mode s.mode) meets_it in
          let x = max first s.first in
          let both = common s.first s.last first last c.1 h parts.0 in
          let there = free x both.1 in
          absurd (true_not (excludes mode s.mode) parts.1 (rw both.0 at there))
      | inr misses ↦ rw misses (bytes_none first last mode (s.last + 1) ss h c.2 (λ x k. elim (cases_lt s.last x) [
        | inl past ↦ rw (mode_beyond s ss x past) at (free x k)
        | inr near ↦ rw (chain_none (s.last + 1) ss x c.2 (omega (arith, near))) refl
      ]))
    ]

pub conflict_found : (first last : ℕ) (mode : Mode) (ss : List Span) → IfSome (first_conflict first last mode ss) (λ s. IsIn s ss × (conflicts first last mode s ≡ true))
unfolding first_conflict
conflict_found first last mode ss = found_in first last mode ss

pub conflict_least : (first last : ℕ) (mode : Mode) (ss : List Span) → IsCanonical ss → IfSome (first_conflict first last mode ss) (λ s. (t : Span) → IsIn t ss → conflicts first last mode t ≡ true → s.first ≤ t.first)
unfolding first_conflict
conflict_least first last mode ss c = least_in first last mode 0 ss (canonical_chain_all ss c)

pub conflict_none : (first last : ℕ) (mode : Mode) (ss : List Span) → first ≤ last → IsCanonical ss → (first_conflict first last mode ss ≡ None) ↔ ((x : ℕ) → within first last x ≡ true → leaves_free mode (mode_at ss x) ≡ true)
unfolding first_conflict
conflict_none first last mode ss h c = (none_bytes first last mode ss, bytes_none first last mode 0 ss h (canonical_chain_all ss c))
