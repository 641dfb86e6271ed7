-- A byte's mode, and the first conflict, are found where bisection says.
use Rattle.std.proofs.Common.{◌≡◌, ℕ, ◌+◌, ◌<◌, ◌≤◌, true, false, leb, ◌&&◌, List, [], ◌∷◌, length, get_or, take, Some, None, refl, sym, ap, ◌∙◌, inl, inr, arith}
use Rattle.std.proofs.Math.Numerals.{one-add}
use Rattle.std.proofs.Math.Nat.{suc-sub-suc, sub-zero}
use Rattle.std.specs.List.{find, prefix_len, slice_get, slice_range}
use Rattle.std.proofs.lemmas.Option.{slice_get-get_or, slice_get_past}
use Rattle.std.proofs.lemmas.Bool.{cases_Bool, cases_lt, lt-ltb, le-ltb, le-leb, lt-leb, and_left}
use Rattle.std.proofs.lemmas.Bool.Decides.{nat_tests}
use Rattle.xl_spans.specs.declared.span.Mode.{Mode}
use Rattle.xl_spans.specs.declared.span.Span.{Span}
use Rattle.xl_spans.specs.Spans.{within, mode_at, mode_in, IsCanonical, excludes, conflicts, ends_before, begins_by}
use Rattle.xl_spans.proofs.Chains.{IsChain, chain_none, canonical_chain_all}
use Rattle.xl_spans.proofs.SameBytes.{mode_beyond}
use Rattle.xl_spans.proofs.InPlace.{Reaches}

late : (a b x : ℕ) → x ≤ b → (leb a x && leb x b) ≡ leb a x
late a b x h = grind (arith, nat_tests)

found_at : (s : Span) (ss : List Span) (x : ℕ) → IsChain (s.last + 1) ss → x ≤ s.last → mode_at (s ∷ ss) x ≡ mode_in x (Some s)
found_at s ss x c h = rw (late s.first s.last x h, chain_none (s.last + 1) ss x c (omega (arith, h))) refl

mode_in_chain : (ss : List Span) (lo x : ℕ) → IsChain lo ss → mode_at ss x ≡ mode_in x (slice_get ss (prefix_len (ends_before x) ss))
mode_in_chain [] lo x c = refl
mode_in_chain (s ∷ ss) lo x c =
    elim (cases_lt s.last x) [
      | inl h ↦ rw (lt-ltb s.last x h, one-add) (mode_beyond s ss x h ∙ mode_in_chain ss (s.last + 1) x c.2)
      | inr h ↦ rw (le-ltb s.last x h) (found_at s ss x c.2 h)
    ]

pub mode_found : (ss : List Span) (x : ℕ) → IsCanonical ss → mode_at ss x ≡ mode_in x (slice_get ss (prefix_len (ends_before x) ss))
mode_found ss x c = mode_in_chain ss 0 x (canonical_chain_all ss c)

-- the same by what an index gives
pub mode_there : (ss : List Span) (x i : ℕ) (s : Span) → IsCanonical ss → i ≡ prefix_len (ends_before x) ss → i < length ss → s ≡ get_or ss i s → mode_at ss x ≡ mode_in x (Some s)
mode_there ss x i s c at within is =
    mode_found ss x c ∙ ap (mode_in x) (ap (slice_get ss) (sym at) ∙ slice_get-get_or ss i s within ∙ ap Some (sym is))

pub mode_past : (ss : List Span) (x i : ℕ) → IsCanonical ss → i ≡ prefix_len (ends_before x) ss → length ss ≤ i → mode_at ss x ≡ None
mode_past ss x i c at past = mode_found ss x c ∙ ap (mode_in x) (ap (slice_get ss) (sym at) ∙ slice_get_past ss i past)

-- a span that begins past the range conflicts with nothing in it
no_conflict : (first last : ℕ) (mode : Mode) (ss : List Span) (lo : ℕ) → last < lo → IsChain lo ss → find (conflicts first last mode) ss ≡ None
no_conflict first last mode [] lo h c = refl
no_conflict first last mode (s ∷ ss) lo h c =
    let far : (leb s.first last && leb first s.last) ≡ false = and_left (leb s.first last) (leb first s.last) (lt-leb s.first last (omega (arith, h, c.0))) in
    rw far (no_conflict first last mode ss (s.last + 1) (omega (arith, h, c.0, c.1)) c.2)

reaches_chain : (b lo : ℕ) (ss : List Span) → b ≤ lo → IsChain lo ss → Reaches b ss
reaches_chain b lo [] h c = tt
reaches_chain b lo (s ∷ ss) h c = omega (arith, h, c.0, c.1)

-- of spans that do not end before the range those that begin by its end meet it
conflict_from : (first last : ℕ) (mode : Mode) (ss : List Span) (lo : ℕ) → Reaches first ss → IsChain lo ss → find (conflicts first last mode) ss ≡ find (λ s. excludes mode s.mode) (take (prefix_len (begins_by last) ss) ss)
conflict_from first last mode [] lo h c = refl
conflict_from first last mode (s ∷ ss) lo h c =
    let ends : leb first s.last ≡ true = le-leb first s.last h in
    let rest = conflict_from first last mode ss (s.last + 1) (reaches_chain first (s.last + 1) ss (omega (arith, h)) c.2) c.2 in
    elim (cases_lt last s.first) [
      | inl far ↦ rw (lt-leb s.first last far) (no_conflict first last mode ss (s.last + 1) (omega (arith, far, c.1)) c.2)
      | inr near ↦ rw (le-leb s.first last near, ends, one-add) (elim (cases_Bool (excludes mode s.mode)) [ inl e ↦ rw e refl | inr e ↦ rw e rest ])
    ]

-- the first conflict stands among the spans that meet the range
pub conflict_met : (first last : ℕ) (mode : Mode) (ss : List Span) (lo : ℕ) → first ≤ last → IsChain lo ss → find (conflicts first last mode) ss ≡ find (λ s. excludes mode s.mode) (slice_range ss (prefix_len (ends_before first) ss) (prefix_len (begins_by last) ss))
conflict_met first last mode [] lo h c = refl
conflict_met first last mode (s ∷ ss) lo h c =
    elim (cases_lt s.last first) [
      | inl e ↦
          let over : leb first s.last ≡ false = lt-leb first s.last e in
          let begins : leb s.first last ≡ true = le-leb s.first last (omega (arith, c.1, e, h)) in
          let i = prefix_len (ends_before first) ss in
          let j = prefix_len (begins_by last) ss in
          rw (lt-ltb s.last first e, over, begins, one-add i, one-add j, suc-sub-suc j i) (conflict_met first last mode ss (s.last + 1) h c.2)
      | inr e ↦ rw (le-ltb s.last first e, sub-zero) (conflict_from first last mode (s ∷ ss) lo e c)
    ]
