-- Ranges in order, and that cutting, putting in place and joining makes maximal runs of them.
use Rattle.std.proofs.Common.{◌≡◌, ℕ, ◌+◌, ◌-◌, ◌<◌, ◌≤◌, min, max, false, leb, ◌&&◌, List, [], ◌∷◌, ◌++◌, Option, Some, None, refl, inl, inr, arith}
use Rattle.std.specs.List.{filter_map}
use Rattle.std.proofs.lemmas.Bool.{cases_Bool, cases_lt, lt-ltb, le-ltb}
use Rattle.std.proofs.lemmas.Bool.Decides.{nat_tests}
use Rattle.xl_spans.specs.declared.span.Mode.{Mode}
use Rattle.xl_spans.specs.declared.span.Span.{Span}
use Rattle.xl_spans.specs.Spans.{mode_at, joins, IsBefore, IsCanonical, EndsBelow, part_before, part_past, asked, joined, runs, relocked}
use Rattle.xl_spans.proofs.Bytes.{AreRanges, touching}

-- real ranges in order, of which the first begins at lo or past it
abbrev pub IsChain : ℕ → List Span → Type 0
IsChain lo [] = Unit {0}
IsChain lo (s ∷ ss) = (lo ≤ s.first) × (s.first ≤ s.last) × IsChain (s.last + 1) ss

pub chain_weaker : (lo hi : ℕ) (ss : List Span) → lo ≤ hi → IsChain hi ss → IsChain lo ss
chain_weaker lo hi [] h c = tt
chain_weaker lo hi (s ∷ ss) h c = (omega (arith, h, c.0), c.1, c.2)

pub chain_append : (lo hi : ℕ) (xs ys : List Span) → lo ≤ hi → IsChain lo xs → EndsBelow hi xs → IsChain hi ys → IsChain lo (xs ++ ys)
chain_append lo hi [] ys h c e d = chain_weaker lo hi ys h d
chain_append lo hi (x ∷ xs) ys h c e d = (c.0, c.1, chain_append (x.last + 1) hi xs ys (omega (arith, e.0)) c.2 e.1 d)

pub chain_ranges : (lo : ℕ) (ss : List Span) → IsChain lo ss → AreRanges ss
chain_ranges lo [] c = tt
chain_ranges lo (s ∷ ss) c = (c.1, chain_ranges (s.last + 1) ss c.2)

outside : (a b x : ℕ) → x < a → (leb a x && leb x b) ≡ false
outside a b x h = grind (arith, nat_tests)

-- a byte below a chain has no mode
pub chain_none : (lo : ℕ) (ss : List Span) (x : ℕ) → IsChain lo ss → x < lo → mode_at ss x ≡ None
chain_none lo [] x c h = refl
chain_none lo (s ∷ ss) x c h =
    let later : x < s.last + 1 = omega (arith, c.0, c.1, h) in
    let early : x < s.first = omega (arith, c.0, h) in
    rw (outside s.first s.last x early) (chain_none (s.last + 1) ss x c.2 later)

pub canonical_chain : (lo : ℕ) (s : Span) (ss : List Span) → lo ≤ s.first → IsCanonical (s ∷ ss) → IsChain lo (s ∷ ss)
canonical_chain lo s [] h c = (h, c.0, tt)
canonical_chain lo s (t ∷ ts) h c = (h, c.0, canonical_chain (s.last + 1) t ts (omega (arith, c.1.0)) c.2)

pub canonical_chain_all : (ss : List Span) → IsCanonical ss → IsChain 0 ss
canonical_chain_all [] c = tt
canonical_chain_all (s ∷ ss) c = canonical_chain 0 s ss (omega arith) c

pub canonical_ranges : (ss : List Span) → IsCanonical ss → AreRanges ss
canonical_ranges ss c = chain_ranges 0 ss (canonical_chain_all ss c)

-- the rest of a canonical list
pub canonical_rest : (s : Span) (ss : List Span) → IsCanonical (s ∷ ss) → IsChain (s.last + 1) ss
canonical_rest s [] c = tt
canonical_rest s (t ∷ ts) c = canonical_chain (s.last + 1) t ts (omega (arith, c.1.0)) c.2

cut_real : (a b f : ℕ) → a ≤ b → a < f → a ≤ min b (f - 1)
cut_real a b f h k = omega arith

cut_ends : (b f : ℕ) → min b (f - 1) + 1 ≤ b + 1
cut_ends b f = omega arith

cut_below : (a b f : ℕ) → a < f → min b (f - 1) < f
cut_below a b f h = omega arith

pub chain_before : (f lo : ℕ) (ss : List Span) → IsChain lo ss → IsChain lo (filter_map (part_before f) ss)
chain_before f lo [] c = tt
chain_before f lo (s ∷ ss) c =
    elim (cases_lt s.first f) [
      | inl h ↦ rw (lt-ltb s.first f h) (c.0, cut_real s.first s.last f c.1 h, chain_weaker (min s.last (f - 1) + 1) (s.last + 1) (filter_map (part_before f) ss) (cut_ends s.last f) (chain_before f (s.last + 1) ss c.2))
      | inr h ↦ rw (le-ltb s.first f h) (chain_weaker lo (s.last + 1) (filter_map (part_before f) ss) (omega (arith, c.0, c.1)) (chain_before f (s.last + 1) ss c.2))
    ]

pub before_ends : (f : ℕ) (ss : List Span) → EndsBelow f (filter_map (part_before f) ss)
before_ends f [] = tt
before_ends f (s ∷ ss) =
    elim (cases_lt s.first f) [
      | inl h ↦ rw (lt-ltb s.first f h) (cut_below s.first s.last f h, before_ends f ss)
      | inr h ↦ rw (le-ltb s.first f h) (before_ends f ss)
    ]

past_real : (a b l : ℕ) → a ≤ b → l < b → max a (l + 1) ≤ b
past_real a b l h k = omega arith

past_begins : (lo a l : ℕ) → lo ≤ a → max lo (l + 1) ≤ max a (l + 1)
past_begins lo a l h = omega arith

past_on : (b l : ℕ) → b + 1 ≤ max (b + 1) (l + 1)
past_on b l = omega arith

pub chain_past : (l lo : ℕ) (ss : List Span) → IsChain lo ss → IsChain (max lo (l + 1)) (filter_map (part_past l) ss)
chain_past l lo [] c = tt
chain_past l lo (s ∷ ss) c =
    let rest = chain_past l (s.last + 1) ss c.2 in
    elim (cases_lt l s.last) [
      | inl h ↦ rw (lt-ltb l s.last h) (past_begins lo s.first l c.0, past_real s.first s.last l c.1 h, chain_weaker (s.last + 1) (max (s.last + 1) (l + 1)) (filter_map (part_past l) ss) (past_on s.last l) rest)
      | inr h ↦ rw (le-ltb l s.last h) (chain_weaker (max lo (l + 1)) (max (s.last + 1) (l + 1)) (filter_map (part_past l) ss) (past_begins lo (s.last + 1) l (omega (arith, c.0, c.1))) rest)
    ]

pub chain_asked : (f l : ℕ) (mode : Option Mode) → f ≤ l → IsChain f (asked f l mode)
chain_asked f l None h = tt
chain_asked f l (Some m) h = (omega arith, h, tt)

pub asked_ends : (f l : ℕ) (mode : Option Mode) → EndsBelow (l + 1) (asked f l mode)
asked_ends f l None = tt
asked_ends f l (Some m) = (omega arith, tt)

-- what is cut and put in place is in order
pub chain_parts : (ss : List Span) (f l : ℕ) (mode : Option Mode) → f ≤ l → IsCanonical ss → IsChain 0 (filter_map (part_before f) ss ++ (asked f l mode ++ filter_map (part_past l) ss))
chain_parts ss f l mode h c =
    let chain = canonical_chain_all ss c in
    let past = filter_map (part_past l) ss in
    let behind : IsChain (l + 1) past = chain_weaker (l + 1) (max 0 (l + 1)) past (omega arith) (chain_past l 0 ss chain) in
    chain_append 0 f (filter_map (part_before f) ss) (asked f l mode ++ past) (omega arith) (chain_before f 0 ss chain) (before_ends f ss) (chain_append f (l + 1) (asked f l mode) past (omega (arith, h)) (chain_asked f l mode h) (asked_ends f l mode) behind)

-- a span that is grown to the end of the next stands before the same spans as that one
grown_before : (a b : Span) (ss : List Span) → a.mode ≡ b.mode → IsBefore b ss → IsBefore (record { first = a.first; last = b.last; mode = a.mode }) ss
grown_before a b [] e h = tt
grown_before a b (s ∷ ss) e h = rw e h

pub joined_canonical : (lo : ℕ) (s : Span) (ss : List Span) → lo ≤ s.first → s.first ≤ s.last → IsChain (s.last + 1) ss → IsCanonical ss → IsCanonical (joined s ss) × IsChain lo (joined s ss)
joined_canonical lo s [] h k chain c = ((k, tt, tt), (h, k, tt))
joined_canonical lo s (t ∷ ts) h k chain c =
    elim (cases_Bool (joins s t)) [
      | inl e ↦
          let both = touching s t e in
          let real : s.first ≤ t.last = omega (arith, k, chain.0, chain.1) in
          rw e ((real, grown_before s t ts both.1 c.1, c.2), (h, real, chain.2))
      | inr e ↦ rw e ((k, (omega (arith, chain.0), e), c), (h, k, chain))
    ]

pub runs_canonical : (lo : ℕ) (ss : List Span) → IsChain lo ss → IsCanonical (runs ss) × IsChain lo (runs ss)
runs_canonical lo [] c = (tt, tt)
runs_canonical lo (s ∷ ss) c = let rest = runs_canonical (s.last + 1) ss c.2 in joined_canonical lo s (runs ss) c.0 c.1 rest.1 rest.0

-- maximal runs stay so
pub relocked_canonical : (ss : List Span) (f l : ℕ) (mode : Option Mode) → f ≤ l → IsCanonical ss → IsCanonical (relocked ss f l mode)
unfolding relocked
relocked_canonical ss f l mode h c = (runs_canonical 0 (filter_map (part_before f) ss ++ (asked f l mode ++ filter_map (part_past l) ss)) (chain_parts ss f l mode h c)).0
