-- The spans that a relock does not touch, and lists of runs with some left out.
use Rattle.std.proofs.Common.{◌≡◌, ℕ, ◌+◌, ◌-◌, ◌<◌, ◌≤◌, Bool, true, not, ltb, leb, eqb, List, [], ◌∷◌, ◌++◌, take, drop, Option, Some, None, refl, sym, ap, subst, ◌∙◌, inl, inr, arith}
use Rattle.std.specs.List.{AllByRecursion, filter, filter_map, prefix_len, slice_range}
use Rattle.std.proofs.lemmas.Bool.{cases_Bool, cases_lt, lt-ltb, le-ltb, and_left, and_from, ne_eqb, le-leb}
use Rattle.std.proofs.lemmas.List.{take-append-drop, drop-drop}
use Rattle.std.proofs.lemmas.List.Elements.{filter-append}
use Rattle.xl_base.proofs.Members.{all_append}
use Rattle.xl_spans.specs.declared.span.Mode.{Mode}
use Rattle.xl_spans.specs.declared.span.Span.{Span}
use Rattle.xl_spans.specs.Spans.{same_mode, joins, IsBefore, IsCanonical, EndsBelow, part_before, part_past, asked, joined, runs, relocked, ends_before, begins_by, touches}
use Rattle.xl_spans.proofs.InPlace.{Reaches, BeginBy, touched, touched_chain, touched_begin, places_in_order, chain_rest, reaches_take, reaches_rest, relocked_in_place}
use Rattle.xl_spans.proofs.Chains.{IsChain, chain_weaker, canonical_chain_all, canonical_rest}

chain_filter : (lo : ℕ) (p : Span → Bool) (ss : List Span) → IsChain lo ss → IsChain lo (filter p ss)
chain_filter lo p [] c = tt
chain_filter lo p (s ∷ ss) c =
    let rest = chain_filter (s.last + 1) p ss c.2 in
    elim (cases_Bool (p s)) [
      | inl keep ↦ rw keep (c.0, c.1, rest)
      | inr leave ↦ rw leave (chain_weaker lo (s.last + 1) (filter p ss) (omega (arith, c.0, c.1)) rest)
    ]

far_before : (s : Span) (lo : ℕ) (ss : List Span) → s.last + 1 < lo → IsChain lo ss → IsBefore s ss
far_before s lo [] h c = tt
far_before s lo (t ∷ ts) h c =
    (omega (arith, h, c.0), and_left (eqb (s.last + 1) t.first) (same_mode s.mode t.mode) (ne_eqb (s.last + 1) t.first (λ e. omega (arith, e, h, c.0))))

-- maximal runs stay so where some are left out
before_filter : (s : Span) (p : Span → Bool) (ss : List Span) → IsBefore s ss → IsCanonical ss → IsBefore s (filter p ss)
before_filter s p [] h c = tt
before_filter s p (t ∷ ts) h c =
    elim (cases_Bool (p t)) [
      | inl keep ↦ rw keep h
      | inr leave ↦ rw leave (far_before s (t.last + 1) (filter p ts) (omega (arith, h.0, c.0)) (chain_filter (t.last + 1) p ts (canonical_rest t ts c)))
    ]

pub canonical_filter : (p : Span → Bool) (ss : List Span) → IsCanonical ss → IsCanonical (filter p ss)
canonical_filter p [] c = tt
canonical_filter p (s ∷ ss) c =
    elim (cases_Bool (p s)) [
      | inl keep ↦ rw keep (c.0, before_filter s p ss c.1 c.2, canonical_filter p ss c.2)
      | inr leave ↦ rw leave (canonical_filter p ss c.2)
    ]

-- no span reaches past those that were there, and the range
ends_before_cut : (n f : ℕ) (ss : List Span) → EndsBelow n ss → EndsBelow n (filter_map (part_before f) ss)
ends_before_cut n f [] e = tt
ends_before_cut n f (s ∷ ss) e =
    elim (cases_Bool (ltb s.first f)) [
      | inl h ↦ rw h (omega (arith, e.0), ends_before_cut n f ss e.1)
      | inr h ↦ rw h (ends_before_cut n f ss e.1)
    ]

ends_past_cut : (n l : ℕ) (ss : List Span) → EndsBelow n ss → EndsBelow n (filter_map (part_past l) ss)
ends_past_cut n l [] e = tt
ends_past_cut n l (s ∷ ss) e =
    elim (cases_Bool (ltb l s.last)) [
      | inl h ↦ rw h (e.0, ends_past_cut n l ss e.1)
      | inr h ↦ rw h (ends_past_cut n l ss e.1)
    ]

ends_asked : (n f l : ℕ) (mode : Option Mode) → l < n → EndsBelow n (asked f l mode)
ends_asked n f l None h = tt
ends_asked n f l (Some m) h = (h, tt)

ends_joined : (n : ℕ) (s : Span) (ss : List Span) → s.last < n → EndsBelow n ss → EndsBelow n (joined s ss)
ends_joined n s [] h e = (h, tt)
ends_joined n s (t ∷ ts) h e = elim (cases_Bool (joins s t)) [ inl k ↦ rw k e | inr k ↦ rw k (h, e) ]

ends_runs : (n : ℕ) (ss : List Span) → EndsBelow n ss → EndsBelow n (runs ss)
ends_runs n [] e = tt
ends_runs n (s ∷ ss) e = ends_joined n s (runs ss) e.0 (ends_runs n ss e.1)

pub relocked_below : (n : ℕ) (ss : List Span) (f l : ℕ) (mode : Option Mode) → l < n → EndsBelow n ss → EndsBelow n (relocked ss f l mode)
unfolding relocked
relocked_below n ss f l mode h e =
    let Ends : Span → Type 0 = λ s. s.last < n in
    let before = filter_map (part_before f) ss in
    let past = filter_map (part_past l) ss in
    ends_runs n (before ++ (asked f l mode ++ past)) (all_append Ends before (asked f l mode ++ past) (ends_before_cut n f ss e) (all_append Ends (asked f l mode) past (ends_asked n f l mode h) (ends_past_cut n l ss e)))

-- a span that has a byte in the range, or right beside it
abbrev Near : ℕ → ℕ → Span → Type 0
Near f l s = (f ≤ s.last + 1) × (s.first ≤ l + 1)

near_touches : (f l : ℕ) (s : Span) → Near f l s → touches f l s ≡ true
near_touches f l s h = and_from (leb f (s.last + 1)) (leb s.first (l + 1)) (le-leb f (s.last + 1) h.0) (le-leb s.first (l + 1) h.1)

near_none : (f l : ℕ) (ss : List Span) → AllByRecursion (Near f l) ss → filter (λ s. not (touches f l s)) ss ≡ []
near_none f l [] h = refl
near_none f l (s ∷ ss) h = rw (near_touches f l s h.0) (near_none f l ss h.1)

near_chain : (f l lo : ℕ) (ss : List Span) → f ≤ lo + 1 → IsChain lo ss → BeginBy (l + 1) ss → AllByRecursion (Near f l) ss
near_chain f l lo [] h c b = tt
near_chain f l lo (s ∷ ss) h c b = ((omega (arith, h, c.0, c.1), b.0), near_chain f l (s.last + 1) ss (omega (arith, h, c.0, c.1)) c.2 b.1)

near_from : (f l lo : ℕ) (ss : List Span) → Reaches (f - 1) ss → IsChain lo ss → BeginBy (l + 1) ss → AllByRecursion (Near f l) ss
near_from f l lo [] h c b = tt
near_from f l lo (s ∷ ss) h c b = ((omega (arith, h), b.0), near_chain f l (s.last + 1) ss (omega (arith, h)) c.2 b.1)

near_before : (f l : ℕ) (ss : List Span) → f ≤ l → AllByRecursion (Near f l) ss → AllByRecursion (Near f l) (filter_map (part_before f) ss)
near_before f l [] h n = tt
near_before f l (s ∷ ss) h n =
    elim (cases_lt s.first f) [
      | inl k ↦ rw (lt-ltb s.first f k) ((omega (arith, k, n.0.0), n.0.1), near_before f l ss h n.1)
      | inr k ↦ rw (le-ltb s.first f k) (near_before f l ss h n.1)
    ]

near_past : (f l : ℕ) (ss : List Span) → f ≤ l → AllByRecursion (Near f l) ss → AllByRecursion (Near f l) (filter_map (part_past l) ss)
near_past f l [] h n = tt
near_past f l (s ∷ ss) h n =
    elim (cases_lt l s.last) [
      | inl k ↦ rw (lt-ltb l s.last k) ((n.0.0, omega (arith, n.0.1)), near_past f l ss h n.1)
      | inr k ↦ rw (le-ltb l s.last k) (near_past f l ss h n.1)
    ]

near_asked : (f l : ℕ) (mode : Option Mode) → f ≤ l → AllByRecursion (Near f l) (asked f l mode)
near_asked f l None h = tt
near_asked f l (Some m) h = ((omega (arith, h), omega (arith, h)), tt)

near_joined : (f l : ℕ) (s : Span) (ss : List Span) → Near f l s → AllByRecursion (Near f l) ss → AllByRecursion (Near f l) (joined s ss)
near_joined f l s [] h n = (h, tt)
near_joined f l s (t ∷ ts) h n = elim (cases_Bool (joins s t)) [ inl k ↦ rw k ((n.0.0, h.1), n.1) | inr k ↦ rw k (h, n) ]

near_runs : (f l : ℕ) (ss : List Span) → AllByRecursion (Near f l) ss → AllByRecursion (Near f l) (runs ss)
near_runs f l [] n = tt
near_runs f l (s ∷ ss) n = near_joined f l s (runs ss) n.0 (near_runs f l ss n.1)

near_relocked : (f l : ℕ) (mode : Option Mode) (ss : List Span) → f ≤ l → AllByRecursion (Near f l) ss → AllByRecursion (Near f l) (relocked ss f l mode)
unfolding relocked
near_relocked f l mode ss h n =
    let before = filter_map (part_before f) ss in
    let past = filter_map (part_past l) ss in
    near_runs f l (before ++ (asked f l mode ++ past)) (all_append (Near f l) before (asked f l mode ++ past) (near_before f l ss h n) (all_append (Near f l) (asked f l mode) past (near_asked f l mode h) (near_past f l ss h n)))

-- a list in three parts
in_three : (i j : ℕ) (ss : List Span) → i ≤ j → ss ≡ take i ss ++ (slice_range ss i j ++ drop j ss)
in_three i j ss h =
    let at : i + (j - i) ≡ j = omega (arith, h) in
    let rest : drop (j - i) (drop i ss) ≡ drop j ss = drop-drop (j - i) i ss ∙ ap (λ n. drop n ss) at in
    sym (ap (λ zs. take i ss ++ (take (j - i) (drop i ss) ++ zs)) (sym rest) ∙ ap (λ zs. take i ss ++ zs) (take-append-drop (j - i) (drop i ss)) ∙ take-append-drop i ss)

middle_gone : (p : Span → Bool) (xs ys zs : List Span) → filter p ys ≡ [] → filter p (xs ++ (ys ++ zs)) ≡ filter p xs ++ filter p zs
middle_gone p xs ys zs none =
    filter-append p xs (ys ++ zs) ∙ ap (λ ws. filter p xs ++ ws) (filter-append p ys zs ∙ ap (λ ws. ws ++ filter p zs) none)

-- The spans apart from a range, in their order, are the same after its lock or unlock.
pub relocked_untouched : (ss : List Span) (f l : ℕ) (mode : Option Mode) → f ≤ l → IsCanonical ss → filter (λ s. not (touches f l s)) (relocked ss f l mode) ≡ filter (λ s. not (touches f l s)) ss
relocked_untouched ss f l mode h c =
    let b = f - 1 in
    let t = l + 1 in
    let i = prefix_len (ends_before b) ss in
    let j = prefix_len (begins_by t) ss in
    let some = touched b t ss in
    let apart : Span → Bool = λ s. not (touches f l s) in
    let chain = canonical_chain_all ss c in
    let order = places_in_order b t ss (omega (arith, h)) c in
    let far : IsChain (l + 2) (drop j ss) = subst (λ lo. IsChain lo (drop j ss)) (omega arith) (chain_rest t 0 ss chain) in
    let near = near_from f l 0 some (reaches_take b (j - i) (drop i ss) (reaches_rest b ss)) (touched_chain b t ss c) (touched_begin b t ss (omega (arith, h)) c) in
    ap (filter apart) (relocked_in_place ss f l t mode h (omega arith) c far)
    ∙ middle_gone apart (take i ss) (relocked some f l mode) (drop j ss) (near_none f l (relocked some f l mode) (near_relocked f l mode some h near))
    ∙ sym (middle_gone apart (take i ss) some (drop j ss) (near_none f l some near))
    ∙ ap (filter apart) (sym (in_three i j ss order))
