-- The byte function of spans that are cut, put behind one another and made one.
use Rattle.std.proofs.Common.{◌≡◌, ℕ, ◌+◌, ◌-◌, ◌<◌, ◌≤◌, min, max, true, cond, ltb, leb, eqb, ◌&&◌, List, [], ◌∷◌, ◌++◌, Option, Some, None, refl, sym, ap, ◌∙◌, inl, inr, arith}
use Rattle.std.specs.List.{AllByRecursion, filter_map}
use Rattle.std.specs.Option.{option_or}
use Rattle.std.proofs.lemmas.Bool.{cases_Bool, cases_lt, lt-ltb, le-ltb, and_parts}
use Rattle.std.proofs.lemmas.Bool.Decides.{nat_tests}
use Rattle.xl_base.proofs.Members.{all_append}
use Rattle.xl_spans.specs.declared.span.Mode.{Mode}
use Rattle.xl_spans.specs.declared.span.Mode.TheVariants.{Shared, Exclusive}
use Rattle.xl_spans.specs.declared.span.Span.{Span}
use Rattle.xl_spans.specs.Spans.{within, mode_at, same_mode, joins, part_before, part_past, asked, joined, runs, relocked}

-- each range has a byte
abbrev pub AreRanges : List Span → Type 0
AreRanges ss = AllByRecursion (λ s. s.first ≤ s.last) ss

pub same_mode_is : (a b : Mode) → same_mode a b ≡ true → a ≡ b
same_mode_is Shared Shared h = refl
same_mode_is Exclusive Exclusive h = refl
same_mode_is Shared Exclusive h = cc
same_mode_is Exclusive Shared h = cc

pub same_mode_self : (a : Mode) → same_mode a a ≡ true
same_mode_self Shared = refl
same_mode_self Exclusive = refl

pub mode_at-append : (xs ys : List Span) (x : ℕ) → mode_at (xs ++ ys) x ≡ option_or (mode_at xs x) (mode_at ys x)
mode_at-append [] ys x = refl
mode_at-append (s ∷ xs) ys x =
    elim (cases_Bool (within s.first s.last x)) [ inl h ↦ rw h refl | inr h ↦ rw h (mode_at-append xs ys x) ]

-- one span of a cut, over plain numbers
cut_here : (a b f x : ℕ) (m p : Option Mode) → a < f → cond (leb a x && leb x (min b (f - 1))) m (cond (ltb x f) p None) ≡ cond (ltb x f) (cond (leb a x && leb x b) m p) None
cut_here a b f x m p h = grind (arith, nat_tests)

cut_none : (a b f x : ℕ) (m p : Option Mode) → f ≤ a → cond (ltb x f) p None ≡ cond (ltb x f) (cond (leb a x && leb x b) m p) None
cut_none a b f x m p h = grind (arith, nat_tests)

pub before_mode : (f : ℕ) (ss : List Span) (x : ℕ) → mode_at (filter_map (part_before f) ss) x ≡ (cond (ltb x f) (mode_at ss x) None)
before_mode f [] x = elim (cases_Bool (ltb x f)) [ inl h ↦ rw h refl | inr h ↦ rw h refl ]
before_mode f (s ∷ ss) x =
    elim (cases_lt s.first f) [
      | inl h ↦ rw (lt-ltb s.first f h) (rw (before_mode f ss x) (cut_here s.first s.last f x (Some s.mode) (mode_at ss x) h))
      | inr h ↦ rw (le-ltb s.first f h) (rw (before_mode f ss x) (cut_none s.first s.last f x (Some s.mode) (mode_at ss x) h))
    ]

past_here : (a b l x : ℕ) (m p : Option Mode) → l < b → cond (leb (max a (l + 1)) x && leb x b) m (cond (ltb l x) p None) ≡ cond (ltb l x) (cond (leb a x && leb x b) m p) None
past_here a b l x m p h = grind (arith, nat_tests)

past_none : (a b l x : ℕ) (m p : Option Mode) → b ≤ l → cond (ltb l x) p None ≡ cond (ltb l x) (cond (leb a x && leb x b) m p) None
past_none a b l x m p h = grind (arith, nat_tests)

pub past_mode : (l : ℕ) (ss : List Span) (x : ℕ) → mode_at (filter_map (part_past l) ss) x ≡ (cond (ltb l x) (mode_at ss x) None)
past_mode l [] x = elim (cases_Bool (ltb l x)) [ inl h ↦ rw h refl | inr h ↦ rw h refl ]
past_mode l (s ∷ ss) x =
    elim (cases_lt l s.last) [
      | inl h ↦ rw (lt-ltb l s.last h) (rw (past_mode l ss x) (past_here s.first s.last l x (Some s.mode) (mode_at ss x) h))
      | inr h ↦ rw (le-ltb l s.last h) (rw (past_mode l ss x) (past_none s.first s.last l x (Some s.mode) (mode_at ss x) h))
    ]

pub asked_mode : (f l : ℕ) (mode : Option Mode) (x : ℕ) → mode_at (asked f l mode) x ≡ (cond (within f l x) mode None)
asked_mode f l None x = elim (cases_Bool (within f l x)) [ inl h ↦ rw h refl | inr h ↦ rw h refl ]
asked_mode f l (Some m) x = refl

-- two runs that touch, over plain numbers
one_run : (a b c d x : ℕ) (m p : Option Mode) → a ≤ b → b + 1 ≡ c → c ≤ d → cond (leb a x && leb x d) m p ≡ cond (leb a x && leb x b) m (cond (leb c x && leb x d) m p)
one_run a b c d x m p h e k = grind (arith, nat_tests)

pub touching : (a b : Span) → joins a b ≡ true → (a.last + 1 ≡ b.first) × (a.mode ≡ b.mode)
touching a b h =
    let parts = and_parts (eqb (a.last + 1) b.first) (same_mode a.mode b.mode) h in
    (grind (arith, nat_tests, parts.0), same_mode_is a.mode b.mode parts.1)

joined_mode : (s : Span) (ss : List Span) (x : ℕ) → s.first ≤ s.last → AreRanges ss → mode_at (joined s ss) x ≡ (cond (within s.first s.last x) (Some s.mode) (mode_at ss x))
joined_mode s [] x real all = refl
joined_mode s (t ∷ ts) x real all =
    elim (cases_Bool (joins s t)) [
      | inl h ↦ let both = touching s t h in rw h (rw (sym both.1) (one_run s.first s.last t.first t.last x (Some s.mode) (mode_at ts x) real both.0 all.0))
      | inr h ↦ rw h refl
    ]

pub ranges_joined : (s : Span) (ss : List Span) → s.first ≤ s.last → AreRanges ss → AreRanges (joined s ss)
ranges_joined s [] real all = (real, tt)
ranges_joined s (t ∷ ts) real all =
    elim (cases_Bool (joins s t)) [
      | inl h ↦ let both = touching s t h in rw h (omega (arith, real, both.0, all.0), all.1)
      | inr h ↦ rw h (real, all)
    ]

pub ranges_runs : (ss : List Span) → AreRanges ss → AreRanges (runs ss)
ranges_runs [] all = tt
ranges_runs (s ∷ ss) all = ranges_joined s (runs ss) all.0 (ranges_runs ss all.1)

pub runs_mode : (ss : List Span) (x : ℕ) → AreRanges ss → mode_at (runs ss) x ≡ mode_at ss x
runs_mode [] x all = refl
runs_mode (s ∷ ss) x all =
    joined_mode s (runs ss) x all.0 (ranges_runs ss all.1) ∙ ap (λ m. cond (within s.first s.last x) (Some s.mode) m) (runs_mode ss x all.1)

cut_real : (a b f : ℕ) → a ≤ b → a < f → a ≤ min b (f - 1)
cut_real a b f h k = omega arith

pub ranges_before : (f : ℕ) (ss : List Span) → AreRanges ss → AreRanges (filter_map (part_before f) ss)
ranges_before f [] all = tt
ranges_before f (s ∷ ss) all =
    elim (cases_lt s.first f) [
      | inl h ↦ rw (lt-ltb s.first f h) (cut_real s.first s.last f all.0 h, ranges_before f ss all.1)
      | inr h ↦ rw (le-ltb s.first f h) (ranges_before f ss all.1)
    ]

past_real : (a b l : ℕ) → a ≤ b → l < b → max a (l + 1) ≤ b
past_real a b l h k = omega arith

pub ranges_past : (l : ℕ) (ss : List Span) → AreRanges ss → AreRanges (filter_map (part_past l) ss)
ranges_past l [] all = tt
ranges_past l (s ∷ ss) all =
    elim (cases_lt l s.last) [
      | inl h ↦ rw (lt-ltb l s.last h) (past_real s.first s.last l all.0 h, ranges_past l ss all.1)
      | inr h ↦ rw (le-ltb l s.last h) (ranges_past l ss all.1)
    ]

pub ranges_asked : (f l : ℕ) (mode : Option Mode) → f ≤ l → AreRanges (asked f l mode)
ranges_asked f l None h = tt
ranges_asked f l (Some m) h = (h, tt)

-- the three parts, over plain numbers
three_parts : (f l x : ℕ) (old new : Option Mode) → f ≤ l → option_or (cond (ltb x f) old None) (option_or (cond (leb f x && leb x l) new None) (cond (ltb l x) old None)) ≡ cond (leb f x && leb x l) new old
three_parts f l x None None h = grind (arith, nat_tests)
three_parts f l x None (Some n) h = grind (arith, nat_tests)
three_parts f l x (Some o) None h = grind (arith, nat_tests)
three_parts f l x (Some o) (Some n) h = grind (arith, nat_tests)

-- a byte has the asked mode inside the range, and its old mode outside
pub relocked_mode : (ss : List Span) (f l : ℕ) (mode : Option Mode) (x : ℕ) → f ≤ l → AreRanges ss → mode_at (relocked ss f l mode) x ≡ (cond (within f l x) mode (mode_at ss x))
unfolding relocked
relocked_mode ss f l mode x h all =
    let before = filter_map (part_before f) ss in
    let past = filter_map (part_past l) ss in
    let rest = asked f l mode ++ past in
    let real = all_append (λ s. s.first ≤ s.last) before rest (ranges_before f ss all) (all_append (λ s. s.first ≤ s.last) (asked f l mode) past (ranges_asked f l mode h) (ranges_past l ss all)) in
    runs_mode (before ++ rest) x real
    ∙ mode_at-append before rest x
    ∙ ap (λ m. option_or (mode_at before x) m) (mode_at-append (asked f l mode) past x)
    ∙ rw (before_mode f ss x, asked_mode f l mode x, past_mode l ss x) (three_parts f l x (mode_at ss x) mode h)
