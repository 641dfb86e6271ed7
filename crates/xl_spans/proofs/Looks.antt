-- Where a look at one span leaves a byte to be found, and how many looks a bisection takes.
use Rattle.std.proofs.Common.{◌≡◌, ℕ, zero, suc, ◌+◌, ◌-◌, ◌^◌, ◌<◌, ◌≤◌, true, false, leb, ◌&&◌, List, [], ◌∷◌, length, take, drop, Some, refl, sym, ap, ◌∙◌, subst, inl, inr, arith}
use Rattle.std.specs.List.{slice_get}
use Rattle.std.proofs.lemmas.Option.{none-some, same_Some}
use Rattle.std.proofs.lemmas.Bool.{cases_Bool}
use Rattle.std.proofs.lemmas.Bool.Decides.{nat_tests}
use Rattle.std.proofs.lemmas.List.{length-drop}
use Rattle.std.proofs.Math.Seq.{take-length}
use Rattle.std.proofs.Math.Nat.{pow-suc}
use Rattle.std.proofs.Math.Numerals.{suc-eq-add-one}
use Rattle.xl_spans.specs.declared.span.Span.{Span}
use Rattle.xl_spans.specs.Spans.{within, mode_at, IsBefore, IsCanonical, most_looks}
use Rattle.xl_spans.proofs.Chains.{IsChain, chain_none, canonical_chain_all}

outside_low : (a b x : ℕ) → x < a → (leb a x && leb x b) ≡ false
outside_low a b x h = grind (arith, nat_tests)

outside_high : (a b x : ℕ) → b < x → (leb a x && leb x b) ≡ false
outside_high a b x h = grind (arith, nat_tests)

inside : (a b x : ℕ) → a ≤ x → x ≤ b → (leb a x && leb x b) ≡ true
inside a b x h k = grind (arith, nat_tests)

record Stands (lo : ℕ) (s : Span) : Type 0 where
  from : lo ≤ s.first
  real : s.first ≤ s.last

-- a span of a chain is a real range, and begins no earlier than the chain
stands : (ss : List Span) (lo i : ℕ) (s : Span) → IsChain lo ss → slice_get ss i ≡ Some s → Stands lo s
stands [] lo i s c h = absurd (none-some s h)
stands (t ∷ ts) lo zero s c h = subst (Stands lo) (same_Some t s h) (record { from = c.0; real = c.1 })
stands (t ∷ ts) lo (suc i) s c h = let there = stands ts (t.last + 1) i s c.2 h in record { from = omega (arith, there.from, c.0, c.1); real = there.real }

-- a byte below a span is found among those before it, a byte past it among those behind it, and a byte in it there
below_chain : (ss : List Span) (lo i : ℕ) (s : Span) (x : ℕ) → IsChain lo ss → slice_get ss i ≡ Some s → x < s.first → mode_at ss x ≡ mode_at (take i ss) x
below_chain [] lo i s x c h low = absurd (none-some s h)
below_chain (t ∷ ts) lo zero s x c h low =
    let under : x < t.first = subst (λ (u : Span). x < u.first) (sym (same_Some t s h)) low in
    rw (outside_low t.first t.last x under) (chain_none (t.last + 1) ts x c.2 (omega (arith, under, c.1)))
below_chain (t ∷ ts) lo (suc i) s x c h low =
    elim (cases_Bool (leb t.first x && leb x t.last)) [ inl e ↦ rw e refl | inr e ↦ rw e (below_chain ts (t.last + 1) i s x c.2 h low) ]

above_chain : (ss : List Span) (lo i : ℕ) (s : Span) (x : ℕ) → IsChain lo ss → slice_get ss i ≡ Some s → s.last < x → mode_at ss x ≡ mode_at (drop (suc i) ss) x
above_chain [] lo i s x c h high = absurd (none-some s h)
above_chain (t ∷ ts) lo zero s x c h high =
    let over : t.last < x = subst (λ (u : Span). u.last < x) (sym (same_Some t s h)) high in
    rw (outside_high t.first t.last x over) refl
above_chain (t ∷ ts) lo (suc i) s x c h high =
    let there = stands ts (t.last + 1) i s c.2 h in
    rw (outside_high t.first t.last x (omega (arith, there.from, there.real, high))) (above_chain ts (t.last + 1) i s x c.2 h high)

here_chain : (ss : List Span) (lo i : ℕ) (s : Span) (x : ℕ) → IsChain lo ss → slice_get ss i ≡ Some s → s.first ≤ x → x ≤ s.last → mode_at ss x ≡ Some s.mode
here_chain [] lo i s x c h low high = absurd (none-some s h)
here_chain (t ∷ ts) lo zero s x c h low high =
    let same = same_Some t s h in
    let from : t.first ≤ x = subst (λ (u : Span). u.first ≤ x) (sym same) low in
    let upto : x ≤ t.last = subst (λ (u : Span). x ≤ u.last) (sym same) high in
    subst (λ (u : Span). mode_at (t ∷ ts) x ≡ Some u.mode) same (rw (inside t.first t.last x from upto) refl)
here_chain (t ∷ ts) lo (suc i) s x c h low high =
    let there = stands ts (t.last + 1) i s c.2 h in
    rw (outside_high t.first t.last x (omega (arith, there.from, low))) (here_chain ts (t.last + 1) i s x c.2 h low high)

pub mode_below : (ss : List Span) (i : ℕ) (s : Span) (x : ℕ) → IsCanonical ss → slice_get ss i ≡ Some s → x < s.first → mode_at (take i ss) x ≡ mode_at ss x
mode_below ss i s x c h low = sym (below_chain ss 0 i s x (canonical_chain_all ss c) h low)

pub mode_above : (ss : List Span) (i : ℕ) (s : Span) (x : ℕ) → IsCanonical ss → slice_get ss i ≡ Some s → s.last < x → mode_at (drop (i + 1) ss) x ≡ mode_at ss x
mode_above ss i s x c h high = ap (λ (n : ℕ). mode_at (drop n ss) x) (sym (suc-eq-add-one i)) ∙ sym (above_chain ss 0 i s x (canonical_chain_all ss c) h high)

pub mode_here : (ss : List Span) (i : ℕ) (s : Span) (x : ℕ) → IsCanonical ss → slice_get ss i ≡ Some s → s.first ≤ x → x ≤ s.last → Some s.mode ≡ mode_at ss x
mode_here ss i s x c h low high = sym (here_chain ss 0 i s x (canonical_chain_all ss c) h low high)

-- ---- parts of maximal runs are maximal runs

before_taken : (s : Span) (ss : List Span) (i : ℕ) → IsBefore s ss → IsBefore s (take i ss)
before_taken s [] zero b = b
before_taken s [] (suc i) b = b
before_taken s (t ∷ ts) zero b = tt
before_taken s (t ∷ ts) (suc i) b = b

pub canonical_before : (ss : List Span) (i : ℕ) → IsCanonical ss → IsCanonical (take i ss)
canonical_before [] zero c = c
canonical_before [] (suc i) c = c
canonical_before (s ∷ ss) zero c = tt
canonical_before (s ∷ ss) (suc i) c = (c.0, before_taken s ss i c.1, canonical_before ss i c.2)

pub canonical_behind : (ss : List Span) (i : ℕ) → IsCanonical ss → IsCanonical (drop i ss)
canonical_behind [] zero c = c
canonical_behind [] (suc i) c = c
canonical_behind (s ∷ ss) zero c = c
canonical_behind (s ∷ ss) (suc i) c = canonical_behind ss i c.2

pub all_left : (ss : List Span) (n : ℕ) → take (length ss - n) (drop n ss) ≡ drop n ss
all_left ss n = ap (λ (k : ℕ). take k (drop n ss)) (sym (length-drop n ss)) ∙ take-length (drop n ss)

-- ---- looks

double_pow : (k : ℕ) → 2 ^ suc k ≡ 2 ^ k + 2 ^ k
double_pow k = omega (arith, pow-suc 2 k)

-- one look more, after which at most half of the spans are left
one_look : (old mid new n m : ℕ) → mid ≡ old + 1 → mid ≤ new → 0 < n → m + m ≤ n → 2 ^ (new - mid) ≤ most_looks m → 2 ^ (new - old) ≤ most_looks n
one_look old mid new n m one on some half few =
    let more : new - old ≡ suc (new - mid) = omega (arith, one, on) in
    rw more (omega (arith, double_pow (new - mid), few, half, some))

pub one_look_before : (old mid new n m i : ℕ) → mid ≡ old + 1 → mid ≤ new → i < n → i + i ≤ n → m ≡ i → 2 ^ (new - mid) ≤ most_looks m → 2 ^ (new - old) ≤ most_looks n
one_look_before old mid new n m i one on within half is few = one_look old mid new n m one on (omega (arith, within)) (omega (arith, half, is)) few

pub one_look_behind : (old mid new n m i : ℕ) → mid ≡ old + 1 → mid ≤ new → i < n → n ≤ i + i + 1 → m + i + 1 ≡ n → 2 ^ (new - mid) ≤ most_looks m → 2 ^ (new - old) ≤ most_looks n
one_look_behind old mid new n m i one on within half is few = one_look old mid new n m one on (omega (arith, within)) (omega (arith, half, is)) few

pub last_look : (old new n i : ℕ) → new ≡ old + 1 → i < n → 2 ^ (new - old) ≤ most_looks n
last_look old new n i one within =
    let is : new - old ≡ 1 = omega (arith, one) in
    rw is (omega (arith, within))
