-- Maximal runs are fixed by the mode of each byte.
use Rattle.std.proofs.Common.{◌≡◌, ℕ, ◌+◌, ◌<◌, ◌≤◌, max, Bool, true, false, cond, leb, eqb, ◌&&◌, ◌↔◌, List, [], ◌∷◌, Option, Some, refl, sym, ap, ◌∙◌, inl, inr, arith}
use Rattle.std.proofs.lemmas.Bool.{cases_lt, eq-eqb, and_from}
use Rattle.std.proofs.lemmas.Bool.Decides.{nat_tests}
use Rattle.xl_base.proofs.Members.{all_weaker}
use Rattle.xl_spans.specs.declared.span.Mode.{Mode}
use Rattle.xl_spans.specs.declared.span.Span.{Span}
use Rattle.xl_spans.specs.Spans.{within, mode_at, same_mode, joins, IsCanonical, EndsBelow, relocked}
use Rattle.xl_spans.proofs.Bytes.{same_mode_self, relocked_mode}
use Rattle.xl_spans.proofs.Chains.{IsChain, chain_none, canonical_chain, canonical_rest, canonical_ranges, relocked_canonical}

inside : (a b x : ℕ) → a ≤ x → x ≤ b → (leb a x && leb x b) ≡ true
inside a b x h k = grind (arith, nat_tests)

beyond : (a b x : ℕ) → b < x → (leb a x && leb x b) ≡ false
beyond a b x h = grind (arith, nat_tests)

pub mode_inside : (s : Span) (ss : List Span) (x : ℕ) → s.first ≤ x → x ≤ s.last → mode_at (s ∷ ss) x ≡ Some s.mode
mode_inside s ss x h k = rw (inside s.first s.last x h k) refl

pub mode_beyond : (s : Span) (ss : List Span) (x : ℕ) → s.last < x → mode_at (s ∷ ss) x ≡ mode_at ss x
mode_beyond s ss x h = rw (beyond s.first s.last x h) refl

-- the byte past a maximal run has not its mode
pub ends_there : (s : Span) (ss : List Span) → IsCanonical (s ∷ ss) → mode_at ss (s.last + 1) ≡ Some s.mode → ⊥
ends_there s [] c h = cc
ends_there s (t ∷ ts) c h =
    elim (cases_lt (s.last + 1) t.first) [
      | inl far ↦ let none = chain_none t.first (t ∷ ts) (s.last + 1) (canonical_chain t.first t ts (omega arith) c.2) far in cc
      | inr near ↦
          let at : s.last + 1 ≡ t.first = omega (arith, near, c.1.0) in
          let mode = mode_inside t ts (s.last + 1) (omega (arith, at)) (omega (arith, at, c.2.0)) in
          let same : t.mode ≡ s.mode = cc in
          let one : joins s t ≡ true = and_from (eqb (s.last + 1) t.first) (same_mode s.mode t.mode) (eq-eqb (s.last + 1) t.first at) (rw same (same_mode_self s.mode)) in
          cc
    ]

-- of two lists that give each byte below n the same mode the first does not begin earlier, nor end its first run earlier
no_earlier : (n : ℕ) (x y : Span) (xs ys : List Span) → IsCanonical (x ∷ xs) → IsCanonical (y ∷ ys) → x.last < n → ((b : ℕ) → b < n → mode_at (x ∷ xs) b ≡ mode_at (y ∷ ys) b) → x.first < y.first → ⊥
no_earlier n x y xs ys c d h same k =
    let left = mode_inside x xs x.first (omega arith) c.0 in
    let right = chain_none y.first (y ∷ ys) x.first (canonical_chain y.first y ys (omega arith) d) k in
    let at = same x.first (omega (arith, c.0, h)) in
    cc

no_shorter : (n : ℕ) (x y : Span) (xs ys : List Span) → IsCanonical (x ∷ xs) → IsCanonical (y ∷ ys) → y.last < n → ((b : ℕ) → b < n → mode_at (x ∷ xs) b ≡ mode_at (y ∷ ys) b) → x.first ≡ y.first → x.mode ≡ y.mode → x.last < y.last → ⊥
no_shorter n x y xs ys c d h same e m k =
    let left = mode_beyond x xs (x.last + 1) (omega arith) in
    let right = mode_inside y ys (x.last + 1) (omega (arith, e, c.0)) (omega (arith, k)) in
    let at = same (x.last + 1) (omega (arith, k, h)) in
    ends_there x xs c (sym left ∙ at ∙ right ∙ ap Some (sym m))

from_order : (a b : ℕ) → (a < b → ⊥) → (b < a → ⊥) → a ≡ b
from_order a b h k = omega arith

-- behind first runs with one end two lists agree at each byte where they agreed with them
tails : (x y : Span) (xs ys : List Span) (b : ℕ) → IsChain (x.last + 1) xs → IsChain (y.last + 1) ys → x.last ≡ y.last → mode_at (x ∷ xs) b ≡ mode_at (y ∷ ys) b → mode_at xs b ≡ mode_at ys b
tails x y xs ys b c d e same =
    elim (cases_lt x.last b) [
      | inl h ↦ sym (mode_beyond x xs b h) ∙ same ∙ mode_beyond y ys b (omega (arith, e, h))
      | inr h ↦ chain_none (x.last + 1) xs b c (omega (arith, h)) ∙ sym (chain_none (y.last + 1) ys b d (omega (arith, e, h)))
    ]

pub same_span : (x y : Span) → x.first ≡ y.first → x.last ≡ y.last → x.mode ≡ y.mode → x ≡ y
same_span x y e f m = λ i. record { first = e i; last = f i; mode = m i }

pub same_runs : (n : ℕ) (xs ys : List Span) → IsCanonical xs → IsCanonical ys → EndsBelow n xs → EndsBelow n ys → ((b : ℕ) → b < n → mode_at xs b ≡ mode_at ys b) → xs ≡ ys
same_runs n [] [] c d e f same = refl
same_runs n [] (y ∷ ys) c d e f same =
    let at = same y.first (omega (arith, d.0, f.0)) in
    let there = mode_inside y ys y.first (omega arith) d.0 in
    absurd cc
same_runs n (x ∷ xs) [] c d e f same =
    let at = same x.first (omega (arith, c.0, e.0)) in
    let there = mode_inside x xs x.first (omega arith) c.0 in
    absurd cc
same_runs n (x ∷ xs) (y ∷ ys) c d e f same =
    let back : (b : ℕ) → b < n → mode_at (y ∷ ys) b ≡ mode_at (x ∷ xs) b = λ b h. sym (same b h) in
    let first : x.first ≡ y.first = from_order x.first y.first (no_earlier n x y xs ys c d e.0 same) (no_earlier n y x ys xs d c f.0 back) in
    let low = mode_inside x xs x.first (omega arith) c.0 in
    let high = mode_inside y ys x.first (omega (arith, first)) (omega (arith, first, d.0)) in
    let at = same x.first (omega (arith, c.0, e.0)) in
    let mode : x.mode ≡ y.mode = cc in
    let last : x.last ≡ y.last = from_order x.last y.last (no_shorter n x y xs ys c d f.0 same first mode) (no_shorter n y x ys xs d c e.0 back (sym first) (sym mode)) in
    let rest : (b : ℕ) → b < n → mode_at xs b ≡ mode_at ys b = λ b h. tails x y xs ys b (canonical_rest x xs c) (canonical_rest y ys d) last (same b h) in
    λ i. same_span x y first last mode i ∷ same_runs n xs ys c.2 d.2 e.1 f.1 rest i

-- the first byte that no span reaches
reach : List Span → ℕ
reach [] = 0
reach (s ∷ ss) = max (s.last + 1) (reach ss)

pub ends_weaker : (n m : ℕ) (ss : List Span) → n ≤ m → EndsBelow n ss → EndsBelow m ss
ends_weaker n m ss h e = all_weaker (λ s. s.last < n) (λ s. s.last < m) ss (λ s k. omega arith) e

ends_reach : (ss : List Span) → EndsBelow (reach ss) ss
unfolding reach
ends_reach [] = tt
ends_reach (s ∷ ss) = (omega arith, ends_weaker (reach ss) (max (s.last + 1) (reach ss)) ss (omega arith) (ends_reach ss))

pub same_runs_all : (xs ys : List Span) → IsCanonical xs → IsCanonical ys → ((b : ℕ) → mode_at xs b ≡ mode_at ys b) → xs ≡ ys
same_runs_all xs ys c d same =
    let n = max (reach xs) (reach ys) in
    same_runs n xs ys c d (ends_weaker (reach xs) n xs (omega arith) (ends_reach xs)) (ends_weaker (reach ys) n ys (omega arith) (ends_reach ys)) (λ b h. same b)

twice : (t : Bool) (new old at : Option Mode) → cond t new (cond t old at) ≡ cond t new at
twice true new old at = refl
twice false new old at = refl

-- a relock of a range that was relocked before: of the earlier one nothing is left
pub relocked_again : (ss : List Span) (f l : ℕ) (old new : Option Mode) → f ≤ l → IsCanonical ss → relocked (relocked ss f l old) f l new ≡ relocked ss f l new
relocked_again ss f l old new h c =
    let once = relocked_canonical ss f l old h c in
    same_runs_all (relocked (relocked ss f l old) f l new) (relocked ss f l new) (relocked_canonical (relocked ss f l old) f l new h once) (relocked_canonical ss f l new h c) (λ b.
    relocked_mode (relocked ss f l old) f l new b h (canonical_ranges (relocked ss f l old) once)
    ∙ ap (λ m. cond (within f l b) new m) (relocked_mode ss f l old b h (canonical_ranges ss c))
    ∙ twice (within f l b) new old (mode_at ss b)
    ∙ sym (relocked_mode ss f l new b h (canonical_ranges ss c)))

pub runs_bytes : (n : ℕ) (xs ys : List Span) → IsCanonical xs → IsCanonical ys → EndsBelow n xs → EndsBelow n ys → ((b : ℕ) → b < n → mode_at xs b ≡ mode_at ys b) ↔ (xs ≡ ys)
runs_bytes n xs ys c d e f = (same_runs n xs ys c d e f, λ same b h. ap (λ ss. mode_at ss b) same)
