-- Sums over claims, as claims come and go.
use Rattle.std.proofs.Common.{◌≡◌, ℕ, zero, suc, ◌+◌, ◌-◌, ◌≤◌, Bool, true, false, not, List, [], ◌∷◌, ◌++◌, length, take, drop, refl, sym, ap, ◌∙◌, inl, inr, arith}
use Rattle.std.proofs.lemmas.Bool.{cases_Bool}
use Rattle.std.specs.List.{filter, slice_range}
use Rattle.xl_base.specs.Lists.{IsIn, placed}
use Rattle.xl_matrix.specs.declared.claim.Claim.{Claim}
use Rattle.xl_index.specs.Totals.{one, total, AreAlike}

pub one_few : (b : Bool) → one b ≤ 1
one_few true = omega arith
one_few false = omega arith

pub total_append : (w : Claim → ℕ) (xs ys : List Claim) → total w (xs ++ ys) ≡ total w xs + total w ys
total_append w [] ys = omega arith
total_append w (x ∷ xs) ys = omega (arith, total_append w xs ys)

pub total_placed : (below : Claim → Claim → Bool) (w : Claim → ℕ) (claim : Claim) (cs : List Claim) → total w (placed below claim cs) ≡ w claim + total w cs
total_placed below w claim [] = refl
total_placed below w claim (c ∷ cs) =
    elim (cases_Bool (below c claim)) [
      | inl early ↦ rw early (omega (arith, total_placed below w claim cs))
      | inr late ↦ rw late refl
    ]

pub total_filters : (q : Claim → Bool) (w : Claim → ℕ) (cs : List Claim) → total w (filter q cs) + total w (filter (λ c. not (q c)) cs) ≡ total w cs
total_filters q w [] = refl
total_filters q w (c ∷ cs) =
    elim (cases_Bool (q c)) [
      | inl e ↦ rw e (omega (arith, total_filters q w cs))
      | inr e ↦ rw e (omega (arith, total_filters q w cs))
    ]

pub total_behind : (w : Claim → ℕ) (n : ℕ) (cs : List Claim) → total w (take n cs) + total w (drop n cs) ≡ total w cs
total_behind w zero [] = omega arith
total_behind w zero (c ∷ cs) = omega arith
total_behind w (suc n) [] = omega arith
total_behind w (suc n) (c ∷ cs) = omega (arith, total_behind w n cs)

drop_none : (k : ℕ) → drop {A = Claim} k [] ≡ []
drop_none zero = refl
drop_none (suc k) = refl

drop_drop : (m n : ℕ) (cs : List Claim) → drop n (drop m cs) ≡ drop (m + n) cs
drop_drop zero n cs = let same : n ≡ 0 + n = omega arith in ap (λ (k : ℕ). drop k cs) same
drop_drop (suc m) n [] = drop_none n ∙ sym (drop_none (suc m + n))
drop_drop (suc m) n (c ∷ cs) = drop_drop m n cs ∙ (let one_over : suc (m + n) ≡ suc m + n = omega arith in ap (λ (k : ℕ). drop k (c ∷ cs)) one_over)

pub total_parts : (w : Claim → ℕ) (s e : ℕ) (cs : List Claim) → s ≤ e → total w (take s cs) + (total w (slice_range cs s e) + total w (drop e cs)) ≡ total w cs
total_parts w s e cs h =
    let at : s + (e - s) ≡ e = omega (arith, h) in
    omega (arith, total_behind w s cs, total_behind w (e - s) (drop s cs), ap (total w) (drop_drop s (e - s) cs), ap (λ (n : ℕ). total w (drop n cs)) at)

-- a claim weighs no more than all among which it is
pub total_in : (w : Claim → ℕ) (c : Claim) (cs : List Claim) → IsIn c cs → w c ≤ total w cs
total_in w c [] h = absurd h
total_in w c (d ∷ ds) h = elim h [ inl e ↦ omega (arith, ap w e) | inr t ↦ omega (arith, total_in w c ds t) ]

pub total_ones : (cs : List Claim) → total (λ c. 1) cs ≡ length cs
total_ones [] = refl
total_ones (c ∷ cs) = omega (arith, total_ones cs)

pub total_few : (w : Claim → ℕ) → ((c : Claim) → w c ≤ 2) → (cs : List Claim) → total w cs ≤ length cs + length cs
total_few w few [] = omega arith
total_few w few (c ∷ cs) = omega (arith, few c, total_few w few cs)

pub alike_length : (cs ds : List Claim) → AreAlike cs ds → length cs ≡ length ds
alike_length cs ds alike = omega (arith, total_ones cs, total_ones ds, alike (λ c. 1))
