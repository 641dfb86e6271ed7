-- How many claims pass a test, from a place on that is known to be no later than the first that fails.
use Rattle.std.proofs.Common.{◌≡◌, ℕ, zero, suc, ◌+◌, ◌-◌, ◌<◌, ◌≤◌, Bool, true, false, List, [], ◌∷◌, ◌++◌, length, take, drop, get_or, refl, sym, ap, subst, ◌∙◌, inl, inr, arith}
use Rattle.std.proofs.Math.Seq.{drop-append-add}
use Rattle.std.proofs.lemmas.Bool.{cases_Bool}
use Rattle.std.proofs.lemmas.List.{drop-append-le, length-drop}
use Rattle.std.specs.List.{prefix_len, slice_range}
use Rattle.xl_matrix.specs.declared.claim.Claim.{Claim}
use Rattle.xl_table.specs.Pages.{paged, count_at, IsThere}

along_one : (p : Claim → Bool) (c : Claim) (cs : List Claim) (b : Bool) → b ≡ p c → b ≡ true → prefix_len p (c ∷ cs) ≡ 1 + prefix_len p cs
along_one p c cs b is h = rw (sym is ∙ h) refl

pub along_on : (p : Claim → Bool) (c : Claim) (cs : List Claim) (b : Bool) (count whole : ℕ) → b ≡ p c → b ≡ true → count + prefix_len p (c ∷ cs) ≡ whole → (count + 1) + prefix_len p cs ≡ whole
along_on p c cs b count whole is h all = omega (arith, along_one p c cs b is h, all)

pub along_stop : (p : Claim → Bool) (c : Claim) (cs : List Claim) (b : Bool) (count whole : ℕ) → b ≡ p c → b ≡ false → count + prefix_len p (c ∷ cs) ≡ whole → count ≡ whole
along_stop p c cs b count whole is h all = let all = rw (sym is ∙ h) at all in omega (arith, all)

pub along_within : (place n : ℕ) (cs : List Claim) → place ≤ length cs → n ≤ length (drop place cs) → place + n ≤ length cs
along_within place n cs h few = omega (arith, h, few, length-drop place cs)

prefix_few : (p : Claim → Bool) (cs : List Claim) → prefix_len p cs ≤ length cs
prefix_few p [] = omega arith
prefix_few p (c ∷ cs) =
    elim (cases_Bool (p c)) [
      | inl e ↦ rw e (omega (arith, prefix_few p cs))
      | inr e ↦ rw e (omega arith)
    ]

-- so many are known to pass
prefix_on : (p : Claim → Bool) (i : ℕ) (cs : List Claim) → i ≤ prefix_len p cs → prefix_len p cs ≡ i + prefix_len p (drop i cs)
prefix_on p zero [] h = omega arith
prefix_on p zero (c ∷ cs) h = omega arith
prefix_on p (suc i) [] h = absurd (omega (arith, h))
prefix_on p (suc i) (c ∷ cs) h =
    elim (cases_Bool (p c)) [
      | inl e ↦ let h = rw e at h in rw e (omega (arith, prefix_on p i cs (omega (arith, h))))
      | inr e ↦ let h = rw e at h in absurd (omega (arith, h))
    ]

-- where one of the first fails, those behind them do not count
prefix_short : (p : Claim → Bool) (xs ys : List Claim) → prefix_len p xs < length xs → prefix_len p (xs ++ ys) ≡ prefix_len p xs
prefix_short p [] ys h = absurd (omega (arith, h))
prefix_short p (x ∷ xs) ys h =
    elim (cases_Bool (p x)) [
      | inl e ↦ let h = rw e at h in rw e (omega (arith, prefix_short p xs ys (omega (arith, h))))
      | inr e ↦ rw e refl
    ]

length_both : (xs ys : List Claim) → length (xs ++ ys) ≡ length xs + length ys
length_both [] ys = omega arith
length_both (x ∷ xs) ys = omega (arith, length_both xs ys)

-- the claims from a place of a page on
drop_seat : (ps : List (List Claim)) (at left : ℕ) (page : List Claim) → at < length ps → page ≡ get_or ps at page → left ≤ length page → drop (length (paged (take at ps)) + left) (paged ps) ≡ drop left page ++ paged (drop (suc at) ps)
drop_seat [] at left page h is few = absurd (omega (arith, h))
drop_seat (q ∷ qs) zero left page h is few =
    let same : 0 + left ≡ left = omega arith in
    ap (λ (n : ℕ). drop n (q ++ paged qs)) same
    ∙ ap (λ (r : List Claim). drop left (r ++ paged qs)) (sym is)
    ∙ drop-append-le left page (paged qs) few
drop_seat (q ∷ qs) (suc at) left page h is few =
    let ahead = paged (take at qs) in
    let sum : length (q ++ ahead) + left ≡ length q + (length ahead + left) = omega (arith, length_both q ahead) in
    ap (λ (n : ℕ). drop n (q ++ paged qs)) sum
    ∙ drop-append-add q (paged qs) (length ahead + left)
    ∙ drop_seat qs at left page (omega (arith, h)) is few

pub there_fits : (ps : List (List Claim)) (at left : ℕ) (page : List Claim) → IsThere at left ps → page ≡ get_or ps at page → left ≤ length page
there_fits [] at left page h is = absurd h
there_fits (q ∷ qs) zero left page h is = subst (λ (r : List Claim). left ≤ length r) (sym is) h
there_fits (q ∷ qs) (suc at) left page h is = there_fits qs at left page h is

pub there_counted : (p : Claim → Bool) (ps : List (List Claim)) (at left : ℕ) → left ≡ count_at p ps at → at < length ps → IsThere at left ps
there_counted p [] at left is h = absurd (omega (arith, h))
there_counted p (q ∷ qs) zero left is h = omega (arith, is, prefix_few p q)
there_counted p (q ∷ qs) (suc at) left is h = there_counted p qs at left is (omega (arith, h))

pub page_fits : (ps : List (List Claim)) (at : ℕ) (page : List Claim) → at < length ps → page ≡ get_or ps at page → length page ≤ length (paged ps)
page_fits [] at page h is = absurd (omega (arith, h))
page_fits (q ∷ qs) zero page h is = omega (arith, ap (λ (r : List Claim). length r) is, length_both q (paged qs))
page_fits (q ∷ qs) (suc at) page h is = omega (arith, page_fits qs at page (omega (arith, h)) is, length_both q (paged qs))

pub along_page : (p : Claim → Bool) (ps : List (List Claim)) (at left known more : ℕ) (page : List Claim) → known ≡ length (paged (take at ps)) + left → at < length ps → page ≡ get_or ps at page → left ≤ length page → more ≡ prefix_len p (drop left page) → left + more < length page → known ≤ prefix_len p (paged ps) → known + more ≡ prefix_len p (paged ps)
along_page p ps at left known more page sum h is few counted short order =
    let seat : drop known (paged ps) ≡ drop left page ++ paged (drop (suc at) ps) = ap (λ (n : ℕ). drop n (paged ps)) sum ∙ drop_seat ps at left page h is few in
    let stops : prefix_len p (drop left page) < length (drop left page) = omega (arith, counted, short, length-drop left page) in
    omega (
      arith,
      prefix_on p known (paged ps) order,
      ap (λ (cs : List Claim). prefix_len p cs) seat,
      prefix_short p (drop left page) (paged (drop (suc at) ps)) stops,
      counted,
    )

pub prefix_within : (p : Claim → Bool) (cs : List Claim) (n : ℕ) → n ≡ prefix_len p cs → n ≤ length cs
prefix_within p cs n is = omega (arith, is, prefix_few p cs)

pub nothing_between : (s e : ℕ) (cs none : List Claim) → s ≡ e → none ≡ [] → none ≡ slice_range cs s e
nothing_between s e cs none same is =
    let zero_long : e - s ≡ 0 = omega (arith, same) in
    is ∙ sym (ap (λ (n : ℕ). take n (drop s cs)) zero_long ∙ first_none (drop s cs))
  where
    first_none : (ds : List Claim) → take 0 ds ≡ []
    first_none [] = refl
    first_none (d ∷ ds) = refl
