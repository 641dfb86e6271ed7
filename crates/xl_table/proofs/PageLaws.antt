-- What is found in pages is what is found in their claims, one behind another.
use Rattle.std.proofs.Common.{◌≡◌, ℕ, ◌+◌, ◌-◌, ◌<◌, ◌≤◌, suc, zero, nat_lt, Bool, true, false, ◌||◌, List, [], ◌∷◌, ◌++◌, length, take, drop, get_or, Some, None, refl, sym, ap, subst, ◌∙◌, inl, inr, arith, append_assoc}
use Rattle.std.proofs.Math.Numerals.{one-add}
use Rattle.std.proofs.Math.ListN.{set}
use Rattle.std.proofs.lemmas.List.Elements.{filter-append}
use Rattle.std.specs.List.{AllByRecursion, filter, insert, list_any, remove, prefix_len, slice_get, slice_range}
use Rattle.std.proofs.lemmas.Bool.{cases_Bool, cases_lt, both_ways, lt-ltb}
use Rattle.std.proofs.Math.Seq.{take-append-add, take-append_seam, drop-append_seam, drop-append-add, drop-length, take-length}
use Rattle.std.proofs.lemmas.List.{length-append, take-append-drop, take-append-le, drop-append-le, length-drop, length-take-le, append-nil, drop-drop, set-append_left, set-append_right}
use Rattle.std.proofs.lemmas.Option.{same_Some}
use Rattle.xl_base.proofs.Members.{all_append}
use Rattle.xl_matrix.specs.declared.claim.Claim.{Claim}
use Rattle.xl_table.specs.Pages.{paged, AreFull, IsBehind, IsInside, IsThere, IsFullBut, IsShifting, ends, count_at}
use Rattle.xl_index.specs.Parted.{IsParted}
use Rattle.xl_table.proofs.ChangeLaws.{take_within, drop_within}
use Rattle.xl_table.proofs.FileLaws.{filtered_more}

-- ---- lengths

pub front_within : (ps : List (List Claim)) (at : ℕ) → length (paged (take at ps)) ≤ length (paged ps)
front_within [] zero = omega arith
front_within [] (suc at) = omega arith
front_within (p ∷ ps) zero = omega arith
front_within (p ∷ ps) (suc at) = omega (arith, length-append p (paged (take at ps)), length-append p (paged ps), front_within ps at)

-- ---- one claim

pub get_early : (p rest : List Claim) (i : ℕ) → i < length p → slice_get p i ≡ slice_get (p ++ rest) i
get_early [] rest i h = absurd (omega (arith, h))
get_early (c ∷ cs) rest zero h = refl
get_early (c ∷ cs) rest (suc i) h = get_early cs rest i (omega (arith, h))

pub get_late : (p rest : List Claim) (i : ℕ) → length p ≤ i → slice_get rest (i - length p) ≡ slice_get (p ++ rest) i
get_late [] rest i h = let e : i - 0 ≡ i = omega arith in rw e refl
get_late (c ∷ cs) rest zero h = absurd (omega (arith, h))
get_late (c ∷ cs) rest (suc i) h = let e : suc i - suc (length cs) ≡ i - length cs = omega arith in rw e (get_late cs rest i (omega (arith, h)))

-- ---- bisection

abbrev last_or : Claim → List Claim → Claim
last_or c [] = c
last_or c (d ∷ ds) = last_or d ds

get_last : (c : Claim) (cs : List Claim) → slice_get (c ∷ cs) (length cs) ≡ Some (last_or c cs)
get_last c [] = refl
get_last c (d ∷ ds) = get_last d ds

ends_is : (p : Claim → Bool) (c : Claim) (cs : List Claim) → ends p (c ∷ cs) ≡ p (last_or c cs)
ends_is p c cs = let e : suc (length cs) - 1 ≡ length cs = omega arith in rw (e, get_last c cs) refl

parted_first : (p : Claim → Bool) (xs ys : List Claim) → IsParted p (xs ++ ys) → IsParted p xs
parted_first p [] ys parted = tt
parted_first p (x ∷ xs) ys parted = (λ fails. fails_first xs (parted.0 fails), parted_first p xs ys parted.1) where
  fails_first : (xs : List Claim) → AllByRecursion (λ c. p c ≡ false) (xs ++ ys) → AllByRecursion (λ c. p c ≡ false) xs
  fails_first [] all = tt
  fails_first (x ∷ xs) all = (all.0, fails_first xs all.1)

parted_second : (p : Claim → Bool) (xs ys : List Claim) → IsParted p (xs ++ ys) → IsParted p ys
parted_second p [] ys parted = parted
parted_second p (x ∷ xs) ys parted = parted_second p xs ys parted.1

-- each page is parted
pub parted_at : (p : Claim → Bool) (ps : List (List Claim)) (at : ℕ) (page : List Claim) → IsParted p (paged ps) → at < length ps → page ≡ get_or ps at page → IsParted p page
parted_at p [] at page parted h is = absurd (omega (arith, h))
parted_at p (q ∷ qs) zero page parted h is = subst (λ (r : List Claim). IsParted p r) (sym is) (parted_first p q (paged qs) parted)
parted_at p (q ∷ qs) (suc at) page parted h is = parted_at p qs at page (parted_second p q (paged qs) parted) (omega (arith, h)) is

pub counted_at : (p : Claim → Bool) (ps : List (List Claim)) (at n : ℕ) (page : List Claim) → at < length ps → page ≡ get_or ps at page → n ≡ prefix_len p page → n ≡ count_at p ps at
counted_at p [] at n page h is e = absurd (omega (arith, h))
counted_at p (q ∷ qs) zero n page h is e = e ∙ ap (λ (r : List Claim). prefix_len p r) is
counted_at p (q ∷ qs) (suc at) n page h is e = counted_at p qs at n page (omega (arith, h)) is e

pub counted_past : (p : Claim → Bool) (ps : List (List Claim)) (at : ℕ) → length ps ≤ at → 0 ≡ count_at p ps at
counted_past p [] at h = refl
counted_past p (q ∷ qs) zero h = absurd (omega (arith, h))
counted_past p (q ∷ qs) (suc at) h = counted_past p qs at (omega (arith, h))

all_pass : (p : Claim → Bool) (c : Claim) (cs : List Claim) → IsParted p (c ∷ cs) → p (last_or c cs) ≡ true → AllByRecursion (λ d. p d ≡ true) (c ∷ cs)
all_pass p c [] parted h = (h, tt)
all_pass p c (d ∷ ds) parted h =
    let rest = all_pass p d ds parted.1 h in
    elim (cases_Bool (p c)) [
      | inl passes ↦ (passes, rest)
      | inr fails ↦ absurd (both_ways (p d) (parted.0 fails).0 rest.0)
    ]

past_all : (p : Claim → Bool) (xs ys : List Claim) → AllByRecursion (λ d. p d ≡ true) xs → prefix_len p (xs ++ ys) ≡ length xs + prefix_len p ys
past_all p [] ys all = omega arith
past_all p (x ∷ xs) ys all = rw all.0 (omega (arith, past_all p xs ys all.1))

record IsEndedIn (p : Claim → Bool) (xs ys : List Claim) : Type 0 where
  pub behind : AllByRecursion (λ d. p d ≡ false) ys
  pub count : prefix_len p (xs ++ ys) ≡ prefix_len p xs

ended_in : (p : Claim → Bool) (c : Claim) (cs ys : List Claim) → IsParted p ((c ∷ cs) ++ ys) → p (last_or c cs) ≡ false → IsEndedIn p (c ∷ cs) ys
ended_in p c [] ys parted h = record { behind = parted.0 h; count = rw h refl }
ended_in p c (d ∷ ds) ys parted h =
    let rest = ended_in p d ds ys parted.1 h in
    record {
      behind = rest.behind;
      count = elim (cases_Bool (p c)) [ inl passes ↦ rw passes (ap (λ (n : ℕ). 1 + n) rest.count) | inr fails ↦ rw fails refl ];
    }

last_fails : (p : Claim → Bool) (c : Claim) (cs : List Claim) → AllByRecursion (λ d. p d ≡ false) (c ∷ cs) → p (last_or c cs) ≡ false
last_fails p c [] all = all.0
last_fails p c (d ∷ ds) all = last_fails p d ds all.1

none_end : (p : Claim → Bool) (ps : List (List Claim)) → AreFull ps → AllByRecursion (λ d. p d ≡ false) (paged ps) → AllByRecursion (λ page. ends p page ≡ false) ps
none_end p [] full all = tt
none_end p ([] ∷ ps) full all = absurd (omega (arith, full.0))
none_end p ((c ∷ cs) ∷ ps) full all = (ends_is p c cs ∙ last_fails p c cs (front (c ∷ cs) all), none_end p ps full.1 (back (c ∷ cs) all)) where
  front : (xs : List Claim) → AllByRecursion (λ d. p d ≡ false) (xs ++ paged ps) → AllByRecursion (λ d. p d ≡ false) xs
  front [] all = tt
  front (x ∷ xs) all = (all.0, front xs all.1)

  back : (xs : List Claim) → AllByRecursion (λ d. p d ≡ false) (xs ++ paged ps) → AllByRecursion (λ d. p d ≡ false) (paged ps)
  back [] all = all
  back (x ∷ xs) all = back xs all.1

-- once a page's last claim fails, so do those of all pages behind it
pub pages_parted : (p : Claim → Bool) (ps : List (List Claim)) → AreFull ps → IsParted p (paged ps) → IsParted (ends p) ps
pages_parted p [] full parted = tt
pages_parted p ([] ∷ ps) full parted = absurd (omega (arith, full.0))
pages_parted p ((c ∷ cs) ∷ ps) full parted = (
  λ fails. none_end p ps full.1 (ended_in p c cs (paged ps) parted (sym (ends_is p c cs) ∙ fails)).behind,
  pages_parted p ps full.1 (parted_second p (c ∷ cs) (paged ps) parted),
)

-- where the last element of a parted list passes, all do
last_all : {A : Type 0} (q : A → Bool) (xs : List A) (i : ℕ) (d : A) → IsParted q xs → i + 1 ≡ length xs → q (get_or xs i d) ≡ true → prefix_len q xs ≡ length xs
last_all q [] i d parted e h = absurd (omega (arith, e))
last_all q (x ∷ []) zero d parted e h = rw h refl
last_all q (x ∷ []) (suc i) d parted e h = absurd (omega (arith, e))
last_all q (x ∷ y ∷ ys) zero d parted e h = absurd (omega (arith, e))
last_all q (x ∷ y ∷ ys) (suc i) d parted e h =
    let rest = last_all q (y ∷ ys) i d parted.1 (omega (arith, e)) h in
    elim (cases_Bool (q x)) [
      | inl here ↦ rw here (omega (arith, rest))
      | inr fails ↦ (let none = rw (parted.0 fails).0 at rest in absurd (omega (arith, none)))
    ]

pub last_whole : (p : Claim → Bool) (ps : List (List Claim)) (i : ℕ) (d : List Claim) (b : Bool) → AreFull ps → IsParted p (paged ps) → i + 1 ≡ length ps → b ≡ ends p (get_or ps i d) → b ≡ true → prefix_len (ends p) ps ≡ length ps
last_whole p ps i d b full parted e is h = last_all (ends p) ps i d (pages_parted p ps full parted) e (sym is ∙ h)

-- all claims of the pages that pass with their last claim pass
pub front_passes : (p : Claim → Bool) (ps : List (List Claim)) → AreFull ps → IsParted p (paged ps) → AllByRecursion (λ d. p d ≡ true) (paged (take (prefix_len (ends p) ps) ps))
front_passes p [] full parted = tt
front_passes p ([] ∷ ps) full parted = absurd (omega (arith, full.0))
front_passes p ((c ∷ cs) ∷ ps) full parted =
    elim (cases_Bool (ends p (c ∷ cs))) [
      | inl passes ↦
          rw (passes, one-add (prefix_len (ends p) ps))
          (all_append (λ d. p d ≡ true) (c ∷ cs) (paged (take (prefix_len (ends p) ps) ps)) (all_pass p c cs (parted_first p (c ∷ cs) (paged ps) parted) (sym (ends_is p c cs) ∙ passes))
          (front_passes p ps full.1 (parted_second p (c ∷ cs) (paged ps) parted)))
      | inr fails ↦ rw fails tt
    ]

last_after : (p : Claim → Bool) (c : Claim) (cs : List Claim) → p (last_or c cs) ≡ false → prefix_len p (c ∷ cs) < length (c ∷ cs)
last_after p c [] h = rw h (omega arith)
last_after p c (d ∷ ds) h =
    elim (cases_Bool (p c)) [
      | inl passes ↦ rw passes (omega (arith, last_after p d ds h))
      | inr fails ↦ rw fails (omega arith)
    ]

-- the first claim that fails stands in the first page whose last claim fails
pub failing_in : (p : Claim → Bool) (ps : List (List Claim)) (at : ℕ) (page : List Claim) → AreFull ps → IsParted p (paged ps) → at ≡ prefix_len (ends p) ps → at < length ps → page ≡ get_or ps at page → slice_get page (prefix_len p page) ≡ slice_get (paged ps) (prefix_len p (paged ps))
failing_in p ps at page full parted is h there =
    go ps full parted (subst (λ (n : ℕ). n < length ps) is h) (subst (λ (n : ℕ). page ≡ get_or ps n page) is there)
  where
    go : (ps : List (List Claim)) → AreFull ps → IsParted p (paged ps) → prefix_len (ends p) ps < length ps → page ≡ get_or ps (prefix_len (ends p) ps) page → slice_get page (prefix_len p page) ≡ slice_get (paged ps) (prefix_len p (paged ps))
    go [] full parted h there = absurd (omega (arith, h))
    go ([] ∷ ps) full parted h there = absurd (omega (arith, full.0))
    go ((c ∷ cs) ∷ ps) full parted h there =
        let k = prefix_len (ends p) ps in
        elim (cases_Bool (ends p (c ∷ cs))) [
          | inl whole ↦
              let all = past_all p (c ∷ cs) (paged ps) (all_pass p c cs (parted_first p (c ∷ cs) (paged ps) parted) (sym (ends_is p c cs) ∙ whole)) in
              let n = prefix_len p (paged ps) in
              let less : (length (c ∷ cs) + n) - length (c ∷ cs) ≡ n = omega arith in
              go ps full.1 (parted_second p (c ∷ cs) (paged ps) parted) (omega (arith, (rw (whole, one-add k) at h))) ((rw (whole, one-add k) at there))
              ∙ ap (λ (i : ℕ). slice_get (paged ps) i) (sym less)
              ∙ get_late (c ∷ cs) (paged ps) (length (c ∷ cs) + n) (omega arith)
              ∙ ap (λ (i : ℕ). slice_get ((c ∷ cs) ++ paged ps) i) (sym all)
          | inr part ↦
              let fails : p (last_or c cs) ≡ false = sym (ends_is p c cs) ∙ part in
              let same : page ≡ c ∷ cs = (rw part at there) in
              ap (λ (q : List Claim). slice_get q (prefix_len p q)) same
              ∙ get_early (c ∷ cs) (paged ps) (prefix_len p (c ∷ cs)) (last_after p c cs fails)
              ∙ ap (λ (i : ℕ). slice_get ((c ∷ cs) ++ paged ps) i) (sym (ended_in p c cs (paged ps) parted fails).count)
        ]

-- where the last claims of all pages pass, none fails
pub failing_past : (p : Claim → Bool) (ps : List (List Claim)) (at : ℕ) → AreFull ps → IsParted p (paged ps) → at ≡ prefix_len (ends p) ps → length ps ≤ at → None ≡ slice_get (paged ps) (prefix_len p (paged ps))
failing_past p ps at full parted is h = go ps full parted (subst (λ (n : ℕ). length ps ≤ n) is h) where
  go : (ps : List (List Claim)) → AreFull ps → IsParted p (paged ps) → length ps ≤ prefix_len (ends p) ps → None ≡ slice_get (paged ps) (prefix_len p (paged ps))
  go [] full parted h = refl
  go ([] ∷ ps) full parted h = absurd (omega (arith, full.0))
  go ((c ∷ cs) ∷ ps) full parted h =
      let k = prefix_len (ends p) ps in
      elim (cases_Bool (ends p (c ∷ cs))) [
        | inl whole ↦
            let all = past_all p (c ∷ cs) (paged ps) (all_pass p c cs (parted_first p (c ∷ cs) (paged ps) parted) (sym (ends_is p c cs) ∙ whole)) in
            let n = prefix_len p (paged ps) in
            let less : (length (c ∷ cs) + n) - length (c ∷ cs) ≡ n = omega arith in
            go ps full.1 (parted_second p (c ∷ cs) (paged ps) parted) (omega (arith, (rw (whole, one-add k) at h)))
            ∙ ap (λ (i : ℕ). slice_get (paged ps) i) (sym less)
            ∙ get_late (c ∷ cs) (paged ps) (length (c ∷ cs) + n) (omega arith)
            ∙ ap (λ (i : ℕ). slice_get ((c ∷ cs) ++ paged ps) i) (sym all)
        | inr part ↦ absurd (omega (arith, (rw part at h)))
      ]

-- how many pass: all of the pages whose last claim does, and so many of the next one
pub count_is : (p : Claim → Bool) (ps : List (List Claim)) → AreFull ps → IsParted p (paged ps) → length (paged (take (prefix_len (ends p) ps) ps)) + count_at p ps (prefix_len (ends p) ps) ≡ prefix_len p (paged ps)
count_is p [] full parted = refl
count_is p ([] ∷ ps) full parted = absurd (omega (arith, full.0))
count_is p ((c ∷ cs) ∷ ps) full parted =
    let k = prefix_len (ends p) ps in
    let rest = count_is p ps full.1 (parted_second p (c ∷ cs) (paged ps) parted) in
    elim (cases_Bool (ends p (c ∷ cs))) [
      | inl whole ↦
          rw (whole, one-add k)
          (omega (
            arith,
            rest,
            past_all p (c ∷ cs) (paged ps) (all_pass p c cs (parted_first p (c ∷ cs) (paged ps) parted) (sym (ends_is p c cs) ∙ whole)),
            length-append (c ∷ cs) (paged (take k ps)),
          ))
      | inr part ↦ rw part (omega (arith, (ended_in p c cs (paged ps) parted (sym (ends_is p c cs) ∙ part)).count))
    ]

pub count_done : (p : Claim → Bool) (ps : List (List Claim)) (k m n : ℕ) → AreFull ps → IsParted p (paged ps) → k ≡ prefix_len (ends p) ps → m ≡ length (paged (take k ps)) → n ≡ count_at p ps k → m + n ≡ prefix_len p (paged ps)
count_done p ps k m n full parted k_is m_is n_is =
    rw (m_is, n_is, k_is) (count_is p ps full parted)

-- ---- a part of the claims

pub range_late : (p rest found new : List Claim) (start end : ℕ) → length p ≤ start → start ≤ end → new ≡ found ++ slice_range rest (start - length p) (end - length p) → new ≡ found ++ slice_range (p ++ rest) start end
range_late p rest found new start end late order e =
    let from : start ≡ length p + (start - length p) = omega (arith, late) in
    let many : end - length p - (start - length p) ≡ end - start = omega (arith, late, order) in
    e ∙ ap (λ (ds : List Claim). found ++ ds)
    (ap (λ (n : ℕ). take n (drop (start - length p) rest)) many
    ∙ ap (λ (ds : List Claim). take (end - start) ds) (sym (drop-append-add p rest (start - length p)) ∙ ap (λ (n : ℕ). drop n (p ++ rest)) (sym from)))

pub range_early : (p rest found new : List Claim) (start end : ℕ) → start ≤ end → end ≤ length p → new ≡ found ++ slice_range p start end → new ≡ found ++ slice_range (p ++ rest) start end
range_early p rest found new start end order early e =
    e ∙ ap (λ (ds : List Claim). found ++ ds)
    (sym (take-append-le (end - start) (drop start p) rest (omega (arith, length-drop start p, early, order)))
    ∙ ap (λ (ds : List Claim). take (end - start) ds) (sym (drop-append-le start p rest (omega (arith, early, order)))))

pub range_across : (p rest found more new : List Claim) (start end : ℕ) → start < length p → length p < end → more ≡ found ++ drop start p → new ≡ more ++ slice_range rest 0 (end - length p) → new ≡ found ++ slice_range (p ++ rest) start end
range_across p rest found more new start end h k e f =
    let many : end - start ≡ length (drop start p) + (end - length p - 0) = omega (arith, length-drop start p, h, k) in
    f ∙ ap (λ (ds : List Claim). ds ++ slice_range rest 0 (end - length p)) e
    ∙ append_assoc found (drop start p) (slice_range rest 0 (end - length p))
    ∙ ap (λ (ds : List Claim). found ++ ds)
    (sym (take-append-add (drop start p) rest (end - length p - 0))
    ∙ ap (λ (n : ℕ). take n (drop start p ++ rest)) (sym many)
    ∙ ap (λ (ds : List Claim). take (end - start) ds) (sym (drop-append-le start p rest (omega (arith, h)))))

-- the same by the length that was asked for
pub range_late_by : (p rest found new : List Claim) (start end len : ℕ) → len ≡ length p → len ≤ start → start ≤ end → new ≡ found ++ slice_range rest (start - len) (end - len) → new ≡ found ++ slice_range (p ++ rest) start end
range_late_by p rest found new start end len is late order e =
    range_late p rest found new start end (subst (λ (n : ℕ). n ≤ start) is late) order (subst (λ (n : ℕ). new ≡ found ++ slice_range rest (start - n) (end - n)) is e)

pub range_across_by : (p rest found more new : List Claim) (start end len : ℕ) → len ≡ length p → start < len → len < end → more ≡ found ++ drop start p → new ≡ more ++ slice_range rest 0 (end - len) → new ≡ found ++ slice_range (p ++ rest) start end
range_across_by p rest found more new start end len is h k e f =
    range_across p rest found more new start end (subst (λ (n : ℕ). start < n) is h) (subst (λ (n : ℕ). n < end) is k) e (subst (λ (n : ℕ). new ≡ more ++ slice_range rest 0 (end - n)) is f)

-- ---- in which page a place lies

pub behind_at : (ps : List (List Claim)) (at left : ℕ) (p : List Claim) → at < length ps → p ≡ get_or ps at p → length p ≤ left → IsBehind at left ps
behind_at [] at left p h is k = absurd (omega (arith, h))
behind_at (q ∷ qs) zero left p h is k = subst (λ (r : List Claim). length r ≤ left) is k
behind_at (q ∷ qs) (suc at) left p h is k = behind_at qs at left p (omega (arith, h)) is k

pub inside_at : (ps : List (List Claim)) (at left : ℕ) (p : List Claim) → at < length ps → p ≡ get_or ps at p → left < length p → IsInside at left ps
inside_at [] at left p h is k = absurd (omega (arith, h))
inside_at (q ∷ qs) zero left p h is k = subst (λ (r : List Claim). left < length r) is k
inside_at (q ∷ qs) (suc at) left p h is k = inside_at qs at left p (omega (arith, h)) is k

pub behind_within : (ps : List (List Claim)) (at left : ℕ) → IsBehind at left ps → at < length ps
behind_within [] at left h = absurd h
behind_within (q ∷ qs) zero left h = omega arith
behind_within (q ∷ qs) (suc at) left h = omega (arith, behind_within qs at left h)

pub behind_len : (ps : List (List Claim)) (at left : ℕ) (p : List Claim) → IsBehind at left ps → p ≡ get_or ps at p → length p ≤ left
behind_len [] at left p h is = absurd h
behind_len (q ∷ qs) zero left p h is = subst (λ (r : List Claim). length r ≤ left) (sym is) h
behind_len (q ∷ qs) (suc at) left p h is = behind_len qs at left p h is

pub front_more : (ps : List (List Claim)) (at : ℕ) (p : List Claim) → at < length ps → p ≡ get_or ps at p → length (paged (take (at + 1) ps)) ≡ length (paged (take at ps)) + length p
front_more [] at p h is = absurd (omega (arith, h))
front_more (q ∷ qs) zero p h is = ap (λ (r : List Claim). length (r ++ [])) (sym is) ∙ omega (arith, length-append p [])
front_more (q ∷ qs) (suc at) p h is =
    let e : suc at + 1 ≡ suc (at + 1) = omega arith in
    rw e (omega (arith, front_more qs at p (omega (arith, h)) is, length-append q (paged (take (at + 1) qs)), length-append q (paged (take at qs))))

pub inside_there : (ps : List (List Claim)) (at left : ℕ) → IsInside at left ps → IsThere at left ps
inside_there [] at left h = absurd h
inside_there (q ∷ qs) zero left h = omega (arith, h)
inside_there (q ∷ qs) (suc at) left h = inside_there qs at left h

pub last_there : (ps : List (List Claim)) (at : ℕ) (p : List Claim) → at < length ps → p ≡ get_or ps at p → IsThere at (length p) ps
last_there [] at p h is = absurd (omega (arith, h))
last_there (q ∷ qs) zero p h is = subst (λ (r : List Claim). length p ≤ length r) is (omega arith)
last_there (q ∷ qs) (suc at) p h is = last_there qs at p (omega (arith, h)) is

take_all : (ps : List (List Claim)) (n : ℕ) → length ps ≤ n → take n ps ≡ ps
take_all [] zero h = refl
take_all [] (suc n) h = refl
take_all (p ∷ ps) zero h = absurd (omega (arith, h))
take_all (p ∷ ps) (suc n) h = ap (λ (qs : List (List Claim)). p ∷ qs) (take_all ps n (omega (arith, h)))

-- a place behind all claims lies behind those of the last page
pub last_sum : (ps : List (List Claim)) (at last place left : ℕ) (p : List Claim) → length ps ≤ at → 0 < length ps → last ≡ length ps - 1 → p ≡ get_or ps last p → place ≡ length (paged (take at ps)) + left → place ≤ length (paged ps) → place ≡ length (paged (take last ps)) + length p
last_sum ps at last place left p past some e is sum within =
    let whole : length (paged (take at ps)) ≡ length (paged ps) = ap (λ (qs : List (List Claim)). length (paged qs)) (take_all ps at past) in
    let more : length (paged (take (last + 1) ps)) ≡ length (paged ps) = ap (λ (qs : List (List Claim)). length (paged qs)) (take_all ps (last + 1) (omega (arith, e))) in
    omega (arith, whole, more, front_more ps last p (omega (arith, e, some)) is, sum, within)

-- ---- a page in the place of another

pub record IsSplit (ps : List (List Claim)) (at : ℕ) (p q : List Claim) : Type 0 where
  pub old : paged ps ≡ paged (take at ps) ++ (p ++ paged (drop (suc at) ps))
  pub new : paged (set ps at q) ≡ paged (take at ps) ++ (q ++ paged (drop (suc at) ps))

pub split_at : (ps : List (List Claim)) (at : ℕ) (p q : List Claim) → at < length ps → p ≡ get_or ps at p → IsSplit ps at p q
split_at [] at p q h is = absurd (omega (arith, h))
split_at (r ∷ rs) zero p q h is = record { old = ap (λ (ds : List Claim). ds ++ paged rs) (sym is); new = refl }
split_at (r ∷ rs) (suc at) p q h is =
    let rest = split_at rs at p q (omega (arith, h)) is in
    record {
      old = ap (λ (ds : List Claim). r ++ ds) rest.old ∙ sym (append_assoc r (paged (take at rs)) (p ++ paged (drop (suc at) rs)));
      new = ap (λ (ds : List Claim). r ++ ds) rest.new ∙ sym (append_assoc r (paged (take at rs)) (q ++ paged (drop (suc at) rs)));
    }

pub there_len : (ps : List (List Claim)) (at left : ℕ) (p : List Claim) → IsThere at left ps → at < length ps → p ≡ get_or ps at p → left ≤ length p
there_len [] at left p there h is = absurd there
there_len (q ∷ qs) zero left p there h is = subst (λ (r : List Claim). left ≤ length r) (sym is) there
there_len (q ∷ qs) (suc at) left p there h is = there_len qs at left p there (omega (arith, h)) is

-- claims put into a page are put into the list
pub put_is : (ps : List (List Claim)) (at left place : ℕ) (p q xs : List Claim) → at < length ps → p ≡ get_or ps at p → left ≤ length p → place ≡ length (paged (take at ps)) + left → q ≡ take left p ++ (xs ++ drop left p) → paged (set ps at q) ≡ take place (paged ps) ++ (xs ++ drop place (paged ps))
put_is ps at left place p q xs h is within sum new =
    let front = paged (take at ps) in
    let back = paged (drop (suc at) ps) in
    let parts = split_at ps at p q h is in
    parts.new
    ∙ ap (λ (ds : List Claim). front ++ (ds ++ back)) new
    ∙ ap (λ (ds : List Claim). front ++ ds) (append_assoc (take left p) (xs ++ drop left p) back ∙ ap (λ (ds : List Claim). take left p ++ ds) (append_assoc xs (drop left p) back))
    ∙ sym (append_assoc front (take left p) (xs ++ (drop left p ++ back)))
    ∙ ap (λ (ds : List Claim). ds ++ (xs ++ (drop left p ++ back))) (sym (rw sum (take_within (paged ps) front p back (length front) left parts.old refl within)))
    ∙ ap (λ (ds : List Claim). take place (paged ps) ++ (xs ++ ds)) (sym (rw sum (drop_within (paged ps) front p back (length front) left parts.old refl within)))

pub record IsHalved (old new : List (List Claim)) : Type 0 where
  pub same : paged new ≡ paged old
  pub full : AreFull new

-- a page cut in two has the same claims
pub halved : (ps : List (List Claim)) (at h n : ℕ) (p tail q r : List Claim) → at < length ps → AreFull ps → p ≡ get_or ps at p → tail ≡ drop h p → q ≡ get_or (insert ps (at + 1) tail) at q → n ≡ length q → r ≡ take h q ++ drop n q → 0 < h → h < length p → IsHalved ps (set (insert ps (at + 1) tail) at r)
halved ps at h n p tail q r in_it full is e at_q len new some part = go ps at in_it full is at_q where
  go : (ps : List (List Claim)) (at : ℕ) → at < length ps → AreFull ps → p ≡ get_or ps at p → q ≡ get_or (insert ps (at + 1) tail) at q → IsHalved ps (set (insert ps (at + 1) tail) at r)
  go [] at in_it full is at_q = absurd (omega (arith, in_it))
  go (x ∷ xs) zero in_it full is at_q =
      let same : q ≡ p = at_q ∙ sym is in
      let short : r ≡ take h p = new ∙ ap (λ (m : ℕ). take h q ++ drop m q) len ∙ ap (λ (ds : List Claim). take h q ++ ds) (drop-length q) ∙ append-nil (take h q) ∙ ap (λ (ds : List Claim). take h ds) same in
      record {
        same =
            ap (λ (ds : List Claim). ds ++ (tail ++ paged xs)) short ∙ ap (λ (ds : List Claim). take h p ++ (ds ++ paged xs)) e
            ∙ sym (append_assoc (take h p) (drop h p) (paged xs)) ∙ ap (λ (ds : List Claim). ds ++ paged xs) (take-append-drop h p ∙ is);
        full = (rw short (omega (arith, length-take-le h p (omega (arith, part)), some)), (rw e (omega (arith, length-drop h p, part)), full.1));
      }
  go (x ∷ xs) (suc at) in_it full is at_q =
      let n : suc at + 1 ≡ suc (at + 1) = omega arith in
      let rest = go xs at (omega (arith, in_it)) full.1 is (rw n at at_q) in
      rw n (record { same = ap (λ (ds : List Claim). x ++ ds) rest.same; full = (full.0, rest.full) })

same_get : (ps : List (List Claim)) (at : ℕ) (p q : List Claim) → at < length ps → p ≡ get_or ps at p → q ≡ get_or ps at q → p ≡ q
same_get [] at p q h is and = absurd (omega (arith, h))
same_get (r ∷ rs) zero p q h is and = is ∙ sym and
same_get (r ∷ rs) (suc at) p q h is and = same_get rs at p q (omega (arith, h)) is and

pub there_within : (ps : List (List Claim)) (at left : ℕ) → IsThere at left ps → at < length ps
there_within [] at left there = absurd there
there_within (q ∷ qs) zero left there = omega arith
there_within (q ∷ qs) (suc at) left there = omega (arith, there_within qs at left there)

pub there_fits : (ps : List (List Claim)) (at left : ℕ) (p : List Claim) → IsThere at left ps → p ≡ get_or ps at p → left ≤ length p
there_fits ps at left p there is = there_len ps at left p there (there_within ps at left there) is

more_then : (ps : List (List Claim)) (at : ℕ) (x : List Claim) → length (insert ps at x) ≡ length ps + 1
more_then ps at x = omega (arith, length-append (take at ps) (x ∷ drop at ps), length-take-drop ps at)
  where
    length-take-drop : (ps : List (List Claim)) (at : ℕ) → length (take at ps) + length (drop at ps) ≡ length ps
    length-take-drop ps at = sym (length-append (take at ps) (drop at ps)) ∙ ap (λ (qs : List (List Claim)). length qs) (take-append-drop at ps)

pub halved_done : (ps ns : List (List Claim)) (at h n : ℕ) (p tail q q' r : List Claim) → IsThere at 128 ps → AreFull ps → p ≡ get_or ps at p → tail ≡ drop h p → ns ≡ insert ps (at + 1) tail → q' ≡ get_or ns at q' → n ≡ length q' → q ≡ get_or ns at q → r ≡ take h q ++ drop n q → 0 < h → h < 128 → IsHalved ps (set ns at r)
halved_done ps ns at h n p tail q q' r there full is e new is_q' len is_q r_is some part =
    let in_it = there_within ps at 128 there in
    let in_new : at < length ns = omega (arith, in_it, ap (λ (qs : List (List Claim)). length qs) new, more_then ps (at + 1) tail) in
    let same : n ≡ length q = len ∙ ap (λ (d : List Claim). length d) (same_get ns at q' q in_new is_q' is_q) in
    subst (λ (qs : List (List Claim)). IsHalved ps (set qs at r)) (sym new)
    (halved ps at h n p tail q r in_it full is e (subst (λ (qs : List (List Claim)). q ≡ get_or qs at q) new is_q) same r_is some (omega (arith, part, there_fits ps at 128 p there is)))

pub still_there : (ps : List (List Claim)) (at : ℕ) (p q tail : List Claim) → at < length ps → p ≡ get_or ps at p → q ≡ get_or (insert ps (at + 1) tail) at q → q ≡ p
still_there [] at p q tail h is and = absurd (omega (arith, h))
still_there (r ∷ rs) zero p q tail h is and = and ∙ sym is
still_there (r ∷ rs) (suc at) p q tail h is and =
    let n : suc at + 1 ≡ suc (at + 1) = omega arith in
    still_there rs at p q tail (omega (arith, h)) is (rw n at and)

pub halved_len : (ps ns : List (List Claim)) (at n : ℕ) (p tail q : List Claim) → IsThere at 128 ps → p ≡ get_or ps at p → ns ≡ insert ps (at + 1) tail → q ≡ get_or ns at q → n ≡ length q → 128 ≤ n
halved_len ps ns at n p tail q there is new is_q len =
    omega (arith, len, there_fits ps at 128 p there is, ap (λ (d : List Claim). length d) (still_there ps at p q tail (there_within ps at 128 there) is (subst (λ (qs : List (List Claim)). q ≡ get_or qs at q) new is_q)))

pub there_at : (ps : List (List Claim)) (at left : ℕ) (p : List Claim) → at < length ps → p ≡ get_or ps at p → left ≤ length p → IsThere at left ps
there_at [] at left p h is k = absurd (omega (arith, h))
there_at (q ∷ qs) zero left p h is k = subst (λ (r : List Claim). left ≤ length r) is k
there_at (q ∷ qs) (suc at) left p h is k = there_at qs at left p (omega (arith, h)) is k

pub some_still : (old new : List (List Claim)) → AreFull old → 0 < length old → paged new ≡ paged old → 0 < length new
some_still [] new full some same = absurd (omega (arith, some))
some_still ([] ∷ ps) new full some same = absurd (omega (arith, full.0))
some_still ((c ∷ cs) ∷ ps) [] full some same = cc
some_still ((c ∷ cs) ∷ ps) (q ∷ qs) full some same = omega arith

pub first_and_rest : (ps : List (List Claim)) (p : List Claim) → 0 < length ps → p ≡ get_or ps 0 p → p ++ paged (take (length ps - 1) (drop 1 ps)) ≡ paged ps
first_and_rest [] p some is = absurd (omega (arith, some))
first_and_rest (q ∷ qs) p some is =
    let n : suc (length qs) - 1 ≡ length qs = omega arith in
    rw n (ap (λ (rs : List (List Claim)). p ++ paged rs) (take-length qs) ∙ ap (λ (r : List Claim). r ++ paged qs) is)

pub none_paged : (ps : List (List Claim)) (none : List Claim) → length ps ≡ 0 → none ≡ [] → none ≡ paged ps
none_paged [] none e is = is
none_paged (p ∷ ps) none e is = absurd (omega (arith, e))

-- the first claims
pub first_put : (ps : List (List Claim)) (new entered : List Claim) (place : ℕ) → length ps ≡ 0 → place ≤ length (paged ps) → new ≡ entered → new ≡ take place (paged ps) ++ (entered ++ drop place (paged ps))
first_put [] new entered zero e within is = is ∙ sym (append-nil entered)
first_put [] new entered (suc place) e within is = absurd (omega (arith, within))
first_put (p ∷ ps) new entered place e within is = absurd (omega (arith, e))

-- ---- claims taken out

pub empty_out : (ps : List (List Claim)) (at : ℕ) (q : List Claim) → IsFullBut at ps → at < length ps → q ≡ get_or ps at q → length q ≡ 0 → IsHalved ps (remove ps at)
empty_out [] at q full h is none = absurd (omega (arith, h))
empty_out (p ∷ ps) zero q full h is none = record { same = ap (λ (ds : List Claim). ds ++ paged ps) (nothing_in p (ap (λ (r : List Claim). length r) (sym is) ∙ none)); full = full } where
  nothing_in : (p : List Claim) → length p ≡ 0 → [] ≡ p
  nothing_in [] e = refl
  nothing_in (c ∷ cs) e = absurd (omega (arith, e))
empty_out (p ∷ ps) (suc at) q full h is none =
    let rest = empty_out ps at q full.1 (omega (arith, h)) is none in
    record { same = ap (λ (ds : List Claim). p ++ ds) rest.same; full = (full.0, rest.full) }

pub full_at_last : (ps : List (List Claim)) (at : ℕ) (q : List Claim) → IsFullBut at ps → at < length ps → q ≡ get_or ps at q → (length q ≡ 0 → ⊥) → AreFull ps
full_at_last [] at q full h is some = tt
full_at_last (p ∷ ps) zero q full h is some = (omega (arith, some_of p (λ e. some (subst (λ (r : List Claim). length r ≡ 0) (sym is) e))), full) where
  some_of : (p : List Claim) → (length p ≡ 0 → ⊥) → 0 < length p
  some_of [] none = absurd (none refl)
  some_of (c ∷ cs) none = omega arith
full_at_last (p ∷ ps) (suc at) q full h is some = (full.0, full_at_last ps at q full.1 (omega (arith, h)) is some)

pub full_but : (ps : List (List Claim)) (at : ℕ) (q : List Claim) → AreFull ps → IsFullBut at (set ps at q)
full_but [] at q full = tt
full_but (p ∷ ps) zero q full = full.1
full_but (p ∷ ps) (suc at) q full = (full.0, full_but ps at q full.1)

pub take_is : (ps : List (List Claim)) (at from to start : ℕ) (p q : List Claim) → at < length ps → p ≡ get_or ps at p → from ≤ to → to ≤ length p → start ≡ length (paged (take at ps)) + from → q ≡ take from p ++ drop to p → paged (set ps at q) ≡ take start (paged ps) ++ drop (start + (to - from)) (paged ps)
take_is ps at from to start p q h is order within sum new =
    let front = paged (take at ps) in
    let back = paged (drop (suc at) ps) in
    let parts = split_at ps at p q h is in
    let behind : start + (to - from) ≡ length front + to = omega (arith, sum, order) in
    parts.new
    ∙ ap (λ (ds : List Claim). front ++ (ds ++ back)) new
    ∙ ap (λ (ds : List Claim). front ++ ds) (append_assoc (take from p) (drop to p) back)
    ∙ sym (append_assoc front (take from p) (drop to p ++ back))
    ∙ ap (λ (ds : List Claim). ds ++ (drop to p ++ back)) (sym (rw sum (take_within (paged ps) front p back (length front) from parts.old refl (omega (arith, order, within)))))
    ∙ ap (λ (ds : List Claim). take start (paged ps) ++ ds) (sym (rw behind (drop_within (paged ps) front p back (length front) to parts.old refl within)))

pub inside_len : (ps : List (List Claim)) (at left : ℕ) (p : List Claim) → IsInside at left ps → p ≡ get_or ps at p → left < length p
inside_len [] at left p h is = absurd h
inside_len (q ∷ qs) zero left p h is = subst (λ (r : List Claim). left < length r) (sym is) h
inside_len (q ∷ qs) (suc at) left p h is = inside_len qs at left p h is

pub located_within : (ps : List (List Claim)) (at left place : ℕ) → at ≤ length ps → place ≡ length (paged (take at ps)) + left → place < length (paged ps) → at < length ps
located_within ps at left place most sum within =
    elim (cases_lt at (length ps)) [
      | inl h ↦ h
      | inr h ↦ absurd (omega (arith, sum, within, ap (λ (qs : List (List Claim)). length (paged qs)) (take_all ps at h)))
    ]

-- a part taken out of what is left between two places
pub record IsTaking (start end : ℕ) (old now : List (List Claim)) (last : ℕ) : Type 0 where
  pub order : start ≤ last
  pub within : last ≤ length (paged now)
  pub same : take start (paged now) ++ drop last (paged now) ≡ take start (paged old) ++ drop end (paged old)
  pub full : AreFull now

step_take : (xs ys : List Claim) (start last n : ℕ) → start + n ≤ last → last ≤ length xs → ys ≡ take start xs ++ drop (start + n) xs → (take start ys ++ drop (last - n) ys ≡ take start xs ++ drop last xs) × (last - n ≤ length ys)
step_take xs ys start last n h within e =
    let len : length (take start xs) ≡ start = length-take-le start xs (omega (arith, h, within)) in
    let behind : last - n ≡ length (take start xs) + (last - n - start) = omega (arith, len, h) in
    let past : start + n + (last - n - start) ≡ last = omega (arith, h) in
    let front : take start ys ≡ take start xs =
    ap (λ (ds : List Claim). take start ds) e ∙ ap (λ (m : ℕ). take m (take start xs ++ drop (start + n) xs)) (sym len) ∙ take-append_seam (take start xs) (drop (start + n) xs) in
    let back : drop (last - n) ys ≡ drop last xs =
    ap (λ (ds : List Claim). drop (last - n) ds) e ∙ ap (λ (m : ℕ). drop m (take start xs ++ drop (start + n) xs)) behind ∙ drop-append-add (take start xs) (drop (start + n) xs) (last - n - start)
    ∙ drop-drop (last - n - start) (start + n) xs ∙ ap (λ (m : ℕ). drop m xs) past in (
      ap (λ (ds : List Claim). ds ++ drop (last - n) ys) front ∙ ap (λ (ds : List Claim). take start xs ++ ds) back,
      omega (arith, ap (λ (ds : List Claim). length ds) e, length-append (take start xs) (drop (start + n) xs), length-drop (start + n) xs, len, h, within),
    )

pub take_more : (start end last n : ℕ) (old now new : List (List Claim)) → IsTaking start end old now last → 0 < n → n ≤ last - start → paged new ≡ take start (paged now) ++ drop (start + n) (paged now) → AreFull new → IsTaking start end old new (last - n)
take_more start end last n old now new so_far some most taken full =
    let one = step_take (paged now) (paged new) start last n (omega (arith, most, so_far.order)) so_far.within taken in
    record {
      order = omega (arith, most, so_far.order);
      within = one.1;
      same = one.0 ∙ so_far.same;
      full = full;
    }

pub take_done : (start end last : ℕ) (old now : List (List Claim)) → IsTaking start end old now last → last ≤ start → paged now ≡ take start (paged old) ++ drop end (paged old)
take_done start end last old now so_far done =
    let e : last ≡ start = omega (arith, done, so_far.order) in
    sym (take-append-drop start (paged now)) ∙ ap (λ (m : ℕ). take start (paged now) ++ drop m (paged now)) (sym e) ∙ so_far.same

-- claims put in behind a part that is then taken out
pub spliced_is : (xs ys zs entered : List Claim) (start end : ℕ) → start ≤ end → end ≤ length xs → ys ≡ take end xs ++ (entered ++ drop end xs) → zs ≡ take start ys ++ drop end ys → zs ≡ take start xs ++ (entered ++ drop end xs)
spliced_is xs ys zs entered start end order within put taken =
    let len : length (take end xs) ≡ end = length-take-le end xs within in
    let front : take start ys ≡ take start xs =
    ap (λ (ds : List Claim). take start ds) put ∙ take-append-le start (take end xs) (entered ++ drop end xs) (omega (arith, len, order)) ∙ take_of_take xs start end order in
    let back : drop end ys ≡ entered ++ drop end xs =
    ap (λ (ds : List Claim). drop end ds) put ∙ ap (λ (m : ℕ). drop m (take end xs ++ (entered ++ drop end xs))) (sym len) ∙ drop-append_seam (take end xs) (entered ++ drop end xs) in
    taken ∙ ap (λ (ds : List Claim). ds ++ drop end ys) front ∙ ap (λ (ds : List Claim). take start xs ++ ds) back
  where
    take_of_take : (xs : List Claim) (m n : ℕ) → m ≤ n → take m (take n xs) ≡ take m xs
    take_of_take [] zero n h = refl
    take_of_take [] (suc m) zero h = refl
    take_of_take [] (suc m) (suc n) h = refl
    take_of_take (c ∷ cs) zero n h = refl
    take_of_take (c ∷ cs) (suc m) zero h = absurd (omega (arith, h))
    take_of_take (c ∷ cs) (suc m) (suc n) h = ap (λ (ds : List Claim). c ∷ ds) (take_of_take cs m n (omega (arith, h)))

-- where nothing is put in
pub nothing_put : (xs zs entered : List Claim) (start end : ℕ) → length entered ≡ 0 → zs ≡ take start xs ++ drop end xs → zs ≡ take start xs ++ (entered ++ drop end xs)
nothing_put xs zs [] start end none e = e
nothing_put xs zs (c ∷ cs) start end none e = absurd (omega (arith, none))

pub put_length : (xs ys entered : List Claim) (end : ℕ) → end ≤ length xs → ys ≡ take end xs ++ (entered ++ drop end xs) → end ≤ length ys
put_length xs ys entered end within e =
    omega (arith, ap (λ (ds : List Claim). length ds) e, length-append (take end xs) (entered ++ drop end xs), length-take-le end xs within)

-- ---- a claim in the place of another

pub set_is : (ps : List (List Claim)) (at left place : ℕ) (p q : List Claim) (c : Claim) → at < length ps → p ≡ get_or ps at p → left < length p → place ≡ length (paged (take at ps)) + left → q ≡ set p left c → paged (set ps at q) ≡ set (paged ps) place c
set_is ps at left place p q c h is within sum new =
    let front = paged (take at ps) in
    let back = paged (drop (suc at) ps) in
    let parts = split_at ps at p q h is in
    let inner : place - length front ≡ left = omega (arith, sum) in
    parts.new
    ∙ ap (λ (ds : List Claim). front ++ (ds ++ back)) new
    ∙ ap (λ (ds : List Claim). front ++ ds) (sym (set-append_left p back left c within))
    ∙ ap (λ (n : ℕ). front ++ set (p ++ back) n c) (sym inner)
    ∙ sym (set-append_right front (p ++ back) (length front) place c refl (omega (arith, sum)))
    ∙ ap (λ (ds : List Claim). set ds place c) (sym parts.old)

pub set_length : (xs : List Claim) (i : ℕ) (c : Claim) → length (set xs i c) ≡ length xs
set_length [] i c = refl
set_length (x ∷ xs) zero c = refl
set_length (x ∷ xs) (suc i) c = omega (arith, set_length xs i c)

-- a claim moved over its neighbour leaves the same list without the place that it left
shift_up : (xs : List Claim) (i : ℕ) (x : Claim) → slice_get xs (i + 1) ≡ Some x → remove (set xs i x) (i + 1) ≡ remove xs i
shift_up [] i x h = cc
shift_up (y ∷ []) zero x h = cc
shift_up (y ∷ z ∷ zs) zero x h = ap (λ (d : Claim). d ∷ zs) (sym (same_Some z x h))
shift_up (y ∷ ys) (suc i) x h =
    let n : suc i + 1 ≡ suc (i + 1) = omega arith in
    rw n (ap (λ (ds : List Claim). y ∷ ds) (shift_up ys i x (rw n at h)))

shift_down : (xs : List Claim) (i : ℕ) (x : Claim) → i + 1 < length xs → slice_get xs i ≡ Some x → remove (set xs (i + 1) x) i ≡ remove xs (i + 1)
shift_down [] i x h e = absurd (omega (arith, h))
shift_down (y ∷ []) zero x h e = absurd (omega (arith, h))
shift_down (y ∷ z ∷ zs) zero x h e = ap (λ (d : Claim). d ∷ zs) (sym (same_Some y x e))
shift_down (y ∷ ys) (suc i) x h e =
    let n : suc i + 1 ≡ suc (i + 1) = omega arith in
    rw n (ap (λ (ds : List Claim). y ∷ ds) (shift_down ys i x (omega (arith, h)) e))

pub shifted_up : (from at : ℕ) (x : Claim) (old now new : List (List Claim)) → IsShifting from at old now → slice_get (paged now) (at + 1) ≡ Some x → paged new ≡ set (paged now) at x → AreFull new → IsShifting from (at + 1) old new
shifted_up from at x old now new so_far h e full = record {
  same = ap (λ (ds : List Claim). remove ds (at + 1)) e ∙ shift_up (paged now) at x h ∙ so_far.same;
  many = ap (λ (ds : List Claim). length ds) e ∙ set_length (paged now) at x ∙ so_far.many;
  full = full;
}

pub shifted_down : (from at : ℕ) (x : Claim) (old now new : List (List Claim)) → IsShifting from (at + 1) old now → at + 1 < length (paged now) → slice_get (paged now) at ≡ Some x → paged new ≡ set (paged now) (at + 1) x → AreFull new → IsShifting from at old new
shifted_down from at x old now new so_far h k e full = record {
  same = ap (λ (ds : List Claim). remove ds at) e ∙ shift_down (paged now) at x h k ∙ so_far.same;
  many = ap (λ (ds : List Claim). length ds) e ∙ set_length (paged now) (at + 1) x ∙ so_far.many;
  full = full;
}

-- a claim set at a place stands there in the list without that place
set_again : (xs : List Claim) (i : ℕ) (c : Claim) → i < length xs → set xs i c ≡ take i (remove xs i) ++ c ∷ drop i (remove xs i)
set_again [] i c h = absurd (omega (arith, h))
set_again (x ∷ xs) zero c h = refl
set_again (x ∷ xs) (suc i) c h = ap (λ (ds : List Claim). x ∷ ds) (set_again xs i c (omega (arith, h)))

pub shifted_set : (from at : ℕ) (c : Claim) (old now new : List (List Claim)) → IsShifting from at old now → at < length (paged now) → paged new ≡ set (paged now) at c → paged new ≡ take at (remove (paged old) from) ++ c ∷ drop at (remove (paged old) from)
shifted_set from at c old now new so_far h e =
    e ∙ set_again (paged now) at c h ∙ ap (λ (ds : List Claim). take at ds ++ c ∷ drop at ds) so_far.same

got : (xs : List Claim) (i : ℕ) → i < length xs → (x : Claim) × (slice_get xs i ≡ Some x)
got [] i h = absurd (omega (arith, h))
got (x ∷ xs) zero h = (x, refl)
got (x ∷ xs) (suc i) h = got xs i (omega (arith, h))

pub step_up : (from to at : ℕ) (old now new : List (List Claim)) → IsShifting from at old now → at < to → to < length (paged old) → ((x : Claim) → slice_get (paged now) (at + 1) ≡ Some x → paged new ≡ set (paged now) at x) → AreFull new → IsShifting from (at + 1) old new × (at + 1 ≤ to)
step_up from to at old now new so_far h within moved full =
    let one = got (paged now) (at + 1) (omega (arith, h, within, so_far.many)) in
    (shifted_up from at one.0 old now new so_far one.1 (moved one.0 one.1) full, omega (arith, h))

pub step_down : (from to at : ℕ) (old now new : List (List Claim)) → IsShifting from at old now → to < at → at ≤ from → from < length (paged old) → ((x : Claim) → slice_get (paged now) (at - 1) ≡ Some x → paged new ≡ set (paged now) at x) → AreFull new → IsShifting from (at - 1) old new × (to ≤ at - 1) × (at - 1 ≤ from)
step_down from to at old now new so_far h most within moved full =
    let one = got (paged now) (at - 1) (omega (arith, h, most, within, so_far.many)) in
    let n : at ≡ at - 1 + 1 = omega (arith, h) in (
      shifted_down from (at - 1) one.0 old now new (subst (λ (m : ℕ). IsShifting from m old now) n so_far) (omega (arith, h, most, within, so_far.many)) one.1 (subst (λ (m : ℕ). paged new ≡ set (paged now) m one.0) n (moved one.0 one.1)) full,
      omega (arith, h),
      omega (arith, h, most),
    )

pub any_more : (p : Claim → Bool) (xs ys : List Claim) → list_any p (xs ++ ys) ≡ (list_any p xs || list_any p ys)
any_more p [] ys = refl
any_more p (x ∷ xs) ys = elim (cases_Bool (p x)) [ inl h ↦ rw h refl | inr h ↦ rw h (any_more p xs ys) ]

-- ---- all claims, one behind another

pub joined_more : (all more rest whole new : List Claim) → new ≡ all ++ more → all ++ (more ++ rest) ≡ whole → new ++ rest ≡ whole
joined_more all more rest whole new e so_far = ap (λ (ds : List Claim). ds ++ rest) e ∙ append_assoc all more rest ∙ so_far

-- ---- pages without some of their claims

-- of the first so many pages only the claims that pass the test are left, and the others are as they were
abbrev pub AreThin : (Claim → Bool) → ℕ → List (List Claim) → List (List Claim) → Type 0
AreThin p zero xs ys = xs ≡ ys
AreThin p (suc n) [] [] = Unit {0}
AreThin p (suc n) (x ∷ xs) (y ∷ ys) = (x ≡ filter p y) × AreThin p n xs ys
AreThin p (suc n) [] (y ∷ ys) = ⊥
AreThin p (suc n) (x ∷ xs) [] = ⊥

pub thin_more : (p : Claim → Bool) (n : ℕ) (xs ys : List (List Claim)) (x z : List Claim) → AreThin p n xs ys → n < length xs → x ≡ get_or xs n x → z ≡ filter p x → AreThin p (suc n) (set xs n z) ys
thin_more p zero [] ys x z thin h is new = absurd (omega (arith, h))
thin_more p zero (w ∷ ws) ys x z thin h is new = subst (λ (us : List (List Claim)). AreThin p 1 (z ∷ ws) us) thin (new ∙ ap (λ (u : List Claim). filter p u) is, refl)
thin_more p (suc n) [] ys x z thin h is new = absurd (omega (arith, h))
thin_more p (suc n) (w ∷ ws) [] x z thin h is new = absurd thin
thin_more p (suc n) (w ∷ ws) (y ∷ ys) x z thin h is new = (thin.0, thin_more p n ws ys x z thin.1 (omega (arith, h)) is new)

pub thin_done : (p : Claim → Bool) (n : ℕ) (xs ys : List (List Claim)) → length xs ≤ n → AreThin p n xs ys → paged xs ≡ filter p (paged ys)
thin_done p zero [] ys h thin = subst (λ (us : List (List Claim)). [] ≡ filter p (paged us)) thin refl
thin_done p zero (x ∷ xs) ys h thin = absurd (omega (arith, h))
thin_done p (suc n) [] [] h thin = refl
thin_done p (suc n) [] (y ∷ ys) h thin = absurd thin
thin_done p (suc n) (x ∷ xs) [] h thin = absurd thin
thin_done p (suc n) (x ∷ xs) (y ∷ ys) h thin =
    ap (λ (ds : List Claim). ds ++ paged xs) thin.0 ∙ ap (λ (ds : List Claim). filter p y ++ ds) (thin_done p n xs ys (omega (arith, h)) thin.1) ∙ sym (filter-append p y (paged ys))

pub full_left : (ps qs : List (List Claim)) → qs ≡ filter (λ p. nat_lt 0 (length p)) ps → AreFull qs
full_left ps qs e = subst AreFull (sym e) (go ps) where
  some_in : (p : List Claim) → nat_lt 0 (length p) ≡ true → 0 < length p
  some_in [] h = cc
  some_in (c ∷ cs) h = omega arith

  go : (ps : List (List Claim)) → AreFull (filter (λ p. nat_lt 0 (length p)) ps)
  go [] = tt
  go (p ∷ ps) = elim (cases_Bool (nat_lt 0 (length p))) [ inl some ↦ rw some (some_in p some, go ps) | inr none ↦ rw none (go ps) ]

pub same_left : (ps qs : List (List Claim)) (cs : List Claim) → qs ≡ filter (λ p. nat_lt 0 (length p)) ps → paged ps ≡ cs → paged qs ≡ cs
same_left ps qs cs e is = ap (λ (rs : List (List Claim)). paged rs) e ∙ go ps ∙ is where
  go : (ps : List (List Claim)) → paged (filter (λ p. nat_lt 0 (length p)) ps) ≡ paged ps
  go [] = refl
  go ([] ∷ ps) = go ps
  go ((c ∷ cs) ∷ ps) = elim (cases_Bool (nat_lt 0 (suc (length cs)))) [
    | inl some ↦ rw some (ap (λ (ds : List Claim). c ∷ (cs ++ ds)) (go ps))
    | inr none ↦ absurd (both_ways (nat_lt 0 (suc (length cs))) none (lt-ltb 0 (suc (length cs)) (omega arith)))
  ]

-- ---- a loop over pages

pub drop_page : (ps : List (List Claim)) (i : ℕ) (p : List Claim) → i < length ps → p ≡ get_or ps i p → paged (drop i ps) ≡ p ++ paged (drop (i + 1) ps)
drop_page [] i p h is = absurd (omega (arith, h))
drop_page (q ∷ qs) zero p h is = ap (λ (r : List Claim). r ++ paged qs) (sym is)
drop_page (q ∷ qs) (suc i) p h is =
    let n : suc i + 1 ≡ suc (i + 1) = omega arith in
    rw n (drop_page qs i p (omega (arith, h)) is)

pub filtered_page : (test : Claim → Bool) (ps : List (List Claim)) (i : ℕ) (p seen out new whole : List Claim) → i < length ps → p ≡ get_or ps i p → seen ≡ p → new ≡ out ++ filter test seen → out ++ filter test (paged (drop i ps)) ≡ whole → new ++ filter test (paged (drop (i + 1) ps)) ≡ whole
filtered_page test ps i p seen out new whole h is same e so_far =
    filtered_more test out p (paged (drop (i + 1) ps)) whole new (e ∙ ap (λ (ds : List Claim). out ++ filter test ds) same) (ap (λ (ds : List Claim). out ++ filter test ds) (sym (drop_page ps i p h is)) ∙ so_far)
