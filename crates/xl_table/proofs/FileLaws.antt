-- The lists of the files are the flat list, and what is done to one of them is done to the flat list.
use Rattle.std.proofs.Common.{◌≡◌, ℕ, ◌<◌, ◌≤◌, ◌^◌, zero, suc, Bool, true, false, ◌==◌, nat_lt, List, [], ◌∷◌, ◌++◌, length, get_or, Result, Ok, Err, OnErr, IsTrue, ◌↔◌, inl, inr, refl, sym, ap, subst, ◌∙◌, append_assoc, arith}
use Rattle.std.proofs.Math.Numerals.{one-add}
use Rattle.std.proofs.Math.ListN.{set}
use Rattle.std.specs.List.{AllByRecursion, filter, insert, prefix_len}
use Rattle.std.proofs.lemmas.Bool.{cases_Bool, eq-eqb, eqb-true}
use Rattle.std.proofs.lemmas.Bool.Decides.{nat_tests}
use Rattle.std.proofs.lemmas.List.{append-nil}
use Rattle.std.proofs.lemmas.List.Elements.{filter-append}
use Rattle.xl_base.specs.Lists.{IsIn, Pairwise}
use Rattle.xl_base.proofs.Members.{all_weaker, all_append, all_from, in_filter, in_filter_from, pairwise_filter}
use Rattle.xl_matrix.specs.declared.claim.Claim.{Claim}
use Rattle.xl_table.specs.declared.files.OnFile.{OnFile}
use Rattle.xl_table.specs.Files.{joined, AreOn, IsFiled, IsAt, here, alone}
use Rattle.xl_table.specs.Order.{goes_first}
use Rattle.xl_table.specs.Pages.{paged, AreFull}
use Rattle.xl_index.specs.Parted.{IsParted}

-- ---- a test that passes for all of a list, or for none

pub all_pass : (p : Claim → Bool) (cs : List Claim) → AllByRecursion (λ c. p c ≡ true) cs → filter p cs ≡ cs
all_pass p [] all = refl
all_pass p (c ∷ cs) all = rw all.0 (ap (λ (ds : List Claim). c ∷ ds) (all_pass p cs all.1))

pub none_pass : (p : Claim → Bool) (cs : List Claim) → AllByRecursion (λ c. p c ≡ false) cs → filter p cs ≡ []
none_pass p [] all = refl
none_pass p (c ∷ cs) all = rw all.0 (none_pass p cs all.1)

pub all_filtered : (P : Claim → Type 0) (p : Claim → Bool) (cs : List Claim) → AllByRecursion P cs → AllByRecursion P (filter p cs)
all_filtered P p [] all = tt
all_filtered P p (c ∷ cs) all = elim (cases_Bool (p c)) [ inl e ↦ rw e (all.0, all_filtered P p cs all.1) | inr e ↦ rw e (all_filtered P p cs all.1) ]

on_other : (m n k : ℕ) → (k == m) ≡ true → nat_lt m n ≡ true → (k == n) ≡ false
on_other m n k e h = grind (arith, nat_tests)

-- all claims of the lists behind one are on files past its
past_all : (n : ℕ) (ls : List OnFile) → AllByRecursion (λ m. nat_lt n m.file ≡ true) ls → IsFiled ls → AllByRecursion (λ c. nat_lt n c.file ≡ true) (joined ls)
past_all n [] later filed = tt
past_all n (l ∷ ls) later filed =
    all_append (λ c. nat_lt n c.file ≡ true) (paged l.pages.items) (joined ls)
    (all_weaker (λ c. (c.file == l.file) ≡ true) (λ c. nat_lt n c.file ≡ true) (paged l.pages.items) (λ c e. past n l.file c.file later.0 e) filed.0)
    (past_all n ls later.1 filed.2)
  where
    past : (n m k : ℕ) → nat_lt n m ≡ true → (k == m) ≡ true → nat_lt n k ≡ true
    past n m k h e = grind (arith, nat_tests)

-- ---- where a file's list stands

further : (n m : ℕ) → nat_lt n m ≡ false → (n ≡ m → ⊥) → nat_lt m n ≡ true
further n m h apart = elim (cases_Bool (nat_lt m n)) [ inl e ↦ e | inr e ↦ absurd (apart (eqb-true n m (grind (arith, nat_tests)))) ]

lower : (a b c : ℕ) → nat_lt a b ≡ true → nat_lt b c ≡ true → nat_lt a c ≡ true
lower a b c h k = grind (arith, nat_tests)

pub at_within : (file at : ℕ) (ls : List OnFile) → IsAt file at ls → at < length ls
at_within file at [] h = absurd h
at_within file zero (l ∷ ls) h = omega arith
at_within file (suc at) (l ∷ ls) h = omega (arith, at_within file at ls h)

pub at_same : (file at : ℕ) (ls : List OnFile) (x : OnFile) → at < length ls → x ≡ get_or ls at x → IsTrue (x.file == file) ↔ IsAt file at ls
at_same file at [] x h is = absurd (omega (arith, h))
at_same file zero (l ∷ ls) x h is = subst (λ (y : OnFile). IsTrue (y.file == file) ↔ (l.file ≡ file)) (sym is) ((λ e. eqb-true l.file file e), (λ e. eq-eqb l.file file e))
at_same file (suc at) (l ∷ ls) x h is = at_same file at ls x (omega (arith, h)) is

pub not_at : (file at : ℕ) (ls : List OnFile) → length ls ≤ at → IsAt file at ls → ⊥
not_at file at ls h there = omega (arith, h, at_within file at ls there)

at_past : (n file at : ℕ) (ls : List OnFile) → AllByRecursion (λ m. nat_lt n m.file ≡ true) ls → IsAt file at ls → nat_lt n file ≡ true
at_past n file at [] later h = absurd h
at_past n file zero (l ∷ ls) later h = subst (λ (k : ℕ). nat_lt n k ≡ true) h later.0
at_past n file (suc at) (l ∷ ls) later h = at_past n file at ls later.1 h

pub before_parted : (file : ℕ) (ls : List OnFile) → IsFiled ls → IsParted (λ l. nat_lt l.file file) ls
before_parted file [] filed = tt
before_parted file (l ∷ ls) filed = (
  λ fails. all_weaker (λ m. nat_lt l.file m.file ≡ true) (λ m. nat_lt m.file file ≡ false) ls (λ m h. step file l.file m.file fails h) filed.1,
  before_parted file ls filed.2,
) where
  step : (n k m : ℕ) → nat_lt k n ≡ false → nat_lt k m ≡ true → nat_lt m n ≡ false
  step n k m h e = grind (arith, nat_tests)

abbrev pub before : ℕ → List OnFile → ℕ
before file ls = prefix_len (λ l. nat_lt l.file file) ls

not_on : (m n : ℕ) (cs : List Claim) → AreOn m cs → nat_lt m n ≡ true → here n cs ≡ []
not_on m n cs on h = none_pass (λ c. c.file == n) cs (all_weaker (λ c. (c.file == m) ≡ true) (λ c. (c.file == n) ≡ false) cs (λ c e. on_other m n c.file e h) on)

none_past : (n : ℕ) (cs : List Claim) → AllByRecursion (λ c. nat_lt n c.file ≡ true) cs → here n cs ≡ []
none_past n cs all = none_pass (λ c. c.file == n) cs (all_weaker (λ c. nat_lt n c.file ≡ true) (λ c. (c.file == n) ≡ false) cs (λ c h. step n c.file h) all) where
  step : (n k : ℕ) → nat_lt n k ≡ true → (k == n) ≡ false
  step n k h = grind (arith, nat_tests)

-- where no list is the file's, there is no claim on it
pub none_here : (file at : ℕ) (ls : List OnFile) → IsFiled ls → at ≡ before file ls → (IsAt file at ls → ⊥) → here file (joined ls) ≡ []
none_here file at ls filed is none = go ls filed (subst (λ (n : ℕ). IsAt file n ls → ⊥) is none) where
  go : (ls : List OnFile) → IsFiled ls → (IsAt file (before file ls) ls → ⊥) → here file (joined ls) ≡ []
  go [] filed none = refl
  go (l ∷ ls) filed none =
      elim (cases_Bool (nat_lt l.file file)) [
        | inl early ↦
            filter-append (λ c. c.file == file) (paged l.pages.items) (joined ls)
            ∙ ap (λ (ds : List Claim). ds ++ here file (joined ls)) (not_on l.file file (paged l.pages.items) filed.0 early)
            ∙ go ls filed.2 (rw (early, one-add (before file ls)) at none)
        | inr late ↦
            let past = further l.file file late (λ e. (rw late at none) e) in
            none_past file (joined (l ∷ ls)) (past_all file (l ∷ ls) (past, all_weaker (λ m. nat_lt l.file m.file ≡ true) (λ m. nat_lt file m.file ≡ true) ls (λ m h. lower file l.file m.file past h) filed.1) filed)
      ]

-- the file's list holds the claims on the file
pub here_at : (file at : ℕ) (ls : List OnFile) (x : OnFile) → IsFiled ls → IsAt file at ls → x ≡ get_or ls at x → (paged x.pages.items) ≡ here file (joined ls)
here_at file at [] x filed h is = absurd h
here_at file zero (l ∷ ls) x filed h is =
    let on : AreOn file (paged l.pages.items) = subst (λ (n : ℕ). AreOn n (paged l.pages.items)) h filed.0 in
    ap (λ (y : OnFile). (paged y.pages.items)) is
    ∙ sym (append-nil (paged l.pages.items))
    ∙ ap (λ (ds : List Claim). (paged l.pages.items) ++ ds) (sym (none_past file (joined ls) (past_all file ls (subst (λ (n : ℕ). AllByRecursion (λ m. nat_lt n m.file ≡ true) ls) h filed.1) filed.2)))
    ∙ ap (λ (ds : List Claim). ds ++ here file (joined ls)) (sym (all_pass (λ c. c.file == file) (paged l.pages.items) on))
    ∙ sym (filter-append (λ c. c.file == file) (paged l.pages.items) (joined ls))
here_at file (suc at) (l ∷ ls) x filed h is =
    here_at file at ls x filed.2 h is
    ∙ ap (λ (ds : List Claim). ds ++ here file (joined ls)) (sym (not_on l.file file (paged l.pages.items) filed.0 (at_past l.file file at ls filed.1 h)))
    ∙ sym (filter-append (λ c. c.file == file) (paged l.pages.items) (joined ls))

pub here_on : (file : ℕ) (cs : List Claim) → AreOn file (here file cs)
here_on file cs = all_from (λ c. (c.file == file) ≡ true) (here file cs) (λ c h. (in_filter_from (λ d. d.file == file) c cs h).1)

pub own_here : (file : ℕ) (cs on : List Claim) → on ≡ here file cs → AreOn file on
own_here file cs on is = subst (λ (ds : List Claim). AreOn file ds) (sym is) (here_on file cs)

pub ordered_here : (file : ℕ) (cs : List Claim) → Pairwise goes_first cs → Pairwise goes_first (here file cs)
ordered_here file cs ordered = pairwise_filter goes_first (λ c. c.file == file) cs ordered

-- ---- a list without claims, put at its place

all_inserted : (P : OnFile → Type 0) (ls : List OnFile) (i : ℕ) (l : OnFile) → AllByRecursion P ls → P l → AllByRecursion P (insert ls i l)
all_inserted P [] zero l all one = (one, tt)
all_inserted P [] (suc i) l all one = (one, tt)
all_inserted P (x ∷ xs) zero l all one = (one, all)
all_inserted P (x ∷ xs) (suc i) l all one = (all.0, all_inserted P xs i l all.1 one)

pub record IsOpened (file at : ℕ) (old new : List OnFile) : Type 0 where
  pub same : joined new ≡ joined old
  pub filed : IsFiled new
  pub there : IsAt file at new

pub opened : (file at : ℕ) (ls : List OnFile) (l : OnFile) → IsFiled ls → at ≡ before file ls → (IsAt file at ls → ⊥) → l.file ≡ file → l.pages.items ≡ [] → IsOpened file at ls (insert ls at l)
opened file at ls l filed is none mine empty =
    subst (λ (n : ℕ). IsOpened file n ls (insert ls n l)) (sym is) (go ls filed (subst (λ (n : ℕ). IsAt file n ls → ⊥) is none))
  where
    own : AreOn l.file (paged l.pages.items)
    own = subst (λ (ps : List (List Claim)). AreOn l.file (paged ps)) (sym empty) tt

    none_full : AreFull l.pages.items
    none_full = subst AreFull (sym empty) tt

    go : (ls : List OnFile) → IsFiled ls → (IsAt file (before file ls) ls → ⊥) → IsOpened file (before file ls) ls (insert ls (before file ls) l)
    go [] filed none = record { same = ap (λ (ps : List (List Claim)). paged ps ++ []) empty; filed = (own, tt, tt, none_full); there = mine }
    go (x ∷ xs) filed none =
        elim (cases_Bool (nat_lt x.file file)) [
          | inl early ↦
              let rest = go xs filed.2 (rw (early, one-add (before file xs)) at none) in
              rw (early, one-add (before file xs))
              (record {
                same = ap (λ (cs : List Claim). (paged x.pages.items) ++ cs) rest.same;
                filed = (filed.0, all_inserted (λ m. nat_lt x.file m.file ≡ true) xs (before file xs) l filed.1 (subst (λ (n : ℕ). nat_lt x.file n ≡ true) (sym mine) early), rest.filed, filed.3);
                there = rest.there;
              })
          | inr late ↦
              let past : nat_lt file x.file ≡ true = further x.file file late (λ e. (rw late at none) e) in
              rw late
              (record {
                same = ap (λ (ps : List (List Claim)). paged ps ++ joined (x ∷ xs)) empty;
                filed = (
                  own,
                  subst (λ (n : ℕ). AllByRecursion (λ m. nat_lt n m.file ≡ true) (x ∷ xs)) (sym mine) (past, all_weaker (λ m. nat_lt x.file m.file ≡ true) (λ m. nat_lt file m.file ≡ true) xs (λ m h. lower file x.file m.file past h) filed.1),
                  filed,
                  none_full,
                );
                there = mine;
              })
        ]

-- ---- a file's list with other claims

all_set : (n at : ℕ) (ls : List OnFile) (x y : OnFile) → x ≡ get_or ls at x → y.file ≡ x.file → at < length ls → AllByRecursion (λ m. nat_lt n m.file ≡ true) ls → AllByRecursion (λ m. nat_lt n m.file ≡ true) (set ls at y)
all_set n at [] x y is e h all = tt
all_set n zero (l ∷ ls) x y is e h all = (subst (λ (k : ℕ). nat_lt n k ≡ true) (sym (e ∙ ap (λ (z : OnFile). z.file) is)) all.0, all.1)
all_set n (suc at) (l ∷ ls) x y is e h all = (all.0, all_set n at ls x y is e (omega (arith, h)) all.1)

pub set_filed : (file at : ℕ) (ls : List OnFile) (x y : OnFile) → IsFiled ls → IsAt file at ls → x ≡ get_or ls at x → y.file ≡ x.file → AreOn file (paged y.pages.items) → AreFull y.pages.items → IsFiled (set ls at y)
set_filed file at [] x y filed h is e on full = absurd h
set_filed file zero (l ∷ ls) x y filed h is e on full =
    let same : y.file ≡ l.file = e ∙ ap (λ (z : OnFile). z.file) is in (
      subst (λ (n : ℕ). AreOn n (paged y.pages.items)) (sym (same ∙ h)) on,
      subst (λ (n : ℕ). AllByRecursion (λ m. nat_lt n m.file ≡ true) ls) (sym same) filed.1,
      filed.2,
      full,
    )
set_filed file (suc at) (l ∷ ls) x y filed h is e on full = (filed.0, all_set l.file at ls x y is e (at_within file at ls h) filed.1, set_filed file at ls x y filed.2 h is e on full, filed.3)

none_below : (n : ℕ) (cs : List Claim) → AllByRecursion (λ c. nat_lt n c.file ≡ true) cs → filter (λ c. nat_lt c.file n) cs ≡ []
none_below n cs all = none_pass (λ c. nat_lt c.file n) cs (all_weaker (λ c. nat_lt n c.file ≡ true) (λ c. nat_lt c.file n ≡ false) cs (λ c h. step n c.file h) all) where
  step : (n k : ℕ) → nat_lt n k ≡ true → nat_lt k n ≡ false
  step n k h = grind (arith, nat_tests)

own_below : (n : ℕ) (cs : List Claim) → AreOn n cs → filter (λ c. nat_lt c.file n) cs ≡ []
own_below n cs on = none_pass (λ c. nat_lt c.file n) cs (all_weaker (λ c. (c.file == n) ≡ true) (λ c. nat_lt c.file n ≡ false) cs (λ c h. step n c.file h) on) where
  step : (n k : ℕ) → (k == n) ≡ true → nat_lt k n ≡ false
  step n k h = grind (arith, nat_tests)

own_above : (n : ℕ) (cs : List Claim) → AreOn n cs → filter (λ c. nat_lt n c.file) cs ≡ []
own_above n cs on = none_pass (λ c. nat_lt n c.file) cs (all_weaker (λ c. (c.file == n) ≡ true) (λ c. nat_lt n c.file ≡ false) cs (λ c h. step n c.file h) on) where
  step : (n k : ℕ) → (k == n) ≡ true → nat_lt n k ≡ false
  step n k h = grind (arith, nat_tests)

earlier_below : (m n : ℕ) (cs : List Claim) → AreOn m cs → nat_lt m n ≡ true → filter (λ c. nat_lt c.file n) cs ≡ cs
earlier_below m n cs on h = all_pass (λ c. nat_lt c.file n) cs (all_weaker (λ c. (c.file == m) ≡ true) (λ c. nat_lt c.file n ≡ true) cs (λ c e. step m n c.file e h) on) where
  step : (m n k : ℕ) → (k == m) ≡ true → nat_lt m n ≡ true → nat_lt k n ≡ true
  step m n k e h = grind (arith, nat_tests)

earlier_above : (m n : ℕ) (cs : List Claim) → AreOn m cs → nat_lt m n ≡ true → filter (λ c. nat_lt n c.file) cs ≡ []
earlier_above m n cs on h = none_pass (λ c. nat_lt n c.file) cs (all_weaker (λ c. (c.file == m) ≡ true) (λ c. nat_lt n c.file ≡ false) cs (λ c e. step m n c.file e h) on) where
  step : (m n k : ℕ) → (k == m) ≡ true → nat_lt m n ≡ true → nat_lt n k ≡ false
  step m n k e h = grind (arith, nat_tests)

-- what is put in the place of a file's list stands between the claims of the files before it and behind it
pub set_joined : (file at : ℕ) (ls : List OnFile) (y : OnFile) → IsFiled ls → IsAt file at ls → joined (set ls at y) ≡ filter (λ c. nat_lt c.file file) (joined ls) ++ ((paged y.pages.items) ++ filter (λ c. nat_lt file c.file) (joined ls))
set_joined file at [] y filed h = absurd h
set_joined file zero (l ∷ ls) y filed h =
    let on : AreOn file (paged l.pages.items) = subst (λ (n : ℕ). AreOn n (paged l.pages.items)) h filed.0 in
    let past : AllByRecursion (λ c. nat_lt file c.file ≡ true) (joined ls) = past_all file ls (subst (λ (n : ℕ). AllByRecursion (λ m. nat_lt n m.file ≡ true) ls) h filed.1) filed.2 in
    let front : filter (λ c. nat_lt c.file file) (joined (l ∷ ls)) ≡ [] =
    filter-append (λ c. nat_lt c.file file) (paged l.pages.items) (joined ls) ∙ ap (λ (ds : List Claim). ds ++ filter (λ c. nat_lt c.file file) (joined ls)) (own_below file (paged l.pages.items) on) ∙ none_below file (joined ls) past in
    let back : filter (λ c. nat_lt file c.file) (joined (l ∷ ls)) ≡ joined ls =
    filter-append (λ c. nat_lt file c.file) (paged l.pages.items) (joined ls) ∙ ap (λ (ds : List Claim). ds ++ filter (λ c. nat_lt file c.file) (joined ls)) (own_above file (paged l.pages.items) on) ∙ all_pass (λ c. nat_lt file c.file) (joined ls) past in
    ap (λ (ds : List Claim). (paged y.pages.items) ++ ds) (sym back)
    ∙ ap (λ (ds : List Claim). ds ++ ((paged y.pages.items) ++ filter (λ c. nat_lt file c.file) (joined (l ∷ ls)))) (sym front)
set_joined file (suc at) (l ∷ ls) y filed h =
    let early = at_past l.file file at ls filed.1 h in
    let front : filter (λ c. nat_lt c.file file) (joined (l ∷ ls)) ≡ (paged l.pages.items) ++ filter (λ c. nat_lt c.file file) (joined ls) =
    filter-append (λ c. nat_lt c.file file) (paged l.pages.items) (joined ls) ∙ ap (λ (ds : List Claim). ds ++ filter (λ c. nat_lt c.file file) (joined ls)) (earlier_below l.file file (paged l.pages.items) filed.0 early) in
    let back : filter (λ c. nat_lt file c.file) (joined (l ∷ ls)) ≡ filter (λ c. nat_lt file c.file) (joined ls) =
    filter-append (λ c. nat_lt file c.file) (paged l.pages.items) (joined ls) ∙ ap (λ (ds : List Claim). ds ++ filter (λ c. nat_lt file c.file) (joined ls)) (earlier_above l.file file (paged l.pages.items) filed.0 early) in
    ap (λ (ds : List Claim). (paged l.pages.items) ++ ds) (set_joined file at ls y filed.2 h)
    ∙ sym (append_assoc (paged l.pages.items) (filter (λ c. nat_lt c.file file) (joined ls)) ((paged y.pages.items) ++ filter (λ c. nat_lt file c.file) (joined ls)))
    ∙ ap (λ (ds : List Claim). ds ++ ((paged y.pages.items) ++ filter (λ c. nat_lt file c.file) (joined ls))) (sym front)
    ∙ ap (λ (ds : List Claim). filter (λ c. nat_lt c.file file) (joined (l ∷ ls)) ++ ((paged y.pages.items) ++ ds)) (sym back)

-- the flat list, and whether the lists are in order, after something is done
pub record IsDone (act : List Claim → List Claim) (old new : List OnFile) : Type 0 where
  pub claims : joined new ≡ act (joined old)
  pub filed : IsFiled new

pub done_at : (act : List Claim → List Claim) (file at : ℕ) (ls : List OnFile) (x y : OnFile) → IsFiled ls → IsAt file at ls → x ≡ get_or ls at x → y.file ≡ x.file
    → AreFull y.pages.items → (paged y.pages.items) ≡ act (paged x.pages.items) → AreOn file (act (here file (joined ls))) → act (joined ls) ≡ alone file act (joined ls) → IsDone act ls (set ls at y)
done_at act file at ls x y filed h is e full done on same =
    let mine : (paged y.pages.items) ≡ act (here file (joined ls)) = done ∙ ap act (here_at file at ls x filed h is) in
    record {
      claims = set_joined file at ls y filed h ∙ ap (λ (ds : List Claim). filter (λ c. nat_lt c.file file) (joined ls) ++ (ds ++ filter (λ c. nat_lt file c.file) (joined ls))) mine ∙ sym same;
      filed = set_filed file at ls x y filed h is e (subst (λ (ds : List Claim). AreOn file ds) (sym mine) on) full;
    }

-- a list with the same claims is none other
pub same_at : (file at : ℕ) (ls : List OnFile) (x y : OnFile) → IsFiled ls → IsAt file at ls → x ≡ get_or ls at x → y.file ≡ x.file → AreFull y.pages.items → (paged y.pages.items) ≡ (paged x.pages.items) → IsDone (λ cs. cs) ls (set ls at y)
same_at file at ls x y filed h is e full same = record {
  claims = go at ls is;
  filed = set_filed file at ls x y filed h is e (subst (λ (cs : List Claim). AreOn file cs) (sym (same ∙ here_at file at ls x filed h is)) (here_on file (joined ls))) full;
} where
  go : (at : ℕ) (ls : List OnFile) → x ≡ get_or ls at x → joined (set ls at y) ≡ joined ls
  go at [] is = refl
  go zero (l ∷ ls) is = ap (λ (cs : List Claim). cs ++ joined ls) (same ∙ ap (λ (z : OnFile). (paged z.pages.items)) is)
  go (suc at) (l ∷ ls) is = ap (λ (cs : List Claim). (paged l.pages.items) ++ cs) (go at ls is)

pub on_err : {A E P : Type 0} (r : Result A E) → P → OnErr r P
on_err (Ok x) p = tt
on_err (Err e) p = p

-- ---- each list without some of its claims

-- ---- what of a list passes a test, list by list

pub filtered_more : (p : Claim → Bool) (out claims rest whole new : List Claim) → new ≡ out ++ filter p claims → out ++ filter p (claims ++ rest) ≡ whole → new ++ filter p rest ≡ whole
filtered_more p out claims rest whole new e so_far =
    ap (λ (ds : List Claim). ds ++ filter p rest) e
    ∙ append_assoc out (filter p claims) (filter p rest)
    ∙ ap (λ (ds : List Claim). out ++ ds) (sym (filter-append p claims rest))
    ∙ so_far

pub filtered_both : (p : Claim → Bool) (out mid new claims rest : List Claim) → mid ≡ out ++ filter p claims → new ≡ mid ++ filter p rest → new ≡ out ++ filter p (claims ++ rest)
filtered_both p out mid new claims rest e k =
    k ∙ ap (λ (ds : List Claim). ds ++ filter p rest) e ∙ append_assoc out (filter p claims) (filter p rest) ∙ ap (λ (ds : List Claim). out ++ ds) (sym (filter-append p claims rest))

-- a claim that is held stands among its file's
pub held_here : (claim : Claim) (cs on : List Claim) → IsIn claim cs → on ≡ here claim.file cs → IsIn claim on
held_here claim cs on h is = subst (λ (ds : List Claim). IsIn claim ds) (sym is) (in_filter (λ c. c.file == claim.file) claim cs h (eq-eqb claim.file claim.file refl))

pub full_at : (file at : ℕ) (ls : List OnFile) (x : OnFile) → IsFiled ls → IsAt file at ls → x ≡ get_or ls at x → AreFull x.pages.items
full_at file at [] x filed h is = absurd h
full_at file zero (l ∷ ls) x filed h is = subst (λ (z : OnFile). AreFull z.pages.items) (sym is) filed.3
full_at file (suc at) (l ∷ ls) x filed h is = full_at file at ls x filed.2 h is

short_filter : (p : Claim → Bool) (cs : List Claim) → length (filter p cs) ≤ length cs
short_filter p [] = omega arith
short_filter p (c ∷ cs) = elim (cases_Bool (p c)) [ inl e ↦ rw e (omega (arith, short_filter p cs)) | inr e ↦ rw e (omega (arith, short_filter p cs)) ]

pub room_here : (file : ℕ) (cs on : List Claim) → length cs ≤ 16384 → on ≡ here file cs → length on < 2 ^ 32
room_here file cs on room is = omega (arith, room, ap (λ (ds : List Claim). length ds) is, short_filter (λ c. c.file == file) cs)
