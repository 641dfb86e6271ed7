-- What bisection finds in the flat list: a file's claims, an owner's shares, its ranges.
use Rattle.std.proofs.Common.{◌≡◌, ℕ, ◌-◌, ◌<◌, ◌≤◌, suc, zero, Bool, true, false, not, ◌&&◌, ◌||◌, ◌==◌, nat_lt, List, [], ◌∷◌, ◌++◌, take, drop, Option, Some, None, IfSome, refl, sym, ap, subst, ◌∙◌, inl, inr, arith}
use Rattle.std.proofs.Math.Numerals.{one-add}
use Rattle.std.proofs.Math.Nat.{suc-sub-suc, sub-zero}
use Rattle.std.specs.List.{AllByRecursion, filter, find, list_any, prefix_len, slice_get, slice_range}
use Rattle.std.proofs.lemmas.Option.{same_Some}
use Rattle.std.proofs.lemmas.Bool.{cases_Bool, both_ways, not-true, not_from_false, false_from_ne_true}
use Rattle.std.proofs.lemmas.Bool.Decides.{nat_tests}
use Rattle.xl_base.specs.declared.name.Owner.{Owner}
use Rattle.xl_base.specs.declared.name.Owner.TheVariants as owners
use Rattle.xl_base.specs.declared.name.Protocol.TheVariants.{Nlm, Nfs, Smb}
use Rattle.xl_base.specs.Lists.{IsIn, Pairwise}
use Rattle.xl_matrix.specs.declared.claim.Claim.{Claim}
use Rattle.xl_matrix.specs.declared.claim.What.{What}
use Rattle.xl_matrix.specs.declared.claim.What.TheVariants.{Share, Range, Cache}
use Rattle.xl_matrix.specs.Equal.{same_owners}
use Rattle.xl_spans.specs.declared.span.Span.{Span}
use Rattle.xl_matrix.specs.Matrix.{compat}
use Rattle.xl_matrix.proofs.EqualLaws.{eqb-sym}
use Rattle.xl_table.specs.Order.{no_later, owner_key, place_in_group, key_by, key, goes_first}
use Rattle.xl_table.specs.Files.{here}
use Rattle.xl_table.specs.Flat.{is_own, blocks, is_blocked, may_obstruct}
use Rattle.xl_table.specs.Held.{is_range, is_share, is_cache, is_of, with_span, spans_of}
use Rattle.xl_table.specs.Relock.{is_range_of, is_share_of}
use Rattle.xl_table.specs.Sections.{group, starts, is_no_later_than, is_before, is_upto, spans_in}
use Rattle.xl_index.specs.Parted.{IsParted}
use Rattle.xl_table.proofs.OrderLaws.{no_later-on}
use Rattle.xl_table.proofs.InsertLaws.{not_range}

-- a test that passes for all that stand no later than one for which it passes
pub parted_ordered : (p : Claim → Bool) → ((a b : Claim) → goes_first a b ≡ true → p b ≡ true → p a ≡ true) → (cs : List Claim) → Pairwise goes_first cs → IsParted p cs
parted_ordered p down [] ordered = tt
parted_ordered p down (c ∷ cs) ordered = (λ fails. behind cs fails ordered.0, parted_ordered p down cs ordered.1) where
  behind : (ds : List Claim) → p c ≡ false → AllByRecursion (λ d. goes_first c d ≡ true) ds → AllByRecursion (λ d. p d ≡ false) ds
  behind [] fails all = tt
  behind (d ∷ ds) fails all = (false_from_ne_true (p d) (λ e. both_ways (p c) fails (down c d all.0 e)), behind ds fails all.1)

-- what passes the second test, and not the first
abbrev pub is_between : (Claim → Bool) → (Claim → Bool) → Claim → Bool
is_between p q c = q c && not (p c)

none_pass : (p q : Claim → Bool) (cs : List Claim) → AllByRecursion (λ c. q c ≡ false) cs → filter (is_between p q) cs ≡ []
none_pass p q [] all = refl
none_pass p q (c ∷ cs) all = rw all.0 (none_pass p q cs all.1)

all_stay : (p q : Claim → Bool) (cs : List Claim) → AllByRecursion (λ c. q c ≡ false) cs → filter (λ c. not (is_between p q c)) cs ≡ cs
all_stay p q [] all = refl
all_stay p q (c ∷ cs) all = rw all.0 (ap (λ (ds : List Claim). c ∷ ds) (all_stay p q cs all.1))

none_before : (p : Claim → Bool) (cs : List Claim) → AllByRecursion (λ c. p c ≡ false) cs → prefix_len p cs ≡ 0
none_before p [] all = refl
none_before p (c ∷ cs) all = rw all.0 refl

-- such a list in three parts
pub record IsCutAt (p q : Claim → Bool) (i j : ℕ) (cs : List Claim) : Type 0 where
  pub order : i ≤ j
  pub before : AllByRecursion (λ c. p c ≡ true) (take i cs)
  pub section : slice_range cs i j ≡ filter (is_between p q) cs
  pub rest : take i cs ++ drop j cs ≡ filter (λ c. not (is_between p q c)) cs
  pub behind : AllByRecursion (λ c. q c ≡ false) (drop j cs)

pub cut_at : (p q : Claim → Bool) → ((c : Claim) → p c ≡ true → q c ≡ true) → (cs : List Claim) → IsParted p cs → IsParted q cs → IsCutAt p q (prefix_len p cs) (prefix_len q cs) cs
cut_at p q within [] parted ended = record { order = omega arith; before = tt; section = refl; rest = refl; behind = tt }
cut_at p q within (c ∷ cs) parted ended =
    let more = cut_at p q within cs parted.1 ended.1 in
    let i = prefix_len p cs in
    let j = prefix_len q cs in
    elim (cases_Bool (p c)) [
      | inl early ↦
          rw (early, within c early, one-add i, one-add j)
          (record {
            order = omega (arith, more.order);
            before = (early, more.before);
            section = rw (suc-sub-suc j i, within c early, early) more.section;
            rest = rw (within c early, early) (ap (λ (ds : List Claim). c ∷ ds) more.rest);
            behind = more.behind;
          })
      | inr late ↦
          elim (cases_Bool (q c)) [
            | inl in_it ↦
                let none : i ≡ 0 = none_before p cs (parted.0 late) in
                rw (late, in_it, one-add j)
                (record {
                  order = omega arith;
                  before = tt;
                  section = rw (in_it, late) (from_zero j (filter (is_between p q) cs) (subst (λ (n : ℕ). slice_range cs n j ≡ filter (is_between p q) cs) none more.section));
                  rest = rw (in_it, late) (subst (λ (n : ℕ). take n cs ++ drop j cs ≡ filter (λ d. not (is_between p q d)) cs) none more.rest);
                  behind = more.behind;
                })
            | inr past ↦
                rw (late, past)
                (record {
                  order = omega arith;
                  before = tt;
                  section = rw past (sym (none_pass p q cs (ended.0 past)));
                  rest = rw past (ap (λ (ds : List Claim). c ∷ ds) (sym (all_stay p q cs (ended.0 past))));
                  behind = (past, ended.0 past);
                })
          ]
    ]
  where
    from_zero : (j : ℕ) (ds : List Claim) → slice_range cs 0 j ≡ ds → slice_range (c ∷ cs) 0 (suc j) ≡ c ∷ ds
    from_zero j ds e = rw sub-zero (ap (λ (xs : List Claim). c ∷ xs) (rw sub-zero at e))

-- ---- the claims whose numbers begin with these

upto_on : (fs xs ys : List ℕ) → no_later xs ys ≡ true → is_no_later_than fs ys ≡ true → is_no_later_than fs xs ≡ true
upto_on [] xs ys h k = refl
upto_on (f ∷ fs) [] ys h k = refl
upto_on (f ∷ fs) (x ∷ xs) [] h k = absurd (both_ways false refl h)
upto_on (f ∷ fs) (x ∷ xs) (y ∷ ys) h k = step f x y (no_later xs ys) (is_no_later_than fs ys) (is_no_later_than fs xs) h k (upto_on fs xs ys) where
  step : (f x y : ℕ) (p q r : Bool) → (nat_lt x y || (x == y) && p) ≡ true → (nat_lt y f || (y == f) && q) ≡ true → (p ≡ true → q ≡ true → r ≡ true) → (nat_lt x f || (x == f) && r) ≡ true
  step f x y true true r h k both = let e = both refl refl in rw e (grind (arith, nat_tests))
  step f x y true false r h k both = grind (arith, nat_tests)
  step f x y false q r h k both = grind (arith, nat_tests)

begun_before : (fs xs ys : List ℕ) → no_later xs ys ≡ true → no_later fs ys ≡ false → no_later fs xs ≡ false
begun_before fs xs ys h k = false_from_ne_true (no_later fs xs) (λ (e : no_later fs xs ≡ true). both_ways (no_later fs ys) k (no_later-on fs xs ys e h))

pub upto_before : (fs ks : List ℕ) → no_later fs ks ≡ false → is_no_later_than fs ks ≡ true
upto_before [] ks h = refl
upto_before (f ∷ fs) [] h = refl
upto_before (f ∷ fs) (k ∷ ks) h = step f k (no_later fs ks) (is_no_later_than fs ks) h (upto_before fs ks) where
  step : (f k : ℕ) (p q : Bool) → (nat_lt f k || (f == k) && p) ≡ false → (p ≡ false → q ≡ true) → (nat_lt k f || (k == f) && q) ≡ true
  step f k true q h both = grind (arith, nat_tests)
  step f k false q h both = let e = both refl in rw e (grind (arith, nat_tests))

pub starts_is : (fs ks : List ℕ) → (is_no_later_than fs ks && not (not (no_later fs ks))) ≡ starts fs ks
starts_is [] ks = refl
starts_is (f ∷ fs) [] = refl
starts_is (f ∷ fs) (k ∷ ks) = step f k (no_later fs ks) (is_no_later_than fs ks) (starts fs ks) (starts_is fs ks) where
  step : (f k : ℕ) (p q r : Bool) → (q && not (not p)) ≡ r → ((nat_lt k f || (k == f) && q) && not (not (nat_lt f k || (f == k) && p))) ≡ ((k == f) && r)
  step f k p q r e = rw (sym e) (grind (arith, nat_tests))

-- what stands before a section stands no later than what is in it, and what stands behind it does not
pub before_section : (fs ks xs : List ℕ) → no_later fs ks ≡ false → starts fs xs ≡ true → no_later ks xs ≡ true
before_section [] ks xs h s = absurd (both_ways true h refl)
before_section (f ∷ fs) [] xs h s = refl
before_section (f ∷ fs) (k ∷ ks) [] h s = absurd (both_ways false refl s)
before_section (f ∷ fs) (k ∷ ks) (x ∷ xs) h s = step f k x (no_later fs ks) (starts fs xs) (no_later ks xs) h s (before_section fs ks xs) where
  step : (f k x : ℕ) (p q r : Bool) → (nat_lt f k || (f == k) && p) ≡ false → ((x == f) && q) ≡ true → (p ≡ false → q ≡ true → r ≡ true) → (nat_lt k x || (k == x) && r) ≡ true
  step f k x true q r h s both = grind (arith, nat_tests)
  step f k x false true r h s both = let e = both refl refl in rw e (grind (arith, nat_tests))
  step f k x false false r h s both = grind (arith, nat_tests)

pub behind_section : (fs ks xs : List ℕ) → is_no_later_than fs ks ≡ false → starts fs xs ≡ true → no_later ks xs ≡ false
behind_section [] ks xs h s = absurd (both_ways true h refl)
behind_section (f ∷ fs) [] xs h s = absurd (both_ways true h refl)
behind_section (f ∷ fs) (k ∷ ks) [] h s = refl
behind_section (f ∷ fs) (k ∷ ks) (x ∷ xs) h s = step f k x (is_no_later_than fs ks) (starts fs xs) (no_later ks xs) h s (behind_section fs ks xs) where
  step : (f k x : ℕ) (p q r : Bool) → (nat_lt k f || (k == f) && p) ≡ false → ((x == f) && q) ≡ true → (p ≡ false → q ≡ true → r ≡ false) → (nat_lt k x || (k == x) && r) ≡ false
  step f k x true q r h s both = grind (arith, nat_tests)
  step f k x false true r h s both = let e = both refl refl in rw e (grind (arith, nat_tests))
  step f k x false false r h s both = grind (arith, nat_tests)

pub upto_parted : (front : List ℕ) (cs : List Claim) → Pairwise goes_first cs → IsParted (is_upto front) cs
upto_parted front cs ordered = parted_ordered (is_upto front) (λ a b h k. upto_on front (key a) (key b) h k) cs ordered

pub before_parted : (front : List ℕ) (cs : List Claim) → Pairwise goes_first cs → IsParted (is_before front) cs
before_parted front cs ordered =
    parted_ordered (is_before front) (λ a b h k. not_from_false (no_later front (key a)) (begun_before front (key a) (key b) h (not-true (no_later front (key b)) k))) cs ordered

pub section_cut : (front : List ℕ) (cs : List Claim) → Pairwise goes_first cs → IsCutAt (is_before front) (is_upto front) (prefix_len (is_before front) cs) (prefix_len (is_upto front) cs) cs
section_cut front cs ordered =
    cut_at (is_before front) (is_upto front) (λ c e. upto_before front (key c) (not-true (no_later front (key c)) e)) cs (before_parted front cs ordered) (upto_parted front cs ordered)

pub section_order : (front : List ℕ) (cs : List Claim) → Pairwise goes_first cs → prefix_len (is_before front) cs ≤ prefix_len (is_upto front) cs
section_order front cs ordered = (section_cut front cs ordered).order

pub same_filter : (p q : Claim → Bool) (cs : List Claim) → ((c : Claim) → p c ≡ q c) → filter p cs ≡ filter q cs
same_filter p q [] same = refl
same_filter p q (c ∷ cs) same = rw (same c, same_filter p q cs same) refl

-- the section of a test is what passes it
pub section_is : (front : List ℕ) (test : Claim → Bool) (cs out : List Claim) (i j : ℕ) → ((c : Claim) → starts front (key c) ≡ test c) → Pairwise goes_first cs → i ≡ prefix_len (is_before front) cs → j ≡ prefix_len (is_upto front) cs → out ≡ slice_range cs i j → out ≡ filter test cs
section_is front test cs out i j same ordered a b is =
    is ∙ ap (λ (n : ℕ). slice_range cs n j) a ∙ ap (λ (n : ℕ). slice_range cs (prefix_len (is_before front) cs) n) b
    ∙ (section_cut front cs ordered).section
    ∙ same_filter (is_between (is_before front) (is_upto front)) test cs (λ c. starts_is front (key c) ∙ same c)

-- and all else is what stands before it and behind it
pub section_rest : (front : List ℕ) (test : Claim → Bool) (cs : List Claim) → ((c : Claim) → starts front (key c) ≡ test c) → Pairwise goes_first cs
    → take (prefix_len (is_before front) cs) cs ++ drop (prefix_len (is_upto front) cs) cs ≡ filter (λ c. not (test c)) cs
section_rest front test cs same ordered =
    (section_cut front cs ordered).rest
    ∙ same_filter (λ c. not (is_between (is_before front) (is_upto front) c)) (λ c. not (test c)) cs (λ c. ap not (starts_is front (key c) ∙ same c))

-- ---- whose numbers begin with a file, or with an owner's class there

and_true : (b : Bool) → (b && true) ≡ b
and_true true = refl
and_true false = refl

and_false : (b : Bool) → (b && false) ≡ false
and_false true = refl
and_false false = refl

starts_shares : (file : ℕ) (c : Claim) → starts (file ∷ 0 ∷ []) (key c) ≡ ((c.file == file) && is_share c.what)
unfolding key
starts_shares file c = by c.what where
  by : (w : What) → starts (file ∷ 0 ∷ []) (key_by c w) ≡ ((c.file == file) && is_share w)
  by (Share access deny) = refl
  by (Range extent exclusive) = refl
  by (Cache kind running) = refl

starts_caches : (file : ℕ) (c : Claim) → starts (file ∷ 2 ∷ []) (key c) ≡ ((c.file == file) && is_cache c.what)
unfolding key
starts_caches file c = by c.what where
  by : (w : What) → starts (file ∷ 2 ∷ []) (key_by c w) ≡ ((c.file == file) && is_cache w)
  by (Share access deny) = refl
  by (Range extent exclusive) = refl
  by (Cache kind running) = refl

same_key : (owner who : Owner) (rest : List ℕ) → starts (owner_key owner) (owner_key who ++ rest) ≡ same_owners who owner
same_key (owners.Open n) (owners.Open m) rest = and_true (m == n)
same_key (owners.Open n) (owners.Name Nlm m) rest = refl
same_key (owners.Open n) (owners.Name Nfs m) rest = refl
same_key (owners.Open n) (owners.Name Smb m) rest = and_false (m == n)
same_key (owners.Name Nlm n) (owners.Open m) rest = refl
same_key (owners.Name Nfs n) (owners.Open m) rest = refl
same_key (owners.Name Smb n) (owners.Open m) rest = and_false (m == n)
same_key (owners.Name Nlm n) (owners.Name Nlm m) rest = and_true (m == n)
same_key (owners.Name Nlm n) (owners.Name Nfs m) rest = refl
same_key (owners.Name Nlm n) (owners.Name Smb m) rest = refl
same_key (owners.Name Nfs n) (owners.Name Nlm m) rest = refl
same_key (owners.Name Nfs n) (owners.Name Nfs m) rest = and_true (m == n)
same_key (owners.Name Nfs n) (owners.Name Smb m) rest = refl
same_key (owners.Name Smb n) (owners.Name Nlm m) rest = refl
same_key (owners.Name Smb n) (owners.Name Nfs m) rest = refl
same_key (owners.Name Smb n) (owners.Name Smb m) rest = and_true (m == n)

-- a claim begins with the numbers of an owner's class where it is of that class, and no other does
pub starts_share : (file : ℕ) (owner : Owner) (c : Claim) → starts (group file 0 owner) (key c) ≡ is_share_of file owner c
unfolding key
starts_share file owner c = by c.what where
  by : (w : What) → starts (group file 0 owner) (key_by c w) ≡ (is_of file owner c && is_share w)
  by (Share access deny) = ap (λ (b : Bool). (c.file == file) && b) (same_key owner c.owner (0 ∷ [])) ∙ sym (and_true (is_of file owner c))
  by (Range extent exclusive) = and_false (c.file == file) ∙ sym (and_false (is_of file owner c))
  by (Cache kind running) = and_false (c.file == file) ∙ sym (and_false (is_of file owner c))

pub starts_range : (file : ℕ) (owner : Owner) (c : Claim) → starts (group file 1 owner) (key c) ≡ is_range_of file owner c
unfolding key
starts_range file owner c = by c.what where
  by : (w : What) → starts (group file 1 owner) (key_by c w) ≡ (is_of file owner c && is_range w)
  by (Range extent exclusive) = ap (λ (b : Bool). (c.file == file) && b) (same_key owner c.owner (place_in_group c.owner extent ∷ [])) ∙ sym (and_true (is_of file owner c))
  by (Share access deny) = and_false (c.file == file) ∙ sym (and_false (is_of file owner c))
  by (Cache kind running) = and_false (c.file == file) ∙ sym (and_false (is_of file owner c))

-- ---- what bisection gives

pub shares_section : (file : ℕ) (cs out : List Claim) (i j n : ℕ) → n ≡ file → Pairwise goes_first cs → i ≡ prefix_len (is_before (n ∷ 0 ∷ [])) cs → j ≡ prefix_len (is_upto (n ∷ 0 ∷ [])) cs → out ≡ slice_range cs i j → out ≡ filter (λ c. (c.file == file) && is_share c.what) cs
shares_section file cs out i j n e ordered a b is = section_is (n ∷ 0 ∷ []) (λ c. (c.file == file) && is_share c.what) cs out i j (λ c. starts_shares n c ∙ ap (λ (m : ℕ). (c.file == m) && is_share c.what) e) ordered a b is

pub caches_section : (file : ℕ) (cs out : List Claim) (i j n : ℕ) → n ≡ file → Pairwise goes_first cs → i ≡ prefix_len (is_before (n ∷ 2 ∷ [])) cs → j ≡ prefix_len (is_upto (n ∷ 2 ∷ [])) cs → out ≡ slice_range cs i j → out ≡ filter (λ c. (c.file == file) && is_cache c.what) cs
caches_section file cs out i j n e ordered a b is = section_is (n ∷ 2 ∷ []) (λ c. (c.file == file) && is_cache c.what) cs out i j (λ c. starts_caches n c ∙ ap (λ (m : ℕ). (c.file == m) && is_cache c.what) e) ordered a b is

pub share_section : (file : ℕ) (owner : Owner) (cs out : List Claim) (i j : ℕ) → Pairwise goes_first cs → i ≡ prefix_len (is_before (group file 0 owner)) cs → j ≡ prefix_len (is_upto (group file 0 owner)) cs → out ≡ slice_range cs i j → out ≡ filter (is_share_of file owner) cs
share_section file owner cs out i j ordered a b is = section_is (group file 0 owner) (is_share_of file owner) cs out i j (starts_share file owner) ordered a b is

pub range_section : (file : ℕ) (owner : Owner) (cs out : List Claim) (i j : ℕ) → Pairwise goes_first cs → i ≡ prefix_len (is_before (group file 1 owner)) cs → j ≡ prefix_len (is_upto (group file 1 owner)) cs → out ≡ slice_range cs i j → out ≡ filter (is_range_of file owner) cs
range_section file owner cs out i j ordered a b is = section_is (group file 1 owner) (is_range_of file owner) cs out i j (starts_range file owner) ordered a b is

-- ---- what is asked of a section alone

pub filter_within : (p q : Claim → Bool) (cs : List Claim) → ((c : Claim) → q c ≡ false → p c ≡ false) → filter p (filter q cs) ≡ filter p cs
filter_within p q [] out = refl
filter_within p q (c ∷ cs) out =
    elim (cases_Bool (q c)) [
      | inl in_it ↦ rw (in_it, filter_within p q cs out) refl
      | inr past ↦ rw (past, out c past) (filter_within p q cs out)
    ]

pub any_within : (p q : Claim → Bool) (cs : List Claim) → ((c : Claim) → q c ≡ false → p c ≡ false) → list_any p (filter q cs) ≡ list_any p cs
any_within p q [] out = refl
any_within p q (c ∷ cs) out =
    elim (cases_Bool (q c)) [
      | inl in_it ↦ rw (in_it, any_within p q cs out) refl
      | inr past ↦ rw (past, out c past) (any_within p q cs out)
    ]

-- a claim on another file blocks nothing
pub blocks_there : (ask c : Claim) → (c.file == ask.file) ≡ false → blocks ask c ≡ false
unfolding blocks compat
blocks_there ask c other =
    let apart : (ask.file == c.file) ≡ false = eqb-sym ask.file c.file ∙ other in
    rw apart (and_false (not (is_own ask c)))

pub blocks_on_file : (ask : Claim) (cs out list : List Claim) → list ≡ filter (λ held. blocks ask held) out → out ≡ filter (λ c. c.file == ask.file) cs → list ≡ filter (λ held. blocks ask held) cs
blocks_on_file ask cs out list e is = e ∙ ap (λ (ds : List Claim). filter (λ held. blocks ask held) ds) is ∙ filter_within (λ held. blocks ask held) (λ c. c.file == ask.file) cs (blocks_there ask)

pub obstacles_on_file : (ask : Claim) (cs out list : List Claim) → list ≡ filter (may_obstruct ask) out → out ≡ filter (λ c. c.file == ask.file) cs → list ≡ filter (may_obstruct ask) cs
obstacles_on_file ask cs out list e is =
    e ∙ ap (λ (ds : List Claim). filter (may_obstruct ask) ds) is ∙ filter_within (may_obstruct ask) (λ c. c.file == ask.file) cs (λ c other. rw (blocks_there ask c other, other) refl)

pub blocked_on_file : (ask : Claim) (cs out : List Claim) → out ≡ filter (λ c. c.file == ask.file) cs → is_blocked out ask ≡ is_blocked cs ask
blocked_on_file ask cs out is = ap (λ (ds : List Claim). is_blocked ds ask) is ∙ any_within (λ held. blocks ask held) (λ c. c.file == ask.file) cs (blocks_there ask)

-- the owner's spans are those of its ranges
spans_of-section : (file : ℕ) (owner : Owner) (cs : List Claim) → spans_in (filter (is_range_of file owner) cs) ≡ spans_of file owner cs
spans_of-section file owner [] = refl
spans_of-section file owner (c ∷ cs) =
    elim (cases_Bool (is_of file owner c)) [
      | inr apart ↦ rw apart (spans_of-section file owner cs)
      | inl own ↦ elim (cases_Bool (is_range c.what)) [
        | inl range ↦ rw (own, range) (ap (λ (ss : List Span). with_span c.what ss) (spans_of-section file owner cs))
        | inr other ↦ rw (own, other) (spans_of-section file owner cs ∙ sym (not_range c.what other (spans_of file owner cs)))
      ]
    ]

pub spans_on_file : (file : ℕ) (owner : Owner) (cs out : List Claim) → out ≡ filter (is_range_of file owner) cs → spans_in out ≡ spans_of file owner cs
spans_on_file file owner cs out is = ap spans_in is ∙ spans_of-section file owner cs

pub has_here : (file : ℕ) (cs on : List Claim) (b : Bool) → b ≡ list_any (λ c. (c.file == file) && is_cache c.what) on → on ≡ here file cs → b ≡ list_any (λ c. (c.file == file) && is_cache c.what) cs
has_here file cs on b e is =
    e ∙ ap (λ (ds : List Claim). list_any (λ c. (c.file == file) && is_cache c.what) ds) is
    ∙ any_within (λ c. (c.file == file) && is_cache c.what) (λ c. c.file == file) cs (λ c other. rw other refl)

pub find_filter : (p : Claim → Bool) (cs : List Claim) → slice_get (filter p cs) 0 ≡ find p cs
find_filter p [] = refl
find_filter p (c ∷ cs) = elim (cases_Bool (p c)) [ inl h ↦ rw h refl | inr h ↦ rw h (find_filter p cs) ]

pub first_share : (file : ℕ) (owner : Owner) (cs out : List Claim) → out ≡ filter (is_share_of file owner) cs → slice_get out 0 ≡ find (is_share_of file owner) cs
first_share file owner cs out is = ap (λ (ds : List Claim). slice_get ds 0) is ∙ find_filter (is_share_of file owner) cs

-- ---- what is asked of a file's claims alone

pub shares_here : (file : ℕ) (cs out on : List Claim) → out ≡ filter (λ c. (c.file == file) && is_share c.what) on → on ≡ here file cs → out ≡ filter (λ c. (c.file == file) && is_share c.what) cs
shares_here file cs out on e is =
    e ∙ ap (λ (ds : List Claim). filter (λ c. (c.file == file) && is_share c.what) ds) is
    ∙ filter_within (λ c. (c.file == file) && is_share c.what) (λ c. c.file == file) cs (λ c other. rw other refl)

pub caches_here : (file : ℕ) (cs out on : List Claim) → out ≡ filter (λ c. (c.file == file) && is_cache c.what) on → on ≡ here file cs → out ≡ filter (λ c. (c.file == file) && is_cache c.what) cs
caches_here file cs out on e is =
    e ∙ ap (λ (ds : List Claim). filter (λ c. (c.file == file) && is_cache c.what) ds) is
    ∙ filter_within (λ c. (c.file == file) && is_cache c.what) (λ c. c.file == file) cs (λ c other. rw other refl)

pub ranges_here : (file : ℕ) (owner : Owner) (cs out on : List Claim) → out ≡ filter (is_range_of file owner) on → on ≡ here file cs → out ≡ filter (is_range_of file owner) cs
ranges_here file owner cs out on e is =
    e ∙ ap (λ (ds : List Claim). filter (is_range_of file owner) ds) is ∙ filter_within (is_range_of file owner) (λ c. c.file == file) cs (λ c other. rw other refl)

pub find_within : (p q : Claim → Bool) (cs : List Claim) → ((c : Claim) → q c ≡ false → p c ≡ false) → find p (filter q cs) ≡ find p cs
find_within p q [] out = refl
find_within p q (c ∷ cs) out =
    elim (cases_Bool (q c)) [
      | inl in_it ↦ rw (in_it, find_within p q cs out) refl
      | inr past ↦ rw (past, out c past) (find_within p q cs out)
    ]

pub share_here : (file : ℕ) (owner : Owner) (cs on : List Claim) (out : Option Claim) → out ≡ find (is_share_of file owner) on → on ≡ here file cs → out ≡ find (is_share_of file owner) cs
share_here file owner cs on out e is =
    e ∙ ap (λ (ds : List Claim). find (is_share_of file owner) ds) is ∙ find_within (is_share_of file owner) (λ c. c.file == file) cs (λ c other. rw other refl)

pub first_is_in : (p : Claim → Bool) (cs : List Claim) (found : Option Claim) → found ≡ find p cs → IfSome found (λ c. IsIn c cs)
first_is_in p cs None e = tt
first_is_in p cs (Some c) e = go cs (sym e) where
  go : (ds : List Claim) → find p ds ≡ Some c → IsIn c ds
  go [] h = cc
  go (d ∷ ds) h = elim (cases_Bool (p d)) [ inl here ↦ inl (same_Some d c (rw here at h)) | inr later ↦ inr (go ds (rw later at h)) ]

-- the first of a part
none_of : (n : ℕ) → slice_get {X = Claim} (take n []) 0 ≡ None
none_of zero = refl
none_of (suc n) = refl

pub range_first : (cs : List Claim) (start end : ℕ) → start < end → slice_get cs start ≡ slice_get (slice_range cs start end) 0
range_first [] zero end h = sym (none_of (end - 0))
range_first [] (suc start) end h = sym (none_of (end - suc start))
range_first (c ∷ cs) zero zero h = absurd (omega (arith, h))
range_first (c ∷ cs) zero (suc end) h = rw sub-zero refl
range_first (c ∷ cs) (suc start) zero h = absurd (omega (arith, h))
range_first (c ∷ cs) (suc start) (suc end) h = rw (suc-sub-suc end start) (range_first cs start end (omega (arith, h)))

pub range_none : (cs : List Claim) (start end : ℕ) → end ≤ start → None ≡ slice_get (slice_range cs start end) 0
range_none cs start end h = let e : end - start ≡ 0 = omega (arith, h) in rw e refl
