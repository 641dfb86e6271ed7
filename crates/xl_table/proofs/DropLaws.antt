-- What goes with an SMB open stands in sections of its file's claims: its share, its ranges, and the cache of the party that goes
-- with it; each is taken out at once.
use Rattle.std.proofs.Common.{◌≡◌, ℕ, ◌-◌, ◌<◌, ◌≤◌, Bool, true, false, not, ◌&&◌, ◌||◌, ◌==◌, if◌then◌else◌, List, [], ◌∷◌, ◌++◌, length, take, drop, get_or, Option, Some, None, refl, sym, ap, subst, ◌∙◌, inl, inr, arith}
use Rattle.std.proofs.lemmas.Bool.{cases_Bool}
use Rattle.std.proofs.Math.Seq.{take-length}
use Rattle.std.proofs.lemmas.List.{append_assoc, length-append, length-drop}
use Rattle.std.specs.List.{filter, find, prefix_len, slice_get, slice_range}
use Rattle.xl_base.specs.Lists.{IsIn, Pairwise}
use Rattle.xl_base.proofs.Members.{all_in}
use Rattle.xl_base.specs.declared.name.Owner.TheVariants as owners
use Rattle.xl_base.specs.declared.name.Party.{Party}
use Rattle.xl_base.specs.declared.name.Party.TheVariants as parties
use Rattle.xl_base.specs.declared.name.Protocol.TheVariants.{Nlm, Nfs, Smb}
use Rattle.xl_index.specs.Index.{Has, HasLeft, IsIndexOf}
use Rattle.xl_index.specs.Totals.{total, AreAlike}
use Rattle.xl_index.proofs.IndexLaws.{index_alike}
use Rattle.xl_index.proofs.TotalLaws.{total_append, total_filters}
use Rattle.xl_index.specs.declared.index.Index.{Index}
use Rattle.xl_matrix.specs.Blocks.{is_share, is_range, is_cache}
use Rattle.xl_matrix.specs.Equal.{same_owners, same_parties}
use Rattle.xl_matrix.specs.declared.claim.Claim.{Claim}
use Rattle.xl_matrix.specs.declared.claim.What.{What}
use Rattle.xl_matrix.specs.declared.claim.What.TheVariants.{Share, Range, Cache}
use Rattle.xl_table.specs.Files.{AreOn, here}
use Rattle.xl_table.specs.Leaving.{goes, in_group, owned, all_owned}
use Rattle.xl_table.specs.Order.{goes_first, party_key, key_by, key}
use Rattle.xl_table.specs.Pages.{paged}
use Rattle.xl_table.specs.Sections.{party_group, starts, is_before, is_upto, is_cache_by}
use Rattle.xl_table.specs.declared.leaver.Leaver.TheVariants as leavers
use Rattle.xl_table.proofs.PageLaws.{first_and_rest, range_late, range_early, range_across}
use Rattle.xl_table.proofs.SectionLaws.{section_is, section_rest, starts_share, starts_range, same_filter, find_filter, find_within}

-- ---- one section

pub section_out : (front : List ℕ) (cs out : List Claim) (i j : ℕ) → Pairwise goes_first cs → i ≡ prefix_len (is_before front) cs → j ≡ prefix_len (is_upto front) cs → out ≡ take i cs ++ drop j cs → out ≡ filter (λ c. not (in_group front c)) cs
section_out front cs out i j ordered a b is = is ∙ (λ k. take (a k) cs ++ drop (b k) cs) ∙ section_rest front (in_group front) cs (λ c. refl) ordered

pub section_in : (front : List ℕ) (cs : List Claim) (i j : ℕ) → Pairwise goes_first cs → i ≡ prefix_len (is_before front) cs → j ≡ prefix_len (is_upto front) cs → slice_range cs i j ≡ filter (in_group front) cs
section_in front cs i j ordered a b = section_is front (in_group front) cs (slice_range cs i j) i j (λ c. refl) ordered a b refl

module _ (front : List ℕ) (ps qs rs : List (List Claim)) (i j : ℕ) (e : qs ≡ ps) (k : rs ≡ ps) (ordered : Pairwise goes_first (paged ps)) (a : i ≡ prefix_len (is_before front) (paged qs)) (b : j ≡ prefix_len (is_upto front) (paged qs)) where
  starts_at : i ≡ prefix_len (is_before front) (paged ps)
  starts_at = a ∙ ap (λ (xs : List (List Claim)). prefix_len (is_before front) (paged xs)) e

  ends_at : j ≡ prefix_len (is_upto front) (paged ps)
  ends_at = b ∙ ap (λ (xs : List (List Claim)). prefix_len (is_upto front) (paged xs)) e

  part_is : slice_range (paged rs) i j ≡ filter (in_group front) (paged ps)
  part_is = ap (λ (xs : List (List Claim)). slice_range (paged xs) i j) k ∙ section_in front (paged ps) i j ordered starts_at ends_at

  pub group_has : (index : Index) → Has index (filter (in_group front) (paged ps)) → Has index (slice_range (paged rs) i j)
  group_has index has = subst (λ (cs : List Claim). Has index cs) (sym part_is) has

  pub group_left : (old new : Index) → HasLeft old new (slice_range (paged rs) i j) → HasLeft old new (filter (in_group front) (paged ps))
  group_left old new left = subst (λ (cs : List Claim). HasLeft old new cs) part_is left

  pub group_out : (out : List Claim) → out ≡ take i (paged ps) ++ drop j (paged ps) → out ≡ filter (λ c. not (in_group front c)) (paged ps)
  group_out out is = section_out front (paged ps) out i j ordered starts_at ends_at is

-- ---- the claims from one place to before another, page by page

pub late_part : (p rest : List Claim) (start end len : ℕ) → len ≡ length p → len ≤ start → start ≤ end → slice_range rest (start - len) (end - len) ≡ slice_range (p ++ rest) start end
late_part p rest start end len is past order = subst (λ (n : ℕ). slice_range rest (start - n) (end - n) ≡ slice_range (p ++ rest) start end) (sym is) (range_late p rest [] (slice_range rest (start - length p) (end - length p)) start end (omega (arith, is, past)) order refl)

pub early_part : (p rest : List Claim) (start end : ℕ) → start ≤ end → end ≤ length p → slice_range p start end ≡ slice_range (p ++ rest) start end
early_part p rest start end order within = range_early p rest [] (slice_range p start end) start end order within refl

pub across_part : (p rest : List Claim) (start end len : ℕ) → len ≡ length p → start < len → len < end → drop start p ++ slice_range rest 0 (end - len) ≡ slice_range (p ++ rest) start end
across_part p rest start end len is before past =
    subst (λ (n : ℕ). drop start p ++ slice_range rest 0 (end - n) ≡ slice_range (p ++ rest) start end) (sym is)
    (range_across p rest [] (drop start p) (drop start p ++ slice_range rest 0 (end - length p)) start end (omega (arith, is, before)) (omega (arith, is, past)) refl refl)

-- what stands from a place on, as a slice
pub rest_is : {A : Type 0} (xs : List A) (n : ℕ) → take (length xs - n) (drop n xs) ≡ drop n xs
rest_is {A} xs n = ap (λ (m : ℕ). take m (drop n xs)) (sym (length-drop n xs)) ∙ take-length (drop n xs)

-- the pages behind the first
abbrev behind : List (List Claim) → List (List Claim)
behind ps = take (length ps - 1) (drop 1 ps)

pub late_of : (ps : List (List Claim)) (p : List Claim) (start end len : ℕ) → 1 ≤ length ps → p ≡ get_or ps 0 p → len ≡ length p → len ≤ start → start ≤ end → slice_range (paged (behind ps)) (start - len) (end - len) ≡ slice_range (paged ps) start end
late_of ps p start end len some is long past order = late_part p (paged (behind ps)) start end len long past order ∙ ap (λ (cs : List Claim). slice_range cs start end) (first_and_rest ps p (omega (arith, some)) is)

pub across_of : (ps : List (List Claim)) (p : List Claim) (start end len : ℕ) → 1 ≤ length ps → p ≡ get_or ps 0 p → len ≡ length p → start < len → len < end → drop start p ++ slice_range (paged (behind ps)) 0 (end - len) ≡ slice_range (paged ps) start end
across_of ps p start end len some is long before past = across_part p (paged (behind ps)) start end len long before past ∙ ap (λ (cs : List Claim). slice_range cs start end) (first_and_rest ps p (omega (arith, some)) is)

pub rest_long : (ps : List (List Claim)) (p : List Claim) (end len : ℕ) → 1 ≤ length ps → p ≡ get_or ps 0 p → len ≡ length p → end ≤ length (paged ps) → end - len ≤ length (paged (behind ps))
rest_long ps p end len some is long within =
    omega (arith, long, within, ap length (first_and_rest ps p (omega (arith, some)) is), length-append p (paged (behind ps)))

-- ---- the index of claims one behind another

pub front_has : (index : Index) (xs ys : List Claim) → Has index (xs ++ ys) → Has index xs
front_has index xs ys has = (ys ++ has.0, subst (λ (cs : List Claim). IsIndexOf index cs) (append_assoc xs ys has.0) has.1)

pub back_has : (old new : Index) (xs ys : List Claim) → Has old (xs ++ ys) → HasLeft old new xs → Has new ys
back_has old new xs ys has left = (has.0, left (ys ++ has.0) (subst (λ (cs : List Claim). IsIndexOf old cs) (append_assoc xs ys has.0) has.1))

pub whole_left : (old mid new : Index) (xs ys : List Claim) → HasLeft old mid xs → HasLeft mid new ys → HasLeft old new (xs ++ ys)
whole_left old mid new xs ys first second others whole = second others (first (ys ++ others) (subst (λ (cs : List Claim). IsIndexOf old cs) (append_assoc xs ys others) whole))

-- ---- two tests, one after another

module _ (p q : Claim → Bool) where
  abbrev both : Claim → Bool
  both c = p c || q c

  pub both_kept : (cs : List Claim) → filter (λ c. not (q c)) (filter (λ c. not (p c)) cs) ≡ filter (λ c. not (both c)) cs
  both_kept [] = refl
  both_kept (c ∷ cs) =
      elim (cases_Bool (p c)) [
        | inl first ↦ rw first (both_kept cs)
        | inr past ↦ elim (cases_Bool (q c)) [
          | inl second ↦ rw (past, second) (both_kept cs)
          | inr stays ↦ rw (past, stays) (ap (λ (ds : List Claim). c ∷ ds) (both_kept cs))
        ]
      ]

  alike_both : (cs others : List Claim) → AreAlike (filter both cs ++ others) (filter p cs ++ (filter q (filter (λ c. not (p c)) cs) ++ others))
  alike_both cs others w =
      let rest = filter (λ c. not (p c)) cs in
      omega
      (arith, total_append w (filter both cs) others, total_append w (filter p cs) (filter q rest ++ others), total_append w (filter q rest) others, total_filters both w cs, total_filters p w cs, total_filters q w rest, ap (total w) (both_kept cs))

  pub first_has : (index : Index) (cs : List Claim) → Has index (filter both cs) → Has index (filter p cs)
  first_has index cs has = (filter q (filter (λ c. not (p c)) cs) ++ has.0, index_alike index (filter both cs ++ has.0) _ (alike_both cs has.0) has.1)

  pub second_has : (old new : Index) (cs rest : List Claim) → Has old (filter both cs) → rest ≡ filter (λ c. not (p c)) cs → HasLeft old new (filter p cs) → Has new (filter q rest)
  second_has old new cs rest has is left =
      subst (λ (ds : List Claim). Has new (filter q ds)) (sym is)
      (has.0, left (filter q (filter (λ c. not (p c)) cs) ++ has.0) (index_alike old (filter both cs ++ has.0) _ (alike_both cs has.0) has.1))

  pub both_left : (old mid new : Index) (cs rest : List Claim) → rest ≡ filter (λ c. not (p c)) cs → HasLeft old mid (filter p cs) → HasLeft mid new (filter q rest) → HasLeft old new (filter both cs)
  both_left old mid new cs rest is first second others whole =
      subst (λ (ds : List Claim). HasLeft mid new (filter q ds)) is second others
      (first (filter q (filter (λ c. not (p c)) cs) ++ others) (index_alike old (filter both cs ++ others) _ (alike_both cs others) whole))

pub short_still : (p : Claim → Bool) (cs new : List Claim) (n : ℕ) → new ≡ filter p cs → length cs < n → length new < n
short_still p cs new n is room = omega (arith, ap (λ (ds : List Claim). length ds) is, short cs, room) where
  short : (ds : List Claim) → length (filter p ds) ≤ length ds
  short [] = omega arith
  short (d ∷ ds) = let rest = short ds in elim (cases_Bool (p d)) [ inl stays ↦ rw stays (omega (arith, rest)) | inr goes ↦ rw goes (omega (arith, rest)) ]

pub fewer_than : (p : Claim → Bool) (cs new : List Claim) → new ≡ filter p cs → length cs ≤ 16384 → length new ≤ 16384
fewer_than p cs new is room = let less = short_still p cs new 16385 is (omega (arith, room)) in omega (arith, less)

-- ---- what goes with an SMB open

alike : (p q : Claim → Bool) (cs : List Claim) → ((c : Claim) → IsIn c cs → p c ≡ q c) → filter p cs ≡ filter q cs
alike p q [] same = refl
alike p q (c ∷ cs) same = rw (same c (inl refl)) (ap (λ (ds : List Claim). if q c then c ∷ ds else ds) (alike p q cs (λ d h. same d (inr h))))

owned_goes : (file number : ℕ) (c : Claim) → (c.file == file) ≡ true → owned file number c ≡ goes (leavers.Open number None) c
owned_goes file number c here =
    (λ i. starts_share file (owners.Open number) c i || starts_range file (owners.Open number) c i) ∙ rw here (by c.what (same_owners c.owner (owners.Open number)))
  where
    by : (w : What) (own : Bool) → ((own && is_share w) || (own && is_range w)) ≡ (if is_cache w then false else own)
    by (Share access deny) true = refl
    by (Share access deny) false = refl
    by (Range extent exclusive) true = refl
    by (Range extent exclusive) false = refl
    by (Cache kind running) true = refl
    by (Cache kind running) false = refl

and_true : (b : Bool) → (b && true) ≡ b
and_true true = refl
and_true false = refl

and_false : (b : Bool) → (b && false) ≡ false
and_false true = refl
and_false false = refl

same_key : (party who : Party) → starts (party_key party) (party_key who ++ 0 ∷ []) ≡ same_parties who party
same_key (parties.Open n) (parties.Open m) = and_true (m == n)
same_key (parties.Open n) (parties.Name Nlm m) = refl
same_key (parties.Open n) (parties.Name Nfs m) = refl
same_key (parties.Open n) (parties.Name Smb m) = and_false (m == n)
same_key (parties.Name Nlm n) (parties.Open m) = refl
same_key (parties.Name Nfs n) (parties.Open m) = refl
same_key (parties.Name Smb n) (parties.Open m) = and_false (m == n)
same_key (parties.Name Nlm n) (parties.Name Nlm m) = and_true (m == n)
same_key (parties.Name Nlm n) (parties.Name Nfs m) = refl
same_key (parties.Name Nlm n) (parties.Name Smb m) = refl
same_key (parties.Name Nfs n) (parties.Name Nlm m) = refl
same_key (parties.Name Nfs n) (parties.Name Nfs m) = and_true (m == n)
same_key (parties.Name Nfs n) (parties.Name Smb m) = refl
same_key (parties.Name Smb n) (parties.Name Nlm m) = refl
same_key (parties.Name Smb n) (parties.Name Nfs m) = refl
same_key (parties.Name Smb n) (parties.Name Smb m) = and_true (m == n)

starts_cache : (file : ℕ) (party : Party) (c : Claim) → in_group (party_group file party) c ≡ ((c.file == file) && (is_cache c.what && same_parties c.party party))
unfolding key
starts_cache file party c = by c.what where
  by : (w : What) → starts (party_group file party) (key_by c w) ≡ ((c.file == file) && (is_cache w && same_parties c.party party))
  by (Share access deny) = refl
  by (Range extent exclusive) = refl
  by (Cache kind running) = ap (λ (b : Bool). (c.file == file) && b) (same_key party c.party)

-- ---- a party's cache on a file

and_swap : (a b c : Bool) → (a && (b && c)) ≡ (b && (a && c))
and_swap true true c = refl
and_swap true false c = refl
and_swap false true c = refl
and_swap false false c = refl

pub first_cache : (file : ℕ) (party : Party) (cs out : List Claim) → out ≡ filter (in_group (party_group file party)) cs → slice_get out 0 ≡ find (is_cache_by file party) cs
first_cache file party cs out is =
    ap (λ (ds : List Claim). slice_get ds 0) is
    ∙ ap (λ (ds : List Claim). slice_get ds 0) (same_filter (in_group (party_group file party)) (is_cache_by file party) cs (λ c. starts_cache file party c ∙ and_swap (c.file == file) (is_cache c.what) (same_parties c.party party)))
    ∙ find_filter (is_cache_by file party) cs

apart_no : (a b : Bool) → (a && (false && b)) ≡ false
apart_no true b = refl
apart_no false b = refl

pub cache_here : (file : ℕ) (party : Party) (cs on : List Claim) (out : Option Claim) → out ≡ find (is_cache_by file party) on → on ≡ here file cs → out ≡ find (is_cache_by file party) cs
cache_here file party cs on out e is =
    e ∙ ap (λ (ds : List Claim). find (is_cache_by file party) ds) is ∙ find_within (is_cache_by file party) (λ c. c.file == file) cs (λ c other. rw other (apart_no (is_cache c.what) (same_parties c.party party)))

all_goes : (file number : ℕ) (party : Party) (c : Claim) → (c.file == file) ≡ true → all_owned file number party c ≡ goes (leavers.Open number (Some party)) c
all_goes file number party c here =
    (λ i. owned_goes file number c here i || starts_cache file party c i) ∙ rw here (by (is_cache c.what) (same_owners c.owner (owners.Open number)) (same_parties c.party party))
  where
    by : (cache own other : Bool) → ((if cache then false else own) || (cache && other)) ≡ (if cache then other else own)
    by true own other = refl
    by false true other = refl
    by false false other = refl

-- so it is with an open alone
pub owned_in : (file number : ℕ) (cs : List Claim) → AreOn file cs → filter (owned file number) cs ≡ filter (goes (leavers.Open number None)) cs
owned_in file number cs own = alike (owned file number) (goes (leavers.Open number None)) cs (λ c there. owned_goes file number c (all_in (λ d. (d.file == file) ≡ true) c cs own there))

pub owned_out : (file number : ℕ) (cs : List Claim) → AreOn file cs → filter (λ c. not (owned file number c)) cs ≡ filter (λ c. not (goes (leavers.Open number None) c)) cs
owned_out file number cs own =
    alike (λ c. not (owned file number c)) (λ c. not (goes (leavers.Open number None) c)) cs (λ c there. ap not (owned_goes file number c (all_in (λ d. (d.file == file) ≡ true) c cs own there)))

-- and with one whose party goes with it
pub all_owned_in : (file number : ℕ) (party : Party) (cs : List Claim) → AreOn file cs → filter (all_owned file number party) cs ≡ filter (goes (leavers.Open number (Some party))) cs
all_owned_in file number party cs own =
    alike (all_owned file number party) (goes (leavers.Open number (Some party))) cs (λ c there. all_goes file number party c (all_in (λ d. (d.file == file) ≡ true) c cs own there))

pub all_owned_out : (file number : ℕ) (party : Party) (cs : List Claim) → AreOn file cs → filter (λ c. not (all_owned file number party c)) cs ≡ filter (λ c. not (goes (leavers.Open number (Some party)) c)) cs
all_owned_out file number party cs own =
    alike (λ c. not (all_owned file number party c)) (λ c. not (goes (leavers.Open number (Some party)) c)) cs (λ c there. ap not (all_goes file number party c (all_in (λ d. (d.file == file) ≡ true) c cs own there)))
