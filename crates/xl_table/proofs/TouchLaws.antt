-- What of an owner's ranges a range touches, by places among all claims of a file.
use Rattle.std.proofs.Common.{◌≡◌, ℕ, ◌+◌, ◌-◌, ◌<◌, ◌≤◌, suc, zero, Bool, true, false, not, ◌&&◌, ◌||◌, ◌==◌, nat_lt, nat_le, List, [], ◌∷◌, ◌++◌, length, map, take, drop, get_or, ◌^◌, Option, refl, sym, ap, subst, ◌∙◌, inl, inr, arith}
use Rattle.std.proofs.Math.Numerals.{one-add}
use Rattle.std.specs.List.{AllByRecursion, filter, list_any, prefix_len, slice_get, slice_range}
use Rattle.std.proofs.lemmas.Bool.{cases_Bool, and_parts, both_ways, not-true, le-ltb}
use Rattle.std.proofs.lemmas.Bool.Decides.{nat_tests}
use Rattle.std.proofs.lemmas.List.{take-append-le, drop_more, length-append, length-drop, length-take-le}
use Rattle.std.proofs.lemmas.List.Sums.{prefix_len-le-length}
use Rattle.xl_base.proofs.Members.{all_from, all_weaker, in_filter_from}
use Rattle.xl_base.specs.Lists.{Pairwise}
use Rattle.xl_base.specs.declared.name.Owner.{Owner}
use Rattle.xl_matrix.specs.declared.claim.Claim.{Claim}
use Rattle.xl_matrix.specs.declared.claim.Extent.TheVariants.{Bytes, Empty}
use Rattle.xl_matrix.specs.declared.claim.What.{What}
use Rattle.xl_matrix.specs.declared.claim.What.TheVariants.{Share, Range, Cache}
use Rattle.xl_matrix.specs.Owners.{posix}
use Rattle.xl_spans.specs.Spans.{IsCanonical, meets, relocked}
use Rattle.xl_spans.specs.declared.span.Mode.{Mode}
use Rattle.xl_spans.specs.declared.span.Span.{Span}
use Rattle.xl_spans.proofs.Chains.{IsChain, canonical_chain_all}
use Rattle.xl_table.specs.Files.{joined, AreOn, IsFiled, here}
use Rattle.xl_table.specs.declared.files.OnFile.{OnFile}
use Rattle.xl_table.specs.Held.{is_of, is_range, is_real_by, is_real, mode_of, has_one_party, with_span, spans_of, IsKept}
use Rattle.xl_table.specs.Order.{key, goes_first, no_later}
use Rattle.xl_table.specs.Pages.{paged, passes, is_met, is_met_there}
use Rattle.xl_table.specs.Relock.{range_claim, is_range_of, relocked_in, holds_byte, is_range_by, holds_range}
use Rattle.xl_table.specs.Sections.{group, is_before, is_upto, range_ends_before, range_begins_by, spans_in}
use Rattle.xl_index.specs.Parted.{IsParted}
use Rattle.xl_table.specs.declared.marks.Mark.TheVariants.{Ending, Beginning}
use Rattle.xl_table.proofs.ChangeLaws.{in_parts, drop_within, runs_of, relock_is}
use Rattle.xl_table.proofs.SectionLaws.{section_cut, section_is, is_between, starts_is, starts_range, range_section, upto_before, any_within, spans_on_file}
use Rattle.xl_table.proofs.PageLaws.{any_more}
use Rattle.xl_table.proofs.SpanLaws.{any_in_spans}
use Rattle.xl_table.proofs.WriteBack.{is_of-true, of_party}

-- ---- a test of the claims of a section alone, told as one of all claims

parts_len : (f r : Claim → Bool) (front mid back : List Claim) → AllByRecursion (λ c. f c ≡ true) front → AllByRecursion (λ c. f c ≡ r c) mid → AllByRecursion (λ c. f c ≡ false) back → IsParted r mid
    → IsParted f (front ++ (mid ++ back)) × (prefix_len f (front ++ (mid ++ back)) ≡ length front + prefix_len r mid)
parts_len f r [] [] [] early same late parted = (tt, refl)
parts_len f r [] [] (c ∷ cs) early same late parted = ((λ fails. late.1, (parts_len f r [] [] cs tt tt late.1 tt).0), rw late.0 refl)
parts_len f r [] (c ∷ cs) back early same late parted =
    let rest = parts_len f r [] cs back tt same.1 late parted.1 in
    elim (cases_Bool (r c)) [
      | inl passes ↦ ((λ fails. absurd (both_ways (r c) (sym same.0 ∙ fails) passes), rest.0), rw (same.0, passes) (omega (arith, rest.1)))
      | inr fails ↦ ((λ f_fails. behind cs same.1 (parted.0 fails), rest.0), rw (same.0, fails) refl)
    ]
  where
    behind : (cs : List Claim) → AllByRecursion (λ d. f d ≡ r d) cs → AllByRecursion (λ d. r d ≡ false) cs → AllByRecursion (λ d. f d ≡ false) (cs ++ back)
    behind [] same all = late
    behind (d ∷ ds) same all = (same.0 ∙ all.0, behind ds same.1 all.1)
parts_len f r (c ∷ cs) mid back early same late parted =
    let rest = parts_len f r cs mid back early.1 same late parted in
    ((λ fails. absurd (both_ways (f c) fails early.0), rest.0), rw early.0 (omega (arith, rest.1)))

-- by the section's test, or among all claims
abbrev pub within_by : List ℕ → (Claim → Bool) → Claim → Bool
within_by front r c = is_before front c || is_upto front c && r c

pub record IsTold (front : List ℕ) (r : Claim → Bool) (cs out : List Claim) (lo : ℕ) : Type 0 where
  pub parted : IsParted (within_by front r) cs
  pub count : prefix_len (within_by front r) cs ≡ lo + prefix_len r out

pub told : (front : List ℕ) (r : Claim → Bool) (cs out : List Claim) (lo hi : ℕ) → Pairwise goes_first cs → lo ≡ prefix_len (is_before front) cs → hi ≡ prefix_len (is_upto front) cs → hi ≤ length cs → out ≡ slice_range cs lo hi → IsParted r out → IsTold front r cs out lo
told front r cs out lo hi ordered at_lo at_hi within is parted =
    let cut = section_cut front cs ordered in
    let order : lo ≤ hi = subst (λ (n : ℕ). n ≤ hi) (sym at_lo) (subst (λ (n : ℕ). prefix_len (is_before front) cs ≤ n) (sym at_hi) cut.order) in
    let whole : cs ≡ take lo cs ++ (out ++ drop hi cs) = in_parts cs lo hi order ∙ ap (λ (ds : List Claim). take lo cs ++ (ds ++ drop hi cs)) (sym is) in
    let section : out ≡ filter (is_between (is_before front) (is_upto front)) cs =
    is ∙ ap (λ (n : ℕ). slice_range cs n hi) at_lo ∙ ap (λ (n : ℕ). slice_range cs (prefix_len (is_before front) cs) n) at_hi ∙ cut.section in
    let early : AllByRecursion (λ c. within_by front r c ≡ true) (take lo cs) =
    subst (λ (n : ℕ). AllByRecursion (λ c. within_by front r c ≡ true) (take n cs)) (sym at_lo)
    (all_weaker (λ c. is_before front c ≡ true) (λ c. within_by front r c ≡ true) (take (prefix_len (is_before front) cs) cs) (λ c e. rw e refl) cut.before) in
    let late : AllByRecursion (λ c. within_by front r c ≡ false) (drop hi cs) =
    subst (λ (n : ℕ). AllByRecursion (λ c. within_by front r c ≡ false) (drop n cs)) (sym at_hi)
    (all_weaker (λ c. is_upto front c ≡ false) (λ c. within_by front r c ≡ false) (drop (prefix_len (is_upto front) cs) cs) (λ c e. past c e) cut.behind) in
    let same : AllByRecursion (λ c. within_by front r c ≡ r c) out =
    subst (λ (ds : List Claim). AllByRecursion (λ c. within_by front r c ≡ r c) ds) (sym section)
    (all_from (λ c. within_by front r c ≡ r c) (filter (is_between (is_before front) (is_upto front)) cs) (λ c h. inside (is_before front c) (is_upto front c) (r c) (in_filter_from (is_between (is_before front) (is_upto front)) c cs h).1)) in
    let both = parts_len (within_by front r) r (take lo cs) out (drop hi cs) early same late parted in
    record {
      parted = subst (λ (ds : List Claim). IsParted (within_by front r) ds) (sym whole) both.0;
      count = ap (λ (ds : List Claim). prefix_len (within_by front r) ds) whole ∙ both.1 ∙ ap (λ (n : ℕ). n + prefix_len r out) (length-take-le lo cs (omega (arith, order, within)));
    }
  where
    inside : (p q s : Bool) → (q && not p) ≡ true → (p || q && s) ≡ s
    inside true true s h = cc
    inside true false s h = cc
    inside false true s h = refl
    inside false false s h = cc

    past : (c : Claim) → is_upto front c ≡ false → within_by front r c ≡ false
    past c e = elim (cases_Bool (is_before front c)) [
      | inl early ↦ absurd (both_ways (is_upto front c) e (upto_from c early))
      | inr later ↦ rw (later, e) refl
    ] where
      upto_from : (c : Claim) → is_before front c ≡ true → is_upto front c ≡ true
      upto_from c early = upto_before front (key c) (not-true (no_later front (key c)) early)

-- ---- the ranges that a lock or an unlock touches

-- a part of a part
part_of_part : (cs out : List Claim) (lo hi i j : ℕ) → lo ≤ hi → hi ≤ length cs → out ≡ slice_range cs lo hi → i ≤ j → j ≤ length out → slice_range cs (lo + i) (lo + j) ≡ slice_range out i j
part_of_part cs out lo hi i j order within is i_j j_in =
    let whole : cs ≡ take lo cs ++ (out ++ drop hi cs) = in_parts cs lo hi order ∙ ap (λ (ds : List Claim). take lo cs ++ (ds ++ drop hi cs)) (sym is) in
    let many : lo + j - (lo + i) ≡ j - i = omega (arith, i_j) in
    ap (λ (n : ℕ). take n (drop (lo + i) cs)) many
    ∙ ap (λ (ds : List Claim). take (j - i) ds) (drop_within cs (take lo cs) out (drop hi cs) lo i whole (length-take-le lo cs (omega (arith, order, within))) (omega (arith, i_j, j_in)))
    ∙ take-append-le (j - i) (drop i out) (drop hi cs) (omega (arith, length-drop i out, j_in))

pub record IsTouched (ask : Claim) (first last : ℕ) (cs : List Claim) : Type 0 where
  pub ending : IsParted (passes (Ending (first - 1)) (group ask.file 1 ask.owner)) cs
  pub beginning : IsParted (passes (Beginning last) (group ask.file 1 ask.owner)) cs
  pub order : prefix_len (passes (Ending (first - 1)) (group ask.file 1 ask.owner)) cs ≤ prefix_len (passes (Beginning last) (group ask.file 1 ask.owner)) cs
  pub canonical : IsCanonical (spans_in (slice_range cs (prefix_len (passes (Ending (first - 1)) (group ask.file 1 ask.owner)) cs) (prefix_len (passes (Beginning last) (group ask.file 1 ask.owner)) cs)))
  pub done : (mode : Option Mode) (entered : List Claim)
      → entered ≡ map (range_claim ask.file ask.owner ask.party) (relocked (spans_in (slice_range cs (prefix_len (passes (Ending (first - 1)) (group ask.file 1 ask.owner)) cs) (prefix_len (passes (Beginning last) (group ask.file 1 ask.owner)) cs))) first last mode)
      → take (prefix_len (passes (Ending (first - 1)) (group ask.file 1 ask.owner)) cs) cs ++ (entered ++ drop (prefix_len (passes (Beginning last) (group ask.file 1 ask.owner)) cs) cs) ≡ relocked_in ask.file ask.owner ask.party first last mode cs

pub touched : (ask : Claim) (first last : ℕ) (cs : List Claim) → IsKept cs → posix ask.owner ≡ true → is_range ask.what ≡ true → first ≤ last → AllByRecursion (λ c. has_one_party ask c ≡ true) cs → IsTouched ask first last cs
touched ask first last cs kept p range ends one =
    let front = group ask.file 1 ask.owner in
    let lo = prefix_len (is_before front) cs in
    let hi = prefix_len (is_upto front) cs in
    let out = slice_range cs lo hi in
    let cut = section_cut front cs kept.ordered in
    let within : hi ≤ length cs = prefix_len-le-length (is_upto front) cs in
    let runs = runs_of ask first last cs out lo hi kept p range ends one refl refl refl in
    let near = told front (λ c. range_ends_before (first - 1) c.what) cs out lo hi kept.ordered refl refl within refl runs.ending in
    let far = told front (λ c. range_begins_by last c.what) cs out lo hi kept.ordered refl refl within refl runs.beginning in
    let i = prefix_len (λ c. range_ends_before (first - 1) c.what) out in
    let j = prefix_len (λ c. range_begins_by last c.what) out in
    let near_is : prefix_len (passes (Ending (first - 1)) front) cs ≡ lo + i = near.count in
    let far_is : prefix_len (passes (Beginning last) front) cs ≡ lo + j = far.count in
    let part : slice_range cs (prefix_len (passes (Ending (first - 1)) front) cs) (prefix_len (passes (Beginning last) front) cs) ≡ slice_range out i j =
    ap (λ (n : ℕ). slice_range cs n (prefix_len (passes (Beginning last) front) cs)) near_is ∙ ap (λ (n : ℕ). slice_range cs (lo + i) n) far_is
    ∙ part_of_part cs out lo hi i j cut.order within refl runs.order (prefix_len-le-length (λ c. range_begins_by last c.what) out) in
    record {
      ending = near.parted;
      beginning = far.parted;
      order = omega (arith, near_is, far_is, runs.order);
      canonical = subst (λ (ds : List Claim). IsCanonical (spans_in ds)) (sym part) (runs.canonical i j);
      done = λ mode entered new.
          ap (λ (n : ℕ). take n cs ++ (entered ++ drop (prefix_len (passes (Beginning last) front) cs) cs)) near_is
          ∙ ap (λ (n : ℕ). take (lo + i) cs ++ (entered ++ drop n cs)) far_is
          ∙ relock_is ask.file ask.owner ask.party first last mode cs out entered lo hi i j kept p ends (of_party ask cs p range one) refl refl within refl refl refl
          (new ∙ ap (λ (ds : List Claim). map (range_claim ask.file ask.owner ask.party) (relocked (spans_in ds) first last mode)) part);
    }

-- ---- whether an owner has a byte of the range

any_and : (p q : Claim → Bool) (cs : List Claim) → list_any (λ c. p c && q c) cs ≡ list_any q (filter p cs)
any_and p q [] = refl
any_and p q (c ∷ cs) = elim (cases_Bool (p c)) [ inl h ↦ rw h (ap (λ (b : Bool). q c || b) (any_and p q cs)) | inr h ↦ rw h (any_and p q cs) ]

met_is : (file : ℕ) (owner : Owner) (first last : ℕ) (cs : List Claim) → list_any (is_met file owner first last) cs ≡ list_any (λ c. is_range_of file owner c && list_any (meets first last) (with_span c.what [])) cs
met_is file owner first last [] = refl
met_is file owner first last (c ∷ cs) = rw (met_is file owner first last cs) (step (is_of file owner c) (is_range c.what) (list_any (meets first last) (with_span c.what [])) (list_any (λ d. is_range_of file owner d && list_any (meets first last) (with_span d.what [])) cs)) where
  step : (a b m rest : Bool) → ((a && b && m) || rest) ≡ (((a && b) && m) || rest)
  step a b m rest = grind (arith, nat_tests)

pub any_holds : (file : ℕ) (owner : Owner) (first last : ℕ) (cs : List Claim) → list_any (is_met file owner first last) cs ≡ holds_byte file owner first last cs
unfolding holds_byte
any_holds file owner first last cs =
    met_is file owner first last cs
    ∙ any_and (is_range_of file owner) (λ c. list_any (meets first last) (with_span c.what [])) cs
    ∙ any_in_spans (meets first last) (filter (is_range_of file owner) cs)
    ∙ ap (λ (ss : List Span). list_any (meets first last) ss) (spans_on_file file owner cs (filter (is_range_of file owner) cs) refl)

pub holds_here : (file : ℕ) (owner : Owner) (first last : ℕ) (cs on : List Claim) → on ≡ here file cs → holds_byte file owner first last on ≡ holds_byte file owner first last cs
holds_here file owner first last cs on is =
    sym (any_holds file owner first last on) ∙ ap (λ (ds : List Claim). list_any (is_met file owner first last) ds) is
    ∙ any_within (is_met file owner first last) (λ c. c.file == file) cs (λ c other. rw other refl)
    ∙ any_holds file owner first last cs

-- ---- the first range of an owner that may have a byte of another

record IsBytes (c : Claim) : Type 0 where
  pub first : ℕ
  pub last : ℕ
  pub exclusive : Bool
  pub is : c.what ≡ Range (Bytes first last) exclusive

bytes_of : (c : Claim) → posix c.owner ≡ true → is_range c.what ≡ true → is_real c ≡ true → IsBytes c
bytes_of c p range real = by c.what refl range real where
  by : (w : What) → c.what ≡ w → is_range w ≡ true → is_real_by c.owner w ≡ true → IsBytes c
  by (Range (Bytes first last) exclusive) e r h = record { first = first; last = last; exclusive = exclusive; is = e }
  by (Range (Empty offset) exclusive) e r h = absurd (both_ways (posix c.owner) (not-true (posix c.owner) h) p)
  by (Share x y) e r h = cc
  by (Cache x y) e r h = cc

-- ranges of a POSIX owner, which it has on this file
abbrev AreOwn : ℕ → Owner → List Claim → Type 0
AreOwn file owner cs = AllByRecursion (λ c. (is_range_of file owner c ≡ true) × IsBytes c) cs

spans_more : (c : Claim) (cs : List Claim) (b : IsBytes c) → spans_in (c ∷ cs) ≡ record { first = b.first; last = b.last; mode = mode_of b.exclusive } ∷ spans_in cs
spans_more c cs b = ap (λ (w : What). with_span w (spans_in cs)) b.is

none_end : (file : ℕ) (owner : Owner) (byte lo : ℕ) (cs : List Claim) → byte ≤ lo → AreOwn file owner cs → IsChain lo (spans_in cs) → AllByRecursion (λ c. range_ends_before byte c.what ≡ false) cs
none_end file owner byte lo [] h own chain = tt
none_end file owner byte lo (c ∷ cs) h own chain =
    let b = own.0.1 in
    let there = subst (λ (ss : List Span). IsChain lo ss) (spans_more c cs b) chain in (
      ap (λ (w : What). range_ends_before byte w) b.is ∙ le-ltb b.last byte (omega (arith, h, there.0, there.1)),
      none_end file owner byte (b.last + 1) cs (omega (arith, h, there.0, there.1)) own.1 there.2,
    )

none_met : (file : ℕ) (owner : Owner) (first last lo : ℕ) (cs : List Claim) → last < lo → AreOwn file owner cs → IsChain lo (spans_in cs) → list_any (is_met file owner first last) cs ≡ false
none_met file owner first last lo [] h own chain = refl
none_met file owner first last lo (c ∷ cs) h own chain =
    let b = own.0.1 in
    let there = subst (λ (ss : List Span). IsChain lo ss) (spans_more c cs b) chain in
    let none = none_met file owner first last (b.last + 1) cs (omega (arith, h, there.0, there.1)) own.1 there.2 in
    rw none (rw b.is (step b.first b.last (is_of file owner c) (omega (arith, h, there.0))))
  where
    step : (m n : ℕ) (own : Bool) → last < m → ((own && true && ((nat_le m last && nat_le first n) || false)) || false) ≡ false
    step m n own k = let e : nat_le m last ≡ false = grind (arith, nat_tests) in rw e (grind (arith, nat_tests))

ends_parted : (file : ℕ) (owner : Owner) (byte lo : ℕ) (cs : List Claim) → AreOwn file owner cs → IsChain lo (spans_in cs) → IsParted (λ c. range_ends_before byte c.what) cs
ends_parted file owner byte lo [] own chain = tt
ends_parted file owner byte lo (c ∷ cs) own chain =
    let b = own.0.1 in
    let there = subst (λ (ss : List Span). IsChain lo ss) (spans_more c cs b) chain in (
      λ fails. none_end file owner byte (b.last + 1) cs (past b.last (subst (λ (w : What). range_ends_before byte w ≡ false) b.is fails)) own.1 there.2,
      ends_parted file owner byte (b.last + 1) cs own.1 there.2,
    )
  where
    past : (last : ℕ) → nat_lt last byte ≡ false → byte ≤ last + 1
    past last h = grind (arith, nat_tests)

-- the first of an owner's ranges that doesn't end before a range has a byte of it, or none has
first_met : (file : ℕ) (owner : Owner) (first last lo : ℕ) (cs back : List Claim) → AreOwn file owner cs → IsChain lo (spans_in cs) → AllByRecursion (λ c. is_range_of file owner c ≡ false) back
    → is_met_there file owner first last (slice_get (drop (prefix_len (λ c. range_ends_before first c.what) cs) cs ++ back) 0) ≡ list_any (is_met file owner first last) cs
first_met file owner first last lo [] [] own chain others = refl
first_met file owner first last lo [] (d ∷ ds) own chain others = rw (not_met (is_of file owner d) (is_range d.what) (list_any (meets first last) (with_span d.what [])) others.0) refl where
  not_met : (a b m : Bool) → (a && b) ≡ false → (a && b && m) ≡ false
  not_met a b m h = grind (arith, nat_tests)
first_met file owner first last lo (c ∷ cs) back own chain others =
    let b = own.0.1 in
    let there = subst (λ (ss : List Span). IsChain lo ss) (spans_more c cs b) chain in
    let k = prefix_len (λ d. range_ends_before first d.what) cs in
    elim (cases_Bool (range_ends_before first c.what)) [
      | inl early ↦
          rw (early, one-add k)
          (first_met file owner first last (b.last + 1) cs back own.1 there.2 others
          ∙ sym (ap (λ (m : Bool). m || list_any (is_met file owner first last) cs) (ends_apart b.first b.last (is_of file owner c) (is_range c.what) c.what (subst (λ (w : What). range_ends_before first w ≡ true) b.is early) b.exclusive b.is)))
      | inr late ↦
          rw late
          (elim (cases_Bool (is_met file owner first last c)) [
            | inl met ↦ rw met refl
            | inr apart ↦
                let behind : last < b.first = met_by b.first b.last (is_of file owner c) (is_range c.what) c.what b.exclusive b.is late own.0.0 apart in
                rw (apart, none_met file owner first last (b.last + 1) cs (omega (arith, behind, there.1)) own.1 there.2) refl
          ])
    ]
  where
    ends_apart : (m n : ℕ) (a r : Bool) (w : What) → nat_lt n first ≡ true → (exclusive : Bool) → w ≡ Range (Bytes m n) exclusive → (a && r && list_any (meets first last) (with_span w [])) ≡ false
    ends_apart m n a r w h exclusive is = rw is (let e : nat_le first n ≡ false = grind (arith, nat_tests) in rw e (grind (arith, nat_tests)))

    met_by : (m n : ℕ) (a r : Bool) (w : What) (exclusive : Bool) → w ≡ Range (Bytes m n) exclusive → range_ends_before first w ≡ false → (a && r) ≡ true → (a && r && list_any (meets first last) (with_span w [])) ≡ false → last < m
    met_by m n a r w exclusive is h own none = step (subst (λ (v : What). range_ends_before first v ≡ false) is h) (subst (λ (v : What). (a && r && list_any (meets first last) (with_span v [])) ≡ false) is none) where
      step : nat_lt n first ≡ false → (a && r && ((nat_le m last && nat_le first n) || false)) ≡ false → last < m
      step k e = grind (arith, nat_tests)

-- an owner's ranges in a table are such
own_ranges : (file : ℕ) (owner : Owner) (cs : List Claim) → posix owner ≡ true → AllByRecursion (λ c. is_real c ≡ true) cs → AreOwn file owner (filter (is_range_of file owner) cs)
own_ranges file owner [] p real = tt
own_ranges file owner (c ∷ cs) p real = elim (cases_Bool (is_range_of file owner c)) [
  | inl own ↦ rw own ((own, bytes_of c (subst (λ (o : Owner). posix o ≡ true) (sym (is_of-true file owner c (left_part (is_of file owner c) (is_range c.what) own)).1) p) (right_part (is_of file owner c) (is_range c.what) own) real.0), own_ranges file owner cs p real.1)
  | inr other ↦ rw other (own_ranges file owner cs p real.1)
] where
  left_part : (a b : Bool) → (a && b) ≡ true → a ≡ true
  left_part a b h = (and_parts a b h).0

  right_part : (a b : Bool) → (a && b) ≡ true → b ≡ true
  right_part a b h = (and_parts a b h).1

pub record IsByteAsked (file : ℕ) (owner : Owner) (first last : ℕ) (cs : List Claim) : Type 0 where
  pub parted : IsParted (passes (Ending first) (group file 1 owner)) cs
  pub answer : is_met_there file owner first last (slice_get cs (prefix_len (passes (Ending first) (group file 1 owner)) cs)) ≡ holds_byte file owner first last cs

pub byte_asked : (file : ℕ) (owner : Owner) (first last : ℕ) (cs : List Claim) → IsKept cs → posix owner ≡ true → IsByteAsked file owner first last cs
byte_asked file owner first last cs kept p =
    let front = group file 1 owner in
    let lo = prefix_len (is_before front) cs in
    let hi = prefix_len (is_upto front) cs in
    let out = slice_range cs lo hi in
    let cut = section_cut front cs kept.ordered in
    let within : hi ≤ length cs = prefix_len-le-length (is_upto front) cs in
    let section : out ≡ filter (is_range_of file owner) cs = section_is front (is_range_of file owner) cs out lo hi (starts_range file owner) kept.ordered refl refl refl in
    let own : AreOwn file owner out = subst (λ (ds : List Claim). AreOwn file owner ds) (sym section) (own_ranges file owner cs p kept.sound.real) in
    let chain : IsChain 0 (spans_in out) = subst (λ (ss : List Span). IsChain 0 ss) (sym (spans_on_file file owner cs out section)) (canonical_chain_all (spans_of file owner cs) (kept.sound.canonical file owner p)) in
    let near = told front (λ c. range_ends_before first c.what) cs out lo hi kept.ordered refl refl within refl (ends_parted file owner first 0 out own chain) in
    let n = prefix_len (λ c. range_ends_before first c.what) out in
    let whole : cs ≡ take lo cs ++ (out ++ drop hi cs) = in_parts cs lo hi cut.order in
    let others : AllByRecursion (λ c. is_range_of file owner c ≡ false) (drop hi cs) =
    all_weaker (λ c. is_upto front c ≡ false) (λ c. is_range_of file owner c ≡ false) (drop hi cs) (λ c e. sym (starts_range file owner c) ∙ sym (starts_is front (key c)) ∙ rw e refl) cut.behind in
    record {
      parted = near.parted;
      answer =
          ap (λ (m : ℕ). is_met_there file owner first last (slice_get cs m)) near.count
          ∙ ap (λ (o : Option Claim). is_met_there file owner first last o) (get_dropped cs (lo + n))
          ∙ ap (λ (ds : List Claim). is_met_there file owner first last (slice_get ds 0)) (drop_within cs (take lo cs) out (drop hi cs) lo n whole (length-take-le lo cs (omega (arith, cut.order, within))) (prefix_len-le-length (λ c. range_ends_before first c.what) out))
          ∙ first_met file owner first last 0 out (drop hi cs) own chain others
          ∙ ap (λ (ds : List Claim). list_any (is_met file owner first last) ds) section
          ∙ any_within (is_met file owner first last) (is_range_of file owner) cs (λ c other. apart (is_of file owner c) (is_range c.what) (list_any (meets first last) (with_span c.what [])) other)
          ∙ any_holds file owner first last cs;
    }
  where
    get_dropped : (cs : List Claim) (m : ℕ) → slice_get cs m ≡ slice_get (drop m cs) 0
    get_dropped [] zero = refl
    get_dropped [] (suc m) = refl
    get_dropped (c ∷ cs) zero = refl
    get_dropped (c ∷ cs) (suc m) = get_dropped cs m

    apart : (a b m : Bool) → (a && b) ≡ false → (a && b && m) ≡ false
    apart a b m h = grind (arith, nat_tests)

-- ---- whether an owner has a range, file by file

any_filtered : (p : Claim → Bool) (cs : List Claim) → nat_lt 0 (length (filter p cs)) ≡ list_any p cs
any_filtered p [] = refl
any_filtered p (c ∷ cs) = elim (cases_Bool (p c)) [ inl e ↦ rw e (some_length (length (filter p cs))) | inr e ↦ rw e (any_filtered p cs) ] where
  some_length : (n : ℕ) → nat_lt 0 (suc n) ≡ true
  some_length n = grind (arith, nat_tests)

between_length : (cs : List Claim) (i j : ℕ) → j ≤ length cs → length (slice_range cs i j) ≡ j - i
between_length cs i j h = length-take-le (j - i) (drop i cs) (omega (arith, h, length-drop i cs))

less_or : (i j : ℕ) → nat_lt i j ≡ nat_lt 0 (j - i)
less_or i j = grind (arith, nat_tests)

-- a section of the owner's ranges has a claim where there is one among all of the file's
pub some_range : (file : ℕ) (owner : Owner) (cs : List Claim) (i j : ℕ) → Pairwise goes_first cs → i ≡ prefix_len (is_before (group file 1 owner)) cs → j ≡ prefix_len (is_upto (group file 1 owner)) cs → j ≤ length cs → nat_lt i j ≡ list_any (is_range_of file owner) cs
some_range file owner cs i j ordered a b within =
    less_or i j
    ∙ ap (λ (n : ℕ). nat_lt 0 n) (sym (between_length cs i j within))
    ∙ ap (λ (ds : List Claim). nat_lt 0 (length ds)) (range_section file owner cs (slice_range cs i j) i j ordered a b refl)
    ∙ any_filtered (is_range_of file owner) cs

-- the files that are left hold a range of the owner where all do
pub record AreLeft (owner : Owner) (all rest : List OnFile) : Type 0 where
  pub filed : IsFiled rest
  pub ordered : Pairwise goes_first (joined rest)
  pub room : length (joined rest) ≤ 16384
  pub same : holds_range owner (joined all) ≡ holds_range owner (joined rest)

by_file : (file : ℕ) (owner : Owner) (cs : List Claim) → AreOn file cs → list_any (is_range_of file owner) cs ≡ holds_range owner cs
by_file file owner [] on = refl
by_file file owner (c ∷ cs) on = rw on.0 (ap (λ (b : Bool). is_range_by owner c || b) (by_file file owner cs on.1))

two_parts : (test : Claim → Claim → Bool) (xs ys : List Claim) → Pairwise test (xs ++ ys) → Pairwise test xs × Pairwise test ys
two_parts test [] ys all = (tt, all)
two_parts test (x ∷ xs) ys all = let rest = two_parts test xs ys all.1 in ((first xs all.0, rest.0), rest.1) where
  first : (zs : List Claim) → AllByRecursion (λ z. test x z ≡ true) (zs ++ ys) → AllByRecursion (λ z. test x z ≡ true) zs
  first [] each = tt
  first (z ∷ zs) each = (each.0, first zs each.1)

parted_any : (owner : Owner) (all rest : List OnFile) (l : OnFile) (b : Bool) → AreLeft owner all (l ∷ rest) → b ≡ list_any (is_range_of l.file owner) (paged l.pages.items) → holds_range owner (joined all) ≡ (b || holds_range owner (joined rest))
parted_any owner all rest l b left e =
    left.same
    ∙ any_more (is_range_by owner) (paged l.pages.items) (joined rest)
    ∙ ap (λ (x : Bool). x || holds_range owner (joined rest)) (sym (by_file l.file owner (paged l.pages.items) left.filed.0) ∙ sym e)

-- the file at this place and those behind it
pub left_at : (owner : Owner) (all : List OnFile) (i : ℕ) (l : OnFile) → i < length all → l ≡ get_or all i l → AreLeft owner all (drop i all) → AreLeft owner all (l ∷ drop (i + 1) all)
left_at owner all i l h is left =
    subst (λ (m : OnFile). AreLeft owner all (m ∷ drop (i + 1) all)) (sym is) (subst (λ (ls : List OnFile). AreLeft owner all ls) (drop_more all i l h) left)

pub first_ordered : (owner : Owner) (all rest : List OnFile) (l : OnFile) → AreLeft owner all (l ∷ rest) → Pairwise goes_first (paged l.pages.items)
first_ordered owner all rest l left = (two_parts goes_first (paged l.pages.items) (joined rest) left.ordered).0

pub first_room : (owner : Owner) (all rest : List OnFile) (l : OnFile) → AreLeft owner all (l ∷ rest) → length (paged l.pages.items) < 2 ^ 32
first_room owner all rest l left = omega (arith, left.room, length-append (paged l.pages.items) (joined rest))

-- a file with such a range, and one without
pub range_found : (owner : Owner) (all rest : List OnFile) (l : OnFile) (b : Bool) → AreLeft owner all (l ∷ rest) → b ≡ list_any (is_range_of l.file owner) (paged l.pages.items) → b ≡ true → true ≡ holds_range owner (joined all)
range_found owner all rest l b left e is = sym (parted_any owner all rest l b left e ∙ rw is refl)

pub range_later : (owner : Owner) (all rest : List OnFile) (l : OnFile) (b : Bool) → AreLeft owner all (l ∷ rest) → b ≡ list_any (is_range_of l.file owner) (paged l.pages.items) → b ≡ false → AreLeft owner all rest
range_later owner all rest l b left e is = record {
  filed = left.filed.2;
  ordered = (two_parts goes_first (paged l.pages.items) (joined rest) left.ordered).1;
  room = omega (arith, left.room, length-append (paged l.pages.items) (joined rest));
  same = parted_any owner all rest l b left e ∙ rw is refl;
}

pub all_left : (owner : Owner) (all : List OnFile) → IsFiled all → Pairwise goes_first (joined all) → length (joined all) ≤ 16384 → AreLeft owner all all
all_left owner all filed ordered room = record { filed = filed; ordered = ordered; room = room; same = refl }
