-- A change that is made by places in the list is what the definition says.
use Rattle.std.proofs.Common.{◌≡◌, ℕ, ◌+◌, ◌-◌, ◌<◌, ◌≤◌, Bool, true, false, nat_le, List, [], ◌∷◌, ◌++◌, length, map, take, drop, zero, suc, ◌==◌, if◌then◌else◌, Option, refl, sym, ap, subst, ◌∙◌, inl, inr, append_assoc, arith}
use Rattle.std.proofs.Math.Seq.{take-append-add, drop-append-add}
use Rattle.std.proofs.lemmas.List.{take-append-drop, take-append-le, drop-append-le, take-map, drop-map, map-append, length-take-le}
use Rattle.std.proofs.lemmas.List.Folds.{drop_split}
use Rattle.std.proofs.lemmas.List.Sums.{prefix_len-le-length}
use Rattle.std.specs.List.{AllByRecursion, filter, prefix_len, slice_range}
use Rattle.std.proofs.lemmas.Bool.{cases_Bool, both_ways, and_from, not-true, ltb-false, leb-false, lt-leb, le-ltb, eq-eqb}
use Rattle.std.proofs.lemmas.Bool.Decides.{nat_tests}
use Rattle.xl_base.specs.declared.name.Owner.{Owner}
use Rattle.xl_base.specs.declared.name.Party.{Party}
use Rattle.xl_base.specs.Lists.{Pairwise}
use Rattle.xl_base.proofs.Members.{all_weaker}
use Rattle.xl_matrix.specs.declared.claim.Claim.{Claim}
use Rattle.xl_matrix.specs.declared.claim.Extent.TheVariants.{Bytes, Empty}
use Rattle.xl_matrix.specs.declared.claim.What.{What}
use Rattle.xl_matrix.specs.declared.claim.What.TheVariants.{Share, Range, Cache}
use Rattle.xl_matrix.specs.Owners.{posix}
use Rattle.xl_spans.specs.Spans.{IsBefore, IsCanonical, relocked, ends_before, begins_by}
use Rattle.xl_spans.specs.declared.span.Mode.{Mode}
use Rattle.xl_spans.specs.declared.span.Span.{Span}
use Rattle.xl_spans.proofs.Chains.{IsChain, canonical_chain_all, canonical_rest, relocked_canonical}
use Rattle.xl_spans.proofs.InPlace.{chain_rest, places_in_order, relocked_in_place}
use Rattle.xl_table.specs.Flat.{inserted, with_what}
use Rattle.xl_table.specs.Held.{is_of, is_range, is_share, is_real_by, is_real, has_one_party, with_span, mode_of, spans_of, IsKept}
use Rattle.xl_table.specs.Order.{key, goes_first}
use Rattle.xl_table.specs.Relock.{is_exclusive, range_claim, is_range_of, unranged, all_inserted, relocked_in, is_share_of, unshared, old_shares, united_by, united, shared_in}
use Rattle.xl_table.specs.declared.change.Change.{Change}
use Rattle.xl_table.specs.Files.{AreOn}
use Rattle.xl_table.specs.Changes.{spliced, IsOn}
use Rattle.xl_matrix.specs.Equal.{same_owners}
use Rattle.xl_matrix.proofs.EqualLaws.{same_owners-self}
use Rattle.xl_table.proofs.InsertLaws.{range_order}
use Rattle.xl_table.proofs.ShareLaws.{united_share}
use Rattle.xl_table.specs.Sections.{group, starts, is_before, is_upto, range_ends_before, range_begins_by, spans_in}
use Rattle.xl_index.specs.Parted.{IsParted}
use Rattle.xl_table.proofs.SectionLaws.{section_cut, section_is, section_rest, range_section, share_section, before_section, behind_section, starts_share, starts_range}
use Rattle.xl_table.proofs.WriteBack.{is_of-self, mode_exclusive, is_of-true, later_spans, relocked_is, IsOfParty, of_party}

-- ---- claims entered between two parts of a list

inserted_between : (n : Claim) (front back : List Claim) → AllByRecursion (λ c. goes_first c n ≡ true) front → AllByRecursion (λ c. goes_first c n ≡ false) back → inserted n (front ++ back) ≡ front ++ n ∷ back
unfolding inserted
inserted_between n [] [] early late = refl
inserted_between n [] (c ∷ cs) early late = rw late.0 refl
inserted_between n (c ∷ cs) back early late = rw early.0 (ap (λ (ds : List Claim). c ∷ ds) (inserted_between n cs back early.1 late))

all_behind : (P : Claim → Type 0) (n : Claim) (front : List Claim) → AllByRecursion P front → P n → AllByRecursion P (front ++ n ∷ [])
all_behind P n [] all one = (one, tt)
all_behind P n (c ∷ cs) all one = (all.0, all_behind P n cs all.1 one)

-- each of these stands behind the front, and before the back
abbrev pub AreBetween : List Claim → List Claim → List Claim → Type 0
AreBetween [] front back = Unit {0}
AreBetween (n ∷ ns) front back = AllByRecursion (λ c. goes_first c n ≡ true) front × AllByRecursion (λ c. goes_first c n ≡ false) back × AreBetween ns front back

with_front : (n : Claim) (ns front back : List Claim) → AllByRecursion (λ d. goes_first n d ≡ true) ns → AreBetween ns front back → AreBetween ns (front ++ n ∷ []) back
with_front n [] front back all between = tt
with_front n (m ∷ ms) front back all between =
    (all_behind (λ c. goes_first c m ≡ true) n front between.0 all.0, between.1, with_front n ms front back all.1 between.2)

pub entered_between : (ns front back : List Claim) → Pairwise goes_first ns → AreBetween ns front back → all_inserted ns (front ++ back) ≡ front ++ (ns ++ back)
entered_between [] front back ordered between = refl
entered_between (n ∷ ns) front back ordered between =
    ap (λ (ds : List Claim). all_inserted ns ds) (inserted_between n front back between.0 between.1 ∙ sym (append_assoc front (n ∷ []) back))
    ∙ entered_between ns (front ++ n ∷ []) back ordered.1 (with_front n ns front back ordered.0 between.2)
    ∙ append_assoc front (n ∷ []) (ns ++ back)

-- what belongs to a section stands between what stands before it and what stands behind it
pub are_between : (fs : List ℕ) (ns front back : List Claim) → AllByRecursion (λ n. starts fs (key n) ≡ true) ns → AllByRecursion (λ c. is_before fs c ≡ true) front → AllByRecursion (λ c. is_upto fs c ≡ false) back → AreBetween ns front back
are_between fs [] front back all early late = tt
are_between fs (n ∷ ns) front back all early late = (
  all_weaker (λ c. is_before fs c ≡ true) (λ c. goes_first c n ≡ true) front (λ c h. before_section fs (key c) (key n) (not-true _ h) all.0) early,
  all_weaker (λ c. is_upto fs c ≡ false) (λ c. goes_first c n ≡ false) back (λ c h. behind_section fs (key c) (key n) h all.0) late,
  are_between fs ns front back all.1 early late,
)

-- a list in three parts, and a place in the middle one
pub in_parts : (cs : List Claim) (lo hi : ℕ) → lo ≤ hi → cs ≡ take lo cs ++ (slice_range cs lo hi ++ drop hi cs)
in_parts cs lo hi order = sym (take-append-drop lo cs) ∙ ap (λ (ds : List Claim). take lo cs ++ ds) (drop_split cs lo hi order)

pub take_within : (cs front mid back : List Claim) (lo i : ℕ) → cs ≡ front ++ (mid ++ back) → length front ≡ lo → i ≤ length mid → take (lo + i) cs ≡ front ++ take i mid
take_within cs front mid back lo i is at within =
    ap (λ (ds : List Claim). take (lo + i) ds) is
    ∙ ap (λ (n : ℕ). take (n + i) (front ++ (mid ++ back))) (sym at)
    ∙ take-append-add front (mid ++ back) i
    ∙ ap (λ (ds : List Claim). front ++ ds) (take-append-le i mid back within)

pub drop_within : (cs front mid back : List Claim) (lo j : ℕ) → cs ≡ front ++ (mid ++ back) → length front ≡ lo → j ≤ length mid → drop (lo + j) cs ≡ drop j mid ++ back
drop_within cs front mid back lo j is at within =
    ap (λ (ds : List Claim). drop (lo + j) ds) is
    ∙ ap (λ (n : ℕ). drop (n + j) (front ++ (mid ++ back))) (sym at)
    ∙ drop-append-add front (mid ++ back) j
    ∙ drop-append-le j mid back within

-- ---- an owner's ranges as claims of their spans

exclusive_mode : (b : Bool) → is_exclusive (mode_of b) ≡ b
exclusive_mode true = refl
exclusive_mode false = refl

as_range : (file : ℕ) (owner : Owner) (party : Party) (c : Claim) (first last : ℕ) (exclusive : Bool) → c.what ≡ Range (Bytes first last) exclusive → c.file ≡ file → c.owner ≡ owner → c.party ≡ party
    → c ≡ range_claim file owner party (record { first = first; last = last; mode = mode_of exclusive })
as_range file owner party c first last exclusive is at who whose =
    (λ i. record { file = at i; owner = who i; party = whose i; what = is i })
    ∙ ap (λ (b : Bool). with_mode b) (sym (exclusive_mode exclusive))
  where
    with_mode : Bool → Claim
    with_mode b = record { file = file; owner = owner; party = party; what = Range (Bytes first last) b }

pub ranges_are : (file : ℕ) (owner : Owner) (party : Party) (cs : List Claim) → posix owner ≡ true → AllByRecursion (λ c. is_real c ≡ true) cs → IsOfParty file owner party cs → filter (is_range_of file owner) cs ≡ map (range_claim file owner party) (spans_of file owner cs)
ranges_are file owner party [] p real one = refl
ranges_are file owner party (c ∷ cs) p real one =
    let rest = ranges_are file owner party cs p real.1 (λ d h own range. one d (inr h) own range) in
    elim (cases_Bool (is_of file owner c)) [
      | inr apart ↦ rw apart rest
      | inl own ↦ rw own (by c.what refl own real.0 (one c (inl refl) own) rest)
    ]
  where
    by : (w : What) → c.what ≡ w → is_of file owner c ≡ true → is_real_by c.owner w ≡ true → (is_range c.what ≡ true → c.party ≡ party) → filter (is_range_of file owner) cs ≡ map (range_claim file owner party) (spans_of file owner cs)
        → (if is_range w then c ∷ filter (is_range_of file owner) cs else filter (is_range_of file owner) cs) ≡ map (range_claim file owner party) (with_span w (spans_of file owner cs))
    by (Share access deny) is own real whose rest = rest
    by (Cache kind running) is own real whose rest = rest
    by (Range (Empty offset) exclusive) is own real whose rest = absurd (both_ways (posix c.owner) (not-true (posix c.owner) real) (ap (λ (o : Owner). posix o) (is_of-true file owner c own).1 ∙ p))
    by (Range (Bytes first last) exclusive) is own real whose rest =
        let same = is_of-true file owner c own in
        λ i. as_range file owner party c first last exclusive is same.0 same.1 (whose (ap is_range is)) i ∷ rest i

-- ---- those that a range touches

spans_in-map : (file : ℕ) (owner : Owner) (party : Party) (ss : List Span) → spans_in (map (range_claim file owner party) ss) ≡ ss
spans_in-map file owner party [] = refl
spans_in-map file owner party (s ∷ ss) = λ i. record { first = s.first; last = s.last; mode = mode_exclusive s.mode i } ∷ spans_in-map file owner party ss i

end_later : (file : ℕ) (owner : Owner) (party : Party) (byte lo : ℕ) (ss : List Span) → byte ≤ lo → IsChain lo ss → AllByRecursion (λ c. range_ends_before byte c.what ≡ false) (map (range_claim file owner party) ss)
end_later file owner party byte lo [] h c = tt
end_later file owner party byte lo (s ∷ ss) h c = (le-ltb s.last byte (omega (arith, h, c.0, c.1)), end_later file owner party byte (s.last + 1) ss (omega (arith, h, c.0, c.1)) c.2)

begin_later : (file : ℕ) (owner : Owner) (party : Party) (byte lo : ℕ) (ss : List Span) → byte < lo - 1 → IsChain lo ss → AllByRecursion (λ c. range_begins_by byte c.what ≡ false) (map (range_claim file owner party) ss)
begin_later file owner party byte lo [] h c = tt
begin_later file owner party byte lo (s ∷ ss) h c = (lt-leb (s.first - 1) byte (omega (arith, h, c.0)), begin_later file owner party byte (s.last + 1) ss (omega (arith, h, c.0, c.1)) c.2)

ends_parted : (file : ℕ) (owner : Owner) (party : Party) (byte : ℕ) (ss : List Span) → IsCanonical ss → IsParted (λ c. range_ends_before byte c.what) (map (range_claim file owner party) ss)
ends_parted file owner party byte [] c = tt
ends_parted file owner party byte (s ∷ ss) c = (
  λ fails. end_later file owner party byte (s.last + 1) ss (omega (arith, ltb-false s.last byte fails)) (canonical_rest s ss c),
  ends_parted file owner party byte ss c.2,
)

begins_parted : (file : ℕ) (owner : Owner) (party : Party) (byte : ℕ) (ss : List Span) → IsCanonical ss → IsParted (λ c. range_begins_by byte c.what) (map (range_claim file owner party) ss)
begins_parted file owner party byte [] c = tt
begins_parted file owner party byte (s ∷ ss) c = (
  λ fails. begin_later file owner party byte (s.last + 1) ss (omega (arith, c.0, leb-false (s.first - 1) byte fails)) (canonical_rest s ss c),
  begins_parted file owner party byte ss c.2,
)

prefix_ends : (file : ℕ) (owner : Owner) (party : Party) (byte : ℕ) (ss : List Span) → prefix_len (λ c. range_ends_before byte c.what) (map (range_claim file owner party) ss) ≡ prefix_len (ends_before byte) ss
prefix_ends file owner party byte [] = refl
prefix_ends file owner party byte (s ∷ ss) = rw (prefix_ends file owner party byte ss) refl

prefix_begins : (file : ℕ) (owner : Owner) (party : Party) (byte : ℕ) (ss : List Span) → prefix_len (λ c. range_begins_by byte c.what) (map (range_claim file owner party) ss) ≡ prefix_len (begins_by (byte + 1)) ss
prefix_begins file owner party byte [] = refl
prefix_begins file owner party byte (s ∷ ss) = rw (prefix_begins file owner party byte ss, past s.first byte) refl where
  past : (first byte : ℕ) → nat_le (first - 1) byte ≡ nat_le first (byte + 1)
  past first byte = grind (arith, nat_tests)

canonical_drop : (n : ℕ) (ss : List Span) → IsCanonical ss → IsCanonical (drop n ss)
canonical_drop zero ss c = c
canonical_drop (suc n) [] c = tt
canonical_drop (suc n) (s ∷ ss) c = canonical_drop n ss c.2

canonical_take : (n : ℕ) (ss : List Span) → IsCanonical ss → IsCanonical (take n ss)
canonical_take zero ss c = tt
canonical_take (suc n) [] c = tt
canonical_take (suc n) (s ∷ ss) c = (c.0, first_of n ss c.1, canonical_take n ss c.2) where
  first_of : (n : ℕ) (ts : List Span) → IsBefore s ts → IsBefore s (take n ts)
  first_of zero ts b = tt
  first_of (suc n) [] b = tt
  first_of (suc n) (t ∷ ts) b = b

-- what a lock or unlock may ask of an owner's ranges, which are these spans
pub record AreRuns (file : ℕ) (owner : Owner) (party : Party) (first last : ℕ) (ss : List Span) (out : List Claim) : Type 0 where
  pub ending : IsParted (λ c. range_ends_before (first - 1) c.what) out
  pub beginning : IsParted (λ c. range_begins_by last c.what) out
  pub order : prefix_len (λ c. range_ends_before (first - 1) c.what) out ≤ prefix_len (λ c. range_begins_by last c.what) out
  pub part : (i j : ℕ) → spans_in (slice_range out i j) ≡ slice_range ss i j
  pub canonical : (i j : ℕ) → IsCanonical (spans_in (slice_range out i j))

pub are_runs : (file : ℕ) (owner : Owner) (party : Party) (first last : ℕ) (ss : List Span) (out : List Claim) → out ≡ map (range_claim file owner party) ss → IsCanonical ss → first ≤ last → AreRuns file owner party first last ss out
are_runs file owner party first last ss out is c ends =
    let rc = range_claim file owner party in
    let parts : (i j : ℕ) → spans_in (slice_range (map rc ss) i j) ≡ slice_range ss i j =
    λ i j. ap (λ (ds : List Claim). spans_in (take (j - i) ds)) (drop-map rc i ss) ∙ ap spans_in (take-map rc (j - i) (drop i ss)) ∙ spans_in-map file owner party (slice_range ss i j) in
    subst (λ (ds : List Claim). AreRuns file owner party first last ss ds) (sym is)
    (record {
      ending = ends_parted file owner party (first - 1) ss c;
      beginning = begins_parted file owner party last ss c;
      order = rw (prefix_ends file owner party (first - 1) ss, prefix_begins file owner party last ss) (places_in_order (first - 1) (last + 1) ss (omega (arith, ends)) c);
      part = parts;
      canonical = λ i j. subst (λ (xs : List Span). IsCanonical xs) (sym (parts i j)) (canonical_take (j - i) (drop i ss) (canonical_drop i ss c));
    })

pub runs_of : (ask : Claim) (first last : ℕ) (cs out : List Claim) (lo hi : ℕ) → IsKept cs → posix ask.owner ≡ true → is_range ask.what ≡ true → first ≤ last → AllByRecursion (λ c. has_one_party ask c ≡ true) cs
    → lo ≡ prefix_len (is_before (group ask.file 1 ask.owner)) cs → hi ≡ prefix_len (is_upto (group ask.file 1 ask.owner)) cs → out ≡ slice_range cs lo hi
    → AreRuns ask.file ask.owner ask.party first last (spans_of ask.file ask.owner cs) out
runs_of ask first last cs out lo hi kept p range ends one at_lo at_hi is =
    are_runs ask.file ask.owner ask.party first last (spans_of ask.file ask.owner cs) out
    (range_section ask.file ask.owner cs out lo hi kept.ordered at_lo at_hi is ∙ ranges_are ask.file ask.owner ask.party cs p kept.sound.real (of_party ask cs p range one))
    (kept.sound.canonical ask.file ask.owner p) ends

-- ---- a range is locked or unlocked

runs_ordered : (file : ℕ) (owner : Owner) (party : Party) (ss : List Span) → posix owner ≡ true → IsCanonical ss → Pairwise goes_first (map (range_claim file owner party) ss)
runs_ordered file owner party [] p c = tt
runs_ordered file owner party (s ∷ ss) p c = (later ss (later_spans s.first (s.last + 1) ss (omega (arith, c.0)) (canonical_rest s ss c)), runs_ordered file owner party ss p c.2) where
  later : (ts : List Span) → AllByRecursion (λ t. nat_le s.first t.first ≡ true) ts → AllByRecursion (λ d. goes_first (range_claim file owner party s) d ≡ true) (map (range_claim file owner party) ts)
  later [] all = tt
  later (t ∷ ts) all = (
    range_order (range_claim file owner party s) (range_claim file owner party t) s.first s.last t.first t.last (is_exclusive s.mode) (is_exclusive t.mode) refl refl p refl refl ∙ all.0,
    later ts all.1,
  )

runs_start : (file : ℕ) (owner : Owner) (party : Party) (ss : List Span) → AllByRecursion (λ n. starts (group file 1 owner) (key n) ≡ true) (map (range_claim file owner party) ss)
runs_start file owner party [] = tt
runs_start file owner party (s ∷ ss) = (starts_range file owner (range_claim file owner party s) ∙ rw (is_of-self file owner party s) refl, runs_start file owner party ss)

-- the list with the owner's runs in the place of its ranges
relocked_there : (file : ℕ) (owner : Owner) (party : Party) (first last : ℕ) (mode : Option Mode) (cs : List Claim) → IsKept cs → posix owner ≡ true → first ≤ last
    → relocked_in file owner party first last mode cs
    ≡ take (prefix_len (is_before (group file 1 owner)) cs) cs ++ (map (range_claim file owner party) (relocked (spans_of file owner cs) first last mode) ++ drop (prefix_len (is_upto (group file 1 owner)) cs) cs)
unfolding unranged
relocked_there file owner party first last mode cs kept p ends =
    let fs = group file 1 owner in
    let new = relocked (spans_of file owner cs) first last mode in
    let ns = map (range_claim file owner party) new in
    let front = take (prefix_len (is_before fs) cs) cs in
    let back = drop (prefix_len (is_upto fs) cs) cs in
    let cut = section_cut fs cs kept.ordered in
    relocked_is file owner party first last mode cs
    ∙ ap (λ (ds : List Claim). all_inserted ns ds) (sym (section_rest fs (is_range_of file owner) cs (starts_range file owner) kept.ordered))
    ∙ entered_between ns front back
    (runs_ordered file owner party new p (relocked_canonical (spans_of file owner cs) first last mode ends (kept.sound.canonical file owner p)))
    (are_between fs ns front back (runs_start file owner party new) cut.before cut.behind)

joined_parts : (front a b c back : List Claim) → (front ++ a) ++ (b ++ (c ++ back)) ≡ front ++ ((a ++ (b ++ c)) ++ back)
joined_parts front a b c back =
    append_assoc front a (b ++ (c ++ back))
    ∙ ap (λ (ds : List Claim). front ++ ds) (ap (λ (ds : List Claim). a ++ ds) (sym (append_assoc b c back)) ∙ sym (append_assoc a (b ++ c) back))

pub relock_is : (file : ℕ) (owner : Owner) (party : Party) (first last : ℕ) (mode : Option Mode) (cs out entered : List Claim) (lo hi i j : ℕ)
    → IsKept cs → posix owner ≡ true → first ≤ last → IsOfParty file owner party cs
    → lo ≡ prefix_len (is_before (group file 1 owner)) cs → hi ≡ prefix_len (is_upto (group file 1 owner)) cs → hi ≤ length cs → out ≡ slice_range cs lo hi
    → i ≡ prefix_len (λ c. range_ends_before (first - 1) c.what) out → j ≡ prefix_len (λ c. range_begins_by last c.what) out
    → entered ≡ map (range_claim file owner party) (relocked (spans_in (slice_range out i j)) first last mode)
    → take (lo + i) cs ++ (entered ++ drop (lo + j) cs) ≡ relocked_in file owner party first last mode cs
relock_is file owner party first last mode cs out entered lo hi i j kept p ends one at_lo at_hi within is at_i at_j new =
    let rc = range_claim file owner party in
    let fs = group file 1 owner in
    let ss = spans_of file owner cs in
    let canonical = kept.sound.canonical file owner p in
    let runs : out ≡ map rc ss = section_is fs (is_range_of file owner) cs out lo hi (starts_range file owner) kept.ordered at_lo at_hi is ∙ ranges_are file owner party cs p kept.sound.real one in
    let front = take lo cs in
    let back = drop hi cs in
    let order : lo ≤ hi = subst (λ (n : ℕ). n ≤ hi) (sym at_lo) (subst (λ (n : ℕ). prefix_len (is_before fs) cs ≤ n) (sym at_hi) (section_cut fs cs kept.ordered).order) in
    let whole : cs ≡ front ++ (out ++ back) = in_parts cs lo hi order ∙ ap (λ (ds : List Claim). front ++ (ds ++ back)) (sym is) in
    let size : length front ≡ lo = length-take-le lo cs (omega (arith, order, within)) in
    let i_is : i ≡ prefix_len (ends_before (first - 1)) ss = at_i ∙ ap (λ (ds : List Claim). prefix_len (λ c. range_ends_before (first - 1) c.what) ds) runs ∙ prefix_ends file owner party (first - 1) ss in
    let j_is : j ≡ prefix_len (begins_by (last + 1)) ss = at_j ∙ ap (λ (ds : List Claim). prefix_len (λ c. range_begins_by last c.what) ds) runs ∙ prefix_begins file owner party last ss in
    let i_in : i ≤ length out = subst (λ (n : ℕ). n ≤ length out) (sym at_i) (prefix_len-le-length (λ c. range_ends_before (first - 1) c.what) out) in
    let j_in : j ≤ length out = subst (λ (n : ℕ). n ≤ length out) (sym at_j) (prefix_len-le-length (λ c. range_begins_by last c.what) out) in
    let taken : take (lo + i) cs ≡ front ++ map rc (take i ss) = take_within cs front out back lo i whole size i_in ∙ ap (λ (ds : List Claim). front ++ take i ds) runs ∙ ap (λ (ds : List Claim). front ++ ds) (take-map rc i ss) in
    let dropped : drop (lo + j) cs ≡ map rc (drop j ss) ++ back = drop_within cs front out back lo j whole size j_in ∙ ap (λ (ds : List Claim). drop j ds ++ back) runs ∙ ap (λ (ds : List Claim). ds ++ back) (drop-map rc j ss) in
    let part = relocked (slice_range ss i j) first last mode in
    let fresh : entered ≡ map rc part = new ∙ ap (λ (xs : List Span). map rc (relocked xs first last mode)) ((are_runs file owner party first last ss out runs canonical ends).part i j) in
    let far : IsChain (last + 2) (drop (prefix_len (begins_by (last + 1)) ss) ss) = subst (λ (n : ℕ). IsChain n (drop (prefix_len (begins_by (last + 1)) ss) ss)) (omega arith) (chain_rest (last + 1) 0 ss (canonical_chain_all ss canonical)) in
    let in_place : relocked ss first last mode ≡ take i ss ++ (part ++ drop j ss) =
    relocked_in_place ss first last (last + 1) mode ends (omega arith) canonical far
    ∙ ap (λ (n : ℕ). take n ss ++ (relocked (slice_range ss n (prefix_len (begins_by (last + 1)) ss)) first last mode ++ drop (prefix_len (begins_by (last + 1)) ss) ss)) (sym i_is)
    ∙ ap (λ (n : ℕ). take i ss ++ (relocked (slice_range ss i n) first last mode ++ drop n ss)) (sym j_is) in
    let mapped : map rc (take i ss) ++ (map rc part ++ map rc (drop j ss)) ≡ map rc (relocked ss first last mode) =
    ap (λ (ds : List Claim). map rc (take i ss) ++ ds) (sym (map-append rc part (drop j ss))) ∙ sym (map-append rc (take i ss) (part ++ drop j ss)) ∙ ap (map rc) (sym in_place) in
    ap (λ (ds : List Claim). ds ++ (entered ++ drop (lo + j) cs)) taken
    ∙ ap (λ (ds : List Claim). (front ++ map rc (take i ss)) ++ (ds ++ drop (lo + j) cs)) fresh
    ∙ ap (λ (ds : List Claim). (front ++ map rc (take i ss)) ++ (map rc part ++ ds)) dropped
    ∙ joined_parts front (map rc (take i ss)) (map rc part) (map rc (drop j ss)) back
    ∙ ap (λ (ds : List Claim). front ++ (ds ++ back)) mapped
    ∙ ap (λ (n : ℕ). take n cs ++ (map rc (relocked ss first last mode) ++ back)) at_lo
    ∙ ap (λ (n : ℕ). take (prefix_len (is_before fs) cs) cs ++ (map rc (relocked ss first last mode) ++ drop n cs)) at_hi
    ∙ sym (relocked_there file owner party first last mode cs kept p ends)

-- ---- a share is granted

pub share_is : (c : Claim) (cs entered : List Claim) (lo hi : ℕ) → IsKept cs → is_share c.what ≡ true
    → lo ≡ prefix_len (is_before (group c.file 0 c.owner)) cs → hi ≡ prefix_len (is_upto (group c.file 0 c.owner)) cs → entered ≡ united c cs ∷ []
    → take lo cs ++ (entered ++ drop hi cs) ≡ shared_in c cs
unfolding shared_in unshared
share_is c cs entered lo hi kept share at_lo at_hi new =
    let fs = group c.file 0 c.owner in
    let one = united c cs in
    let front = take (prefix_len (is_before fs) cs) cs in
    let back = drop (prefix_len (is_upto fs) cs) cs in
    let cut = section_cut fs cs kept.ordered in
    let mine : is_share_of c.file c.owner one ≡ true = and_from (is_of c.file c.owner one) (is_share one.what) (and_from (c.file == c.file) (same_owners c.owner c.owner) (eq-eqb c.file c.file refl) (same_owners-self c.owner)) (united_share c.owner c.what (old_shares c.file c.owner cs) share) in
    ap (λ (n : ℕ). take n cs ++ (entered ++ drop hi cs)) at_lo
    ∙ ap (λ (n : ℕ). front ++ (entered ++ drop n cs)) at_hi
    ∙ ap (λ (ds : List Claim). front ++ (ds ++ back)) new
    ∙ sym (entered_between (one ∷ []) front back (tt, tt) (are_between fs (one ∷ []) front back (starts_share c.file c.owner one ∙ mine, tt) cut.before cut.behind))
    ∙ ap (λ (ds : List Claim). inserted one ds) (section_rest fs (is_share_of c.file c.owner) cs (starts_share c.file c.owner) kept.ordered)

pub united_is : (c one : Claim) (cs out : List Claim) (lo hi : ℕ) → IsKept cs
    → lo ≡ prefix_len (is_before (group c.file 0 c.owner)) cs → hi ≡ prefix_len (is_upto (group c.file 0 c.owner)) cs → out ≡ slice_range cs lo hi
    → one ≡ with_what c (united_by c.owner c.what out) → one ≡ united c cs
unfolding old_shares
united_is c one cs out lo hi kept at_lo at_hi is e =
    e ∙ ap (λ (ds : List Claim). with_what c (united_by c.owner c.what ds)) (share_section c.file c.owner cs out lo hi kept.ordered at_lo at_hi is)

-- ---- the change as a file's claims are written

pub spliced_is : (change : Change) (cs entered : List Claim) (start end : ℕ) → change.start ≡ start → change.end ≡ end → change.entered.items ≡ entered → spliced change cs ≡ take start cs ++ (entered ++ drop end cs)
unfolding spliced
spliced_is change cs entered start end a b e =
    ap (λ (n : ℕ). take n cs ++ (change.entered.items ++ drop change.end cs)) a ∙ ap (λ (n : ℕ). take start cs ++ (change.entered.items ++ drop n cs)) b ∙ ap (λ (ds : List Claim). take start cs ++ (ds ++ drop end cs)) e

pub is_on : (file n start end : ℕ) (on entered : List Claim) (change : Change) → change.file ≡ file → change.start ≡ start → change.end ≡ end → change.entered.items ≡ entered → change.held + (end - start) ≡ n + length entered → start ≤ end → end ≤ length on → AreOn file entered → IsOn file n on change
is_on file n start end on entered change at a b e count order within own = record {
  file = at;
  order = omega (arith, a, b, order);
  within = omega (arith, b, within);
  own = subst (λ (ds : List Claim). AreOn file ds) (sym e) own;
  count = omega (arith, a, b, count, ap (λ (ds : List Claim). length ds) e);
}
