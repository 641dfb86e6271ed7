-- What a lock or unlock of a range leaves: the owner's ranges are the new runs, and all else stands as it stood.
use Rattle.std.proofs.Common.{◌≡◌, ℕ, ◌+◌, ◌≤◌, Bool, true, false, not, ◌&&◌, ◌==◌, nat_le, if◌then◌else◌, ◌⊎◌, inl, inr, List, [], ◌∷◌, length, map, Option, refl, sym, ap, subst, ◌∙◌, arith}
use Rattle.std.specs.List.{AllByRecursion, filter}
use Rattle.std.proofs.lemmas.Bool.{cases_Bool, both_ways, and_parts, and_from, and_left, and_right, or_left, or_right, or_cases, false_from_ne_true, not-true, not_from_false, eqb-true, eq-eqb, le-leb}
use Rattle.xl_base.specs.Lists.{IsIn, Pairwise, placed}
use Rattle.xl_base.proofs.Members.{all_in, all_from, in_map_from, in_filter_from, pairwise_filter}
use Rattle.xl_base.specs.declared.name.Owner.{Owner}
use Rattle.xl_base.specs.declared.name.Party.{Party}
use Rattle.xl_matrix.specs.declared.claim.Claim.{Claim}
use Rattle.xl_matrix.specs.Equal.{same_owners, same_parties}
use Rattle.xl_matrix.specs.Owners.{posix}
use Rattle.xl_matrix.proofs.EqualLaws.{same_owners-true, same_owners-self, same_parties-self, same_parties-true, eqb-sym, same_owners-sym}
use Rattle.xl_spans.specs.Spans.{IsCanonical, relocked}
use Rattle.xl_spans.specs.declared.span.Mode.{Mode}
use Rattle.xl_spans.specs.declared.span.Mode.TheVariants.{Shared, Exclusive}
use Rattle.xl_spans.specs.declared.span.Span.{Span}
use Rattle.xl_spans.proofs.Bytes.{AreRanges}
use Rattle.xl_spans.proofs.Chains.{IsChain, canonical_rest, canonical_ranges, relocked_canonical}
use Rattle.xl_table.specs.Flat.{inserted}
use Rattle.xl_table.specs.Held.{mode_of, is_range, is_real, has_one_party, with_span, is_of, spans_of, begins_first, IsSound, IsKept}
use Rattle.xl_table.specs.Order.{goes_first}
use Rattle.xl_table.specs.Relock.{is_exclusive, range_claim, is_range_of, unranged, all_inserted, relocked_in}
use Rattle.xl_table.proofs.FlatLaws.{all_inserted as all_put, pairwise_into, length_inserted}
use Rattle.xl_table.proofs.InsertLaws.{not_range, one_party-sym, spans_of-inserted_own, spans_of-inserted_apart}
use Rattle.xl_table.proofs.OrderLaws.{inserted_ordered}
use Rattle.xl_table.proofs.SpanLaws.{filter_good}

-- ---- the owner's spans afterwards

abbrev all_placed : List Span → List Span → List Span
all_placed [] ss = ss
all_placed (x ∷ xs) ss = all_placed xs (placed begins_first x ss)

-- what is put behind a span leaves it first
placed_behind : (t : Span) (xs ss : List Span) → AllByRecursion (λ x. begins_first t x ≡ true) xs → all_placed xs (t ∷ ss) ≡ t ∷ all_placed xs ss
placed_behind t [] ss all = refl
placed_behind t (x ∷ xs) ss all = rw all.0 (placed_behind t xs (placed begins_first x ss) all.1)

pub later_spans : (n lo : ℕ) (ss : List Span) → n ≤ lo → IsChain lo ss → AllByRecursion (λ s. nat_le n s.first ≡ true) ss
later_spans n lo [] h c = tt
later_spans n lo (s ∷ ss) h c = (le-leb n s.first (omega (arith, h, c.0)), later_spans n (s.last + 1) ss (omega (arith, h, c.0, c.1)) c.2)

-- maximal runs put in one after another make up the runs
placed_again : (ss : List Span) → IsCanonical ss → all_placed ss [] ≡ ss
placed_again [] c = refl
placed_again (s ∷ ss) c =
    placed_behind s ss [] (later_spans s.first (s.last + 1) ss (omega (arith, c.0)) (canonical_rest s ss c)) ∙ ap (λ (ts : List Span). s ∷ ts) (placed_again ss c.2)

none_unranged : (file : ℕ) (owner : Owner) (cs : List Claim) → spans_of file owner (unranged file owner cs) ≡ []
unfolding unranged
none_unranged file owner [] = refl
none_unranged file owner (c ∷ cs) =
    elim (cases_Bool (is_of file owner c)) [
      | inr apart ↦ rw apart (rw apart (none_unranged file owner cs))
      | inl own ↦ elim (cases_Bool (is_range c.what)) [
        | inl range ↦ rw (own, range) (none_unranged file owner cs)
        | inr other ↦ rw (own, other) (rw own (not_range c.what other (spans_of file owner (filter (λ d. not (is_range_of file owner d)) cs)) ∙ none_unranged file owner cs))
      ]
    ]

pub is_of-self : (file : ℕ) (owner : Owner) (party : Party) (s : Span) → is_of file owner (range_claim file owner party s) ≡ true
is_of-self file owner party s = and_from (file == file) (same_owners owner owner) (eq-eqb file file refl) (same_owners-self owner)

pub mode_exclusive : (m : Mode) → mode_of (is_exclusive m) ≡ m
mode_exclusive Shared = refl
mode_exclusive Exclusive = refl

pub relocked_is : (file : ℕ) (owner : Owner) (party : Party) (first last : ℕ) (mode : Option Mode) (cs : List Claim) → relocked_in file owner party first last mode cs ≡ all_inserted (map (range_claim file owner party) (relocked (spans_of file owner cs) first last mode)) (unranged file owner cs)
unfolding relocked_in
relocked_is file owner party first last mode cs = refl

pub all_ordered : (cs held : List Claim) → Pairwise goes_first held → Pairwise goes_first (all_inserted cs held)
all_ordered [] held ordered = ordered
all_ordered (c ∷ cs) held ordered = all_ordered cs (inserted c held) (inserted_ordered c held ordered)

spans_of-all_inserted : (file : ℕ) (owner : Owner) (party : Party) (xs : List Span) (held : List Claim) → posix owner ≡ true → Pairwise goes_first held → spans_of file owner (all_inserted (map (range_claim file owner party) xs) held) ≡ all_placed xs (spans_of file owner held)
spans_of-all_inserted file owner party [] held p ordered = refl
spans_of-all_inserted file owner party (x ∷ xs) held p ordered =
    let c = range_claim file owner party x in
    spans_of-all_inserted file owner party xs (inserted c held) p (inserted_ordered c held ordered)
    ∙ ap (λ (ss : List Span). all_placed xs ss)
    (spans_of-inserted_own file owner c x.first x.last (is_exclusive x.mode) held (is_of-self file owner party x) p refl ordered
    ∙ ap (λ (m : Mode). placed begins_first (record { first = x.first; last = x.last; mode = m }) (spans_of file owner held)) (mode_exclusive x.mode))

left_ordered : (file : ℕ) (owner : Owner) (cs : List Claim) → Pairwise goes_first cs → Pairwise goes_first (unranged file owner cs)
unfolding unranged
left_ordered file owner cs ordered = pairwise_filter goes_first (λ c. not (is_range_of file owner c)) cs ordered

-- the owner has the new runs
pub spans_of-relocked : (file : ℕ) (owner : Owner) (party : Party) (first last : ℕ) (mode : Option Mode) (cs : List Claim) → IsKept cs → posix owner ≡ true → first ≤ last → spans_of file owner (relocked_in file owner party first last mode cs) ≡ relocked (spans_of file owner cs) first last mode
unfolding relocked_in
spans_of-relocked file owner party first last mode cs kept p ends =
    let new = relocked (spans_of file owner cs) first last mode in
    spans_of-all_inserted file owner party new (unranged file owner cs) p (left_ordered file owner cs kept.ordered)
    ∙ ap (λ (ss : List Span). all_placed new ss) (none_unranged file owner cs)
    ∙ placed_again new (relocked_canonical (spans_of file owner cs) first last mode ends (kept.sound.canonical file owner p))

pub is_of-true : (file : ℕ) (owner : Owner) (c : Claim) → is_of file owner c ≡ true → (c.file ≡ file) × (c.owner ≡ owner)
is_of-true file owner c h =
    let parts = and_parts (c.file == file) (same_owners c.owner owner) h in
    (eqb-true c.file file parts.0, same_owners-true c.owner owner parts.1)

-- a claim of one owner and file is of no other
pub of_no_other : (file : ℕ) (owner : Owner) (at : ℕ) (who : Owner) (c : Claim) → ((at ≡ file) × (who ≡ owner) → ⊥) → is_of file owner c ≡ true → is_of at who c ≡ false
of_no_other file owner at who c apart own =
    let mine = is_of-true file owner c own in
    false_from_ne_true (is_of at who c) (λ (there : is_of at who c ≡ true). let yours = is_of-true at who c there in apart (sym yours.0 ∙ mine.0, sym yours.1 ∙ mine.1))

spans_of-unranged_apart : (file : ℕ) (owner : Owner) (at : ℕ) (who : Owner) (cs : List Claim) → ((at ≡ file) × (who ≡ owner) → ⊥) → spans_of at who (unranged file owner cs) ≡ spans_of at who cs
unfolding unranged
spans_of-unranged_apart file owner at who [] apart = refl
spans_of-unranged_apart file owner at who (c ∷ cs) apart =
    let rest = spans_of-unranged_apart file owner at who cs apart in
    elim (cases_Bool (is_of file owner c)) [
      | inl own ↦ elim (cases_Bool (is_range c.what)) [
        | inl range ↦ rw (own, range, of_no_other file owner at who c apart own) rest
        | inr other ↦ rw (own, other, of_no_other file owner at who c apart own) rest
      ]
      | inr other ↦ rw other (ap (λ (ss : List Span). if is_of at who c then with_span c.what ss else ss) rest)
    ]

spans_of-inserted_all_apart : (file : ℕ) (owner : Owner) (party : Party) (at : ℕ) (who : Owner) (xs : List Span) (held : List Claim) → ((at ≡ file) × (who ≡ owner) → ⊥) → spans_of at who (all_inserted (map (range_claim file owner party) xs) held) ≡ spans_of at who held
spans_of-inserted_all_apart file owner party at who [] held apart = refl
spans_of-inserted_all_apart file owner party at who (x ∷ xs) held apart =
    let c = range_claim file owner party x in
    spans_of-inserted_all_apart file owner party at who xs (inserted c held) apart
    ∙ spans_of-inserted_apart at who c held (of_no_other file owner at who c apart (is_of-self file owner party x))

-- every other owner, and every other file, has what it had
pub spans_of-relocked_apart : (file : ℕ) (owner : Owner) (party : Party) (first last : ℕ) (mode : Option Mode) (cs : List Claim) (at : ℕ) (who : Owner) → ((at ≡ file) × (who ≡ owner) → ⊥) → spans_of at who (relocked_in file owner party first last mode cs) ≡ spans_of at who cs
unfolding relocked_in
spans_of-relocked_apart file owner party first last mode cs at who apart =
    spans_of-inserted_all_apart file owner party at who (relocked (spans_of file owner cs) first last mode) (unranged file owner cs) apart
    ∙ spans_of-unranged_apart file owner at who cs apart

-- ---- what holds of each of the claims, and of each two

pub all_all_inserted : (P : Claim → Type 0) (cs held : List Claim) → AllByRecursion P cs → AllByRecursion P held → AllByRecursion P (all_inserted cs held)
all_all_inserted P [] held new old = old
all_all_inserted P (c ∷ cs) held new old = all_all_inserted P cs (inserted c held) new.1 (all_put P c held new.0 old)

in_inserted_from : (c : Claim) (held : List Claim) (d : Claim) → IsIn d (inserted c held) → (d ≡ c) ⊎ IsIn d held
unfolding inserted
in_inserted_from c [] d h = elim h [ inl e ↦ inl (sym e) | inr none ↦ absurd none ]
in_inserted_from c (x ∷ xs) d h =
    elim (cases_Bool (goes_first x c)) [
      | inl earlier ↦ elim (rw earlier at h) [
        | inl e ↦ inr (inl e)
        | inr later ↦ elim (in_inserted_from c xs d later) [ inl e ↦ inl e | inr more ↦ inr (inr more) ]
      ]
      | inr later ↦ elim (rw later at h) [ inl e ↦ inl (sym e) | inr more ↦ inr more ]
    ]

-- a test of two claims passes for each two, where it does for those that stood there, for the new ones, and across
pub pairwise_all_inserted : (test : Claim → Claim → Bool) → ((a b : Claim) → test a b ≡ test b a) → (cs held : List Claim) → Pairwise test cs → Pairwise test held → ((c d : Claim) → IsIn c cs → IsIn d held → test c d ≡ true) → Pairwise test (all_inserted cs held)
pairwise_all_inserted test flip [] held new old across = old
pairwise_all_inserted test flip (c ∷ cs) held new old across =
    pairwise_all_inserted test flip cs (inserted c held) new.1
    (pairwise_into test flip c held (all_from (λ d. test c d ≡ true) held (λ d h. across c d (inl refl) h)) old)
    (λ x d h k. elim (in_inserted_from c held d k) [
      | inl e ↦ flip x d ∙ subst (λ (y : Claim). test y x ≡ true) (sym e) (all_in (λ y. test c y ≡ true) x cs new.0 h)
      | inr there ↦ across x d (inr h) there
    ])

pub length_all_inserted : (cs held : List Claim) → length (all_inserted cs held) ≡ length cs + length held
length_all_inserted [] held = omega arith
length_all_inserted (c ∷ cs) held = omega (arith, length_all_inserted cs (inserted c held), length_inserted c held)

-- ---- the list is sound afterwards

-- each range of the owner on the file is of this party
abbrev pub IsOfParty : ℕ → Owner → Party → List Claim → Type 0
IsOfParty file owner party cs = (c : Claim) → IsIn c cs → is_of file owner c ≡ true → is_range c.what ≡ true → c.party ≡ party

-- two ranges with one party, or two that are not ranges of one owner on one file
one_party_new : (a b : Claim) → a.party ≡ b.party → has_one_party a b ≡ true
one_party_new a b e =
    or_right (not (posix a.owner && (is_range a.what && (is_range b.what && ((a.file == b.file) && same_owners a.owner b.owner))))) (same_parties a.party b.party)
    (subst (λ (p : Party). same_parties a.party p ≡ true) e (same_parties-self a.party))

one_party_old : (a b : Claim) → (is_of a.file a.owner b ≡ true → is_range b.what ≡ true → b.party ≡ a.party) → has_one_party a b ≡ true
one_party_old a b is =
    elim (cases_Bool (is_range b.what && is_of a.file a.owner b)) [
      | inl own ↦ let both = and_parts (is_range b.what) (is_of a.file a.owner b) own in one_party_new a b (sym (is both.1 both.0))
      | inr other ↦
          or_left (not (posix a.owner && (is_range a.what && (is_range b.what && ((a.file == b.file) && same_owners a.owner b.owner))))) (same_parties a.party b.party)
          (not_from_false (posix a.owner && (is_range a.what && (is_range b.what && ((a.file == b.file) && same_owners a.owner b.owner))))
          (and_right (posix a.owner) (is_range a.what && (is_range b.what && ((a.file == b.file) && same_owners a.owner b.owner)))
          (and_right (is_range a.what) (is_range b.what && ((a.file == b.file) && same_owners a.owner b.owner))
          (rw (eqb-sym a.file b.file, same_owners-sym a.owner b.owner) other))))
    ]

-- the ranges of an SMB open stand one by one, whatever party they have
pub one_party_open : (a b : Claim) → posix a.owner ≡ false → has_one_party a b ≡ true
one_party_open a b smb =
    or_left (not (posix a.owner && (is_range a.what && (is_range b.what && ((a.file == b.file) && same_owners a.owner b.owner))))) (same_parties a.party b.party)
    (not_from_false _ (and_left (posix a.owner) (is_range a.what && (is_range b.what && ((a.file == b.file) && same_owners a.owner b.owner))) smb))

new_parties : (file : ℕ) (owner : Owner) (party : Party) (xs : List Span) → Pairwise has_one_party (map (range_claim file owner party) xs)
new_parties file owner party [] = tt
new_parties file owner party (x ∷ xs) = (
  all_from (λ c. has_one_party (range_claim file owner party x) c ≡ true) (map (range_claim file owner party) xs)
      (λ c h. let from = in_map_from (range_claim file owner party) c xs h in one_party_new (range_claim file owner party x) c (ap (λ (d : Claim). d.party) from.2)),
  new_parties file owner party xs,
)

new_real : (file : ℕ) (owner : Owner) (party : Party) (xs : List Span) → posix owner ≡ true → AreRanges xs → AllByRecursion (λ c. is_real c ≡ true) (map (range_claim file owner party) xs)
new_real file owner party [] p ranges = tt
new_real file owner party (x ∷ xs) p ranges = (rw (le-leb x.first x.last ranges.0, p) refl, new_real file owner party xs p ranges.1)

pub left_in : (file : ℕ) (owner : Owner) (cs : List Claim) (c : Claim) → IsIn c (unranged file owner cs) → IsIn c cs
unfolding unranged
left_in file owner cs c h = (in_filter_from (λ (d : Claim). not (is_range_of file owner d)) c cs h).0

pub left_all : (P : Claim → Type 0) (file : ℕ) (owner : Owner) (cs : List Claim) → AllByRecursion P cs → AllByRecursion P (unranged file owner cs)
left_all P file owner cs all = all_from P (unranged file owner cs) (λ c h. all_in P c cs all (left_in file owner cs c h))

pub left_pairwise : (test : Claim → Claim → Bool) (file : ℕ) (owner : Owner) (cs : List Claim) → Pairwise test cs → Pairwise test (unranged file owner cs)
unfolding unranged
left_pairwise test file owner cs all = pairwise_filter test (λ c. not (is_range_of file owner c)) cs all

pub sound_relocked : (file : ℕ) (owner : Owner) (party : Party) (first last : ℕ) (mode : Option Mode) (cs : List Claim) → IsKept cs → posix owner ≡ true → first ≤ last → IsOfParty file owner party cs → IsSound (relocked_in file owner party first last mode cs)
sound_relocked file owner party first last mode cs kept p ends one = record {
  real = real;
  parties = parties;
  canonical = canonical;
} where
  new : List Claim
  new = map (range_claim file owner party) (relocked (spans_of file owner cs) first last mode)

  left : List Claim
  left = unranged file owner cs

  is : relocked_in file owner party first last mode cs ≡ all_inserted new left
  is = relocked_is file owner party first last mode cs

  real : AllByRecursion (λ c. is_real c ≡ true) (relocked_in file owner party first last mode cs)
  real =
      subst (λ (ds : List Claim). AllByRecursion (λ c. is_real c ≡ true) ds) (sym is)
      (all_all_inserted (λ c. is_real c ≡ true) new left
      (new_real file owner party (relocked (spans_of file owner cs) first last mode) p (canonical_ranges (relocked (spans_of file owner cs) first last mode) (relocked_canonical (spans_of file owner cs) first last mode ends (kept.sound.canonical file owner p))))
      (left_all (λ c. is_real c ≡ true) file owner cs kept.sound.real))

  across : (c d : Claim) → IsIn c new → IsIn d left → has_one_party c d ≡ true
  across c d h k =
      let from = in_map_from (range_claim file owner party) c (relocked (spans_of file owner cs) first last mode) h in
      subst (λ (e : Claim). has_one_party e d ≡ true) from.2
      (one_party_old (range_claim file owner party from.0) d (λ own range. one d (left_in file owner cs d k) own range))

  parties : Pairwise has_one_party (relocked_in file owner party first last mode cs)
  parties =
      subst (λ (ds : List Claim). Pairwise has_one_party ds) (sym is)
      (pairwise_all_inserted has_one_party one_party-sym new left (new_parties file owner party (relocked (spans_of file owner cs) first last mode))
      (left_pairwise has_one_party file owner cs kept.sound.parties) across)

  canonical : (at : ℕ) (who : Owner) → posix who ≡ true → IsCanonical (spans_of at who (relocked_in file owner party first last mode cs))
  canonical at who q =
      elim (cases_Bool ((at == file) && same_owners who owner)) [
        | inl same ↦
            let parts = and_parts (at == file) (same_owners who owner) same in
            rw (eqb-true at file parts.0, same_owners-true who owner parts.1)
            (subst (λ (ss : List Span). IsCanonical ss) (sym (spans_of-relocked file owner party first last mode cs kept p ends))
            (relocked_canonical (spans_of file owner cs) first last mode ends (kept.sound.canonical file owner p)))
        | inr apart ↦
            subst (λ (ss : List Span). IsCanonical ss)
            (sym (spans_of-relocked_apart file owner party first last mode cs at who (λ e. both_ways ((at == file) && same_owners who owner) apart
            (and_from (at == file) (same_owners who owner) (eq-eqb at file e.0) (subst (λ (o : Owner). same_owners o owner ≡ true) (sym e.1) (same_owners-self owner))))))
            (kept.sound.canonical at who q)
      ]

-- ---- the list is kept afterwards

pub length_split : (p : Claim → Bool) (cs : List Claim) → length (filter p cs) + length (filter (λ c. not (p c)) cs) ≡ length cs
length_split p [] = omega arith
length_split p (c ∷ cs) =
    elim (cases_Bool (p c)) [
      | inl passes ↦ rw passes (omega (arith, length_split p cs))
      | inr fails ↦ rw fails (omega (arith, length_split p cs))
    ]

pub length_new : (file : ℕ) (owner : Owner) (party : Party) (xs : List Span) → length (map (range_claim file owner party) xs) ≡ length xs
length_new file owner party [] = refl
length_new file owner party (x ∷ xs) = omega (arith, length_new file owner party xs)

pub ordered_relocked : (file : ℕ) (owner : Owner) (party : Party) (first last : ℕ) (mode : Option Mode) (cs : List Claim) → Pairwise goes_first cs → Pairwise goes_first (relocked_in file owner party first last mode cs)
unfolding relocked_in
ordered_relocked file owner party first last mode cs ordered =
    all_ordered (map (range_claim file owner party) (relocked (spans_of file owner cs) first last mode)) (unranged file owner cs) (left_ordered file owner cs ordered)

pub kept_relocked : (file : ℕ) (owner : Owner) (party : Party) (first last : ℕ) (mode : Option Mode) (cs : List Claim) → IsKept cs → posix owner ≡ true → first ≤ last → IsOfParty file owner party cs → length (relocked_in file owner party first last mode cs) ≤ 16384 → IsKept (relocked_in file owner party first last mode cs)
kept_relocked file owner party first last mode cs kept p ends one fits = record {
  sound = sound_relocked file owner party first last mode cs kept p ends one;
  ordered = ordered_relocked file owner party first last mode cs kept.ordered;
  room = fits;
}

-- where each of these and a range that is asked have one party, if they have one owner and file
pub of_party : (ask : Claim) (cs : List Claim) → posix ask.owner ≡ true → is_range ask.what ≡ true → AllByRecursion (λ c. has_one_party ask c ≡ true) cs → IsOfParty ask.file ask.owner ask.party cs
of_party ask cs posixes range all c h own other =
    let same = is_of-true ask.file ask.owner c own in
    let both : (posix ask.owner && (is_range ask.what && (is_range c.what && ((ask.file == c.file) && same_owners ask.owner c.owner)))) ≡ true =
    rw (posixes, range, other, eq-eqb ask.file c.file (sym same.0), subst (λ (o : Owner). same_owners ask.owner o ≡ true) (sym same.1) (same_owners-self ask.owner)) refl in
    let one : same_parties ask.party c.party ≡ true =
    elim (or_cases (not (posix ask.owner && (is_range ask.what && (is_range c.what && ((ask.file == c.file) && same_owners ask.owner c.owner))))) (same_parties ask.party c.party) (all_in (λ d. has_one_party ask d ≡ true) c cs all h)) [
      | inl apart ↦ absurd (both_ways (posix ask.owner && (is_range ask.what && (is_range c.what && ((ask.file == c.file) && same_owners ask.owner c.owner)))) (not-true (posix ask.owner && (is_range ask.what && (is_range c.what && ((ask.file == c.file) && same_owners ask.owner c.owner)))) apart) both)
      | inr same ↦ same
    ] in
    sym (same_parties-true ask.party c.party one)

pub all_one_party : (ask : Claim) (cs : List Claim) → IsOfParty ask.file ask.owner ask.party cs → AllByRecursion (λ c. has_one_party ask c ≡ true) cs
all_one_party ask cs one = all_from (λ c. has_one_party ask c ≡ true) cs (λ c h. one_party_old ask c (one c h))

-- without some of the claims the list is kept
pub kept_filter : (p : Claim → Bool) (cs : List Claim) → IsKept cs → IsKept (filter p cs)
kept_filter p cs kept = record {
  sound = record {
    real = all_from (λ c. is_real c ≡ true) (filter p cs) (λ c h. all_in (λ d. is_real d ≡ true) c cs kept.sound.real (in_filter_from p c cs h).0);
    parties = pairwise_filter has_one_party p cs kept.sound.parties;
    canonical = λ file owner q. (filter_good file owner p cs).canonical (kept.sound.canonical file owner q);
  };
  ordered = pairwise_filter goes_first p cs kept.ordered;
  room = omega (arith, kept.room, length_split p cs);
}
