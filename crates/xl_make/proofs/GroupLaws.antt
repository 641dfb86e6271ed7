-- How many claims there are of few owners, on few files, within few bytes.
use Rattle.std.proofs.Common.{◌≡◌, ℕ, ◌+◌, ◌<◌, ◌≤◌, true, inl, inr, List, [], ◌∷◌, map, length, Option, refl, sym, ap₂, subst, ◌∙◌, arith}
use Rattle.std.specs.List.{AllByRecursion}
use Rattle.std.proofs.lemmas.Bool.{cases_Bool, cases_eq}
use Rattle.xl_base.specs.declared.name.Owner.{Owner}
use Rattle.xl_base.specs.declared.name.Owner.TheVariants as owners
use Rattle.xl_base.specs.declared.name.Party.{Party}
use Rattle.xl_base.specs.declared.name.Protocol.TheVariants.{Nlm}
use Rattle.xl_matrix.specs.declared.claim.Claim.{Claim}
use Rattle.xl_matrix.specs.declared.claim.Extent.TheVariants.{Bytes, Empty}
use Rattle.xl_matrix.specs.declared.claim.What.{What}
use Rattle.xl_matrix.specs.declared.claim.What.TheVariants.{Share, Range, Cache}
use Rattle.xl_spans.specs.Spans.{IsCanonical, IsBefore, EndsBelow, relocked}
use Rattle.xl_spans.specs.declared.span.Mode.{Mode}
use Rattle.xl_spans.specs.declared.span.Mode.TheVariants.{Exclusive}
use Rattle.xl_spans.specs.declared.span.Span.{Span}
use Rattle.xl_spans.proofs.Chains.{relocked_canonical}
use Rattle.xl_spans.proofs.Untouched.{relocked_below}
use Rattle.xl_table.specs.Held.{is_of, with_span, spans_of, IsKept}
use Rattle.xl_table.specs.Relock.{range_claim, relocked_in}
use Rattle.xl_table.proofs.WriteBack.{is_of-self, relocked_is, all_all_inserted, left_all, spans_of-relocked, spans_of-relocked_apart}
use Rattle.xl_make.proofs.SumLaws.{sum_below, sum_most, sum_more, sum_each}

abbrev pub owner_at : ℕ → Owner
owner_at number = owners.Name Nlm number

-- a range with bytes
abbrev pub HasBytes : What → Type 0
HasBytes (Range (Bytes first last) exclusive) = Unit {0}
HasBytes _ = ⊥

-- a range of one of five owners of NLM on one of nine files
abbrev pub IsFew : Claim → Type 0
IsFew c = HasBytes c.what × (c.file < 9) × ((number : ℕ) × (number < 5) × (c.owner ≡ owner_at number))

-- such claims, in the bytes below 160
pub record AreFew (cs : List Claim) : Type 0 where
  pub each : AllByRecursion IsFew cs
  pub ends : (file number : ℕ) → EndsBelow 160 (spans_of file (owner_at number) cs)

-- ---- one group

abbrev starts_from : ℕ → List Span → Type 0
starts_from lo [] = Unit {0}
starts_from lo (s ∷ ss) = lo ≤ s.first

later : (s : Span) (ss : List Span) → IsBefore s ss → starts_from (s.last + 1) ss
later s [] before = tt
later s (t ∷ ts) before = omega (arith, before.0)

fits : (lo hi : ℕ) (ss : List Span) → IsCanonical ss → starts_from lo ss → EndsBelow hi ss → lo ≤ hi → length ss + lo ≤ hi
fits lo hi [] canonical starts ends room = omega (arith, room)
fits lo hi (s ∷ ss) canonical starts ends room =
    omega (arith, starts, canonical.0, ends.0, fits (s.last + 1) hi ss canonical.2 (later s ss canonical.1) ends.1 (omega (arith, ends.0)))

starts_anywhere : (ss : List Span) → starts_from 0 ss
starts_anywhere [] = tt
starts_anywhere (s ∷ ss) = omega arith

group_most : (ss : List Span) → IsCanonical ss → EndsBelow 160 ss → length ss ≤ 160
group_most ss canonical ends = omega (arith, fits 0 160 ss canonical (starts_anywhere ss) ends (omega arith))

-- ---- all groups

abbrev grouped : List Claim → ℕ → ℕ → ℕ
grouped cs file number = length (spans_of file (owner_at number) cs)

abbrev on_file : List Claim → ℕ → ℕ
on_file cs file = sum_below 5 (grouped cs file)

abbrev counted : List Claim → ℕ
counted cs = sum_below 9 (on_file cs)

with_more : (what : What) (ss : List Span) → length ss ≤ length (with_span what ss)
with_more (Range (Bytes first last) exclusive) ss = omega arith
with_more (Range (Empty offset) exclusive) ss = omega arith
with_more (Share access deny) ss = omega arith
with_more (Cache kind running) ss = omega arith

with_one : (what : What) (ss : List Span) → HasBytes what → length ss + 1 ≤ length (with_span what ss)
with_one (Range (Bytes first last) exclusive) ss has = omega arith
with_one (Range (Empty offset) exclusive) ss has = absurd has
with_one (Share access deny) ss has = absurd has
with_one (Cache kind running) ss has = absurd has

group_rises : (c : Claim) (cs : List Claim) (file number : ℕ) → grouped cs file number ≤ grouped (c ∷ cs) file number
group_rises c cs file number =
    elim (cases_Bool (is_of file (owner_at number) c)) [
      | inl own ↦ rw own (with_more c.what (spans_of file (owner_at number) cs))
      | inr other ↦ rw other (omega arith)
    ]

group_grows : (c : Claim) (cs : List Claim) (file number : ℕ) → is_of file (owner_at number) c ≡ true → HasBytes c.what → grouped cs file number + 1 ≤ grouped (c ∷ cs) file number
group_grows c cs file number own has = rw own (with_one c.what (spans_of file (owner_at number) cs) has)

own_is : (file : ℕ) (owner : Owner) (c : Claim) → c.file ≡ file → c.owner ≡ owner → is_of file owner c ≡ true
own_is file owner c at who =
    ap₂ (λ (f : ℕ) (o : Owner). is_of file owner (record { file = f; owner = o; party = c.party; what = c.what })) at who
    ∙ is_of_own file owner c.party c.what
  where
    is_of_own : (file : ℕ) (owner : Owner) (party : Party) (what : What) → is_of file owner (record { file = file; owner = owner; party = party; what = what }) ≡ true
    is_of_own file owner party what = is_of-self file owner party (record { first = 0; last = 0; mode = Exclusive })

all_counted : (cs : List Claim) → AllByRecursion IsFew cs → length cs ≤ counted cs
all_counted [] all = omega arith
all_counted (c ∷ cs) all =
    let few = all.0 in
    let number = few.2.0 in
    let own = own_is c.file (owner_at number) c refl few.2.2 in
    let file_more = sum_more 5 number (grouped cs c.file) (grouped (c ∷ cs) c.file) few.2.1 (group_rises c cs c.file) (group_grows c cs c.file number own few.0) in
    let more = sum_more 9 c.file (on_file cs) (on_file (c ∷ cs)) few.1 (λ file. sum_each 5 (grouped cs file) (grouped (c ∷ cs) file) (group_rises c cs file)) file_more in
    omega (arith, more, all_counted cs all.1)

-- few claims are few
pub few_claims : (cs : List Claim) → AreFew cs → ((file number : ℕ) → IsCanonical (spans_of file (owner_at number) cs)) → length cs ≤ 7200
few_claims cs few canonical =
    let group : (file number : ℕ) → grouped cs file number ≤ 160 = λ file number. group_most _ (canonical file number) (few.ends file number) in
    let each : (file : ℕ) → on_file cs file ≤ 800 = λ file. omega (arith, sum_most 5 160 (grouped cs file) (group file)) in
    omega (arith, all_counted cs few.each, sum_most 9 800 (on_file cs) each)

-- ---- once an owner's range is relocked

all_ranges : (file number : ℕ) (party : Party) (ss : List Span) → file < 9 → number < 5 → AllByRecursion IsFew (map (range_claim file (owner_at number) party) ss)
all_ranges file number party [] at under = tt
all_ranges file number party (s ∷ ss) at under = ((tt, at, (number, under, refl)), all_ranges file number party ss at under)

same_number : (m n : ℕ) → owner_at m ≡ owner_at n → m ≡ n
same_number m n e = cc

pub relocked_few : (file number : ℕ) (party : Party) (first last : ℕ) (mode : Option Mode) (cs : List Claim) → IsKept cs → AreFew cs → file < 9 → number < 5 → first ≤ last → last < 160
    → AreFew (relocked_in file (owner_at number) party first last mode cs)
relocked_few file number party first last mode cs kept few at under real short = record {
  each = subst (λ (ds : List Claim). AllByRecursion IsFew ds) (sym (relocked_is file owner party first last mode cs))
      (all_all_inserted IsFew _ _ (all_ranges file number party (relocked (spans_of file owner cs) first last mode) at under) (left_all IsFew file owner cs few.each));
  ends = ends_at;
} where
  owner : Owner
  owner = owner_at number

  own : EndsBelow 160 (spans_of file owner (relocked_in file owner party first last mode cs))
  own = subst (λ (ss : List Span). EndsBelow 160 ss) (sym (spans_of-relocked file owner party first last mode cs kept refl real))
      (relocked_below 160 (spans_of file owner cs) first last mode short (few.ends file number))

  apart : (f n : ℕ) → ((f ≡ file) × (owner_at n ≡ owner) → ⊥) → EndsBelow 160 (spans_of f (owner_at n) (relocked_in file owner party first last mode cs))
  apart f n other = subst (λ (ss : List Span). EndsBelow 160 ss) (sym (spans_of-relocked_apart file owner party first last mode cs f (owner_at n) other)) (few.ends f n)

  ends_at : (f n : ℕ) → EndsBelow 160 (spans_of f (owner_at n) (relocked_in file owner party first last mode cs))
  ends_at f n =
      elim (cases_eq f file) [
        | inr other ↦ apart f n (λ same. other same.0)
        | inl here ↦
            elim (cases_eq n number) [
              | inr else_who ↦ apart f n (λ same. else_who (same_number n number same.1))
              | inl who ↦ subst (λ (k : ℕ). EndsBelow 160 (spans_of k (owner_at n) (relocked_in file owner party first last mode cs))) (sym here)
                  (subst (λ (k : ℕ). EndsBelow 160 (spans_of file (owner_at k) (relocked_in file owner party first last mode cs))) (sym who) own)
            ]
      ]

-- ---- and each owner's spans stay runs

pub canonical_after : (file number : ℕ) (party : Party) (first last : ℕ) (mode : Option Mode) (cs : List Claim) → IsKept cs → first ≤ last
    → (f n : ℕ) → IsCanonical (spans_of f (owner_at n) (relocked_in file (owner_at number) party first last mode cs))
canonical_after file number party first last mode cs kept real f n =
    elim (cases_eq f file) [
      | inr other ↦ apart (λ same. other same.0)
      | inl here ↦
          elim (cases_eq n number) [
            | inr else_who ↦ apart (λ same. else_who (same_number n number same.1))
            | inl who ↦ subst (λ (k : ℕ). IsCanonical (spans_of k (owner_at n) (relocked_in file owner party first last mode cs))) (sym here)
                (subst (λ (k : ℕ). IsCanonical (spans_of file (owner_at k) (relocked_in file owner party first last mode cs))) (sym who) own)
          ]
    ]
  where
    owner : Owner
    owner = owner_at number

    own : IsCanonical (spans_of file owner (relocked_in file owner party first last mode cs))
    own = subst (λ (ss : List Span). IsCanonical ss) (sym (spans_of-relocked file owner party first last mode cs kept refl real))
        (relocked_canonical (spans_of file owner cs) first last mode real (kept.sound.canonical file owner refl))

    apart : ((f ≡ file) × (owner_at n ≡ owner) → ⊥) → IsCanonical (spans_of f (owner_at n) (relocked_in file owner party first last mode cs))
    apart other = subst (λ (ss : List Span). IsCanonical ss) (sym (spans_of-relocked_apart file owner party first last mode cs f (owner_at n) other)) (kept.sound.canonical f (owner_at n) refl)

-- so there is room for them
pub relocked_room : (file number : ℕ) (party : Party) (first last : ℕ) (mode : Option Mode) (cs : List Claim) → IsKept cs → AreFew cs → file < 9 → number < 5 → first ≤ last → last < 160
    → length (relocked_in file (owner_at number) party first last mode cs) ≤ 7200
relocked_room file number party first last mode cs kept few at under real short =
    few_claims _ (relocked_few file number party first last mode cs kept few at under real short) (canonical_after file number party first last mode cs kept real)
