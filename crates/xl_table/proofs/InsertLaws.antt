-- The spans of an owner's ranges on a file, when a claim is put in; and that the list stays sound.
use Rattle.std.proofs.Common.{◌≡◌, ℕ, Bool, true, false, not, ◌&&◌, ◌||◌, ◌==◌, nat_le, nat_lt, List, [], ◌∷◌, ◌++◌, inl, inr, refl, sym, ap, subst, ◌∙◌, if◌then◌else◌, arith}
use Rattle.std.specs.List.{AllByRecursion}
use Rattle.std.proofs.lemmas.Bool.{cases_Bool, both_ways, and_parts, false_from_ne_true, eqb-true, eq-eqb}
use Rattle.std.proofs.lemmas.Bool.Decides.{nat_tests}
use Rattle.xl_base.specs.declared.name.Owner.{Owner}
use Rattle.xl_base.specs.Lists.{placed, Pairwise}
use Rattle.xl_matrix.specs.declared.claim.Extent.TheVariants.{Bytes, Empty}
use Rattle.xl_matrix.specs.declared.claim.What.{What}
use Rattle.xl_matrix.specs.declared.claim.What.TheVariants.{Share, Range, Cache}
use Rattle.xl_matrix.specs.declared.claim.Claim.{Claim}
use Rattle.xl_matrix.specs.Owners.{posix}
use Rattle.xl_matrix.specs.Equal.{same_owners, same_parties}
use Rattle.xl_matrix.proofs.EqualLaws.{eqb-sym, same_owners-true, same_owners-sym, same_parties-sym}
use Rattle.xl_spans.specs.declared.span.Span.{Span}
use Rattle.xl_spans.specs.Spans.{IsCanonical}
use Rattle.xl_table.specs.Order.{no_later, owner_key, key_from, key_by, key, goes_first}
use Rattle.xl_table.specs.Flat.{inserted, removed, changed, with_what}
use Rattle.xl_table.specs.Held.{mode_of, with_span, is_of, spans_of, is_real_by, is_real, is_range, has_one_party, begins_first, IsSound}
use Rattle.xl_table.proofs.FlatLaws.{all_inserted, pairwise_into}
use Rattle.xl_table.proofs.OrderLaws.{no_later-on}
use Rattle.xl_table.proofs.KeptLaws.{sound_removed}

-- the claim is of that owner on that file
is_of_parts : (file : ℕ) (owner : Owner) (c : Claim) → is_of file owner c ≡ true → (c.file ≡ file) × (c.owner ≡ owner)
is_of_parts file owner c h =
    let both = and_parts (c.file == file) (same_owners c.owner owner) h in
    (eqb-true c.file file both.0, same_owners-true c.owner owner both.1)

-- a claim of another owner or file changes nothing
pub spans_of-inserted_apart : (file : ℕ) (owner : Owner) (claim : Claim) (held : List Claim) → is_of file owner claim ≡ false → spans_of file owner (inserted claim held) ≡ spans_of file owner held
unfolding inserted
spans_of-inserted_apart file owner claim held apart = go held where
  go : (held : List Claim) → spans_of file owner (placed goes_first claim held) ≡ spans_of file owner held
  go [] = rw apart refl
  go (c ∷ cs) =
      elim (cases_Bool (goes_first c claim)) [
        | inl earlier ↦ rw (earlier, go cs) refl
        | inr later ↦ rw (later, apart) refl
      ]

-- nor does one that is no range with bytes
pub spans_of-inserted_other : (file : ℕ) (owner : Owner) (claim : Claim) (held : List Claim) → ((spans : List Span) → with_span claim.what spans ≡ spans) → spans_of file owner (inserted claim held) ≡ spans_of file owner held
unfolding inserted
spans_of-inserted_other file owner claim held other = go held where
  front : (cs : List Claim) → spans_of file owner (claim ∷ cs) ≡ spans_of file owner cs
  front cs =
      elim (cases_Bool (is_of file owner claim)) [
        | inl own ↦ rw own (other (spans_of file owner cs))
        | inr apart ↦ rw apart refl
      ]

  go : (held : List Claim) → spans_of file owner (placed goes_first claim held) ≡ spans_of file owner held
  go [] = front []
  go (c ∷ cs) =
      elim (cases_Bool (goes_first c claim)) [
        | inl earlier ↦ rw (earlier, go cs) refl
        | inr later ↦ rw later (front (c ∷ cs))
      ]

-- what differs in the last number alone
tied : (xs : List ℕ) (p q : ℕ) → no_later (xs ++ p ∷ []) (xs ++ q ∷ []) ≡ nat_le p q
tied [] p q = grind (arith, nat_tests)
tied (x ∷ xs) p q = let same : (x == x) ≡ true = eq-eqb x x refl in let none : nat_lt x x ≡ false = grind (arith, nat_tests) in rw (same, none) (tied xs p q)

range_key_is : (c : Claim) (first last : ℕ) (exclusive : Bool) → c.what ≡ Range (Bytes first last) exclusive → posix c.owner ≡ true → key c ≡ c.file ∷ 1 ∷ (owner_key c.owner ++ first ∷ [])
unfolding key
range_key_is c first last exclusive is p =
    ap (λ (w : What). key_by c w) is ∙ ap (λ (b : Bool). key_from c.file 1 (owner_key c.owner) (if b then first else 0)) p

-- the ranges of one POSIX owner on one file stand by their first bytes
pub range_order : (a b : Claim) (first last start end : ℕ) (exclusive alone : Bool) → a.file ≡ b.file → a.owner ≡ b.owner → posix b.owner ≡ true → a.what ≡ Range (Bytes first last) exclusive → b.what ≡ Range (Bytes start end) alone → goes_first a b ≡ nat_le first start
range_order a b first last start end exclusive alone file owner p is are =
    ap (λ (k : List ℕ). no_later k (key b)) (range_key_is a first last exclusive is (ap (λ (o : Owner). posix o) owner ∙ p))
    ∙ ap (λ (k : List ℕ). no_later (a.file ∷ 1 ∷ (owner_key a.owner ++ first ∷ [])) k) (range_key_is b start end alone are p)
    ∙ ap (λ (n : ℕ). no_later (n ∷ 1 ∷ (owner_key a.owner ++ first ∷ [])) (b.file ∷ 1 ∷ (owner_key b.owner ++ start ∷ []))) file
    ∙ ap (λ (o : Owner). no_later (b.file ∷ 1 ∷ (owner_key o ++ first ∷ [])) (b.file ∷ 1 ∷ (owner_key b.owner ++ start ∷ []))) owner
    ∙ tied (b.file ∷ 1 ∷ owner_key b.owner) first start

-- the span of a range that is put in stands by its first byte
pub spans_of-inserted_own : (file : ℕ) (owner : Owner) (claim : Claim) (first last : ℕ) (exclusive : Bool) (held : List Claim) → is_of file owner claim ≡ true → posix owner ≡ true → claim.what ≡ Range (Bytes first last) exclusive → Pairwise goes_first held → spans_of file owner (inserted claim held) ≡ placed begins_first (record { first = first; last = last; mode = mode_of exclusive }) (spans_of file owner held)
unfolding inserted
spans_of-inserted_own file owner claim first last exclusive held own p is ordered = go held ordered where
  span : Span
  span = record { first = first; last = last; mode = mode_of exclusive }

  front : (cs : List Claim) → spans_of file owner (claim ∷ cs) ≡ span ∷ spans_of file owner cs
  front cs = rw own (ap (λ (w : What). with_span w (spans_of file owner cs)) is)

  mine : (c : Claim) → is_of file owner c ≡ true → (start end : ℕ) (alone : Bool) → c.what ≡ Range (Bytes start end) alone → goes_first c claim ≡ nat_le start first
  mine c h start end alone are =
      let a = is_of_parts file owner c h in
      let b = is_of_parts file owner claim own in
      range_order c claim start end first last alone exclusive (a.0 ∙ sym b.0) (a.1 ∙ sym b.1) (ap (λ (o : Owner). posix o) b.1 ∙ p) are is

  -- behind what stands no later
  past : (c : Claim) (w : What) (spans : List Span) → c.what ≡ w → is_of file owner c ≡ true → goes_first c claim ≡ true → with_span w (placed begins_first span spans) ≡ placed begins_first span (with_span w spans)
  past c (Share access deny) spans e h earlier = refl
  past c (Cache kind running) spans e h earlier = refl
  past c (Range (Empty offset) alone) spans e h earlier = refl
  past c (Range (Bytes start end) alone) spans e h earlier = let at : nat_le start first ≡ true = sym (mine c h start end alone e) ∙ earlier in rw at refl

  -- before what stands later
  stop : (c : Claim) (w : What) (spans : List Span) → c.what ≡ w → is_of file owner c ≡ true → goes_first c claim ≡ false → placed begins_first span spans ≡ span ∷ spans → placed begins_first span (with_span w spans) ≡ span ∷ with_span w spans
  stop c (Share access deny) spans e h later rest = rest
  stop c (Cache kind running) spans e h later rest = rest
  stop c (Range (Empty offset) alone) spans e h later rest = rest
  stop c (Range (Bytes start end) alone) spans e h later rest = let at : nat_le start first ≡ false = sym (mine c h start end alone e) ∙ later in rw at refl

  before : (ds : List Claim) → AllByRecursion (λ d. goes_first d claim ≡ false) ds → placed begins_first span (spans_of file owner ds) ≡ span ∷ spans_of file owner ds
  before [] all = refl
  before (d ∷ ds) all =
      elim (cases_Bool (is_of file owner d)) [
        | inl here ↦ rw here (stop d d.what (spans_of file owner ds) refl here all.0 (before ds all.1))
        | inr apart ↦ rw apart (before ds all.1)
      ]

  all_later : (c : Claim) (ds : List Claim) → goes_first c claim ≡ false → AllByRecursion (λ d. goes_first c d ≡ true) ds → AllByRecursion (λ d. goes_first d claim ≡ false) ds
  all_later c [] later all = tt
  all_later c (d ∷ ds) later all = (
    false_from_ne_true (goes_first d claim) (λ (e : goes_first d claim ≡ true). both_ways (goes_first c claim) later (no_later-on (key c) (key d) (key claim) all.0 e)),
    all_later c ds later all.1,
  )

  go : (held : List Claim) → Pairwise goes_first held → spans_of file owner (placed goes_first claim held) ≡ placed begins_first span (spans_of file owner held)
  go [] ordered = front []
  go (c ∷ cs) ordered =
      elim (cases_Bool (goes_first c claim)) [
        | inl earlier ↦ rw earlier
            (elim (cases_Bool (is_of file owner c)) [
              | inl here ↦ rw (here, go cs ordered.1) (past c c.what (spans_of file owner cs) refl here earlier)
              | inr apart ↦ rw apart (go cs ordered.1)
            ])
        | inr later ↦ rw later (front (c ∷ cs) ∙ sym (before (c ∷ cs) (later, all_later c cs later ordered.0)))
      ]

pub one_party-sym : (a b : Claim) → has_one_party a b ≡ has_one_party b a
one_party-sym a b = rw (same_parties-sym a.party b.party, eqb-sym a.file b.file, same_owners-sym a.owner b.owner) (ap (λ (t : Bool). not t || same_parties b.party a.party) (swap (same_owners b.owner a.owner) refl)) where
  flip : (p x y z w : Bool) → (p && (x && (y && (z && w)))) ≡ (p && (y && (x && (z && w))))
  flip true true true z w = refl
  flip true true false z w = refl
  flip true false true z w = refl
  flip true false false z w = refl
  flip false x y z w = refl

  none : (p x y z : Bool) → (p && (x && (y && (z && false)))) ≡ false
  none true true true true = refl
  none true true true false = refl
  none true true false z = refl
  none true false y z = refl
  none false x y z = refl

  swap : (w : Bool) → same_owners b.owner a.owner ≡ w → (posix a.owner && (is_range a.what && (is_range b.what && ((b.file == a.file) && w)))) ≡ (posix b.owner && (is_range b.what && (is_range a.what && ((b.file == a.file) && w))))
  swap false e = none (posix a.owner) (is_range a.what) (is_range b.what) (b.file == a.file) ∙ sym (none (posix b.owner) (is_range b.what) (is_range a.what) (b.file == a.file))
  swap true e =
      ap (λ (o : Owner). posix o && (is_range a.what && (is_range b.what && ((b.file == a.file) && true)))) (sym (same_owners-true b.owner a.owner e))
      ∙ flip (posix b.owner) (is_range a.what) (is_range b.what) (b.file == a.file) true

-- a list stays sound when a real claim is put in, whose owner's ranges there have its party, and whose group, if it is a
-- POSIX owner's, is canonical then
pub sound_inserted : (claim : Claim) (held : List Claim) → IsSound held → is_real claim ≡ true → AllByRecursion (λ c. has_one_party claim c ≡ true) held → (posix claim.owner ≡ true → IsCanonical (spans_of claim.file claim.owner (inserted claim held))) → IsSound (inserted claim held)
sound_inserted claim held is real party own = record {
  real = all_inserted (λ c. is_real c ≡ true) claim held real is.real;
  parties = parties;
  canonical = canonical;
} where
  parties : Pairwise has_one_party (inserted claim held)
  parties = pairwise_into has_one_party one_party-sym claim held party is.parties

  canonical : (file : ℕ) (owner : Owner) → posix owner ≡ true → IsCanonical (spans_of file owner (inserted claim held))
  canonical file owner p =
      elim (cases_Bool (is_of file owner claim)) [
        | inl here ↦
            let at = is_of_parts file owner claim here in
            subst (λ (n : ℕ). IsCanonical (spans_of n owner (inserted claim held))) at.0
            (subst (λ (o : Owner). IsCanonical (spans_of claim.file o (inserted claim held))) at.1
            (own (ap (λ (o : Owner). posix o) at.1 ∙ p)))
        | inr apart ↦ subst (λ (spans : List Span). IsCanonical spans) (sym (spans_of-inserted_apart file owner claim held apart)) (is.canonical file owner p)
      ]

pub not_range : (what : What) → is_range what ≡ false → (spans : List Span) → with_span what spans ≡ spans
not_range (Share access deny) h spans = refl
not_range (Cache kind running) h spans = refl
not_range (Range extent exclusive) h spans = absurd cc

real_other : (owner : Owner) (what : What) → is_range what ≡ false → is_real_by owner what ≡ true
real_other owner (Share access deny) h = refl
real_other owner (Cache kind running) h = refl
real_other owner (Range extent exclusive) h = absurd cc

pub party_other : (claim : Claim) (held : List Claim) → is_range claim.what ≡ false → AllByRecursion (λ c. has_one_party claim c ≡ true) held
party_other claim [] h = tt
party_other claim (c ∷ cs) h = (rw h (apart (posix claim.owner) (same_parties claim.party c.party)), party_other claim cs h) where
  apart : (p same : Bool) → (not (p && false) || same) ≡ true
  apart true same = refl
  apart false same = refl

-- a share or a cache is entered as it is
pub sound_inserted_other : (claim : Claim) (held : List Claim) → IsSound held → is_range claim.what ≡ false → IsSound (inserted claim held)
sound_inserted_other claim held is h =
    sound_inserted claim held is (real_other claim.owner claim.what h) (party_other claim held h)
    (λ (p : posix claim.owner ≡ true). subst (λ (spans : List Span). IsCanonical spans) (sym (spans_of-inserted_other claim.file claim.owner claim held (not_range claim.what h))) (is.canonical claim.file claim.owner p))

-- and so is one that becomes a share or a cache
pub sound_changed_other : (claim : Claim) (to : What) (held : List Claim) → IsSound held → is_range to ≡ false → IsSound (changed claim to held)
unfolding changed
sound_changed_other claim to held is h = sound_inserted_other (with_what claim to) (removed claim held) (sound_removed claim held is) h

with_span-append : (what : What) (xs ys : List Span) → with_span what (xs ++ ys) ≡ with_span what xs ++ ys
with_span-append (Share access deny) xs ys = refl
with_span-append (Cache kind running) xs ys = refl
with_span-append (Range (Empty offset) exclusive) xs ys = refl
with_span-append (Range (Bytes first last) exclusive) xs ys = refl

pub spans_of-append : (file : ℕ) (owner : Owner) (xs ys : List Claim) → spans_of file owner (xs ++ ys) ≡ spans_of file owner xs ++ spans_of file owner ys
spans_of-append file owner [] ys = refl
spans_of-append file owner (c ∷ cs) ys =
    elim (cases_Bool (is_of file owner c)) [
      | inl own ↦ rw (own, spans_of-append file owner cs ys) (with_span-append c.what (spans_of file owner cs) (spans_of file owner ys))
      | inr apart ↦ rw apart (spans_of-append file owner cs ys)
    ]
