-- What a grant and an unlock leave of the ranges of SMB opens.
use Rattle.std.proofs.Common.{◌≡◌, ℕ, Bool, true, false, not, ◌&&◌, if◌then◌else◌, List, [], ◌∷◌, ◌++◌, map, Option, Some, inl, inr, refl, sym, ap, ◌∙◌}
use Rattle.std.specs.List.{AllByRecursion, filter}
use Rattle.std.proofs.lemmas.Bool.{cases_Bool, both_ways, and_parts, and_right}
use Rattle.xl_base.specs.declared.name.Owner.{Owner}
use Rattle.xl_base.specs.declared.name.Owner.TheVariants as owners
use Rattle.xl_base.specs.declared.name.Party.{Party}
use Rattle.xl_matrix.specs.Owners.{posix}
use Rattle.xl_matrix.specs.declared.claim.Claim.{Claim}
use Rattle.xl_matrix.specs.declared.claim.Extent.TheVariants.{Bytes, Empty}
use Rattle.xl_matrix.specs.declared.claim.What.{What}
use Rattle.xl_matrix.specs.declared.claim.What.TheVariants.{Share, Range, Cache}
use Rattle.xl_spans.specs.declared.span.Mode.{Mode}
use Rattle.xl_spans.specs.declared.span.Span.{Span}
use Rattle.xl_table.specs.Elements.{elements_of}
use Rattle.xl_table.specs.Flat.{inserted}
use Rattle.xl_table.specs.Held.{is_of, is_range, is_share, mode_of, spans_of, IsKept, IsShareOrLock}
use Rattle.xl_table.specs.Relock.{all_inserted, range_claim, is_range_of, unranged, relocked_in, is_share_of, unshared, united, old_shares, shared_in, granted_by, granted_claims}
use Rattle.xl_spans.specs.Spans.{relocked}
use Rattle.xl_table.proofs.ElementLaws.{elements_entered, elements_apart}
use Rattle.xl_table.proofs.ShareLaws.{united_share}
use Rattle.xl_table.proofs.WriteBack.{is_of-true, relocked_is}

abbrev pub open_of : ℕ → Owner
open_of number = owners.Open number

-- a POSIX owner's claims are no open's
pub not_open : (file number : ℕ) (c : Claim) → posix c.owner ≡ true → is_of file (open_of number) c ≡ false
not_open file number c named =
    elim (cases_Bool (is_of file (open_of number) c)) [
      | inr e ↦ e
      | inl own ↦ absurd (both_ways (posix c.owner) (ap (λ (o : Owner). posix o) (is_of-true file (open_of number) c own).1) named)
    ]

no_range_of : (file : ℕ) (owner : Owner) (c : Claim) → is_of file owner c ≡ false → is_range_of file owner c ≡ false
no_range_of file owner c other = ap (λ (b : Bool). b && is_range c.what) other

pub share_no_range : (file : ℕ) (owner : Owner) (c : Claim) → is_share c.what ≡ true → is_range_of file owner c ≡ false
share_no_range file owner c share = and_right (is_of file owner c) (is_range c.what) (by c.what share) where
  by : (w : What) → is_share w ≡ true → is_range w ≡ false
  by (Share access deny) h = refl
  by (Range extent exclusive) h = absurd (both_ways false refl h)
  by (Cache kind running) h = absurd (both_ways false refl h)

-- what stays of claims among which each of the open's ranges does
elements_filtered : (file : ℕ) (owner : Owner) (p : Claim → Bool) (cs : List Claim) → ((c : Claim) → p c ≡ false → is_range_of file owner c ≡ false) → elements_of file owner (filter p cs) ≡ elements_of file owner cs
elements_filtered file owner p [] stays = refl
elements_filtered file owner p (c ∷ cs) stays =
    let rest = elements_filtered file owner p cs stays in
    elim (cases_Bool (p c)) [
      | inl here ↦ rw here (ap (λ (ws : List What). if is_range_of file owner c then c.what ∷ ws else ws) rest)
      | inr away ↦ let none = stays c away in rw (away, none) rest
    ]

elements_all_apart : (file : ℕ) (owner : Owner) (ns cs : List Claim) → AllByRecursion (λ n. is_range_of file owner n ≡ false) ns → elements_of file owner (all_inserted ns cs) ≡ elements_of file owner cs
elements_all_apart file owner [] cs all = refl
elements_all_apart file owner (n ∷ ns) cs all = elements_all_apart file owner ns (inserted n cs) all.1 ∙ elements_apart file owner n cs all.0

not_not : (b : Bool) → not b ≡ false → b ≡ true
not_not true e = refl
not_not false e = sym e

-- a POSIX owner's lock or unlock leaves them
pub elements_relocked : (file : ℕ) (owner : Owner) (party : Party) (first last : ℕ) (mode : Option Mode) (cs : List Claim) (at number : ℕ) → posix owner ≡ true → elements_of at (open_of number) (relocked_in file owner party first last mode cs) ≡ elements_of at (open_of number) cs
unfolding unranged
elements_relocked file owner party first last mode cs at number named =
    ap (λ (ds : List Claim). elements_of at (open_of number) ds) (relocked_is file owner party first last mode cs)
    ∙ elements_all_apart at (open_of number) (map (range_claim file owner party) (relocked (spans_of file owner cs) first last mode)) (unranged file owner cs) (new (relocked (spans_of file owner cs) first last mode))
    ∙ elements_filtered at (open_of number) (λ c. not (is_range_of file owner c)) cs
    (λ c away. no_range_of at (open_of number) c (not_open at number c (ap (λ (o : Owner). posix o) (is_of-true file owner c (and_parts (is_of file owner c) (is_range c.what) (not_not (is_range_of file owner c) away)).0).1 ∙ named)))
  where
    new : (ss : List Span) → AllByRecursion (λ n. is_range_of at (open_of number) n ≡ false) (map (range_claim file owner party) ss)
    new [] = tt
    new (s ∷ ss) = (no_range_of at (open_of number) (range_claim file owner party s) (not_open at number (range_claim file owner party s) named), new ss)

elements_shared : (c : Claim) (cs : List Claim) (at number : ℕ) → is_share c.what ≡ true → elements_of at (open_of number) (shared_in c cs) ≡ elements_of at (open_of number) cs
unfolding shared_in unshared
elements_shared c cs at number share =
    elements_apart at (open_of number) (united c cs) (filter (λ d. not (is_share_of c.file c.owner d)) cs) (share_no_range at (open_of number) (united c cs) (united_share c.owner c.what (old_shares c.file c.owner cs) share))
    ∙ elements_filtered at (open_of number) (λ d. not (is_share_of c.file c.owner d)) cs
    (λ d away. share_no_range at (open_of number) d (and_parts (is_of c.file c.owner d) (is_share d.what) (not_not (is_share_of c.file c.owner d) away)).1)

-- the open's ranges with this one behind them, where it is one of the open's
abbrev pub with_element : Bool → What → List What → List What
with_element true w es = es ++ w ∷ []
with_element false w es = es

elements_inserted : (c : Claim) (cs : List Claim) (at number : ℕ) → IsKept cs → elements_of at (open_of number) (inserted c cs) ≡ with_element (is_range_of at (open_of number) c) c.what (elements_of at (open_of number) cs)
elements_inserted c cs at number kept = by (is_range_of at (open_of number) c) refl where
  by : (b : Bool) → is_range_of at (open_of number) c ≡ b → elements_of at (open_of number) (inserted c cs) ≡ with_element b c.what (elements_of at (open_of number) cs)
  by true own = elements_entered at (open_of number) c cs own refl kept.ordered
  by false other = elements_apart at (open_of number) c cs other

without_element : (at number : ℕ) (c : Claim) (es new : List What) → is_range_of at (open_of number) c ≡ false → new ≡ es → new ≡ with_element (is_range_of at (open_of number) c) c.what es
without_element at number c es new other e = e ∙ ap (λ (b : Bool). with_element b c.what es) (sym other)

-- one that is granted comes behind the others, and no other grant changes them
pub elements_granted : (c : Claim) (cs : List Claim) (at number : ℕ) → IsKept cs → IsShareOrLock c.what → elements_of at (open_of number) (granted_claims c cs) ≡ with_element (is_range_of at (open_of number) c) c.what (elements_of at (open_of number) cs)
unfolding granted_claims
elements_granted c cs at number kept real = by c.what refl real where
  es : List What
  es = elements_of at (open_of number) cs

  bytes : (first last : ℕ) (exclusive b : Bool) → posix c.owner ≡ b → elements_of at (open_of number) (if b then relocked_in c.file c.owner c.party first last (Some (mode_of exclusive)) cs else inserted c cs) ≡ with_element (is_range_of at (open_of number) c) c.what es
  bytes first last exclusive true named =
      without_element at number c es _ (no_range_of at (open_of number) c (not_open at number c named)) (elements_relocked c.file c.owner c.party first last (Some (mode_of exclusive)) cs at number named)
  bytes first last exclusive false unnamed = elements_inserted c cs at number kept

  by : (w : What) → c.what ≡ w → IsShareOrLock w → elements_of at (open_of number) (granted_by c w cs) ≡ with_element (is_range_of at (open_of number) c) c.what es
  by (Share access deny) is order = without_element at number c es _ (share_no_range at (open_of number) c (ap is_share is)) (elements_shared c cs at number (ap is_share is))
  by (Range (Bytes first last) exclusive) is order = bytes first last exclusive (posix c.owner) refl
  by (Range (Empty offset) exclusive) is order = elements_inserted c cs at number kept
  by (Cache kind running) is order = absurd order
