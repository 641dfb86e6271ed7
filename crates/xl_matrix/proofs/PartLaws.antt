-- Ranges of NLM and NFSv4 owners are compatible by their bytes, and so is what is made of compatible parts.
use Rattle.std.proofs.Common.{◌≡◌, ℕ, ◌≤◌, Bool, true, false, not, ◌&&◌, ◌||◌, ◌==◌, Option, Some, None, List, inl, inr, refl, nat_le, sym, ap, subst, ◌∙◌, arith, ◌↔◌}
use Rattle.std.specs.List.{AllByRecursion}
use Rattle.std.proofs.lemmas.Bool.{cases_Bool, and_parts, or_cases, or_left, or_right, eqb-true, eq-eqb, not-true, not_from_false, both_ways, leb-true}
use Rattle.xl_base.proofs.Members.{all_in}
use Rattle.xl_base.proofs.Searches.{any_found}
use Rattle.xl_base.specs.declared.name.Owner.{Owner}
use Rattle.xl_base.specs.declared.name.Party.{Party}
use Rattle.xl_matrix.specs.declared.claim.Extent.{Extent}
use Rattle.xl_matrix.specs.declared.claim.Extent.TheVariants.{Bytes, Empty}
use Rattle.xl_matrix.specs.declared.claim.What.{What}
use Rattle.xl_matrix.specs.declared.claim.What.TheVariants.{Share, Range, Cache}
use Rattle.xl_matrix.specs.declared.claim.Claim.{Claim}
use Rattle.xl_matrix.specs.Owners.{posix}
use Rattle.xl_matrix.specs.Rights.{implies}
use Rattle.xl_matrix.specs.Extents.{has_byte, meeting}
use Rattle.xl_matrix.specs.Equal.{same_owners, same_parties}
use Rattle.xl_matrix.specs.Matrix.{ranges_meet, modes_fit, ranges_fit, fit_by, compat, lock_by, lock_on, locks_agree, is_as_strong, is_part, IsMadeOf}
use Rattle.xl_matrix.proofs.EqualLaws.{same_owners-true, same_parties-true}
use Rattle.xl_matrix.proofs.ByteLaws.{meeting-common, common-meeting}
use Rattle.xl_matrix.proofs.WeakerLaws.{modes_less}

-- two ranges that need a byte to meet have one
met-byte : (a b : Extent) → meeting false a b ≡ true → (x : ℕ) × (has_byte a x ≡ true) × (has_byte b x ≡ true)
met-byte (Bytes first last) (Bytes start end) h = meeting-common false first last start end h
met-byte (Bytes first last) (Empty offset) h = absurd (both_ways false refl h)
met-byte (Empty offset) (Bytes first last) h = absurd (both_ways false refl h)
met-byte (Empty offset) (Empty at) h = absurd (both_ways false refl h)

byte-met : (a b : Extent) (x : ℕ) → has_byte a x ≡ true → has_byte b x ≡ true → meeting false a b ≡ true
byte-met (Bytes first last) (Bytes start end) x h k = common-meeting false first last start end x h k
byte-met (Bytes first last) (Empty offset) x h k = absurd (both_ways false refl k)
byte-met (Empty offset) b x h k = absurd (both_ways false refl h)

-- with a POSIX owner on one side an empty range stands against nothing
posix_meets : (owner : Owner) (extent : Extent) (other : Owner) (place : Extent) → posix owner ≡ true → ranges_meet owner extent other place ≡ meeting false extent place
posix_meets owner extent other place p = rw p refl

agree_off : (owner other : Owner) (lock : Option Bool) → locks_agree owner lock other None ≡ true
agree_off owner other None = refl
agree_off owner other (Some mode) = refl

pub fits_bytes : (owner : Owner) (extent : Extent) (exclusive : Bool) (other : Owner) (place : Extent) (alone : Bool) → posix owner ≡ true → ranges_fit owner extent exclusive other place alone ≡ true → (byte : ℕ) → locks_agree owner (lock_by (Range extent exclusive) byte) other (lock_by (Range place alone) byte) ≡ true
fits_bytes owner extent exclusive other place alone p h byte =
    elim (cases_Bool (has_byte extent byte)) [
      | inl here ↦ elim (cases_Bool (has_byte place byte)) [
        | inl there ↦
            rw (here, there)
            (elim (or_cases (not (ranges_meet owner extent other place)) (modes_fit owner exclusive other alone) h) [
              | inl apart ↦ absurd (both_ways (ranges_meet owner extent other place) (not-true (ranges_meet owner extent other place) apart) (posix_meets owner extent other place p ∙ byte-met extent place byte here there))
              | inr agree ↦ agree
            ])
        | inr none ↦ rw none (agree_off owner other (lock_by (Range extent exclusive) byte))
      ]
      | inr none ↦ rw none refl
    ]

pub bytes_fit : (owner : Owner) (extent : Extent) (exclusive : Bool) (other : Owner) (place : Extent) (alone : Bool) → posix owner ≡ true → ((byte : ℕ) → locks_agree owner (lock_by (Range extent exclusive) byte) other (lock_by (Range place alone) byte) ≡ true) → ranges_fit owner extent exclusive other place alone ≡ true
bytes_fit owner extent exclusive other place alone p each =
    elim (cases_Bool (ranges_meet owner extent other place)) [
      | inl met ↦
          let found = met-byte extent place (sym (posix_meets owner extent other place p) ∙ met) in
          or_right (not (ranges_meet owner extent other place)) (modes_fit owner exclusive other alone) (rw (found.1, found.2) at (each found.0))
      | inr apart ↦ or_left (not (ranges_meet owner extent other place)) (modes_fit owner exclusive other alone) (not_from_false (ranges_meet owner extent other place) apart)
    ]

compat_at : (a b : Claim) (p q : What) → a.what ≡ p → b.what ≡ q → compat a b ≡ (not (a.file == b.file) || fit_by a b p q)
unfolding compat
compat_at a b p q e f = ap (λ (w : What). not (a.file == b.file) || fit_by a b w b.what) e ∙ ap (λ (w : What). not (a.file == b.file) || fit_by a b p w) f

-- on one file two ranges, the first of a POSIX owner, are compatible exactly where they agree on each byte
pub compat_bytes : (a b : Claim) (extent place : Extent) (exclusive alone : Bool) → a.what ≡ Range extent exclusive → b.what ≡ Range place alone → a.file ≡ b.file → posix a.owner ≡ true → (compat a b ≡ true) ↔ ((byte : ℕ) → locks_agree a.owner (lock_on a byte) b.owner (lock_on b byte) ≡ true)
unfolding fit_by
compat_bytes a b extent place exclusive alone is are one p = (forth, back) where
  whole : compat a b ≡ ranges_fit a.owner extent exclusive b.owner place alone
  whole = compat_at a b (Range extent exclusive) (Range place alone) is are ∙ ap (λ (m : Bool). not m || ranges_fit a.owner extent exclusive b.owner place alone) (eq-eqb a.file b.file one)

  same : (byte : ℕ) → locks_agree a.owner (lock_on a byte) b.owner (lock_on b byte) ≡ locks_agree a.owner (lock_by (Range extent exclusive) byte) b.owner (lock_by (Range place alone) byte)
  same byte = ap (λ (w : What). locks_agree a.owner (lock_by w byte) b.owner (lock_on b byte)) is ∙ ap (λ (w : What). locks_agree a.owner (lock_by (Range extent exclusive) byte) b.owner (lock_by w byte)) are

  forth : compat a b ≡ true → (byte : ℕ) → locks_agree a.owner (lock_on a byte) b.owner (lock_on b byte) ≡ true
  forth h byte = same byte ∙ fits_bytes a.owner extent exclusive b.owner place alone p (sym whole ∙ h) byte

  back : ((byte : ℕ) → locks_agree a.owner (lock_on a byte) b.owner (lock_on b byte) ≡ true) → compat a b ≡ true
  back each = whole ∙ bytes_fit a.owner extent exclusive b.owner place alone p (λ byte. sym (same byte) ∙ each byte)

-- what a part is: a range of the whole's names that has the byte
strong_what : (w : What) (exclusive : Bool) (byte : ℕ) → is_as_strong exclusive (lock_by w byte) ≡ true → (extent : Extent) × (alone : Bool) × (w ≡ Range extent alone) × (has_byte extent byte ≡ true) × (implies exclusive alone ≡ true)
strong_what (Range extent alone) exclusive byte h =
    elim (cases_Bool (has_byte extent byte)) [
      | inl here ↦ (extent, alone, refl, here, rw here at h)
      | inr none ↦ absurd (both_ways false refl (rw none at h))
    ]
strong_what (Share access deny) exclusive byte h = absurd (both_ways false refl h)
strong_what (Cache kind running) exclusive byte h = absurd (both_ways false refl h)

-- what holds of a part: it is a range of the whole's names, on its file, that has the byte in such a mode
record IsPart (whole : Claim) (exclusive : Bool) (byte : ℕ) (part : Claim) (extent : Extent) (alone : Bool) : Type 0 where
  file : part.file ≡ whole.file
  owner : part.owner ≡ whole.owner
  party : part.party ≡ whole.party
  what : part.what ≡ Range extent alone
  here : has_byte extent byte ≡ true
  mode : implies exclusive alone ≡ true

part_from : (whole : Claim) (exclusive : Bool) (byte : ℕ) (part : Claim) → is_part whole exclusive byte part ≡ true → (extent : Extent) × (alone : Bool) × IsPart whole exclusive byte part extent alone
part_from whole exclusive byte part h =
    let first = and_parts (part.file == whole.file) (same_owners part.owner whole.owner && (same_parties part.party whole.party && is_as_strong exclusive (lock_on part byte))) h in
    let second = and_parts (same_owners part.owner whole.owner) (same_parties part.party whole.party && is_as_strong exclusive (lock_on part byte)) first.1 in
    let third = and_parts (same_parties part.party whole.party) (is_as_strong exclusive (lock_on part byte)) second.1 in
    let found = strong_what part.what exclusive byte third.1 in (
      found.0,
      found.1,
      record {
        file = eqb-true part.file whole.file first.0;
        owner = same_owners-true part.owner whole.owner second.0;
        party = same_parties-true part.party whole.party third.0;
        what = found.2;
        here = found.3;
        mode = found.4;
      },
    )

-- what a compatible part says of a byte of the whole
part_agrees : (a b part : Claim) (exclusive : Bool) (byte : ℕ) (extent place : Extent) (alone mode : Bool) → IsPart a exclusive byte part extent alone → b.what ≡ Range place mode → a.file ≡ b.file → posix a.owner ≡ true → compat part b ≡ true → has_byte place byte ≡ true → modes_fit a.owner exclusive b.owner mode ≡ true
part_agrees a b part exclusive byte extent place alone mode is are one p h there =
    let owner : posix part.owner ≡ true = ap (λ o. posix o) is.owner ∙ p in
    let agree = (compat_bytes part b extent place alone mode is.what are (is.file ∙ one) owner).0 h byte in
    let both : locks_agree part.owner (lock_by (Range extent alone) byte) b.owner (lock_by (Range place mode) byte) ≡ true =
    subst (λ (w : What). locks_agree part.owner (lock_by (Range extent alone) byte) b.owner (lock_by w byte) ≡ true) are
    (subst (λ (w : What). locks_agree part.owner (lock_by w byte) b.owner (lock_on b byte) ≡ true) is.what agree) in
    let fits : modes_fit part.owner alone b.owner mode ≡ true = rw (is.here, there) at both in
    modes_less a.owner exclusive alone b.owner mode is.mode (subst (λ (o : Owner). modes_fit o alone b.owner mode ≡ true) is.owner fits)

parts_fit : (a b : Claim) (first last : ℕ) (exclusive : Bool) (parts : List Claim) (q : What) → b.what ≡ q → first ≤ last → posix a.owner ≡ true → a.file ≡ b.file → IsMadeOf a first last exclusive parts → AllByRecursion (λ c. compat c b ≡ true) parts → fit_by a b (Range (Bytes first last) exclusive) q ≡ true
unfolding fit_by
parts_fit a b first last exclusive parts (Share access deny) is o p one made all = refl
parts_fit a b first last exclusive parts (Cache kind running) is o p one made all =
    let found = any_found (is_part a exclusive first) parts (made first (omega arith) o) in
    let part = part_from a exclusive first found.0 found.2 in
    let fits : compat found.0 b ≡ true = all_in (λ c. compat c b ≡ true) found.0 parts all found.1 in
    let same : same_parties found.0.party b.party ≡ true =
    sym (compat_at found.0 b (Range part.0 part.1) (Cache kind running) part.2.what is ∙ ap (λ (m : Bool). not m || same_parties found.0.party b.party) (eq-eqb found.0.file b.file (part.2.file ∙ one))) ∙ fits in
    subst (λ (p : Party). same_parties p b.party ≡ true) part.2.party same
parts_fit a b first last exclusive parts (Range place mode) is o p one made all =
    bytes_fit a.owner (Bytes first last) exclusive b.owner place mode p (λ byte. agree byte) where
      agree : (byte : ℕ) → locks_agree a.owner (lock_by (Range (Bytes first last) exclusive) byte) b.owner (lock_by (Range place mode) byte) ≡ true
      agree byte =
          elim (cases_Bool (has_byte (Bytes first last) byte)) [
            | inl here ↦ elim (cases_Bool (has_byte place byte)) [
              | inl there ↦
                  let ends = and_parts (nat_le first byte) (nat_le byte last) here in
                  let found = any_found (is_part a exclusive byte) parts (made byte (leb-true first byte ends.0) (leb-true byte last ends.1)) in
                  let part = part_from a exclusive byte found.0 found.2 in
                  rw (here, there)
                  (part_agrees a b found.0 exclusive byte part.0 place part.1 mode part.2 is one p (all_in (λ c. compat c b ≡ true) found.0 parts all found.1) there)
              | inr none ↦ rw none (agree_off a.owner b.owner (lock_by (Range (Bytes first last) exclusive) byte))
            ]
            | inr none ↦ rw none refl
          ]

pub compat_parts : (a b : Claim) (first last : ℕ) (exclusive : Bool) (parts : List Claim) → a.what ≡ Range (Bytes first last) exclusive → first ≤ last → posix a.owner ≡ true → IsMadeOf a first last exclusive parts → AllByRecursion (λ c. compat c b ≡ true) parts → compat a b ≡ true
compat_parts a b first last exclusive parts is o p made all =
    compat_at a b (Range (Bytes first last) exclusive) b.what is refl ∙ ends where
      ends : (not (a.file == b.file) || fit_by a b (Range (Bytes first last) exclusive) b.what) ≡ true
      ends =
          elim (cases_Bool (a.file == b.file)) [
            | inl one ↦ or_right (not (a.file == b.file)) (fit_by a b (Range (Bytes first last) exclusive) b.what) (parts_fit a b first last exclusive parts b.what refl o p (eqb-true a.file b.file one) made all)
            | inr two ↦ or_left (not (a.file == b.file)) (fit_by a b (Range (Bytes first last) exclusive) b.what) (not_from_false (a.file == b.file) two)
          ]
