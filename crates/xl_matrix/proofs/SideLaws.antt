-- The matrix has no sides.
use Rattle.std.proofs.Common.{◌≡◌, Bool, true, false, not, ◌&&◌, ◌||◌, ◌==◌, inl, inr, refl, ap, ◌∙◌, arith}
use Rattle.std.proofs.lemmas.Bool.{cases_Bool}
use Rattle.std.proofs.lemmas.Bool.Decides.{nat_tests}
use Rattle.xl_base.specs.declared.name.Owner.{Owner}
use Rattle.xl_matrix.specs.declared.claim.Extent.{Extent}
use Rattle.xl_matrix.specs.declared.claim.Extent.TheVariants.{Bytes, Empty}
use Rattle.xl_matrix.specs.declared.claim.What.{What}
use Rattle.xl_matrix.specs.declared.claim.What.TheVariants.{Share, Range, Cache}
use Rattle.xl_matrix.specs.declared.claim.Claim.{Claim}
use Rattle.xl_matrix.specs.Owners.{posix}
use Rattle.xl_matrix.specs.Rights.{common}
use Rattle.xl_matrix.specs.Extents.{meeting}
use Rattle.xl_matrix.specs.Kinds.{writes, guarding}
use Rattle.xl_matrix.specs.Equal.{same_owners, same_parties}
use Rattle.xl_matrix.specs.Matrix.{ranges_meet, modes_fit, ranges_fit, fit_by, compat}
use Rattle.xl_matrix.proofs.EqualLaws.{eqb-sym, same_owners-true, same_owners-sym, same_parties-sym}

pub and-sym : (p q : Bool) → (p && q) ≡ (q && p)
and-sym true true = refl
and-sym true false = refl
and-sym false true = refl
and-sym false false = refl

pub meeting-sym : (smb : Bool) (a b : Extent) → meeting smb a b ≡ meeting smb b a
meeting-sym smb (Bytes first last) (Bytes start end) = grind (arith, nat_tests)
meeting-sym smb (Bytes first last) (Empty offset) = refl
meeting-sym smb (Empty offset) (Bytes first last) = refl
meeting-sym smb (Empty offset) (Empty at) = refl

pub ranges_meet-sym : (owner : Owner) (extent : Extent) (other : Owner) (place : Extent) → ranges_meet owner extent other place ≡ ranges_meet other place owner extent
ranges_meet-sym owner extent other place =
    ap (λ (smb : Bool). meeting smb extent place) (and-sym (not (posix owner)) (not (posix other))) ∙ meeting-sym _ extent place

modes_fit-sym : (owner : Owner) (exclusive : Bool) (other : Owner) (alone : Bool) → modes_fit owner exclusive other alone ≡ modes_fit other alone owner exclusive
modes_fit-sym owner exclusive other alone =
    elim (cases_Bool (same_owners owner other)) [
      | inl same ↦ let one : owner ≡ other = same_owners-true owner other same in rw (← same_owners-sym owner other, same, and-sym exclusive alone) (ap (λ (o : Owner). not (posix o) && not (alone && exclusive)) one)
      | inr apart ↦ rw (← same_owners-sym owner other, apart) (and-sym (not exclusive) (not alone))
    ]

ranges_fit-sym : (owner : Owner) (extent : Extent) (exclusive : Bool) (other : Owner) (place : Extent) (alone : Bool) → ranges_fit owner extent exclusive other place alone ≡ ranges_fit other place alone owner extent exclusive
ranges_fit-sym owner extent exclusive other place alone =
    ap (λ (m : Bool). not m || modes_fit owner exclusive other alone) (ranges_meet-sym owner extent other place)
    ∙ ap (λ (m : Bool). not (ranges_meet other place owner extent) || m) (modes_fit-sym owner exclusive other alone)

fit_by-sym : (a b : Claim) (p q : What) → fit_by a b p q ≡ fit_by b a q p
unfolding fit_by
fit_by-sym a b (Share access deny) (Share rights denied) = and-sym (not (common access denied)) (not (common rights deny))
fit_by-sym a b (Share access deny) (Range extent exclusive) = refl
fit_by-sym a b (Share access deny) (Cache kind running) = ap (λ (m : Bool). m || not (guarding kind access deny)) (same_parties-sym a.party b.party)
fit_by-sym a b (Range extent exclusive) (Share access deny) = refl
fit_by-sym a b (Range extent exclusive) (Range place alone) = ranges_fit-sym a.owner extent exclusive b.owner place alone
fit_by-sym a b (Range extent exclusive) (Cache kind running) = same_parties-sym a.party b.party
fit_by-sym a b (Cache kind running) (Share access deny) = ap (λ (m : Bool). m || not (guarding kind access deny)) (same_parties-sym a.party b.party)
fit_by-sym a b (Cache kind running) (Range extent exclusive) = same_parties-sym a.party b.party
fit_by-sym a b (Cache kind running) (Cache other due) =
    ap (λ (m : Bool). not m && (not (writes kind) && not (writes other))) (same_parties-sym a.party b.party)
    ∙ ap (λ (m : Bool). not (same_parties b.party a.party) && m) (and-sym (not (writes kind)) (not (writes other)))

pub compat-sym : (a b : Claim) → compat a b ≡ compat b a
unfolding compat
compat-sym a b =
    ap (λ (m : Bool). not m || fit_by a b a.what b.what) (eqb-sym a.file b.file)
    ∙ ap (λ (m : Bool). not (b.file == a.file) || m) (fit_by-sym a b a.what b.what)
