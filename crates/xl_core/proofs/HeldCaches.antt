-- A cache may be held beside what it goes with, and become less, or another.
use Rattle.std.proofs.Common.{◌≡◌, ◌<◌, true, false, not, ◌&&◌, eqb, List, length, inl, inr, refl}
use Rattle.std.specs.List.{AllByRecursion}
use Rattle.std.proofs.lemmas.Bool.{cases_Bool, both_ways, and_parts, and_right, not_from_false, eqb-true}
use Rattle.xl_base.specs.Lists.{IsIn}
use Rattle.xl_base.proofs.Members.{all_weaker}
use Rattle.xl_matrix.specs.Equal.{same_parties}
use Rattle.xl_matrix.specs.Matrix.{compat, fit_by}
use Rattle.xl_matrix.specs.Weaker.{weaker}
use Rattle.xl_matrix.specs.declared.claim.Claim.{Claim}
use Rattle.xl_matrix.specs.declared.claim.What.{What}
use Rattle.xl_matrix.specs.declared.claim.What.TheVariants.{Share, Range, Cache}
use Rattle.xl_matrix.proofs.WeakerLaws.{compat_later}
use Rattle.xl_names.specs.declared.name.Name.{Name}
use Rattle.xl_table.specs.Flat.{inserted, removed, changed, with_what}
use Rattle.xl_table.specs.Held.{is_range, is_cache}
use Rattle.xl_table.specs.Relock.{most_claims}
use Rattle.xl_table.proofs.FitLaws.{fits_inserted, fits_others, raised_fits}
use Rattle.xl_table.proofs.FlatLaws.{all_inserted as all_put, all_removed, pairwise_into, pairwise_removed}
use Rattle.xl_table.proofs.InsertLaws.{sound_inserted_other, sound_changed_other}
use Rattle.xl_table.proofs.KeptLaws.{kept_inserted, kept_changed}
use Rattle.xl_core.specs.State.{CoreState}
use Rattle.xl_core.specs.Good.{IsHeld, is_single_by, is_single, IsGood, holding}
use Rattle.xl_core.proofs.ClaimLaws.{AreGood, is_single-sym, fit_of}
use Rattle.xl_core.proofs.StateLaws.{good_claims, good_from}

cache_no_range : (w : What) → is_cache w ≡ true → is_range w ≡ false
cache_no_range (Share access deny) h = refl
cache_no_range (Range extent exclusive) h = absurd (both_ways false refl h)
cache_no_range (Cache kind running) h = refl

single_cache : (c d : Claim) (w v : What) → is_cache w ≡ true → fit_by c d w v ≡ true → is_single_by c d w v ≡ true
unfolding fit_by
single_cache c d (Cache kind running) (Cache other due) h fits = (and_parts (not (same_parties c.party d.party)) _ fits).0
single_cache c d (Cache kind running) (Share access deny) h fits = refl
single_cache c d (Cache kind running) (Range extent exclusive) h fits = refl
single_cache c d (Share access deny) v h fits = absurd (both_ways false refl h)
single_cache c d (Range extent exclusive) v h fits = absurd (both_ways false refl h)

-- a cache that goes with another claim is not a second one of its party
compat_single : (c d : Claim) → is_cache c.what ≡ true → compat c d ≡ true → is_single c d ≡ true
compat_single c d cache fits =
    elim (cases_Bool (eqb c.file d.file)) [
      | inr two ↦ rw two refl
      | inl one ↦
          rw (single_cache c d c.what d.what cache (fit_of c d (eqb-true c.file d.file one) fits))
          (not_from_false (eqb c.file d.file && false) (and_right (eqb c.file d.file) false refl))
    ]

-- the claim goes with each of these
abbrev Fits : Claim → List Claim → Type 0
Fits c cs = AllByRecursion (λ d. compat c d ≡ true) cs

all_single : (c : Claim) (cs : List Claim) → is_cache c.what ≡ true → Fits c cs → AllByRecursion (λ d. is_single c d ≡ true) cs
all_single c cs cache fits = all_weaker (λ d. compat c d ≡ true) (λ d. is_single c d ≡ true) cs (λ d h. compat_single c d cache h) fits

entered_good : (names : List Name) (c : Claim) (cs : List Claim) → AreGood names cs → IsHeld names c → is_cache c.what ≡ true → Fits c cs → length cs < most_claims → AreGood names (inserted c cs)
entered_good names c cs good held cache fits room = record {
  kept = kept_inserted c cs good.kept (sound_inserted_other c cs good.kept.sound (cache_no_range c.what cache)) room;
  compatible = fits_inserted c cs fits good.compatible;
  single = pairwise_into is_single is_single-sym c cs (all_single c cs cache fits) good.single;
  known = all_put (IsHeld names) c cs held good.known;
}

changed_good : (names : List Name) (c : Claim) (to : What) (cs : List Claim) → AreGood names cs → IsIn c cs → IsHeld names (with_what c to) → is_cache to ≡ true → Fits (with_what c to) (removed c cs) → AreGood names (changed c to cs)
unfolding changed
changed_good names c to cs good there held cache fits = record {
  kept = kept_changed c to cs good.kept there (sound_changed_other c to cs good.kept.sound (cache_no_range to cache));
  compatible = raised_fits c to cs good.compatible fits;
  single = pairwise_into is_single is_single-sym (with_what c to) (removed c cs) (all_single (with_what c to) (removed c cs) cache fits) (pairwise_removed is_single c cs good.single);
  known = all_put (IsHeld names) (with_what c to) (removed c cs) held (all_removed (IsHeld names) c cs good.known);
}

-- ---- the state

held_so : (s : CoreState) (cs : List Claim) → IsGood s → AreGood s.names cs → IsGood (holding s cs)
held_so s cs good claims = good_from (holding s cs) claims good.distinct good.few good.waiters good.apart good.crowd

pub cache_entered : (s : CoreState) (c : Claim) → IsGood s → IsHeld s.names c → is_cache c.what ≡ true → AllByRecursion (λ d. compat c d ≡ true) s.claims → length s.claims < most_claims → IsGood (holding s (inserted c s.claims))
cache_entered s c good held cache fits room = held_so s (inserted c s.claims) good (entered_good s.names c s.claims (good_claims s good) held cache fits room)

pub cache_changed : (s : CoreState) (c : Claim) (to : What) → IsGood s → IsIn c s.claims → IsHeld s.names (with_what c to) → is_cache to ≡ true → AllByRecursion (λ d. compat (with_what c to) d ≡ true) (removed c s.claims) → IsGood (holding s (changed c to s.claims))
cache_changed s c to good there held cache fits = held_so s (changed c to s.claims) good (changed_good s.names c to s.claims (good_claims s good) there held cache fits)

pub cache_weakened : (s : CoreState) (c : Claim) (to : What) → IsGood s → IsIn c s.claims → IsHeld s.names (with_what c to) → is_cache to ≡ true → weaker (with_what c to) c ≡ true → IsGood (holding s (changed c to s.claims))
cache_weakened s c to good there held cache less =
    cache_changed s c to good there held cache
    (all_weaker (λ d. compat c d ≡ true) (λ d. compat (with_what c to) d ≡ true) (removed c s.claims) (λ (d : Claim) (fits : compat c d ≡ true). compat_later (with_what c to) c d less fits)
    (fits_others c s.claims there good.compatible))
