-- A share that is united with its owner's goes with whatever both go with.
use Rattle.std.proofs.Common.{◌≡◌, ℕ, Bool, true, false, not, ◌&&◌, ◌||◌, ◌==◌, List, [], ◌∷◌, inl, inr, refl, subst, arith}
use Rattle.std.specs.List.{AllByRecursion, filter}
use Rattle.std.proofs.lemmas.Bool.{cases_Bool, both_ways, and_parts, and_from, or_cases, or_left, or_right, not-true, not-false, not_from_false}
use Rattle.std.proofs.lemmas.Bool.Decides.{nat_tests}
use Rattle.xl_base.specs.Lists.{IsIn}
use Rattle.xl_base.specs.declared.name.Party.{Party}
use Rattle.xl_base.proofs.Members.{all_from, all_in, in_filter_from}
use Rattle.xl_matrix.specs.declared.claim.CacheKind.{CacheKind}
use Rattle.xl_matrix.specs.declared.claim.CacheKind.TheVariants.{R, RH, RW, RWH, ReadDeleg, WriteDeleg}
use Rattle.xl_matrix.specs.declared.claim.Claim.{Claim}
use Rattle.xl_matrix.specs.declared.claim.Rwd.{Rwd}
use Rattle.xl_matrix.specs.declared.claim.What.{What}
use Rattle.xl_matrix.specs.declared.claim.What.TheVariants.{Share, Range, Cache}
use Rattle.xl_matrix.specs.Equal.{same_parties}
use Rattle.xl_matrix.specs.Kinds.{guarding}
use Rattle.xl_matrix.specs.Matrix.{fit_by, compat}
use Rattle.xl_matrix.specs.Rights.{common, empty}
use Rattle.xl_table.specs.Flat.{with_what}
use Rattle.xl_table.specs.Held.{is_of, is_share}
use Rattle.xl_table.specs.Relock.{is_share_of, old_shares, either_right, united_what, united_with, unites, united_by, united}
use Rattle.xl_table.proofs.ShareLaws.{united_one}
use Rattle.xl_table.proofs.WriteBack.{is_of-true}

none_common : (p q r : Rwd) → common p r ≡ false → common q r ≡ false → common (either_right p q) r ≡ false
none_common p q r = by p.r p.w p.d q.r q.w q.d r.r r.w r.d where
  by : (a b c d e f x y z : Bool) → ((a && x) || ((b && y) || (c && z))) ≡ false → ((d && x) || ((e && y) || (f && z))) ≡ false → (((a || d) && x) || (((b || e) && y) || ((c || f) && z))) ≡ false
  by a b c d e f x y z h k = grind (arith, nat_tests)

common_none : (r p q : Rwd) → common r p ≡ false → common r q ≡ false → common r (either_right p q) ≡ false
common_none r p q = by r.r r.w r.d p.r p.w p.d q.r q.w q.d where
  by : (x y z a b c d e f : Bool) → ((x && a) || ((y && b) || (z && c))) ≡ false → ((x && d) || ((y && e) || (z && f))) ≡ false → ((x && (a || d)) || ((y && (b || e)) || (z && (c || f)))) ≡ false
  by x y z a b c d e f h k = grind (arith, nat_tests)

empty_either : (p q : Rwd) → empty p ≡ true → empty q ≡ true → empty (either_right p q) ≡ true
empty_either p q = by p.r p.w p.d q.r q.w q.d where
  by : (a b c d e f : Bool) → (not a && (not b && not c)) ≡ true → (not d && (not e && not f)) ≡ true → (not (a || d) && (not (b || e) && not (c || f))) ≡ true
  by a b c d e f h k = grind (arith, nat_tests)

writing : (a d b e : Rwd) → not (empty a && empty d) ≡ false → not (empty b && empty e) ≡ false → not (empty (either_right a b) && empty (either_right d e)) ≡ false
writing a d b e h k =
    let old = and_parts (empty a) (empty d) (not-false (empty a && empty d) h) in
    let new = and_parts (empty b) (empty e) (not-false (empty b && empty e) k) in
    rw (empty_either a b old.0 new.0, empty_either d e old.1 new.1) refl

not_guarding : (kind : CacheKind) (a d b e : Rwd) → guarding kind a d ≡ false → guarding kind b e ≡ false → guarding kind (either_right a b) (either_right d e) ≡ false
not_guarding R a d b e h k = refl
not_guarding RH a d b e h k = refl
not_guarding RW a d b e h k = writing a d b e h k
not_guarding RWH a d b e h k = writing a d b e h k
not_guarding WriteDeleg a d b e h k = writing a d b e h k
not_guarding ReadDeleg a d b e h k = by a.w b.w d.r e.r h k where
  by : (x y z w : Bool) → (x || z) ≡ false → (y || w) ≡ false → ((x || y) || (z || w)) ≡ false
  by x y z w h k = grind (arith, nat_tests)

-- the share that is asked, and one that is held, both go with what a third claims
fit_one : (c d third : Claim) (w v t : What) → d.party ≡ c.party → is_share w ≡ true → is_share v ≡ true → fit_by (with_what c w) third w t ≡ true → fit_by d third v t ≡ true → fit_by (with_what c (united_what w v)) third (united_what w v) t ≡ true
unfolding fit_by
fit_one c d third (Share access deny) (Share rights denied) (Share a b) same h k f g =
    let old = and_parts (not (common access b)) (not (common a deny)) f in
    let new = and_parts (not (common rights b)) (not (common a denied)) g in
    and_from (not (common (either_right access rights) b)) (not (common a (either_right deny denied)))
    (not_from_false _ (none_common access rights b (not-true _ old.0) (not-true _ new.0)))
    (not_from_false _ (common_none a deny denied (not-true _ old.1) (not-true _ new.1)))
fit_one c d third (Share access deny) (Share rights denied) (Range extent exclusive) same h k f g = refl
fit_one c d third (Share access deny) (Share rights denied) (Cache kind running) same h k f g =
    elim (or_cases (same_parties c.party third.party) (not (guarding kind access deny)) f) [
      | inl one ↦ or_left (same_parties c.party third.party) _ one
      | inr free ↦
          elim (or_cases (same_parties d.party third.party) (not (guarding kind rights denied)) g) [
            | inl one ↦ or_left (same_parties c.party third.party) _ (subst (λ (p : Party). same_parties p third.party ≡ true) same one)
            | inr lets ↦ or_right (same_parties c.party third.party) _ (not_from_false _ (not_guarding kind access deny rights denied (not-true _ free) (not-true _ lets)))
          ]
    ]
fit_one c d third (Share access deny) (Range extent exclusive) t same h k f g = absurd (both_ways false refl k)
fit_one c d third (Share access deny) (Cache kind running) t same h k f g = absurd (both_ways false refl k)
fit_one c d third (Range extent exclusive) v t same h k f g = absurd (both_ways false refl h)
fit_one c d third (Cache kind running) v t same h k f g = absurd (both_ways false refl h)

compat_one : (c d third : Claim) (w : What) → d.file ≡ c.file → d.party ≡ c.party → is_share w ≡ true → is_share d.what ≡ true → compat (with_what c w) third ≡ true → compat d third ≡ true → compat (with_what c (united_what w d.what)) third ≡ true
unfolding compat
compat_one c d third w file party h k f g =
    elim (or_cases (not (c.file == third.file)) (fit_by (with_what c w) third w third.what) f) [
      | inl apart ↦ or_left (not (c.file == third.file)) _ apart
      | inr fits ↦
          elim (or_cases (not (d.file == third.file)) (fit_by d third d.what third.what) g) [
            | inl apart ↦ or_left (not (c.file == third.file)) _ (subst (λ (n : ℕ). not (n == third.file) ≡ true) file apart)
            | inr fit ↦ or_right (not (c.file == third.file)) _ (fit_one c d third w d.what third.what party h k fits fit)
          ]
    ]

-- a held share of the asker's party on the file, that goes with the third claim
abbrev pub IsBeside : Claim → Claim → Claim → Type 0
IsBeside c third d = (d.file ≡ c.file) × (d.party ≡ c.party) × (is_share d.what ≡ true) × (compat d third ≡ true)

compat_all : (c third : Claim) (w : What) (old : List Claim) → is_share w ≡ true → compat (with_what c w) third ≡ true → AllByRecursion (IsBeside c third) old → compat (with_what c (united_with w old)) third ≡ true
compat_all c third w [] h f all = f
compat_all c third w (d ∷ ds) h f all =
    compat_all c third (united_what w d.what) ds (united_one w d.what h) (compat_one c d third w all.0.0 all.0.1 h all.0.2 f all.0.3) all.1

-- the asker's share as it is held once it is granted goes with what both the one that is asked and those that are held go with
pub united_fits : (asked third : Claim) (held : List Claim) → is_share asked.what ≡ true → compat asked third ≡ true
    → AllByRecursion (λ d. is_share_of asked.file asked.owner d ≡ true → (d.party ≡ asked.party) × (compat d third ≡ true)) held
    → compat (united asked held) third ≡ true
unfolding united_by old_shares
united_fits asked third held share fits all =
    elim (cases_Bool (unites asked.owner)) [
      | inr alone ↦ rw alone fits
      | inl united ↦ rw united (compat_all asked third asked.what (filter (is_share_of asked.file asked.owner) held) share fits
          (all_from (IsBeside asked third) (filter (is_share_of asked.file asked.owner) held) (λ d h. beside d (in_filter_from (is_share_of asked.file asked.owner) d held h))))
    ]
  where
    beside : (d : Claim) → IsIn d held × (is_share_of asked.file asked.owner d ≡ true) → IsBeside asked third d
    beside d h =
        let both = and_parts (is_of asked.file asked.owner d) (is_share d.what) h.1 in
        let more = all_in (λ e. is_share_of asked.file asked.owner e ≡ true → (e.party ≡ asked.party) × (compat e third ≡ true)) d held all h.0 h.1 in
        ((is_of-true asked.file asked.owner d both.0).0, more.0, both.1, more.1)
