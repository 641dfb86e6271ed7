-- Claims stay pairwise compatible when one is taken out, made weaker, or entered where nothing blocks it.
use Rattle.std.proofs.Common.{◌≡◌, true, false, not, ◌||◌, List, [], ◌∷◌, inl, inr}
use Rattle.std.specs.List.{AllByRecursion, filter}
use Rattle.std.proofs.lemmas.Bool.{cases_Bool, both_ways, and_cases, or_parts, not-false}
use Rattle.xl_base.specs.Lists.{IsIn, Pairwise}
use Rattle.xl_base.proofs.Members.{all_weaker}
use Rattle.xl_matrix.specs.declared.claim.What.{What}
use Rattle.xl_matrix.specs.declared.claim.Claim.{Claim}
use Rattle.xl_matrix.specs.Matrix.{compat}
use Rattle.xl_matrix.specs.Weaker.{weaker}
use Rattle.xl_matrix.proofs.SideLaws.{compat-sym}
use Rattle.xl_matrix.proofs.WeakerLaws.{compat_later}
use Rattle.xl_table.specs.Flat.{inserted, removed, changed, with_what, is_own, is_met_by_own, blocks}
use Rattle.xl_table.proofs.FlatLaws.{pairwise_removed, pairwise_others, pairwise_into}

-- the claim fits each of these
abbrev Fits : Claim → List Claim → Type 0
Fits claim held = AllByRecursion (λ d. compat claim d ≡ true) held

pub fits_inserted : (claim : Claim) (held : List Claim) → Fits claim held → Pairwise compat held → Pairwise compat (inserted claim held)
fits_inserted claim held fits all = pairwise_into compat compat-sym claim held fits all

-- what does not block an ask, and is not replaced by it, fits it
unblocked_one : (ask held : Claim) → is_own ask held ≡ false → blocks ask held ≡ false → compat ask held ≡ true
unfolding blocks
unblocked_one ask held own free =
    elim (and_cases (not (is_own ask held)) (not (compat ask held) || is_met_by_own ask held) free) [
      | inl e ↦ absurd (both_ways (is_own ask held) own (not-false (is_own ask held) e))
      | inr e ↦ not-false (compat ask held) (or_parts (not (compat ask held)) (is_met_by_own ask held) e).0
    ]

unblocked_all : (ask : Claim) (held : List Claim) → filter (λ d. blocks ask d) held ≡ [] → AllByRecursion (λ d. is_own ask d ≡ false) held → Fits ask held
unblocked_all ask [] none own = tt
unblocked_all ask (c ∷ cs) none own =
    elim (cases_Bool (blocks ask c)) [
      | inl here ↦ let two : (c ∷ filter (λ d. blocks ask d) cs) ≡ [] = rw here at none in absurd cc
      | inr free ↦ (unblocked_one ask c own.0 free, unblocked_all ask cs (rw free at none) own.1)
    ]

pub unblocked_fits : (ask : Claim) (held : List Claim) → Pairwise compat held → AllByRecursion (λ d. is_own ask d ≡ false) held → filter (λ d. blocks ask d) held ≡ [] → Pairwise compat (inserted ask held)
unblocked_fits ask held all own none = fits_inserted ask held (unblocked_all ask held none own) all

-- a held claim fits each of the others
pub fits_others : (claim : Claim) (held : List Claim) → IsIn claim held → Pairwise compat held → Fits claim (removed claim held)
fits_others claim held h all = pairwise_others compat compat-sym claim held h all

-- a claim that goes with each of the others may become another one
pub raised_fits : (claim : Claim) (to : What) (held : List Claim) → Pairwise compat held → Fits (with_what claim to) (removed claim held) → Pairwise compat (changed claim to held)
unfolding changed
raised_fits claim to held all fits = fits_inserted (with_what claim to) (removed claim held) fits (pairwise_removed compat claim held all)

pub weakened_fits : (claim : Claim) (to : What) (held : List Claim) → Pairwise compat held → IsIn claim held → weaker (with_what claim to) claim ≡ true → Pairwise compat (changed claim to held)
unfolding changed
weakened_fits claim to held all one less =
    fits_inserted (with_what claim to) (removed claim held)
    (all_weaker (λ d. compat claim d ≡ true) (λ d. compat (with_what claim to) d ≡ true) (removed claim held)
    (λ (d : Claim) (fits : compat claim d ≡ true). compat_later (with_what claim to) claim d less fits)
    (fits_others claim held one all))
    (pairwise_removed compat claim held all)
