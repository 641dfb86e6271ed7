-- What is asked for may be had in one request: a share, a range, or several ranges of an SMB open.
use Rattle.std.proofs.Common.{◌≡◌, true, false, List, [], ◌∷◌, Bool, map, ◌∙◌, refl}
use Rattle.std.specs.List.{AllByRecursion}
use Rattle.xl_base.specs.Lists.{Pairwise}
use Rattle.xl_matrix.proofs.EqualLaws.{same_parties-self}
use Rattle.xl_matrix.specs.declared.claim.Claim.{Claim}
use Rattle.xl_matrix.specs.declared.claim.Extent.{Extent}
use Rattle.xl_matrix.specs.declared.claim.What.{What}
use Rattle.xl_names.specs.declared.name.Name.{Name}
use Rattle.xl_table.specs.Held.{IsShareOrLock}
use Rattle.xl_core.specs.Askers.{is_client, is_named, may_hold, may_hold_all, IsFitAct, range_what, asked_claim, asked_claims, asking_party}
use Rattle.xl_core.specs.Good.{IsPled}
use Rattle.xl_core.specs.Judge.{AreElements, are_of_one_party}
use Rattle.xl_core.specs.declared.ask.Act.TheVariants.{Ranges}
use Rattle.xl_core.specs.declared.ask.Ask.{Ask}
use Rattle.xl_core.proofs.CauseLaws.{own_ranges, fit_ranges, real_range}
use Rattle.xl_core.proofs.KnownLaws.{asked_known, asker_named}

-- each of several ranges of an open may be had, and all are of one party
each_element : (a : Ask) (names : List Name) (ranges : List (Extent × Bool)) → is_client a.owner a.party ≡ true → is_named a.owner ≡ false → AllByRecursion (λ (w : What). may_hold a.owner w ≡ true) (map range_what ranges) → AllByRecursion (λ (w : What). IsShareOrLock w) (map range_what ranges) → AreElements (asked_claims a (map range_what ranges) names)
each_element a names [] client unnamed own order = tt
each_element a names (range ∷ ranges) client unnamed own order =
    (((asked_known a (range_what range) names client own.0 order.0).0, refl, asker_named a names client ∙ unnamed), each_element a names ranges client unnamed own.1 order.1)

of_one : (a : Ask) (names : List Name) (ws : List What) → Pairwise are_of_one_party (asked_claims a ws names)
of_one a names [] = tt
of_one a names (w ∷ ws) = (with_first ws, of_one a names ws) where
  with_first : (vs : List What) → AllByRecursion (λ d. are_of_one_party (asked_claim a w names) d ≡ true) (asked_claims a vs names)
  with_first [] = tt
  with_first (v ∷ vs) = (same_parties-self (asking_party a names), with_first vs)

there : (a : Ask) (names : List Name) (ws : List What) → AllByRecursion (λ (c : Claim). c.file ≡ a.file) (asked_claims a ws names)
there a names [] = tt
there a names (w ∷ ws) = (refl, there a names ws)

pub ranges_pled : (a : Ask) (ranges : List (Extent × Bool)) (names : List Name) → IsFitAct a.owner a.blocking (Ranges ranges) → is_client a.owner a.party ≡ true → may_hold_all a.owner ranges ≡ true → IsPled (asked_claims a (map range_what ranges) names)
ranges_pled a [] names fit client may = absurd fit
ranges_pled a (range ∷ []) names fit client may = ((asked_known a (range_what range) names client (own_ranges a.owner (range ∷ []) may).0 (real_range range.0 range.1 fit.0)).0, tt)
ranges_pled a (range ∷ more ∷ rest) names fit client may = (
  (
    each_element a names (range ∷ more ∷ rest) client fit.1.0 (own_ranges a.owner (range ∷ more ∷ rest) may) (real_range range.0 range.1 fit.0, fit_ranges a.owner a.blocking (more ∷ rest) fit.1),
    of_one a names (map range_what (range ∷ more ∷ rest)),
  ),
  there a names (map range_what (more ∷ rest)),
)
