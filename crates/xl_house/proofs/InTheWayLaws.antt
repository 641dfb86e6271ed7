-- The same caches are in the way of each range of an ask.
use Rattle.std.proofs.Common.{◌≡◌, Bool, true, false, inl, inr, List, [], ◌∷◌, map, refl, sym, ap, subst, ◌∙◌}
use Rattle.std.specs.Prelude.{◌==◌, ◌&&◌, ◌||◌, not}
use Rattle.std.proofs.lemmas.Bool.{both_ways}
use Rattle.xl_base.proofs.Members.{in_map_from}
use Rattle.xl_base.specs.Lists.{IsIn}
use Rattle.xl_matrix.specs.Blocks.{is_cache, is_met, is_range, is_replaced, is_share}
use Rattle.xl_matrix.specs.Equal.{same_owners}
use Rattle.xl_matrix.specs.Matrix.{compat, fit_by}
use Rattle.xl_matrix.specs.declared.claim.Claim.{Claim}
use Rattle.xl_matrix.specs.declared.claim.Extent.{Extent}
use Rattle.xl_matrix.specs.declared.claim.What.{What}
use Rattle.xl_matrix.specs.declared.claim.What.TheVariants.{Share, Range, Cache}
use Rattle.xl_cache.specs.BreakPlans.{blocking_shares, covers, is_in_the_way, is_obstacle}
use Rattle.xl_names.specs.declared.name.Name.{Name}
use Rattle.xl_table.specs.Flat.{blocks}
use Rattle.xl_core.specs.Askers.{asked_claim, asked_claims, asked_whats, range_what}
use Rattle.xl_core.specs.declared.ask.Act.{Act}
use Rattle.xl_core.specs.declared.ask.Act.TheVariants as acts
use Rattle.xl_core.specs.declared.ask.Ask.{Ask}
use Rattle.xl_core.proofs.InTurnLaws.{filter_alike}
use Rattle.xl_house.specs.Breaking.{IsFirstOf}
use Rattle.xl_house.proofs.WishedLaws.{same_found}

-- a range of the ask
abbrev range_of : Ask → List Name → Extent × Bool → Claim
range_of a names range = asked_claim a (range_what range) names

-- ---- what blocks it, unless it is a range

-- what blocks the ask, if this is held by the claim
abbrev against : Claim → Claim → What → Bool
against ask held w =
    not (same_owners ask.owner held.owner && is_replaced held.owner w)
    && (not (not (ask.file == held.file) || fit_by ask held ask.what w) || ((ask.file == held.file) && (same_owners ask.owner held.owner && is_met ask.owner ask.what held.owner w)))

blocks_is : (ask held : Claim) → blocks ask held ≡ against ask held held.what
unfolding blocks compat
blocks_is ask held = refl

against_same : (a : Ask) (names : List Name) (extent place : Extent) (one other : Bool) (held : Claim) (w : What) → is_range w ≡ false → against (range_of a names (extent, one)) held w ≡ against (range_of a names (place, other)) held w
unfolding fit_by
against_same a names extent place true true held (Share access deny) plain = refl
against_same a names extent place true false held (Share access deny) plain = refl
against_same a names extent place false true held (Share access deny) plain = refl
against_same a names extent place false false held (Share access deny) plain = refl
against_same a names extent place true true held (Cache kind running) plain = refl
against_same a names extent place true false held (Cache kind running) plain = refl
against_same a names extent place false true held (Cache kind running) plain = refl
against_same a names extent place false false held (Cache kind running) plain = refl
against_same a names extent place one other held (Range at alone) plain = absurd (both_ways true plain refl)

same_blocks : (a : Ask) (names : List Name) (x y : Extent × Bool) (held : Claim) → is_range held.what ≡ false → blocks (range_of a names x) held ≡ blocks (range_of a names y) held
same_blocks a names x y held plain = blocks_is (range_of a names x) held ∙ against_same a names x.0 y.0 x.1 y.1 held held.what plain ∙ sym (blocks_is (range_of a names y) held)

share_plain : (w : What) → is_share w ≡ true → is_range w ≡ false
share_plain (Share access deny) is = refl
share_plain (Range extent exclusive) is = absurd (both_ways false refl is)
share_plain (Cache kind running) is = refl

cache_plain : (w : What) → is_cache w ≡ true → is_range w ≡ false
cache_plain (Share access deny) is = refl
cache_plain (Range extent exclusive) is = absurd (both_ways false refl is)
cache_plain (Cache kind running) is = refl

tested_same : (test : What → Bool) → ((w : What) → test w ≡ true → is_range w ≡ false) → (a : Ask) (names : List Name) (x y : Extent × Bool) (held : Claim) → (test held.what && blocks (range_of a names x) held) ≡ (test held.what && blocks (range_of a names y) held)
tested_same test plain a names x y held = by (test held.what) refl
  where
    by : (b : Bool) → test held.what ≡ b → (b && blocks (range_of a names x) held) ≡ (b && blocks (range_of a names y) held)
    by true is = same_blocks a names x y held (plain held.what is)
    by false is = refl

-- ---- what is in its way

ranges_alike : (a : Ask) (names : List Name) (x y : Extent × Bool) (held : List Claim) (cache : Claim) → is_obstacle (range_of a names x) held cache ≡ is_obstacle (range_of a names y) held cache
unfolding is_in_the_way
ranges_alike a names x y held cache =
    ap (λ (b : Bool). b || covers (range_of a names x) (blocking_shares (range_of a names x) held) cache) (tested_same is_cache cache_plain a names x y cache)
    ∙ ap (λ (shares : List Claim). (is_cache cache.what && blocks (range_of a names y) cache) || covers (range_of a names x) shares cache)
    (filter_alike (λ (c : Claim). is_share c.what && blocks (range_of a names x) c) (λ (c : Claim). is_share c.what && blocks (range_of a names y) c) (λ c. tested_same is_share share_plain a names x y c) held)

-- ---- and in the way of the first claim of the ask

way_of : (first c : Claim) (held : List Claim) (cache : Claim) → c ≡ first → is_obstacle c held cache ≡ true → is_obstacle first held cache ≡ true
way_of first c held cache same way = subst (λ (x : Claim). is_obstacle x held cache ≡ true) same way

pub first_in_way : (a : Ask) (names : List Name) (act : Act) (first c : Claim) → IsFirstOf (asked_claims a (asked_whats act) names) first → IsIn c (asked_claims a (asked_whats act) names) → (held : List Claim) (cache : Claim) → is_obstacle c held cache ≡ true → is_obstacle first held cache ≡ true
first_in_way a names (acts.Share access deny) first c is among held cache way =
    elim among [
      | inl e ↦ way_of first c held cache (sym e ∙ same_found (asked_claim a (Share access deny) names) first is) way
      | inr never ↦ absurd never
    ]
first_in_way a names (acts.Ranges []) first c is among held cache way = absurd among
first_in_way a names (acts.Ranges (r ∷ rs)) first c is among held cache way =
    let what = in_map_from (λ (w : What). asked_claim a w names) c (map range_what (r ∷ rs)) among in
    let range = in_map_from range_what what.0 (r ∷ rs) what.1 in
    let own : range_of a names range.0 ≡ c = ap (λ (w : What). asked_claim a w names) range.2 ∙ what.2 in
    way_of first (range_of a names r) held cache (same_found (range_of a names r) first is)
    (ranges_alike a names r range.0 held cache ∙ way_of (range_of a names range.0) c held cache (sym own) way)
first_in_way a names (acts.Test extent exclusive) first c is among held cache way = absurd among
first_in_way a names (acts.Unlock extent) first c is among held cache way = absurd among
first_in_way a names acts.Wish first c is among held cache way = absurd among
