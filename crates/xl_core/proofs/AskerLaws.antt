-- The number of a name that has one, or is still to come.
use Rattle.std.proofs.Common.{◌≡◌, ℕ, ◌+◌, ◌≤◌, true, false, List, [], ◌∷◌, ◌++◌, length, Some, None, arith, refl, sym, subst, ◌∙◌, Bool, map, ap, append_assoc}
use Rattle.std.proofs.lemmas.Bool.{or_parts}
use Rattle.std.proofs.lemmas.List.{length-append}
use Rattle.xl_names.proofs.NameLaws.{kept_from_number, new_from_none, place_new, number_stays, number_entered, same_name_is}
use Rattle.xl_names.specs.Names.{number_of, place_of, is_kept, entered, same_name, most_names}
use Rattle.xl_names.specs.declared.name.Name.{Name}
use Rattle.xl_core.specs.Askers.{coming, who_entered, both_entered, range_what, asked_claim, asked_claims}
use Rattle.xl_core.proofs.KnownLaws.{length_who}
use Rattle.xl_core.specs.declared.ask.Ask.{Ask}
use Rattle.xl_core.specs.declared.ask.Who.{Who}
use Rattle.xl_core.specs.declared.ask.Who.TheVariants.{Named}
use Rattle.xl_matrix.specs.declared.claim.Claim.{Claim}
use Rattle.xl_matrix.specs.declared.claim.Extent.{Extent}

pub place_known : (name : Name) (names : List Name) (number : ℕ) → number_of name names ≡ Some number → number ≡ place_of name names
place_known name names number e = sym (kept_from_number name names number e).1

pub place_unknown : (name : Name) (names : List Name) → number_of name names ≡ None → length names ≡ place_of name names
place_unknown name names e = sym (place_new name names (new_from_none name names e))

-- ---- how many names come

pub coming_known : (name : Name) (names : List Name) (number : ℕ) → number_of name names ≡ Some number → 0 ≡ coming (Named name) names
coming_known name names number e = rw (kept_from_number name names number e).0 refl

pub coming_unknown : (name : Name) (names : List Name) → number_of name names ≡ None → 1 ≡ coming (Named name) names
coming_unknown name names e = rw (new_from_none name names e) refl

-- ---- the place of a name once another came

pub place_still : (name other : Name) (names : List Name) (number : ℕ) → number_of name names ≡ Some number → number ≡ place_of name (entered other names)
place_still name other names number e = sym (kept_from_number name (entered other names) number (number_stays names other name number e)).1

pub place_there : (name other : Name) (names : List Name) (number : ℕ) → number_of name names ≡ None → number_of other names ≡ Some number → length names ≡ place_of name (entered other names)
place_there name other names number e k = rw (kept_from_number other names number k).0 (place_unknown name names e)

pub place_same : (name other : Name) (names : List Name) → number_of name names ≡ None → number_of other names ≡ None → same_name name other ≡ true → length names ≡ place_of name (entered other names)
place_same name other names e k same =
    subst (λ (x : Name). length names ≡ place_of name (entered x names)) (same_name_is name other same)
    (place_unknown name names e ∙ sym (kept_from_number name (entered name names) (place_of name names) (number_entered names name)).1)

new_behind : (name other : Name) (names : List Name) → is_kept name names ≡ false → same_name name other ≡ false → is_kept name (names ++ other ∷ []) ≡ false
new_behind name other [] new apart = rw apart refl
new_behind name other (n ∷ ns) new apart =
    let parts = or_parts (same_name name n) (is_kept name ns) new in
    rw (parts.0, new_behind name other ns parts.1 apart) refl

pub place_next : (name other : Name) (names : List Name) → number_of name names ≡ None → number_of other names ≡ None → same_name name other ≡ false → length names + 1 ≡ place_of name (entered other names)
place_next name other names e k apart =
    rw (new_from_none other names k)
    (sym (length-append names (other ∷ [])) ∙ sym (place_new name (names ++ other ∷ []) (new_behind name other names (new_from_none name names e) apart)))

-- ---- room for names

pub no_room : (who : Who) (name : Name) (names : List Name) → who ≡ Named name → length names ≡ most_names → is_kept name names ≡ false → length (who_entered who names) ≤ most_names → ⊥
no_room who name names is full new fits =
    let named : length (who_entered (Named name) names) ≤ most_names = subst (λ (w : Who). length (who_entered w names) ≤ most_names) is fits in
    let more : length (names ++ name ∷ []) ≤ most_names = rw new at named in
    omega (arith, more, length-append names (name ∷ []), full)

pub owner_fits : (a : Ask) (names : List Name) → length (both_entered a names) ≤ most_names → length (who_entered a.owner names) ≤ most_names
owner_fits a names fits = omega (arith, fits, length_who a.party (who_entered a.owner names))

-- one more of the claims that are asked for
pub claims_more : (a : Ask) (names : List Name) (out new : List Claim) (range : Extent × Bool) (rest : List (Extent × Bool)) (whole : List Claim) → new ≡ out ++ asked_claim a (range_what range) names ∷ [] → out ++ asked_claims a (map range_what (range ∷ rest)) names ≡ whole → new ++ asked_claims a (map range_what rest) names ≡ whole
claims_more a names out new range rest whole e so_far =
    ap (λ (cs : List Claim). cs ++ asked_claims a (map range_what rest) names) e
    ∙ append_assoc out (asked_claim a (range_what range) names ∷ []) (asked_claims a (map range_what rest) names)
    ∙ so_far
