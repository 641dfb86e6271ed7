-- What the tests enter leaves the list sound.
use Rattle.std.proofs.Common.{◌≡◌, Bool, true, false, not, ◌&&◌, ◌==◌, nat_le, List, [], ◌∷◌, inl, inr, refl, sym, ap, subst, ◌∙◌}
use Rattle.std.specs.List.{AllByRecursion, list_all}
use Rattle.std.proofs.lemmas.Bool.{cases_Bool, both_ways, and_parts, or_cases, or_left, not-true, not_from_false, and_cases, and_right, and_from, eq-eqb, leb-true}
use Rattle.xl_base.specs.Lists.{placed, Pairwise}
use Rattle.xl_matrix.specs.declared.claim.Extent.TheVariants.{Bytes, Empty}
use Rattle.xl_matrix.specs.declared.claim.What.{What}
use Rattle.xl_matrix.specs.declared.claim.What.TheVariants.{Share, Range, Cache}
use Rattle.xl_matrix.specs.declared.claim.Claim.{Claim}
use Rattle.xl_matrix.specs.Owners.{posix}
use Rattle.xl_matrix.specs.Equal.{same_owners, same_parties}
use Rattle.xl_matrix.proofs.EqualLaws.{eqb-sym, same_owners-sym, same_owners-self}
use Rattle.xl_spans.specs.declared.span.Span.{Span}
use Rattle.xl_spans.specs.Spans.{IsCanonical}
use Rattle.xl_table.specs.Order.{goes_first}
use Rattle.xl_table.specs.Flat.{inserted, changed}
use Rattle.xl_table.specs.Held.{mode_of, with_span, is_of, spans_of, is_real_by, is_real, is_range, has_one_party, begins_first, IsSound, IsKept}
use Rattle.xl_tests_parts.specs.Trials.{is_beside, is_simple}
use Rattle.xl_table.proofs.InsertLaws.{spans_of-inserted_own, spans_of-inserted_other, sound_inserted, sound_changed_other, not_range, party_other}

all_from : (p : Claim → Bool) (cs : List Claim) → list_all p cs ≡ true → AllByRecursion (λ c. p c ≡ true) cs
all_from p [] h = tt
all_from p (c ∷ cs) h = let both = and_parts (p c) (list_all p cs) h in (both.0, all_from p cs both.1)

one_party : (claim c : Claim) → is_beside claim c ≡ true → has_one_party claim c ≡ true
one_party claim c h =
    elim (or_cases (not (is_range c.what && is_of claim.file claim.owner c)) (not (posix claim.owner)) h) [
      | inl none ↦
          or_left (not (posix claim.owner && (is_range claim.what && (is_range c.what && ((claim.file == c.file) && same_owners claim.owner c.owner))))) (same_parties claim.party c.party)
          (not_from_false (posix claim.owner && (is_range claim.what && (is_range c.what && ((claim.file == c.file) && same_owners claim.owner c.owner))))
          (and_right (posix claim.owner) (is_range claim.what && (is_range c.what && ((claim.file == c.file) && same_owners claim.owner c.owner)))
          (and_right (is_range claim.what) (is_range c.what && ((claim.file == c.file) && same_owners claim.owner c.owner))
          (rw (eqb-sym claim.file c.file, same_owners-sym claim.owner c.owner) (not-true (is_range c.what && is_of claim.file claim.owner c) none)))))
      | inr smb ↦ rw (not-true (posix claim.owner) smb) refl
    ]

parties : (claim : Claim) (held : List Claim) → AllByRecursion (λ c. is_beside claim c ≡ true) held → AllByRecursion (λ c. has_one_party claim c ≡ true) held
parties claim [] all = tt
parties claim (c ∷ cs) all = (one_party claim c all.0, parties claim cs all.1)

no_span : (what : What) (spans : List Span) → is_range what ≡ false → with_span what spans ≡ spans
no_span what spans h = not_range what h spans

-- a POSIX owner that has no range yet has no span
no_spans : (claim : Claim) (held : List Claim) → posix claim.owner ≡ true → AllByRecursion (λ c. is_beside claim c ≡ true) held → spans_of claim.file claim.owner held ≡ []
no_spans claim [] p all = refl
no_spans claim (c ∷ cs) p all =
    elim (cases_Bool (is_of claim.file claim.owner c)) [
      | inr apart ↦ rw apart (no_spans claim cs p all.1)
      | inl own ↦
          rw own
          (elim (or_cases (not (is_range c.what && is_of claim.file claim.owner c)) (not (posix claim.owner)) all.0) [
            | inl none ↦
                elim (and_cases (is_range c.what) (is_of claim.file claim.owner c) (not-true (is_range c.what && is_of claim.file claim.owner c) none)) [
                  | inl other ↦ no_span c.what (spans_of claim.file claim.owner cs) other ∙ no_spans claim cs p all.1
                  | inr apart ↦ absurd (both_ways (is_of claim.file claim.owner c) apart own)
                ]
            | inr smb ↦ absurd (both_ways (posix claim.owner) (not-true (posix claim.owner) smb) p)
          ])
    ]

canonical : (claim : Claim) (what : What) (held : List Claim) → claim.what ≡ what → is_real_by claim.owner what ≡ true → posix claim.owner ≡ true → Pairwise goes_first held → AllByRecursion (λ c. is_beside claim c ≡ true) held → IsCanonical (spans_of claim.file claim.owner (inserted claim held))
canonical claim (Range (Bytes first last) exclusive) held e real p ordered all =
    let own : is_of claim.file claim.owner claim ≡ true = and_from (claim.file == claim.file) (same_owners claim.owner claim.owner) (eq-eqb claim.file claim.file refl) (same_owners-self claim.owner) in
    let spans = spans_of-inserted_own claim.file claim.owner claim first last exclusive held own p e ordered in
    subst (λ (spans : List Span). IsCanonical spans)
    (sym (spans ∙ ap (λ (rest : List Span). placed begins_first (record { first = first; last = last; mode = mode_of exclusive }) rest) (no_spans claim held p all)))
    (leb-true first last (and_parts (nat_le first last) _ real).0, tt, tt)
canonical claim (Range (Empty offset) exclusive) held e real p ordered all = absurd (both_ways (posix claim.owner) (not-true (posix claim.owner) real) p)
canonical claim (Share access deny) held e real p ordered all =
    subst (λ (spans : List Span). IsCanonical spans)
    (sym (spans_of-inserted_other claim.file claim.owner claim held (λ (spans : List Span). ap (λ (w : What). with_span w spans) e) ∙ no_spans claim held p all)) tt
canonical claim (Cache kind running) held e real p ordered all =
    subst (λ (spans : List Span). IsCanonical spans)
    (sym (spans_of-inserted_other claim.file claim.owner claim held (λ (spans : List Span). ap (λ (w : What). with_span w spans) e) ∙ no_spans claim held p all)) tt

pub sound_simple : (claim : Claim) (held : List Claim) → is_simple claim held ≡ true → IsKept held → IsSound (inserted claim held)
sound_simple claim held h kept =
    let both = and_parts (is_real claim) (list_all (is_beside claim) held) h in
    let all = all_from (is_beside claim) held both.1 in
    sound_inserted claim held kept.sound both.0 (parties claim held all)
    (λ (p : posix claim.owner ≡ true). canonical claim claim.what held refl both.0 p kept.ordered all)

pub sound_change : (claim : Claim) (to : What) (held : List Claim) → is_range to ≡ false → IsKept held → IsSound (changed claim to held)
sound_change claim to held h kept = sound_changed_other claim to held kept.sound h

-- a share may be of any party
pub share_of_any_party : (claim : Claim) (held : List Claim) → is_range claim.what ≡ false → AllByRecursion (λ c. has_one_party claim c ≡ true) held
share_of_any_party claim held h = party_other claim held h
