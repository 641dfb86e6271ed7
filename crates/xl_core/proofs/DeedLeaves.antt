-- What each owner has left where a share is given back, and where a party leaves.
use Rattle.std.proofs.Common.{◌≡◌, ℕ, Bool, true, false, not, if◌then◌else◌, eqb, inl, inr, Some, List, [], ◌∷◌, refl, sym, ap, subst, ◌∙◌}
use Rattle.std.specs.List.{AllByRecursion, filter, find}
use Rattle.std.proofs.lemmas.Bool.{cases_Bool, both_ways, and_parts, and_from, eq-eqb}
use Rattle.std.proofs.lemmas.Option.{same_Some}
use Rattle.xl_base.specs.Lists.{IsIn, Pairwise}
use Rattle.xl_base.proofs.Members.{all_in}
use Rattle.xl_base.specs.declared.name.Owner.{Owner}
use Rattle.xl_matrix.proofs.EqualLaws.{same_owners-self, same_claims-true, same_claims-self}
use Rattle.xl_matrix.specs.Equal.{same_owners, same_claims}
use Rattle.xl_matrix.specs.declared.claim.Claim.{Claim}
use Rattle.xl_matrix.specs.declared.claim.Rwd.{Rwd}
use Rattle.xl_matrix.specs.declared.claim.What.{What}
use Rattle.xl_matrix.specs.declared.claim.What.TheVariants.{Share, Range, Cache}
use Rattle.xl_spans.specs.declared.span.Span.{Span}
use Rattle.xl_table.specs.Flat.{removed}
use Rattle.xl_table.specs.Held.{is_of, with_span, spans_of, is_range, is_cache}
use Rattle.xl_core.specs.Good.{is_single_by, is_single}
use Rattle.xl_table.specs.Held.{is_share}
use Rattle.xl_table.specs.Elements.{elements_of}
use Rattle.xl_table.specs.Relock.{is_share_of, with_share, shares_of}
use Rattle.xl_table.proofs.WriteBack.{is_of-true}

-- ---- a share is given back

skipped : {A : Type 0} (b : Bool) (more rest : A) → more ≡ rest → (if b then more else rest) ≡ rest
skipped true more rest e = e
skipped false more rest e = refl

share_no_span : (w : What) (spans : List Span) → is_share w ≡ true → with_span w spans ≡ spans
share_no_span (Share access deny) spans h = refl
share_no_span (Range extent exclusive) spans h = absurd (both_ways false refl h)
share_no_span (Cache kind running) spans h = refl

no_share : (w : What) (shares : List (Rwd × Rwd)) → is_share w ≡ false → with_share w shares ≡ shares
no_share (Share access deny) shares h = absurd (both_ways true h refl)
no_share (Range extent exclusive) shares h = refl
no_share (Cache kind running) shares h = refl

-- a share is no range
pub share_given : (w : What) → is_share w ≡ true → is_range w ≡ false
share_given (Share access deny) h = refl
share_given (Range extent exclusive) h = absurd (both_ways false refl h)
share_given (Cache kind running) h = absurd (both_ways false refl h)

-- no range changes
pub spans_of-given : (file : ℕ) (owner : Owner) (claim : Claim) (cs : List Claim) → is_share claim.what ≡ true → spans_of file owner (removed claim cs) ≡ spans_of file owner cs
spans_of-given file owner claim [] share = refl
spans_of-given file owner claim (c ∷ cs) share =
    elim (cases_Bool (same_claims c claim)) [
      | inl same ↦
          let none = share_no_span c.what (spans_of file owner cs) (ap (λ (d : Claim). is_share d.what) (same_claims-true c claim same) ∙ share) in
          rw same (sym (skipped (is_of file owner c) (with_span c.what (spans_of file owner cs)) (spans_of file owner cs) none))
      | inr other ↦ rw other (ap (λ (spans : List Span). if is_of file owner c then with_span c.what spans else spans) (spans_of-given file owner claim cs share))
    ]

-- each other owner, and on each other file, keeps its share
pub shares_of-given_apart : (file : ℕ) (owner : Owner) (claim : Claim) (cs : List Claim) → is_of file owner claim ≡ false → shares_of file owner (removed claim cs) ≡ shares_of file owner cs
shares_of-given_apart file owner claim [] apart = refl
shares_of-given_apart file owner claim (c ∷ cs) apart =
    elim (cases_Bool (same_claims c claim)) [
      | inl same ↦
          let none : is_of file owner c ≡ false = ap (λ (d : Claim). is_of file owner d) (same_claims-true c claim same) ∙ apart in
          rw (same, none) refl
      | inr other ↦ rw other (ap (λ (shares : List (Rwd × Rwd)). if is_of file owner c then with_share c.what shares else shares) (shares_of-given_apart file owner claim cs apart))
    ]

both_shares : (a b : Claim) (v w : What) → is_share v ≡ true → is_share w ≡ true → same_owners a.owner b.owner ≡ true → is_single_by a b v w ≡ false
both_shares a b (Share access deny) (Share rights denied) h k same = rw same refl
both_shares a b (Share access deny) (Range extent exclusive) h k same = absurd (both_ways false refl k)
both_shares a b (Share access deny) (Cache kind running) h k same = absurd (both_ways false refl k)
both_shares a b (Range extent exclusive) w h k same = absurd (both_ways false refl h)
both_shares a b (Cache kind running) w h k same = absurd (both_ways false refl h)

-- beside an owner's share it has no other on the file
no_second : (file : ℕ) (owner : Owner) (a b : Claim) → is_single a b ≡ true → is_share_of file owner a ≡ true → is_of file owner b ≡ true → is_share b.what ≡ false
no_second file owner a b single own mine =
    let parts = and_parts (is_of file owner a) (is_share a.what) own in
    let here = is_of-true file owner a parts.0 in
    let there = is_of-true file owner b mine in
    elim (cases_Bool (is_share b.what)) [
      | inr e ↦ e
      | inl share ↦
          let files : eqb a.file b.file ≡ true = eq-eqb a.file b.file (here.0 ∙ sym there.0) in
          let same : same_owners a.owner b.owner ≡ true = subst (λ (o : Owner). same_owners a.owner o ≡ true) (here.1 ∙ sym there.1) (same_owners-self a.owner) in
          let two : is_single a b ≡ false = rw (files, both_shares a b a.what b.what parts.1 share same) refl in
          absurd (both_ways (is_single a b) two single)
    ]

none_beside : (file : ℕ) (owner : Owner) (claim : Claim) (cs : List Claim) → AllByRecursion (λ d. is_single claim d ≡ true) cs → is_share_of file owner claim ≡ true → shares_of file owner cs ≡ []
none_beside file owner claim [] all own = refl
none_beside file owner claim (c ∷ cs) all own =
    let rest = none_beside file owner claim cs all.1 own in
    elim (cases_Bool (is_of file owner c)) [
      | inr apart ↦ rw apart rest
      | inl mine ↦ rw mine (no_share c.what (shares_of file owner cs) (no_second file owner claim c all.0 own mine) ∙ rest)
    ]

-- its owner has none any more
pub shares_of-given : (file : ℕ) (owner : Owner) (claim : Claim) (cs : List Claim) → Pairwise is_single cs → IsIn claim cs → is_share_of file owner claim ≡ true → shares_of file owner (removed claim cs) ≡ []
shares_of-given file owner claim [] single there own = absurd there
shares_of-given file owner claim (c ∷ cs) single there own =
    elim (cases_Bool (same_claims c claim)) [
      | inl same ↦ rw same (none_beside file owner claim cs (subst (λ (d : Claim). AllByRecursion (λ e. is_single d e ≡ true) cs) (same_claims-true c claim same) single.0) own)
      | inr other ↦ elim there [
        | inl e ↦ absurd (both_ways (same_claims c claim) other (subst (λ (d : Claim). same_claims c d ≡ true) e (same_claims-self c)))
        | inr t ↦
            let rest = shares_of-given file owner claim cs single.1 t own in
            rw other (elim (cases_Bool (is_of file owner c)) [
              | inr apart ↦ rw apart rest
              | inl mine ↦ rw mine (no_share c.what (shares_of file owner (removed claim cs)) (no_first (all_in (λ d. is_single c d ≡ true) claim cs single.0 t) mine) ∙ rest)
            ])
      ]
    ]
  where
    no_first : is_single c claim ≡ true → is_of file owner c ≡ true → is_share c.what ≡ false
    no_first one mine =
        let parts = and_parts (is_of file owner claim) (is_share claim.what) own in
        elim (cases_Bool (is_share c.what)) [
          | inr e ↦ e
          | inl share ↦ absurd (both_ways (is_share claim.what) (no_second file owner c claim one (and_from (is_of file owner c) (is_share c.what) mine share) parts.0) parts.1)
        ]

-- what is found is there, and is what was looked for
pub found_in : {A : Type 0} (p : A → Bool) (xs : List A) (x : A) → find p xs ≡ Some x → IsIn x xs × (p x ≡ true)
found_in p [] x e = absurd cc
found_in p (y ∷ ys) x e =
    elim (cases_Bool (p y)) [
      | inl here ↦ let same : y ≡ x = same_Some y x (rw here at e) in (inl same, subst (λ z. p z ≡ true) same here)
      | inr later ↦ let rest = found_in p ys x (rw later at e) in (inr rest.0, rest.1)
    ]

-- ---- who leaves

-- where no claim at the owner's place goes, its spans, shares and elements stay
pub none_gone : (file : ℕ) (owner : Owner) (goes : Claim → Bool) (cs : List Claim) → ((d : Claim) → IsIn d cs → is_of file owner d ≡ true → is_cache d.what ≡ false → goes d ≡ false)
    → (spans_of file owner (filter (λ c. not (goes c)) cs) ≡ spans_of file owner cs) × (shares_of file owner (filter (λ c. not (goes c)) cs) ≡ shares_of file owner cs) × (elements_of file owner (filter (λ c. not (goes c)) cs) ≡ elements_of file owner cs)
none_gone file owner goes [] each = (refl, refl, refl)
none_gone file owner goes (c ∷ cs) each =
    let rest = none_gone file owner goes cs (λ d h own real. each d (inr h) own real) in
    elim (cases_Bool (is_of file owner c)) [
      | inr other ↦ elim (cases_Bool (goes c)) [
        | inl gone ↦ rw gone (rw other rest)
        | inr stay ↦ rw stay (rw other rest)
      ]
      | inl own ↦ elim (cases_Bool (is_cache c.what)) [
        | inr real ↦
            let stay = each c (inl refl) own real in
            rw stay (rw own (ap (λ (spans : List Span). with_span c.what spans) rest.0, ap (λ (shares : List (Rwd × Rwd)). with_share c.what shares) rest.1, ap (λ (ws : List What). if is_range c.what then c.what ∷ ws else ws) rest.2))
        | inl cache ↦
            let none = is_nothing c.what cache in
            elim (cases_Bool (goes c)) [
              | inl gone ↦ rw gone (rw own (rest.0 ∙ sym (none.0 (spans_of file owner cs)), rest.1 ∙ sym (none.1 (shares_of file owner cs)), rest.2 ∙ sym (ap (λ (b : Bool). if b then c.what ∷ elements_of file owner cs else elements_of file owner cs) none.2)))
              | inr stay ↦ rw stay (rw own (ap (λ (spans : List Span). with_span c.what spans) rest.0, ap (λ (shares : List (Rwd × Rwd)). with_share c.what shares) rest.1, ap (λ (ws : List What). if is_range c.what then c.what ∷ ws else ws) rest.2))
            ]
      ]
    ]
  where
    is_nothing : (w : What) → is_cache w ≡ true → ((spans : List Span) → with_span w spans ≡ spans) × ((shares : List (Rwd × Rwd)) → with_share w shares ≡ shares) × (is_range w ≡ false)
    is_nothing (Cache kind running) h = (λ spans. refl, λ shares. refl, refl)
    is_nothing (Share access deny) h = absurd (both_ways false refl h)
    is_nothing (Range extent exclusive) h = absurd (both_ways false refl h)

-- where each of the owner's shares and ranges on the file goes, nothing stays of these
pub all_gone : (file : ℕ) (owner : Owner) (goes : Claim → Bool) (cs : List Claim) → ((d : Claim) → IsIn d cs → is_of file owner d ≡ true → is_cache d.what ≡ false → goes d ≡ true)
    → (shares_of file owner (filter (λ c. not (goes c)) cs) ≡ []) × (elements_of file owner (filter (λ c. not (goes c)) cs) ≡ [])
all_gone file owner goes [] each = (refl, refl)
all_gone file owner goes (c ∷ cs) each =
    let rest = all_gone file owner goes cs (λ d h own real. each d (inr h) own real) in
    elim (cases_Bool (goes c)) [
      | inl gone ↦ rw gone rest
      | inr stay ↦ elim (cases_Bool (is_of file owner c)) [
        | inr other ↦ rw stay (rw other rest)
        | inl own ↦ elim (cases_Bool (is_cache c.what)) [
          | inr real ↦ absurd (both_ways (goes c) stay (each c (inl refl) own real))
          | inl cache ↦
              let none = is_nothing c.what cache in
              rw stay (rw own (none.0 (shares_of file owner (filter (λ d. not (goes d)) cs)) ∙ rest.0, ap (λ (b : Bool). if b then c.what ∷ elements_of file owner (filter (λ d. not (goes d)) cs) else elements_of file owner (filter (λ d. not (goes d)) cs)) none.1 ∙ rest.1))
        ]
      ]
    ]
  where
    is_nothing : (w : What) → is_cache w ≡ true → ((shares : List (Rwd × Rwd)) → with_share w shares ≡ shares) × (is_range w ≡ false)
    is_nothing (Cache kind running) h = (λ shares. refl, refl)
    is_nothing (Share access deny) h = absurd (both_ways false refl h)
    is_nothing (Range extent exclusive) h = absurd (both_ways false refl h)
