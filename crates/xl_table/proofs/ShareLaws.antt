-- What a share that is granted leaves: its owner has it alone, and all else stands as it stood.
use Rattle.std.proofs.Common.{◌≡◌, ℕ, Bool, true, false, not, ◌&&◌, if◌then◌else◌, inl, inr, List, [], ◌∷◌, map, Option, refl, sym, ap, ◌∙◌}
use Rattle.std.specs.List.{filter}
use Rattle.std.proofs.lemmas.Bool.{cases_Bool, both_ways, and_parts, eq-eqb, and_from}
use Rattle.xl_base.specs.declared.name.Owner.{Owner}
use Rattle.xl_base.specs.declared.name.Party.{Party}
use Rattle.xl_matrix.specs.declared.claim.Claim.{Claim}
use Rattle.xl_matrix.specs.declared.claim.Rwd.{Rwd}
use Rattle.xl_matrix.specs.declared.claim.What.{What}
use Rattle.xl_matrix.specs.declared.claim.What.TheVariants.{Share, Range, Cache}
use Rattle.xl_matrix.specs.Equal.{same_owners}
use Rattle.xl_matrix.proofs.EqualLaws.{same_owners-self}
use Rattle.xl_spans.specs.declared.span.Mode.{Mode}
use Rattle.xl_spans.specs.declared.span.Span.{Span}
use Rattle.xl_table.specs.Flat.{inserted}
use Rattle.xl_table.specs.Held.{is_range, is_share, with_span, is_of, spans_of, IsSound, IsKept}
use Rattle.xl_table.specs.Order.{goes_first}
use Rattle.xl_table.proofs.InsertLaws.{not_range, spans_of-inserted_other, sound_inserted_other}
use Rattle.xl_base.specs.Lists.{Pairwise}
use Rattle.xl_spans.specs.Spans.{relocked}
use Rattle.xl_table.specs.Relock.{range_claim, unranged, all_inserted, relocked_in, is_share_of, with_share, shares_of, unshared, old_shares, united_what, united_with, unites, united_by, united, shared_in}
use Rattle.xl_table.proofs.OrderLaws.{inserted_ordered}
use Rattle.xl_table.proofs.WriteBack.{kept_filter, of_no_other, relocked_is}

pub share_is_no_range : (w : What) → is_share w ≡ true → is_range w ≡ false
share_is_no_range (Share access deny) h = refl
share_is_no_range (Range extent exclusive) h = absurd (both_ways false refl h)
share_is_no_range (Cache kind running) h = absurd (both_ways false refl h)

pub kept_unshared : (file : ℕ) (owner : Owner) (cs : List Claim) → IsKept cs → IsKept (unshared file owner cs)
unfolding unshared
kept_unshared file owner cs kept = kept_filter (λ c. not (is_share_of file owner c)) cs kept

-- ---- shares when a claim is entered

abbrev IsNoShare : What → Type 0
IsNoShare w = (shares : List (Rwd × Rwd)) → with_share w shares ≡ shares

shares_of-inserted_other : (file : ℕ) (owner : Owner) (claim : Claim) (held : List Claim) → IsNoShare claim.what → shares_of file owner (inserted claim held) ≡ shares_of file owner held
unfolding inserted
shares_of-inserted_other file owner claim [] other =
    elim (cases_Bool (is_of file owner claim)) [
      | inl own ↦ rw own (other [])
      | inr apart ↦ rw apart refl
    ]
shares_of-inserted_other file owner claim (c ∷ cs) other =
    elim (cases_Bool (goes_first c claim)) [
      | inl earlier ↦ rw (earlier, shares_of-inserted_other file owner claim cs other) refl
      | inr later ↦ rw later (elim (cases_Bool (is_of file owner claim)) [
        | inl own ↦ rw own (other (shares_of file owner (c ∷ cs)))
        | inr apart ↦ rw apart refl
      ])
    ]

pub shares_of-inserted_apart : (file : ℕ) (owner : Owner) (claim : Claim) (held : List Claim) → is_of file owner claim ≡ false → shares_of file owner (inserted claim held) ≡ shares_of file owner held
unfolding inserted
shares_of-inserted_apart file owner claim [] apart = rw apart refl
shares_of-inserted_apart file owner claim (c ∷ cs) apart =
    elim (cases_Bool (goes_first c claim)) [
      | inl earlier ↦ rw (earlier, shares_of-inserted_apart file owner claim cs apart) refl
      | inr later ↦ rw (later, apart) refl
    ]

more_shares : (file : ℕ) (owner : Owner) (c : Claim) (cs : List Claim) → shares_of file owner (c ∷ cs) ≡ [] → (is_of file owner c ≡ true → IsNoShare c.what) × (shares_of file owner cs ≡ [])
more_shares file owner c cs none =
    elim (cases_Bool (is_of file owner c)) [
      | inl own ↦ let parts = no_more c.what (shares_of file owner cs) (rw own at none) in (λ h. parts.0, parts.1)
      | inr apart ↦ (λ h. absurd (both_ways (is_of file owner c) apart h), rw apart at none)
    ]
  where
    no_more : (w : What) (rest : List (Rwd × Rwd)) → with_share w rest ≡ [] → IsNoShare w × (rest ≡ [])
    no_more (Share access deny) rest e = absurd cc
    no_more (Range extent exclusive) rest e = (λ shares. refl, e)
    no_more (Cache kind running) rest e = (λ shares. refl, e)

-- who has no share has just this one once it is entered
pub shares_of-inserted_own : (file : ℕ) (owner : Owner) (claim : Claim) (access deny : Rwd) (held : List Claim) → is_of file owner claim ≡ true → claim.what ≡ Share access deny → shares_of file owner held ≡ [] → shares_of file owner (inserted claim held) ≡ (access, deny) ∷ []
unfolding inserted
shares_of-inserted_own file owner claim access deny [] own is none = rw (own, is) refl
shares_of-inserted_own file owner claim access deny (c ∷ cs) own is none =
    let more = more_shares file owner c cs none in
    elim (cases_Bool (goes_first c claim)) [
      | inl earlier ↦ rw earlier (elim (cases_Bool (is_of file owner c)) [
        | inl mine ↦ rw mine (more.0 mine (shares_of file owner (inserted claim cs)) ∙ shares_of-inserted_own file owner claim access deny cs own is more.1)
        | inr apart ↦ rw apart (shares_of-inserted_own file owner claim access deny cs own is more.1)
      ])
      | inr later ↦ rw (later, own) (ap (λ (w : What). with_share w (shares_of file owner (c ∷ cs))) is ∙ ap (λ (shares : List (Rwd × Rwd)). (access, deny) ∷ shares) none)
    ]

-- ---- shares and spans without the owner's share

none_unshared : (file : ℕ) (owner : Owner) (cs : List Claim) → shares_of file owner (unshared file owner cs) ≡ []
unfolding unshared
none_unshared file owner [] = refl
none_unshared file owner (c ∷ cs) =
    elim (cases_Bool (is_of file owner c)) [
      | inr apart ↦ rw apart (rw apart (none_unshared file owner cs))
      | inl own ↦ elim (cases_Bool (is_share c.what)) [
        | inl share ↦ rw (own, share) (none_unshared file owner cs)
        | inr other ↦ rw (own, other) (rw own (without c.what (shares_of file owner (filter (λ d. not (is_share_of file owner d)) cs)) other ∙ none_unshared file owner cs))
      ]
    ]
  where
    without : (w : What) (rest : List (Rwd × Rwd)) → is_share w ≡ false → with_share w rest ≡ rest
    without (Share access deny) rest h = absurd (both_ways true h refl)
    without (Range extent exclusive) rest h = refl
    without (Cache kind running) rest h = refl

shares_apart : (file : ℕ) (owner : Owner) (at : ℕ) (who : Owner) (cs : List Claim) → ((at ≡ file) × (who ≡ owner) → ⊥) → shares_of at who (unshared file owner cs) ≡ shares_of at who cs
unfolding unshared
shares_apart file owner at who [] apart = refl
shares_apart file owner at who (c ∷ cs) apart =
    let rest = shares_apart file owner at who cs apart in
    elim (cases_Bool (is_of file owner c)) [
      | inr other ↦ rw other (ap (λ (shares : List (Rwd × Rwd)). if is_of at who c then with_share c.what shares else shares) rest)
      | inl own ↦ elim (cases_Bool (is_share c.what)) [
        | inl share ↦ rw (own, share, of_no_other file owner at who c apart own) rest
        | inr other ↦ rw (own, other, of_no_other file owner at who c apart own) rest
      ]
    ]

spans_unshared : (file : ℕ) (owner : Owner) (at : ℕ) (who : Owner) (cs : List Claim) → spans_of at who (unshared file owner cs) ≡ spans_of at who cs
unfolding unshared
spans_unshared file owner at who [] = refl
spans_unshared file owner at who (c ∷ cs) =
    let rest = spans_unshared file owner at who cs in
    elim (cases_Bool (is_of file owner c && is_share c.what)) [
      | inr stays ↦ rw stays (ap (λ (spans : List Span). if is_of at who c then with_span c.what spans else spans) rest)
      | inl goes ↦
          let none = not_range c.what (share_is_no_range c.what (and_parts (is_of file owner c) (is_share c.what) goes).1) (spans_of at who cs) in
          rw goes (rest ∙ sym (skipped (is_of at who c) (with_span c.what (spans_of at who cs)) (spans_of at who cs) none))
    ]
  where
    skipped : (b : Bool) (with without : List Span) → with ≡ without → (if b then with else without) ≡ without
    skipped true with without e = e
    skipped false with without e = refl

-- ---- a share is granted

pub is_own : (c : Claim) → is_of c.file c.owner c ≡ true
is_own c = and_from _ (same_owners c.owner c.owner) (eq-eqb c.file c.file refl) (same_owners-self c.owner)

-- a share stays one when it is united with others
pub united_one : (w v : What) → is_share w ≡ true → is_share (united_what w v) ≡ true
united_one (Share access deny) (Share rights denied) h = refl
united_one (Share access deny) (Range extent exclusive) h = refl
united_one (Share access deny) (Cache kind running) h = refl
united_one (Range extent exclusive) v h = absurd (both_ways false refl h)
united_one (Cache kind running) v h = absurd (both_ways false refl h)

united_all : (w : What) (old : List Claim) → is_share w ≡ true → is_share (united_with w old) ≡ true
united_all w [] h = h
united_all w (c ∷ cs) h = united_all (united_what w c.what) cs (united_one w c.what h)

pub united_share : (owner : Owner) (w : What) (old : List Claim) → is_share w ≡ true → is_share (united_by owner w old) ≡ true
unfolding united_by
united_share owner w old h = elim (cases_Bool (unites owner)) [ inl e ↦ rw e (united_all w old h) | inr e ↦ rw e h ]

-- one that is not united stands as it was asked
pub not_united : (c : Claim) (cs : List Claim) → unites c.owner ≡ false → united c cs ≡ c
unfolding united_by
not_united c cs h = rw h refl

-- the owner has the share, and no other
pub shares_of-shared : (c : Claim) (cs : List Claim) → is_share c.what ≡ true → shares_of c.file c.owner (shared_in c cs) ≡ with_share (united c cs).what []
unfolding shared_in
shares_of-shared c cs share = go (united c cs).what refl (united_share c.owner c.what (old_shares c.file c.owner cs) share) where
  go : (w : What) → (united c cs).what ≡ w → is_share w ≡ true → shares_of c.file c.owner (inserted (united c cs) (unshared c.file c.owner cs)) ≡ with_share w []
  go (Share access deny) is h = shares_of-inserted_own c.file c.owner (united c cs) access deny (unshared c.file c.owner cs) (is_own c) is (none_unshared c.file c.owner cs)
  go (Range extent exclusive) is h = absurd (both_ways false refl h)
  go (Cache kind running) is h = absurd (both_ways false refl h)

-- each other owner, and on each other file, has the share that it had
pub shares_of-shared_apart : (c : Claim) (cs : List Claim) (at : ℕ) (who : Owner) → ((at ≡ c.file) × (who ≡ c.owner) → ⊥) → shares_of at who (shared_in c cs) ≡ shares_of at who cs
unfolding shared_in
shares_of-shared_apart c cs at who apart =
    shares_of-inserted_apart at who (united c cs) (unshared c.file c.owner cs) (of_no_other c.file c.owner at who c apart (is_own c)) ∙ shares_apart c.file c.owner at who cs apart

-- no range changes
pub spans_of-shared : (c : Claim) (cs : List Claim) (at : ℕ) (who : Owner) → is_share c.what ≡ true → spans_of at who (shared_in c cs) ≡ spans_of at who cs
unfolding shared_in
spans_of-shared c cs at who share =
    spans_of-inserted_other at who (united c cs) (unshared c.file c.owner cs) (not_range (united c cs).what (share_is_no_range (united c cs).what (united_share c.owner c.what (old_shares c.file c.owner cs) share))) ∙ spans_unshared c.file c.owner at who cs

-- the list stays sound and in order
pub sound_shared : (c : Claim) (cs : List Claim) → IsKept cs → is_share c.what ≡ true → IsSound (shared_in c cs)
unfolding shared_in
sound_shared c cs kept share =
    sound_inserted_other (united c cs) (unshared c.file c.owner cs) (kept_unshared c.file c.owner cs kept).sound
    (share_is_no_range (united c cs).what (united_share c.owner c.what (old_shares c.file c.owner cs) share))

pub ordered_shared : (c : Claim) (cs : List Claim) → IsKept cs → Pairwise goes_first (shared_in c cs)
unfolding shared_in
ordered_shared c cs kept = inserted_ordered (united c cs) (unshared c.file c.owner cs) (kept_unshared c.file c.owner cs kept).ordered

-- ---- a range is locked or unlocked

shares_unranged : (file : ℕ) (owner : Owner) (at : ℕ) (who : Owner) (cs : List Claim) → shares_of at who (unranged file owner cs) ≡ shares_of at who cs
unfolding unranged
shares_unranged file owner at who [] = refl
shares_unranged file owner at who (c ∷ cs) =
    let rest = shares_unranged file owner at who cs in
    elim (cases_Bool (is_of file owner c && is_range c.what)) [
      | inr stays ↦ rw stays (ap (λ (shares : List (Rwd × Rwd)). if is_of at who c then with_share c.what shares else shares) rest)
      | inl goes ↦
          let none = no_share c.what (shares_of at who cs) (and_parts (is_of file owner c) (is_range c.what) goes).1 in
          rw goes (rest ∙ sym (skipped (is_of at who c) (with_share c.what (shares_of at who cs)) (shares_of at who cs) none))
    ]
  where
    no_share : (w : What) (rest : List (Rwd × Rwd)) → is_range w ≡ true → with_share w rest ≡ rest
    no_share (Range extent exclusive) rest h = refl
    no_share (Cache kind running) rest h = refl
    no_share (Share access deny) rest h = absurd (both_ways false refl h)

    skipped : (b : Bool) (with without : List (Rwd × Rwd)) → with ≡ without → (if b then with else without) ≡ without
    skipped true with without e = e
    skipped false with without e = refl

shares_entered : (file : ℕ) (owner : Owner) (party : Party) (at : ℕ) (who : Owner) (xs : List Span) (held : List Claim) → shares_of at who (all_inserted (map (range_claim file owner party) xs) held) ≡ shares_of at who held
shares_entered file owner party at who [] held = refl
shares_entered file owner party at who (x ∷ xs) held =
    let c = range_claim file owner party x in
    shares_entered file owner party at who xs (inserted c held) ∙ shares_of-inserted_other at who c held (λ shares. refl)

-- no share changes
pub shares_of-relocked : (file : ℕ) (owner : Owner) (party : Party) (first last : ℕ) (mode : Option Mode) (cs : List Claim) (at : ℕ) (who : Owner) → shares_of at who (relocked_in file owner party first last mode cs) ≡ shares_of at who cs
shares_of-relocked file owner party first last mode cs at who =
    ap (λ (ds : List Claim). shares_of at who ds) (relocked_is file owner party first last mode cs)
    ∙ shares_entered file owner party at who (relocked (spans_of file owner cs) first last mode) (unranged file owner cs)
    ∙ shares_unranged file owner at who cs
