-- Caches stay as they are where shares and ranges come and go.
use Rattle.std.proofs.Common.{◌≡◌, ℕ, Bool, true, false, not, if◌then◌else◌, inl, inr, List, [], ◌∷◌, map, Option, Some, refl, ap, ◌∙◌}
use Rattle.std.specs.List.{filter}
use Rattle.std.proofs.lemmas.Bool.{cases_Bool, both_ways, and_parts}
use Rattle.xl_base.specs.declared.name.Owner.{Owner}
use Rattle.xl_base.specs.declared.name.Party.{Party}
use Rattle.xl_matrix.specs.declared.claim.Claim.{Claim}
use Rattle.xl_matrix.specs.declared.claim.Extent.TheVariants.{Bytes, Empty}
use Rattle.xl_matrix.specs.declared.claim.What.{What}
use Rattle.xl_matrix.specs.declared.claim.What.TheVariants.{Share, Range, Cache}
use Rattle.xl_matrix.specs.Equal.{same_claims}
use Rattle.xl_matrix.proofs.EqualLaws.{same_claims-true}
use Rattle.xl_spans.specs.Spans.{relocked}
use Rattle.xl_spans.specs.declared.span.Mode.{Mode}
use Rattle.xl_spans.specs.declared.span.Span.{Span}
use Rattle.xl_table.specs.Flat.{inserted, removed}
use Rattle.xl_table.specs.Held.{is_share, is_range, is_cache, is_of, mode_of, spans_of}
use Rattle.xl_table.specs.Order.{goes_first}
use Rattle.xl_table.specs.Relock.{range_claim, is_range_of, unranged, all_inserted, relocked_in, is_share_of, unshared, old_shares, united, shared_in, granted_by, granted_claims}
use Rattle.xl_table.proofs.ShareLaws.{united_share}
use Rattle.xl_table.proofs.WriteBack.{relocked_is}
use Rattle.xl_core.specs.Good.{caches_of}
use Rattle.xl_core.specs.Judge.{all_granted}
use Rattle.xl_matrix.specs.Owners.{posix}

-- a claim before these caches, where it is one
abbrev with_cache : Claim → List Claim → List Claim
with_cache c cs = if is_cache c.what then c ∷ cs else cs

pub share_no_cache : (w : What) → is_share w ≡ true → is_cache w ≡ false
share_no_cache (Share access deny) h = refl
share_no_cache (Range extent exclusive) h = refl
share_no_cache (Cache kind running) h = absurd (both_ways false refl h)

pub range_no_cache : (w : What) → is_range w ≡ true → is_cache w ≡ false
range_no_cache (Share access deny) h = refl
range_no_cache (Range extent exclusive) h = refl
range_no_cache (Cache kind running) h = absurd (both_ways false refl h)

pub inserted_caches : (c : Claim) (cs : List Claim) → is_cache c.what ≡ false → caches_of (inserted c cs) ≡ caches_of cs
unfolding inserted
inserted_caches c [] other = rw other refl
inserted_caches c (d ∷ ds) other =
    elim (cases_Bool (goes_first d c)) [
      | inl earlier ↦ rw earlier (ap (λ (xs : List Claim). with_cache d xs) (inserted_caches c ds other))
      | inr later ↦ rw (later, other) refl
    ]

entered_caches : (file : ℕ) (owner : Owner) (party : Party) (xs : List Span) (held : List Claim) → caches_of (all_inserted (map (range_claim file owner party) xs) held) ≡ caches_of held
entered_caches file owner party [] held = refl
entered_caches file owner party (x ∷ xs) held =
    let c = range_claim file owner party x in
    entered_caches file owner party xs (inserted c held) ∙ inserted_caches c held refl

-- where only claims go that are no caches
filtered_caches : (gone : Claim → Bool) (cs : List Claim) → ((c : Claim) → gone c ≡ true → is_cache c.what ≡ false) → caches_of (filter (λ c. not (gone c)) cs) ≡ caches_of cs
filtered_caches gone [] none = refl
filtered_caches gone (c ∷ cs) none =
    let rest = filtered_caches gone cs none in
    elim (cases_Bool (gone c)) [
      | inl goes ↦ rw (goes, none c goes) rest
      | inr stays ↦ rw stays (ap (λ (xs : List Claim). with_cache c xs) rest)
    ]

unranged_caches : (file : ℕ) (owner : Owner) (cs : List Claim) → caches_of (unranged file owner cs) ≡ caches_of cs
unfolding unranged
unranged_caches file owner cs = filtered_caches (is_range_of file owner) cs (λ c h. range_no_cache c.what (and_parts (is_of file owner c) (is_range c.what) h).1)

unshared_caches : (file : ℕ) (owner : Owner) (cs : List Claim) → caches_of (unshared file owner cs) ≡ caches_of cs
unfolding unshared
unshared_caches file owner cs = filtered_caches (is_share_of file owner) cs (λ c h. share_no_cache c.what (and_parts (is_of file owner c) (is_share c.what) h).1)

pub relocked_caches : (file : ℕ) (owner : Owner) (party : Party) (first last : ℕ) (mode : Option Mode) (cs : List Claim) → caches_of (relocked_in file owner party first last mode cs) ≡ caches_of cs
relocked_caches file owner party first last mode cs =
    ap (λ (ds : List Claim). caches_of ds) (relocked_is file owner party first last mode cs)
    ∙ entered_caches file owner party (relocked (spans_of file owner cs) first last mode) (unranged file owner cs)
    ∙ unranged_caches file owner cs

shared_caches : (c : Claim) (cs : List Claim) → is_share c.what ≡ true → caches_of (shared_in c cs) ≡ caches_of cs
unfolding shared_in
shared_caches c cs share =
    inserted_caches (united c cs) (unshared c.file c.owner cs) (share_no_cache (united c cs).what (united_share c.owner c.what (old_shares c.file c.owner cs) share))
    ∙ unshared_caches c.file c.owner cs

caches_by : (c : Claim) (w : What) (cs : List Claim) → c.what ≡ w → caches_of (granted_by c w cs) ≡ caches_of cs
caches_by c (Share access deny) cs is = shared_caches c cs (ap is_share is)
caches_by c (Range (Bytes first last) exclusive) cs is =
    elim (cases_Bool (posix c.owner)) [
      | inl named ↦ rw named (relocked_caches c.file c.owner c.party first last (Some (mode_of exclusive)) cs)
      | inr unnamed ↦ rw unnamed (inserted_caches c cs (ap is_cache is))
    ]
caches_by c (Range (Empty offset) exclusive) cs is = inserted_caches c cs (ap is_cache is)
caches_by c (Cache kind running) cs is = refl

-- what is granted leaves the caches
pub granted_caches : (c : Claim) (cs : List Claim) → caches_of (granted_claims c cs) ≡ caches_of cs
unfolding granted_claims
granted_caches c cs = caches_by c c.what cs refl

pub all_granted_caches : (cs held : List Claim) → caches_of (all_granted cs held) ≡ caches_of held
all_granted_caches [] held = refl
all_granted_caches (c ∷ cs) held = all_granted_caches cs (granted_claims c held) ∙ granted_caches c held

-- ---- who leaves

-- a claim that is given back, and is no cache, leaves them
pub removed_caches : (claim : Claim) (cs : List Claim) → is_cache claim.what ≡ false → caches_of (removed claim cs) ≡ caches_of cs
removed_caches claim [] other = refl
removed_caches claim (c ∷ cs) other =
    elim (cases_Bool (same_claims c claim)) [
      | inl same ↦
          let none : is_cache c.what ≡ false = ap (λ (d : Claim). is_cache d.what) (same_claims-true c claim same) ∙ other in
          rw (same, none) refl
      | inr apart ↦ rw apart (ap (λ (xs : List Claim). with_cache c xs) (removed_caches claim cs other))
    ]

-- of the claims that stay the caches are those that stay
pub stayed_caches : (stays : Claim → Bool) (cs : List Claim) → caches_of (filter stays cs) ≡ filter stays (caches_of cs)
stayed_caches stays [] = refl
stayed_caches stays (c ∷ cs) =
    let rest = stayed_caches stays cs in
    elim (cases_Bool (is_cache c.what)) [
      | inl cache ↦ elim (cases_Bool (stays c)) [
        | inl here ↦ rw (here, cache, here) (ap (λ (xs : List Claim). c ∷ xs) rest)
        | inr away ↦ rw (away, cache, away) rest
      ]
      | inr other ↦ elim (cases_Bool (stays c)) [
        | inl here ↦ rw (here, other) rest
        | inr away ↦ rw (away, other) rest
      ]
    ]
