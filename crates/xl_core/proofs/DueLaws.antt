-- Whose answers are due.
use Rattle.std.proofs.Common.{◌≡◌, ◌==◌, ℕ, Bool, true, false, not, ◌&&◌, inl, inr, List, [], ◌∷◌, map, Option, Some, None, option_map, slice_get, refl, sym, ap, subst, ◌∙◌}
use Rattle.std.specs.Cmp.{IsStrictWeakOrder}
use Rattle.std.specs.List.{AllByRecursion, filter}
use Rattle.std.proofs.lemmas.Bool.{cases_Bool, both_ways, eq-eqb}
use Rattle.std.proofs.lemmas.Cmp.{nat_list_cmp_total}
use Rattle.std.proofs.lemmas.List.MinMax.{ranks_by}
use Rattle.std.proofs.lemmas.Option.{same_Some}
use Rattle.xl_base.specs.Lists.{IsIn, Pairwise, sorted}
use Rattle.xl_base.proofs.Members.{in_filter_from}
use Rattle.xl_base.proofs.SortLaws.{in_sorted_from, sorted_filter, sorted_map}
use Rattle.xl_base.specs.declared.event.Moment.{Moment}
use Rattle.xl_base.specs.declared.name.Party.{Party}
use Rattle.xl_base.specs.declared.name.Party.TheVariants as parties
use Rattle.xl_base.specs.declared.name.Protocol.TheVariants.{Nlm, Nfs, Smb}
use Rattle.xl_matrix.specs.Equal.{same_claims}
use Rattle.xl_matrix.proofs.EqualLaws.{same_claims-true, same_parties-self}
use Rattle.xl_matrix.specs.declared.claim.Claim.{Claim}
use Rattle.xl_matrix.specs.declared.claim.What.{What}
use Rattle.xl_matrix.specs.declared.claim.What.TheVariants.{Share, Range, Cache}
use Rattle.xl_names.proofs.NameLaws.{number_at}
use Rattle.xl_names.specs.Names.{AreDistinct}
use Rattle.xl_names.specs.declared.name.Name.{Name}
use Rattle.xl_names.specs.declared.name.Name.TheVariants.{NlmRange, NlmShare, NlmParty, NfsRange, NfsShare, NfsParty, SmbLease}
use Rattle.xl_table.specs.Elements.{is_held}
use Rattle.xl_table.specs.Flat.{removed, due_by, is_due}
use Rattle.xl_table.specs.Held.{is_cache}
use Rattle.xl_core.specs.State.{CoreState}
use Rattle.xl_core.specs.Askers.{party_named}
use Rattle.xl_core.specs.BreakAnswers.{due_row, due_key, row_due_before, due_before, due, id_of, client_of}
use Rattle.xl_core.specs.Good.{is_single_by, is_single}
use Rattle.xl_core.specs.declared.due.DueRow.{DueRow}
use Rattle.xl_core.proofs.InTurnLaws.{filter_turned}

-- ---- those that are due

is_cache_due : (w : What) (now : ℕ) → due_by w now ≡ true → is_cache w ≡ true
is_cache_due (Cache kind running) now h = refl
is_cache_due (Share access deny) now h = absurd (both_ways false refl h)
is_cache_due (Range extent exclusive) now h = absurd (both_ways false refl h)

-- it is held, and its deadline has come
pub found_due : (s : CoreState) (cache : Claim) → IsIn cache (due s) → IsIn cache s.claims × (is_due s.clock cache ≡ true)
unfolding due
found_due s cache here = in_filter_from (is_due s.clock) cache s.claims (in_sorted_from (due_before s.names) cache (filter (is_due s.clock) s.claims) here)

-- it is held, and a cache
pub due_is : (s : CoreState) (cache : Claim) → IsIn cache (due s) → IsIn cache s.claims × (is_cache cache.what ≡ true)
due_is s cache here = let found = found_due s cache here in (found.0, is_cache_due cache.what s.clock.0 found.1)

pub rows_ranked : IsStrictWeakOrder row_due_before
rows_ranked = ranks_by nat_list_cmp_total due_key

due_ranked : (names : List Name) → IsStrictWeakOrder (due_before names)
due_ranked names = ranks_by nat_list_cmp_total (λ c. due_key (due_row names c))

caches_of_rows : (names : List Name) (cs : List Claim) → map (λ r. r.cache) (map (due_row names) cs) ≡ cs
caches_of_rows names [] = refl
caches_of_rows names (c ∷ cs) = ap (λ (ds : List Claim). c ∷ ds) (caches_of_rows names cs)

-- rows in order are the caches in order
pub rows_due : (names : List Name) (cs : List Claim) → map (λ r. r.cache) (sorted row_due_before (map (due_row names) cs)) ≡ sorted (due_before names) cs
rows_due names cs = ap (λ (rows : List DueRow). map (λ r. r.cache) rows) (sorted_map (due_row names) row_due_before cs) ∙ caches_of_rows names (sorted (due_before names) cs)

-- ---- whose delegation it is

named_so : (names : List Name) (number : ℕ) (name : Option Name) (client : List ℕ) → AreDistinct names → slice_get names number ≡ name → id_of name ≡ Some client → party_named names (NfsParty client) ≡ Some (parties.Name Nfs number)
named_so names number (Some (NfsParty id)) client distinct at e =
    ap (λ (x : List ℕ). party_named names (NfsParty x)) (sym (same_Some id client e))
    ∙ ap (λ (o : Option ℕ). option_map (λ i. parties.Name Nfs i) o) (number_at names (NfsParty id) number distinct at)
named_so names number None client distinct at e = absurd cc
named_so names number (Some (NlmRange caller svid oh)) client distinct at e = absurd cc
named_so names number (Some (NlmShare caller oh)) client distinct at e = absurd cc
named_so names number (Some (NlmParty caller)) client distinct at e = absurd cc
named_so names number (Some (NfsRange id owner)) client distinct at e = absurd cc
named_so names number (Some (NfsShare id owner)) client distinct at e = absurd cc
named_so names number (Some (SmbLease guid key)) client distinct at e = absurd cc

-- the party is that client
pub party_is : (names : List Name) (party : Party) (client : List ℕ) → AreDistinct names → client_of names party ≡ Some client → party_named names (NfsParty client) ≡ Some party
party_is names (parties.Name Nfs number) client distinct e = named_so names number (slice_get names number) client distinct refl e
party_is names (parties.Name Nlm number) client distinct e = absurd cc
party_is names (parties.Name Smb number) client distinct e = absurd cc
party_is names (parties.Open number) client distinct e = absurd cc

-- ---- those that are due of claims that stay

-- those that are due of these claims
abbrev due_of : List Name → Moment → List Claim → List Claim
due_of names now claims = sorted (due_before names) (filter (is_due now) claims)

due_is_of : (s : CoreState) → due s ≡ due_of s.names s.clock s.claims
unfolding due
due_is_of s = refl

-- of claims that stay those are due that were
pub due_stay : (s t : CoreState) (q : Claim → Bool) → t.claims ≡ filter q s.claims → t.names ≡ s.names → t.clock ≡ s.clock → due t ≡ filter q (due s)
due_stay s t q claims names clock =
    due_is_of t
    ∙ (λ i. due_of (names i) (clock i) (claims i))
    ∙ ap (λ (cs : List Claim). sorted (due_before s.names) cs) (filter_turned (is_due s.clock) q s.claims)
    ∙ sorted_filter (due_ranked s.names) q (filter (is_due s.clock) s.claims)
    ∙ ap (λ (cs : List Claim). filter q cs) (sym (due_is_of s))

-- a claim is held among those that stay where it is one that stays
pub held_stay : (q : Claim → Bool) (d : Claim) (cs : List Claim) → is_held d (filter q cs) ≡ (is_held d cs && q d)
held_stay q d [] = refl
held_stay q d (c ∷ cs) =
    elim (cases_Bool (same_claims c d)) [
      | inl same ↦
          let one : q c ≡ q d = ap q (same_claims-true c d same) in
          elim (cases_Bool (q c)) [
            | inl stays ↦ let also : q d ≡ true = sym one ∙ stays in rw (stays, same, also) refl
            | inr goes ↦ let also : q d ≡ false = sym one ∙ goes in rw (goes, same, also) (held_stay q d cs ∙ ap (λ (b : Bool). is_held d cs && b) also ∙ and_false (is_held d cs))
          ]
      | inr other ↦ elim (cases_Bool (q c)) [ inl stays ↦ rw (stays, other) (held_stay q d cs) | inr goes ↦ rw (goes, other) (held_stay q d cs) ]
    ]
  where
    and_false : (b : Bool) → (b && false) ≡ false
    and_false true = refl
    and_false false = refl

-- a cache is held once, so that none is left of it
pub gone_once : (c : Claim) (cs : List Claim) → is_cache c.what ≡ true → Pairwise is_single cs → removed c cs ≡ filter (λ d. not (same_claims d c)) cs
gone_once c [] cache single = refl
gone_once c (d ∷ ds) cache single =
    elim (cases_Bool (same_claims d c)) [
      | inr other ↦ rw other (ap (λ (es : List Claim). d ∷ es) (gone_once c ds cache single.1))
      | inl same ↦ rw same (sym (all_pass ds (subst (λ (x : Claim). AllByRecursion (λ e. is_single x e ≡ true) ds) (same_claims-true d c same) single.0)))
    ]
  where
    beside_itself : (w : What) → is_cache w ≡ true → is_single_by c c w w ≡ false
    beside_itself (Cache kind running) h = ap not (same_parties-self c.party)
    beside_itself (Share access deny) h = absurd (both_ways false refl h)
    beside_itself (Range extent exclusive) h = absurd (both_ways false refl h)

    alone : is_single c c ≡ false
    alone = let file : (c.file == c.file) ≡ true = eq-eqb c.file c.file refl in rw (file, beside_itself c.what cache) refl

    all_pass : (es : List Claim) → AllByRecursion (λ e. is_single c e ≡ true) es → filter (λ e. not (same_claims e c)) es ≡ es
    all_pass [] all = refl
    all_pass (e ∷ es) all =
        elim (cases_Bool (same_claims e c)) [
          | inl same ↦ absurd (both_ways (is_single c c) alone (subst (λ (x : Claim). is_single c x ≡ true) (same_claims-true e c same) all.0))
          | inr other ↦ rw other (ap (λ (rest : List Claim). e ∷ rest) (all_pass es all.1))
        ]
