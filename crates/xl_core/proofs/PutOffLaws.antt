-- What the expiry of a client changes, and that what is put off once stays so through all that follows in the step.
use Rattle.std.proofs.Common.{◌≡◌, ℕ, Bool, true, false, not, ◌&&◌, ◌||◌, inl, inr, List, [], ◌∷◌, Option, Some, None, refl, sym, ap, subst, ◌∙◌}
use Rattle.std.specs.Prelude.{bytes_eq, nat_lt, option_map}
use Rattle.std.specs.Cmp.Lexicographic.{bytes_decides}
use Rattle.std.specs.List.{filter}
use Rattle.std.proofs.lemmas.Bool.{cases_Bool, both_ways, and_parts}
use Rattle.std.proofs.lemmas.Option.{same_Some}
use Rattle.xl_base.specs.Lists.{IsIn}
use Rattle.xl_base.proofs.Members.{in_filter}
use Rattle.xl_base.specs.Stable.{Stable, is_recorded}
use Rattle.xl_base.specs.declared.name.Party.{Party}
use Rattle.xl_base.specs.declared.name.Party.TheVariants as parties
use Rattle.xl_base.specs.declared.name.Protocol.TheVariants.{Nfs}
use Rattle.xl_matrix.specs.Equal.{same_claims, same_parties}
use Rattle.xl_matrix.proofs.EqualLaws.{same_claims-true, same_parties-true}
use Rattle.xl_matrix.specs.declared.claim.Claim.{Claim}
use Rattle.xl_names.proofs.NameLaws.{name_at}
use Rattle.xl_names.specs.Names.{number_of}
use Rattle.xl_names.specs.declared.name.Name.{Name}
use Rattle.xl_names.specs.declared.name.Name.TheVariants.{NfsParty}
use Rattle.xl_table.specs.Held.{is_cache}
use Rattle.xl_table.specs.Leaving.{is_of_some}
use Rattle.xl_core.specs.State.{CoreState, Aside}
use Rattle.xl_core.specs.Askers.{party_named}
use Rattle.xl_core.specs.BreakAnswers.{due, client_of, id_of}
use Rattle.xl_core.specs.Dues.{IsPutOff, IsLate}
use Rattle.xl_core.specs.Good.{IsGood}
use Rattle.xl_core.specs.Leases.{ended, without_lease}
use Rattle.xl_core.specs.Settle.{end_party}
use Rattle.xl_core.specs.Stores.{may_store, store_failed, client_name}
use Rattle.xl_core.specs.declared.ask.Effect.{Effect}
use Rattle.xl_grace.specs.Grace.{expired}
use Rattle.xl_core.specs.Ticks.{gone_client, barred, end_some, unleased, expire, may_expire, lapsed_by, end_grace}
use Rattle.xl_core.proofs.AsideLaws.{failed_already, of_expire, with_aside}
use Rattle.xl_core.proofs.DueLaws.{due_stay, gone_once}
use Rattle.xl_core.proofs.LeaseLaws.{ended_without}

-- the clients whose lease has ended
abbrev pub all_ended : CoreState → List (List ℕ)
all_ended s = ended s.clock s.leases

-- ---- a client that expires

-- what goes with it, and its lease
pub record IsExpired (s : CoreState) (client : List ℕ) (t : CoreState) : Type 0 where
  pub claims : t.claims ≡ filter (λ d. not (is_of_some (party_named s.names (NfsParty client)) d)) s.claims
  pub names : t.names ≡ s.names
  pub clock : t.clock ≡ s.clock
  pub leases : t.leases ≡ without_lease client s.leases

all_stay : (cs : List Claim) → cs ≡ filter (λ c. true) cs
all_stay [] = refl
all_stay (c ∷ cs) = ap (λ (ds : List Claim). c ∷ ds) (all_stay cs)

gone_is : (s : CoreState) (client : List ℕ) (x : Aside) (party : Option Party) → party_named s.names (NfsParty client) ≡ party → IsExpired s client (unleased client (end_some (with_aside x s) party)).1
unfolding end_party
gone_is s client x None whose = record {
  claims = subst (λ (p : Option Party). s.claims ≡ filter (λ d. not (is_of_some p d)) s.claims) (sym whose) (all_stay s.claims);
  names = refl;
  clock = refl;
  leases = refl;
}
gone_is s client x (Some party) whose = record {
  claims = subst (λ (p : Option Party). filter (λ d. not (same_parties d.party party)) s.claims ≡ filter (λ d. not (is_of_some p d)) s.claims) (sym whose) refl;
  names = refl;
  clock = refl;
  leases = refl;
}

pub expired_is : (s : CoreState) (client : List ℕ) → IsExpired s client (expire s client).1
expired_is s client = of_expire (λ (r : List Effect × CoreState). IsExpired s client r.1) s client (λ x. gone_is s client x (party_named s.names (NfsParty client)) refl)

-- ---- what is put off

-- Whatever is put off before is due still and put off behind it: a break that is over, and a lease that has ended.
pub record Lasts (s t : CoreState) : Type 0 where
  pub caches : (c : Claim) → IsIn c (due s) → IsLate s (client_of s.names c.party) → IsIn c (due t) × IsLate t (client_of t.names c.party)
  pub clients : (id : List ℕ) → IsIn id (all_ended s) → IsPutOff s.failed s.stable id → IsIn id (all_ended t) × IsPutOff t.failed t.stable id

pub lasts_self : (s : CoreState) → Lasts s s
lasts_self s = record { caches = λ c here late. (here, late); clients = λ id here off. (here, off) }

pub lasts_then : (s t u : CoreState) → Lasts s t → Lasts t u → Lasts s u
lasts_then s t u first next = record {
  caches = λ c here late. let now = first.caches c here late in next.caches c now.0 now.1;
  clients = λ id here off. let now = first.clients id here off in next.clients id now.0 now.1;
}

-- nothing is put off before a store failed
no_late : (s : CoreState) (o : Option (List ℕ)) → s.failed ≡ false → IsLate s o → ⊥
no_late s None runs late = late
no_late s (Some client) runs late = both_ways s.failed runs late.0

none_off : (s t : CoreState) → s.failed ≡ false → Lasts s t
none_off s t runs = record {
  caches = λ c here late. absurd (no_late s (client_of s.names c.party) runs late);
  clients = λ id here off. absurd (both_ways s.failed runs off.0);
}

late_still : (s t : CoreState) (o : Option (List ℕ)) → (s.failed ≡ true → t.failed ≡ true) → t.stable ≡ s.stable → IsLate s o → IsLate t o
late_still s t None failed stable late = late
late_still s t (Some client) failed stable late = (failed late.0, ap (λ (x : Stable). is_recorded (client_name client) x.names) stable ∙ late.1)

-- behind a store that fails
pub lasts_failed : (s : CoreState) (stable : Stable) → Lasts s (store_failed stable s)
lasts_failed s stable = elim (cases_Bool s.failed) [ inl e ↦ subst (λ (t : CoreState). Lasts s t) (sym (failed_already stable s e)) (lasts_self s) | inr runs ↦ none_off s (store_failed stable s) runs ]

-- behind the end of grace, whose store succeeds
pub lasts_end : (n : ℕ) (s : CoreState) → may_store n s ≡ true → Lasts s (end_grace s)
lasts_end n s may = none_off s (end_grace s) (not_true s.failed (and_parts (not s.failed) (nat_lt s.made n) may).0) where
  not_true : (b : Bool) → not b ≡ true → b ≡ false
  not_true true e = absurd (both_ways false refl e)
  not_true false e = refl

-- behind the break of a cache that is no client's
pub lasts_removed : (s : CoreState) (c : Claim) → IsGood s → is_cache c.what ≡ true → client_of s.names c.party ≡ None → Lasts s (lapsed_by s c None).1
lasts_removed s c good cache whose = record {
  caches = λ d here late. (
    subst (λ (cs : List Claim). IsIn d cs) (sym stay) (in_filter (λ e. not (same_claims e c)) d (due s) here (other d late)),
    late_still s t (client_of s.names d.party) (λ h. h) refl late,
  );
  clients = λ id here off. (here, off);
} where
  t : CoreState
  t = (lapsed_by s c None).1

  stay : due t ≡ filter (λ e. not (same_claims e c)) (due s)
  stay = due_stay s t (λ e. not (same_claims e c)) (gone_once c s.claims cache good.single) refl refl

  other : (d : Claim) → IsLate s (client_of s.names d.party) → not (same_claims d c) ≡ true
  other d late =
      elim (cases_Bool (same_claims d c)) [
        | inr e ↦ ap not e
        | inl e ↦ absurd (subst (λ (o : Option (List ℕ)). IsLate s o) (ap (λ (x : Claim). client_of s.names x.party) (same_claims-true d c e) ∙ whose) late)
      ]

-- behind the expiry of another client: one that is put off is recorded, and once a store failed none expires that is
client_named : (names : List Name) (client : List ℕ) (o : Option ℕ) (party : Party) → number_of (NfsParty client) names ≡ o → option_map (λ number. parties.Name Nfs number) o ≡ Some party → client_of names party ≡ Some client
client_named names client None party at e = absurd cc
client_named names client (Some number) party at e =
    ap (client_of names) (sym (same_Some (parties.Name Nfs number) party e)) ∙ ap id_of (name_at names (NfsParty client) number at)

gone_leaves : (s : CoreState) (client : List ℕ) → ((gone_client s client).1.failed ≡ s.failed) × ((gone_client s client).1.stable ≡ s.stable)
unfolding gone_client barred end_party
gone_leaves s client = by (party_named s.names (NfsParty client)) where
  by : (o : Option Party) → (let t = (unleased client (end_some (record s { grace = expired (client_name client) s.grace }) o)).1 in (t.failed ≡ s.failed) × (t.stable ≡ s.stable))
  by None = (refl, refl)
  by (Some party) = (refl, refl)

-- one that the record has not leaves what was stored
expire_leaves : (s : CoreState) (client : List ℕ) → is_recorded (client_name client) s.stable.names ≡ false → ((expire s client).1.failed ≡ s.failed) × ((expire s client).1.stable ≡ s.stable)
unfolding expire
expire_leaves s client none = rw none (gone_leaves s client)

unrecorded : (n : ℕ) (s : CoreState) (client : List ℕ) → may_expire n s client ≡ true → s.failed ≡ true → is_recorded (client_name client) s.stable.names ≡ false
unrecorded n s client may failed = by (is_recorded (client_name client) s.stable.names) (ap (λ (b : Bool). not (is_recorded (client_name client) s.stable.names) || (not b && nat_lt s.made n)) (sym failed) ∙ may) where
  by : (b : Bool) → (not b || false) ≡ true → b ≡ false
  by true e = absurd (both_ways false refl e)
  by false e = refl

pub lasts_expired : (n : ℕ) (s : CoreState) (client : List ℕ) → may_expire n s client ≡ true → Lasts s (expire s client).1
lasts_expired n s client may =
    elim (cases_Bool s.failed) [ inr runs ↦ none_off s (expire s client).1 runs | inl failed ↦ lasts (unrecorded n s client may failed) ]
  where
    t : CoreState
    t = (expire s client).1

    is : IsExpired s client t
    is = expired_is s client

    q : Claim → Bool
    q d = not (is_of_some (party_named s.names (NfsParty client)) d)

    lasts : is_recorded (client_name client) s.stable.names ≡ false → Lasts s t
    lasts none = record {
      caches = λ c here late. (
        subst (λ (cs : List Claim). IsIn c cs) (sym (due_stay s t q is.claims is.names is.clock)) (in_filter q c (due s) here (its c (client_of s.names c.party) refl late)),
        subst (λ (names : List Name). IsLate t (client_of names c.party)) (sym is.names) (late_still s t (client_of s.names c.party) (λ h. leaves.0 ∙ h) leaves.1 late),
      );
      clients = λ id here off. (
        subst (λ (ids : List (List ℕ)). IsIn id ids) (sym ((λ i. ended (is.clock i) (is.leases i)) ∙ ended_without s.clock client s.leases)) (in_filter (λ other. not (bytes_eq client other)) id (all_ended s) here (apart id off)),
        late_still s t (Some id) (λ h. leaves.0 ∙ h) leaves.1 off,
      );
    } where
      leaves : (t.failed ≡ s.failed) × (t.stable ≡ s.stable)
      leaves = expire_leaves s client none

      -- another client
      not_it : (id : List ℕ) → IsPutOff s.failed s.stable id → client ≡ id → ⊥
      not_it id off e = both_ways (is_recorded (client_name client) s.stable.names) none (ap (λ (x : List ℕ). is_recorded (client_name x) s.stable.names) e ∙ off.1)

      apart : (id : List ℕ) → IsPutOff s.failed s.stable id → not (bytes_eq client id) ≡ true
      apart id off = elim (cases_Bool (bytes_eq client id)) [ inr e ↦ ap not e | inl e ↦ absurd (not_it id off ((bytes_decides client id).0 e)) ]

      -- and a cache of another
      its : (c : Claim) (o : Option (List ℕ)) → client_of s.names c.party ≡ o → IsLate s o → q c ≡ true
      its c None whose late = absurd late
      its c (Some id) whose off = by (party_named s.names (NfsParty client)) refl where
        by : (o : Option Party) → party_named s.names (NfsParty client) ≡ o → not (is_of_some o c) ≡ true
        by None e = refl
        by (Some party) e =
            elim (cases_Bool (same_parties c.party party)) [
              | inr other ↦ ap not other
              | inl same ↦ absurd (not_it id off (sym (same_Some id client (sym whose ∙ ap (client_of s.names) (same_parties-true c.party party same) ∙ client_named s.names client (number_of (NfsParty client) s.names) party refl e))))
            ]
