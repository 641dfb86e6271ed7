-- What hangs on a row hangs on one that is there, and there is room, after each change.
use Rattle.std.proofs.Common.{◌≡◌, ℕ, ◌<◌, ◌≤◌, ◌+◌, Bool, true, false, not, ◌&&◌, ◌==◌, List, [], ◌∷◌, ◌++◌, length, Option, None, Some, is_some, nat_lt, slice_get, ◌-◌, ltb-true, cond, if◌then◌else◌, ◌^◌, eqb-true, eq-eqb, suc, refl, sym, ap, subst, ◌∙◌, inl, inr, true≢false, arith}
use Rattle.std.specs.List.{AllByRecursion, filter, find, list_any}
use Rattle.std.specs.Bool.{beq}
use Rattle.std.specs.Cmp.{booleans_Decides}
use Rattle.std.proofs.lemmas.Bool.{cases_Bool, and_parts, and_from, or_parts, or_from, false_from_ne_true}
use Rattle.std.proofs.lemmas.Option.{same_Some}
use Rattle.std.proofs.lemmas.List.{length-append}
use Rattle.xl_base.specs.declared.event.Moment.{Moment}
use Rattle.xl_base.proofs.Members.{all_append, all_weaker}
use Rattle.xl_nfs_state.proofs.ResultMapLaws.{some_found}
use Rattle.xl_nfs_state.proofs.AnyLaws.{any_more, any_left, any_changed, all_left, all_changed}
use Rattle.xl_nfs_state.specs.Filed.{changed}
use Rattle.xl_nfs_state.specs.Keys.{same_kind}
use Rattle.xl_nfs_state.specs.Rows.{with_details, with_seqids, with_standing, with_result}
use Rattle.xl_nfs_state.specs.State as st
use Rattle.xl_nfs_state.specs.State.{NfsLists, IsSound, IsRising, hangs, holder_hangs, has_client, has_owner, has_open, is_client, is_owner, is_kept, is_live, opens, with_clients, with_owners, with_stateids, with_kept, without}
use Rattle.xl_nfs_state.specs.declared.client.ClientDetails.{ClientDetails}
use Rattle.xl_nfs_state.specs.declared.client.ClientRow.{ClientRow}
use Rattle.xl_nfs_state.specs.declared.kept.KeptRow.{KeptRow}
use Rattle.xl_nfs_state.specs.declared.owner.OwnerKind.{OwnerKind}
use Rattle.xl_nfs_state.specs.declared.owner.OwnerKind.TheVariants.{Open as Opens, Lock as Locks}
use Rattle.xl_nfs_state.specs.declared.owner.OwnerRow.{OwnerRow}
use Rattle.xl_nfs_state.specs.declared.owner.SeqidState.{SeqidState}
use Rattle.xl_nfs_state.specs.declared.stateid.Holder.{Holder}
use Rattle.xl_nfs_state.specs.declared.stateid.Holder.TheVariants.{Open, Lock, Delegation}
use Rattle.xl_nfs_state.specs.declared.stateid.Standing.{Standing}
use Rattle.xl_nfs_state.specs.declared.stateid.StateidRow.{StateidRow}
use Rattle.xl_nfs_state.specs.declared.stateid.Whose.{Whose}
use Rattle.xl_nfs_state.specs.declared.stateid.Whose.TheVariants as whose

pub sound_empty : (l : NfsLists) → l ≡ st.no_lists → IsSound l
sound_empty l e = subst IsSound (sym e) (record { clients_room = omega arith; owners_room = omega arith; opens_room = omega arith; rising = tt; owners = tt; stateids = tt; kept = tt })

-- the client is there in the new lists where it is in the old ones
abbrev Client : NfsLists → NfsLists → ℕ → Type 0
Client old new client = has_client client old.clients ≡ true → has_client client new.clients ≡ true

abbrev Owner : NfsLists → NfsLists → ℕ → ℕ → OwnerKind → Type 0
Owner old new owner client kind = has_owner owner client kind old.owners ≡ true → has_owner owner client kind new.owners ≡ true

abbrev Opened : NfsLists → NfsLists → ℕ → ℕ → ℕ → ℕ → Type 0
Opened old new under opener client file = has_open under opener client file old.stateids ≡ true → has_open under opener client file new.stateids ≡ true

-- what a stateid hangs on is there still
abbrev Stays : NfsLists → NfsLists → ℕ → ℕ → Holder → Type 0
Stays old new client file (Open owner) = (kind : OwnerKind) → Owner old new owner client kind
Stays old new client file (Lock owner under opener) = ((kind : OwnerKind) → Owner old new owner client kind) × Opened old new under opener client file
Stays old new client file (Delegation write) = Unit {0}

holder_stays : (old new : NfsLists) (client file : ℕ) (h : Holder) → Stays old new client file h → holder_hangs old client file h ≡ true → holder_hangs new client file h ≡ true
holder_stays old new client file (Open owner) stays hung = stays Opens hung
holder_stays old new client file (Lock owner under opener) stays hung =
    let parts = and_parts (has_owner owner client Locks old.owners) (has_open under opener client file old.stateids) hung in
    and_from (has_owner owner client Locks new.owners) (has_open under opener client file new.stateids) (stays.0 Locks parts.0) (stays.1 parts.1)
holder_stays old new client file (Delegation write) stays hung = refl

hangs_stays : (old new : NfsLists) (s : StateidRow) → Client old new s.client → Stays old new s.client s.file s.holder → hangs old s ≡ true → hangs new s ≡ true
hangs_stays old new s client stays hung =
    let parts = and_parts (has_client s.client old.clients) (holder_hangs old s.client s.file s.holder) hung in
    and_from (has_client s.client new.clients) (holder_hangs new s.client s.file s.holder) (client parts.0) (holder_stays old new s.client s.file s.holder stays parts.1)

-- where all that is there stays, so does what a stateid hangs on
stays_by : (old new : NfsLists) (client file : ℕ) (h : Holder) → ((owner : ℕ) (kind : OwnerKind) → Owner old new owner client kind) → ((under opener : ℕ) → Opened old new under opener client file) → Stays old new client file h
stays_by old new client file (Open owner) owners opened = owners owner
stays_by old new client file (Lock owner under opener) owners opened = (owners owner, opened under opener)
stays_by old new client file (Delegation write) owners opened = tt

-- Clients.

abbrev NewClients : NfsLists → List ClientRow → Type 0
NewClients l new = (client : ℕ) → has_client client l.clients ≡ true → has_client client new ≡ true

clients_stay : (l : NfsLists) (new : List ClientRow) → IsSound l → length new ≤ st.most_clients → NewClients l new → IsSound (with_clients l new)
clients_stay l new sound room stay =
    record {
      clients_room = room;
      owners_room = sound.owners_room;
      opens_room = sound.opens_room;
      rising = sound.rising;
      owners = all_weaker _ _ l.owners (λ o h. stay o.name.client h) sound.owners;
      stateids = all_weaker _ _ l.stateids (λ s h. hangs_stays l (with_clients l new) s (stay s.client) (stays_by l (with_clients l new) s.client s.file s.holder (λ owner kind h. h) (λ under opener h. h)) h) sound.stateids;
      kept = sound.kept;
    }

pub client_added : (l : NfsLists) (row : ClientRow) → IsSound l → length l.clients < st.most_clients → IsSound (with_clients l (l.clients ++ row ∷ []))
client_added l row sound room =
    clients_stay l (l.clients ++ row ∷ []) sound (omega (arith, room, length-append l.clients (row ∷ []))) (λ client h. any_more (is_client client true) l.clients (row ∷ []) h)

length_changed : {A : Type 0} (which : A → Bool) (to : A → A) (xs : List A) → length (changed which to xs) ≡ length xs
length_changed which to [] = refl
length_changed which to (x ∷ xs) =
    elim (cases_Bool (which x)) [
      | inl h ↦ rw h refl
      | inr h ↦ rw h (ap suc (length_changed which to xs))
    ]

length_without : {A : Type 0} (drops : A → Bool) (xs : List A) → length (without drops xs) ≤ length xs
length_without drops [] = omega arith
length_without drops (x ∷ xs) =
    elim (cases_Bool (drops x)) [
      | inl h ↦ rw h (omega (arith, length_without drops xs))
      | inr h ↦ rw h (omega (arith, length_without drops xs))
    ]

pub client_changed : (l : NfsLists) (which : ClientRow → Bool) (details : ClientDetails) → IsSound l → IsSound (with_clients l (changed which (with_details details) l.clients))
client_changed l which details sound =
    clients_stay l (changed which (with_details details) l.clients) sound (omega (arith, sound.clients_room, length_changed which (with_details details) l.clients))
    (λ client h. any_changed (is_client client true) which (with_details details) l.clients (λ r. refl) ∙ h)

module _ {A : Type 0} where
  all_apart : (test : A → Bool) (xs : List A) → list_any test xs ≡ false → AllByRecursion (λ x. test x ≡ false) xs
  all_apart test [] h = tt
  all_apart test (x ∷ xs) h = let parts = or_parts (test x) (list_any test xs) h in (parts.0, all_apart test xs parts.1)

  all_both : (P Q R : A → Type 0) (xs : List A) → ((x : A) → P x → Q x → R x) → AllByRecursion P xs → AllByRecursion Q xs → AllByRecursion R xs
  all_both P Q R [] step ps qs = tt
  all_both P Q R (x ∷ xs) step ps qs = (step x ps.0 qs.0, all_both P Q R xs step ps.1 qs.1)

-- a record of another number or kind is left
client_left : (number : ℕ) (confirmed : Bool) (client : ℕ) (clients : List ClientRow) → (confirmed ≡ true → (number == client) ≡ false) → has_client client clients ≡ true → has_client client (without (is_client number confirmed) clients) ≡ true
client_left number confirmed client clients apart h = any_left (is_client client true) (is_client number confirmed) clients keeps h
  where
    keeps : (x : ClientRow) → is_client client true x ≡ true → is_client number confirmed x ≡ false
    keeps x e =
        let parts = and_parts (client == x.number) (beq true x.confirmed) e in
        let on : true ≡ x.confirmed = (booleans_Decides true x.confirmed).0 parts.1 in
        let same = eqb-true client x.number parts.0 in
        false_from_ne_true (is_client number confirmed x) (λ f.
        let told = and_parts (number == x.number) (beq confirmed x.confirmed) f in
        let is : confirmed ≡ true = (booleans_Decides confirmed x.confirmed).0 told.1 ∙ sym on in
        true≢false (sym told.0 ∙ ap (λ n. number == n) (sym same) ∙ apart is))

pub client_dropped : (l : NfsLists) (number : ℕ) (confirmed : Bool) → IsSound l → (confirmed ≡ true → st.IsIdleClient number l) → IsSound (with_clients l (without (is_client number confirmed) l.clients))
client_dropped l number confirmed sound idle =
    let new = without (is_client number confirmed) l.clients in
    let on = cases_Bool confirmed in
    record {
      clients_room = omega (arith, sound.clients_room, length_without (is_client number confirmed) l.clients);
      owners_room = sound.owners_room;
      opens_room = sound.opens_room;
      rising = sound.rising;
      owners = elim on [
        | inl e ↦ all_both _ _ _ l.owners (λ o h apart. client_left number confirmed o.name.client l.clients (λ f. apart) h) sound.owners (all_apart (λ o. number == o.name.client) l.owners (idle e).0)
        | inr e ↦ all_weaker _ _ l.owners (λ o h. client_left number confirmed o.name.client l.clients (λ f. absurd (true≢false (sym f ∙ e))) h) sound.owners
      ];
      stateids = elim on [
        | inl e ↦ all_both _ _ _ l.stateids (λ s h apart. hangs_stays l (with_clients l new) s (client_left number confirmed s.client l.clients (λ f. apart)) (stays_by l (with_clients l new) s.client s.file s.holder (λ owner kind h. h) (λ under opener h. h)) h) sound.stateids (all_apart (λ s. number == s.client) l.stateids (idle e).1)
        | inr e ↦ all_weaker _ _ l.stateids (λ s h. hangs_stays l (with_clients l new) s (client_left number confirmed s.client l.clients (λ f. absurd (true≢false (sym f ∙ e)))) (stays_by l (with_clients l new) s.client s.file s.holder (λ owner kind h. h) (λ under opener h. h)) h) sound.stateids
      ];
      kept = sound.kept;
    }

pub clients_due : (l : NfsLists) (now : Moment) → IsSound l → IsSound (with_clients l (without (st.is_due now) l.clients))
clients_due l now sound =
    clients_stay l (without (st.is_due now) l.clients) sound (omega (arith, sound.clients_room, length_without (st.is_due now) l.clients))
    (λ client h. any_left (is_client client true) (st.is_due now) l.clients (keeps client) h)
  where
    keeps : (client : ℕ) (x : ClientRow) → is_client client true x ≡ true → st.is_due now x ≡ false
    keeps client x e =
        let parts = and_parts (client == x.number) (beq true x.confirmed) e in
        let on : true ≡ x.confirmed = (booleans_Decides true x.confirmed).0 parts.1 in
        ap (λ c. not c && not (nat_lt now.0 x.details.time.0)) (sym on)

-- Owners.

rising_last : (os : List OwnerRow) → IsRising os → AllByRecursion (λ o. o.number ≤ st.last_number os) os
rising_last [] h = tt
rising_last (o ∷ []) h = (omega arith, tt)
rising_last (o ∷ p ∷ os) h =
    let rest = rising_last (p ∷ os) h.1 in
    (omega (arith, h.0.0, rest.0), rest)

rising_more : (os : List OwnerRow) (o : OwnerRow) → AllByRecursion (λ p. p.number < o.number) os → IsRising os → IsRising (os ++ o ∷ [])
rising_more [] o above h = (tt, tt)
rising_more (p ∷ os) o above h = (all_append (λ q. p.number < q.number) os (o ∷ []) h.0 (above.0, tt), rising_more os o above.1 h.1)

pub rising_left : (drops : OwnerRow → Bool) (os : List OwnerRow) → IsRising os → IsRising (without drops os)
rising_left drops [] h = tt
rising_left drops (o ∷ os) h =
    elim (cases_Bool (drops o)) [
      | inl gone ↦ rw gone (rising_left drops os h.1)
      | inr stays ↦ rw stays (all_left _ _ drops os (λ p e k. k) h.0, rising_left drops os h.1)
    ]

pub rising_changed : (which : OwnerRow → Bool) (seqids : SeqidState) (os : List OwnerRow) → IsRising os → IsRising (changed which (with_seqids seqids) os)
rising_changed which seqids [] h = tt
rising_changed which seqids (o ∷ os) h =
    elim (cases_Bool (which o)) [
      | inl e ↦ rw e h
      | inr e ↦ rw e (all_changed _ _ which (with_seqids seqids) os (λ p k. k) (λ p k. k) h.0, rising_changed which seqids os h.1)
    ]

-- the lists with other owners, where what hung on the old ones hangs on the new ones
owners_stay : (l : NfsLists) (new : List OwnerRow) → IsSound l → length new ≤ st.most_owners → IsRising new → AllByRecursion (λ o. has_client o.name.client l.clients ≡ true) new
    → ((owner client : ℕ) (kind : OwnerKind) → has_owner owner client kind l.owners ≡ true → has_owner owner client kind new ≡ true)
    → ((owner : ℕ) → list_any (is_owner owner) l.owners ≡ true → list_any (is_owner owner) new ≡ true) → IsSound (with_owners l new)
owners_stay l new sound room rising clients stay kept =
    record {
      clients_room = sound.clients_room;
      owners_room = room;
      opens_room = sound.opens_room;
      rising = rising;
      owners = clients;
      stateids = all_weaker _ _ l.stateids (λ s h. hangs_stays l (with_owners l new) s (λ c. c) (stays_by l (with_owners l new) s.client s.file s.holder (λ owner kind. stay owner s.client kind) (λ under opener h. h)) h) sound.stateids;
      kept = all_weaker _ _ l.kept (λ k h. kept k.owner h) sound.kept;
    }

next_parts : (os : List OwnerRow) (n : ℕ) → st.next_owner os ≡ Some n → (length os < st.most_owners) × (st.last_number os + 1 ≡ n)
next_parts os n h =
    elim (cases_Bool (nat_lt (length os) st.most_owners && nat_lt (st.last_number os + 1) (2 ^ 64))) [
      | inl e ↦
          let is : Some (st.last_number os + 1) ≡ Some n = rw e at h in
          (ltb-true (length os) st.most_owners (and_parts (nat_lt (length os) st.most_owners) (nat_lt (st.last_number os + 1) (2 ^ 64)) e).0, same_Some (st.last_number os + 1) n is)
      | inr e ↦ let none : None ≡ Some n = rw e at h in absurd (true≢false (sym (ap is_some none)))
    ]

-- the next number is no owner's
pub fresh_number : (os : List OwnerRow) (n : ℕ) → IsRising os → st.next_owner os ≡ Some n → find (is_owner n) os ≡ None
fresh_number os n rising next =
    let parts = next_parts os n next in
    none_found os (all_weaker _ _ os (λ o h. let below : o.number < n = omega (arith, h, parts.1) in below) (rising_last os rising))
  where
    none_found : (ps : List OwnerRow) → AllByRecursion (λ o. o.number < n) ps → find (is_owner n) ps ≡ None
    none_found [] all = refl
    none_found (p ∷ ps) all =
        let other : (n == p.number) ≡ false = false_from_ne_true (n == p.number) (λ e. let same = eqb-true n p.number e in omega (arith, same, all.0)) in
        rw other (none_found ps all.1)

pub last_at : (os : List OwnerRow) (o : OwnerRow) → slice_get os (length os - 1) ≡ Some o → o.number ≡ st.last_number os
last_at [] o h = absurd (true≢false (sym (ap is_some h)))
last_at (p ∷ []) o h = ap (λ (q : OwnerRow). q.number) (sym (same_Some p o h))
last_at (p ∷ q ∷ os) o h =
    let place : length (p ∷ q ∷ os) - 1 ≡ suc (length (q ∷ os) - 1) = omega arith in
    last_at (q ∷ os) o (sym (ap (slice_get (p ∷ q ∷ os)) place) ∙ h)

pub last_none : (os : List OwnerRow) → slice_get os (length os - 1) ≡ None → 0 ≡ st.last_number os
last_none [] h = refl
last_none (p ∷ []) h = absurd (true≢false (ap is_some h))
last_none (p ∷ q ∷ os) h =
    let place : length (p ∷ q ∷ os) - 1 ≡ suc (length (q ∷ os) - 1) = omega arith in
    last_none (q ∷ os) (sym (ap (slice_get (p ∷ q ∷ os)) place) ∙ h)

-- an owner of the next number comes behind the others
pub rising_added : (os : List OwnerRow) (o : OwnerRow) → IsRising os → st.next_owner os ≡ Some o.number → IsRising (os ++ o ∷ [])
rising_added os o rising next =
    let parts = next_parts os o.number next in
    rising_more os o (all_weaker _ _ os (λ p h. omega (arith, h, parts.1)) (rising_last os rising)) rising

pub owner_added : (l : NfsLists) (row : OwnerRow) → IsSound l → st.next_owner l.owners ≡ Some row.number → has_client row.name.client l.clients ≡ true → IsSound (with_owners l (l.owners ++ row ∷ []))
owner_added l row sound next client =
    let parts = next_parts l.owners row.number next in
    owners_stay l (l.owners ++ row ∷ []) sound (omega (arith, parts.0, length-append l.owners (row ∷ [])))
    (rising_added l.owners row sound.rising next)
    (all_append (λ o. has_client o.name.client l.clients ≡ true) l.owners (row ∷ []) sound.owners (client, tt))
    (λ owner client kind h. any_more (st.fits_owner owner client kind) l.owners (row ∷ []) h)
    (λ owner h. any_more (is_owner owner) l.owners (row ∷ []) h)

pub owner_changed : (l : NfsLists) (which : OwnerRow → Bool) (seqids : SeqidState) → IsSound l → IsSound (with_owners l (changed which (with_seqids seqids) l.owners))
owner_changed l which seqids sound =
    owners_stay l (changed which (with_seqids seqids) l.owners) sound (omega (arith, sound.owners_room, length_changed which (with_seqids seqids) l.owners))
    (rising_changed which seqids l.owners sound.rising)
    (all_changed _ _ which (with_seqids seqids) l.owners (λ o h. h) (λ o h. h) sound.owners)
    (λ owner client kind h. any_changed (st.fits_owner owner client kind) which (with_seqids seqids) l.owners (λ o. refl) ∙ h)
    (λ owner h. any_changed (is_owner owner) which (with_seqids seqids) l.owners (λ o. refl) ∙ h)

pub owner_dropped : (l : NfsLists) (number : ℕ) → IsSound l → st.IsIdleOwner number l → IsSound (with_owners l (without (is_owner number) l.owners))
owner_dropped l number sound idle =
    let new = without (is_owner number) l.owners in
    record {
      clients_room = sound.clients_room;
      owners_room = omega (arith, sound.owners_room, length_without (is_owner number) l.owners);
      opens_room = sound.opens_room;
      rising = rising_left (is_owner number) l.owners sound.rising;
      owners = all_left _ _ (is_owner number) l.owners (λ o e h. h) sound.owners;
      stateids = all_both _ _ _ l.stateids (λ s h apart. hangs_stays l (with_owners l new) s (λ c. c) (stays s.client s.file s.holder apart) h) sound.stateids (all_apart (λ s. st.hangs_on number s.holder) l.stateids idle.0);
      kept = all_both _ _ _ l.kept (λ k h apart. any_left (is_owner k.owner) (is_owner number) l.owners (λ o e. rw (sym (eqb-true k.owner o.number e)) apart) h) sound.kept (all_apart (is_kept number) l.kept idle.1);
    }
  where
    stay : (owner client : ℕ) (kind : OwnerKind) → (number == owner) ≡ false → has_owner owner client kind l.owners ≡ true → has_owner owner client kind (without (is_owner number) l.owners) ≡ true
    stay owner client kind apart h =
        any_left (st.fits_owner owner client kind) (is_owner number) l.owners (λ o e.
        let parts = and_parts (owner == o.number) (client == o.name.client && same_kind kind o.name.kind) e in
        rw (sym (eqb-true owner o.number parts.0)) apart) h

    stays : (client file : ℕ) (h : Holder) → st.hangs_on number h ≡ false → Stays l (with_owners l (without (is_owner number) l.owners)) client file h
    stays client file (Open owner) apart = λ kind h. stay owner client kind apart h
    stays client file (Lock owner under opener) apart = (λ kind h. stay owner client kind (or_parts (number == owner) (number == opener) apart).0 h, λ h. h)
    stays client file (Delegation write) apart = tt

-- the owners of a client that has no stateid go, with their kept results
pub owners_dropped : (l : NfsLists) (client : ℕ) → IsSound l → list_any (λ s. client == s.client) l.stateids ≡ false → IsSound (st.without_owners client l)
owners_dropped l client sound idle =
    record {
      clients_room = sound.clients_room;
      owners_room = omega (arith, sound.owners_room, length_without (λ o. client == o.name.client) l.owners);
      opens_room = sound.opens_room;
      rising = rising_left (λ o. client == o.name.client) l.owners sound.rising;
      owners = all_left _ _ (λ o. client == o.name.client) l.owners (λ o e h. h) sound.owners;
      stateids = all_both _ _ _ l.stateids (λ s h apart. hangs_stays l (st.without_owners client l) s (λ c. c) (stays_by l (st.without_owners client l) s.client s.file s.holder (λ owner kind. stay owner s.client kind apart) (λ under opener h. h)) h) sound.stateids (all_apart (λ s. client == s.client) l.stateids idle);
      kept = all_passed (λ k. list_any (is_owner k.owner) (st.other_owners client l.owners)) l.kept;
    }
  where
    stay : (owner other : ℕ) (kind : OwnerKind) → (client == other) ≡ false → has_owner owner other kind l.owners ≡ true → has_owner owner other kind (st.other_owners client l.owners) ≡ true
    stay owner other kind apart h =
        any_left (st.fits_owner owner other kind) (λ o. client == o.name.client) l.owners (λ o e.
        let parts = and_parts (owner == o.number) (other == o.name.client && same_kind kind o.name.kind) e in
        let same = eqb-true other o.name.client (and_parts (other == o.name.client) (same_kind kind o.name.kind) parts.1).0 in
        rw (sym same) apart) h

    all_passed : {A : Type 0} (test : A → Bool) (xs : List A) → AllByRecursion (λ x. test x ≡ true) (filter test xs)
    all_passed test [] = tt
    all_passed test (x ∷ xs) =
        elim (cases_Bool (test x)) [
          | inl h ↦ rw h (h, all_passed test xs)
          | inr h ↦ rw h (all_passed test xs)
        ]

-- Stateids.

-- locks under this open, of this owner
abbrev is_lock_under : ℕ → ℕ → Holder → Bool
is_lock_under number owner (Open by) = false
is_lock_under number owner (Lock by under opener) = number == under && owner == opener
is_lock_under number owner (Delegation write) = false

opens_more : (ss : List StateidRow) (s : StateidRow) → opens (ss ++ s ∷ []) ≡ opens ss + (if is_live s then 1 else 0)
opens_more [] s = elim (cases_Bool (is_live s)) [ inl h ↦ rw h refl | inr h ↦ rw h refl ]
opens_more (x ∷ xs) s =
    elim (cases_Bool (is_live x)) [
      | inl h ↦ rw h (omega (arith, opens_more xs s))
      | inr h ↦ rw h (opens_more xs s)
    ]

opens_left : (drops : StateidRow → Bool) (ss : List StateidRow) → opens (without drops ss) ≤ opens ss
opens_left drops [] = omega arith
opens_left drops (s ∷ ss) =
    elim (cases_Bool (drops s)) [
      | inl gone ↦ rw gone (elim (cases_Bool (is_live s)) [ inl h ↦ rw h (omega (arith, opens_left drops ss)) | inr h ↦ rw h (opens_left drops ss) ])
      | inr stays ↦ rw stays (elim (cases_Bool (is_live s)) [ inl h ↦ rw h (omega (arith, opens_left drops ss)) | inr h ↦ rw h (opens_left drops ss) ])
    ]

-- how many opens there are after a change of the row that is found
pub opens_changed : (which : StateidRow → Bool) (to : StateidRow → StateidRow) (ss : List StateidRow) (r : StateidRow) → find which ss ≡ Some r
    → opens (changed which to ss) + (if is_live r then 1 else 0) ≡ opens ss + (if is_live (to r) then 1 else 0)
opens_changed which to [] r h = absurd (true≢false (sym (ap is_some h)))
opens_changed which to (s ∷ ss) r h =
    elim (cases_Bool (which s)) [
      | inl e ↦
          let found : Some s ≡ Some r = rw e at h in
          let is : s ≡ r = same_Some s r found in
          rw e (rw (sym is) (counted (is_live s) (is_live (to s)) (to s) s ss))
      | inr e ↦
          let rest = opens_changed which to ss r (rw e at h) in
          rw e (elim (cases_Bool (is_live s)) [ inl live ↦ rw live (omega (arith, rest)) | inr dead ↦ rw dead rest ])
    ]
  where
    counted : (a b : Bool) (x y : StateidRow) (ys : List StateidRow) → length (cond b (x ∷ filter is_live ys) (filter is_live ys)) + (if a then 1 else 0) ≡ length (cond a (y ∷ filter is_live ys) (filter is_live ys)) + (if b then 1 else 0)
    counted true true x y ys = refl
    counted false false x y ys = refl
    counted true false x y ys = omega arith
    counted false true x y ys = omega arith

pub stateid_added : (l : NfsLists) (s : StateidRow) → IsSound l → hangs l s ≡ true → (is_live s ≡ true → opens l.stateids < st.most_opens) → IsSound (with_stateids l (l.stateids ++ s ∷ []))
stateid_added l s sound hung room =
    let new = l.stateids ++ s ∷ [] in
    let stay : (t : StateidRow) → hangs l t ≡ true → hangs (with_stateids l new) t ≡ true = λ t h. hangs_stays l (with_stateids l new) t (λ c. c) (stays_by l (with_stateids l new) t.client t.file t.holder (λ owner kind o. o) (λ under opener o. any_more (st.fits_open under opener t.client t.file) l.stateids (s ∷ []) o)) h in
    record {
      clients_room = sound.clients_room;
      owners_room = sound.owners_room;
      opens_room = elim (cases_Bool (is_live s)) [
        | inl live ↦ omega (arith, rw live at (opens_more l.stateids s), room live)
        | inr dead ↦ omega (arith, rw dead at (opens_more l.stateids s), sound.opens_room)
      ];
      rising = sound.rising;
      owners = sound.owners;
      stateids = all_append (λ t. hangs (with_stateids l new) t ≡ true) l.stateids (s ∷ []) (all_weaker _ _ l.stateids stay sound.stateids) (stay s hung, tt);
      kept = sound.kept;
    }

pub stateid_changed : (l : NfsLists) (which : StateidRow → Bool) (standing : Standing) (r : StateidRow) → IsSound l → find which l.stateids ≡ Some r → (r.standing.closed ≡ true → standing.closed ≡ true) → IsSound (with_stateids l (changed which (with_standing standing) l.stateids))
stateid_changed l which standing r sound found closing =
    let new = changed which (with_standing standing) l.stateids in
    let stay : (t : StateidRow) → hangs l t ≡ true → hangs (with_stateids l new) t ≡ true = λ t h. hangs_stays l (with_stateids l new) t (λ c. c) (stays_by l (with_stateids l new) t.client t.file t.holder (λ owner kind o. o) (λ under opener o. any_changed (st.fits_open under opener t.client t.file) which (with_standing standing) l.stateids (λ s. refl) ∙ o)) h in
    record {
      clients_room = sound.clients_room;
      owners_room = sound.owners_room;
      opens_room = omega (arith, sound.opens_room, opens_changed which (with_standing standing) l.stateids r found, fewer (st.is_open r.holder) r.standing.closed standing.closed closing);
      rising = sound.rising;
      owners = sound.owners;
      stateids = all_changed _ _ which (with_standing standing) l.stateids stay stay sound.stateids;
      kept = sound.kept;
    }
  where
    fewer : (o a b : Bool) → (a ≡ true → b ≡ true) → (if o && not b then 1 else 0) ≤ (if o && not a then 1 else 0)
    fewer true false false h = omega arith
    fewer true false true h = omega arith
    fewer true true false h = absurd (true≢false (sym (h refl)))
    fewer true true true h = omega arith
    fewer false a b h = omega arith

-- the stateids that are left, where those that are dropped leave the opens that the others hang under
stateids_left : (l : NfsLists) (drops : StateidRow → Bool) → IsSound l → ((s x : StateidRow) (under opener : ℕ) → drops s ≡ false → is_lock_under under opener s.holder ≡ true → st.fits_open under opener s.client s.file x ≡ true → drops x ≡ false) → IsSound (with_stateids l (without drops l.stateids))
stateids_left l drops sound keeps =
    let new = without drops l.stateids in
    record {
      clients_room = sound.clients_room;
      owners_room = sound.owners_room;
      opens_room = omega (arith, sound.opens_room, opens_left drops l.stateids);
      rising = sound.rising;
      owners = sound.owners;
      stateids = all_left _ _ drops l.stateids (λ s e h. hangs_stays l (with_stateids l new) s (λ c. c) (stays s.client s.file s.holder (λ under opener x u f. keeps s x under opener e u f)) h) sound.stateids;
      kept = sound.kept;
    }
  where
    stays : (client file : ℕ) (h : Holder) → ((under opener : ℕ) (x : StateidRow) → is_lock_under under opener h ≡ true → st.fits_open under opener client file x ≡ true → drops x ≡ false) → Stays l (with_stateids l (without drops l.stateids)) client file h
    stays client file (Open owner) keep = λ kind h. h
    stays client file (Lock owner under opener) keep =
        (λ kind h. h, λ h. any_left (st.fits_open under opener client file) drops l.stateids (λ x f. keep under opener x (and_from (under == under) (opener == opener) (eq-eqb under under refl) (eq-eqb opener opener refl)) f) h)
    stays client file (Delegation write) keep = tt

-- what the parts of a holder say: an open that a lock hangs under goes with what the lock goes with
open_of : (opener : ℕ) (h : Holder) → st.is_open_by opener h ≡ true → h ≡ Open opener
open_of opener (Open by) e = ap Open (sym (eqb-true opener by e))
open_of opener (Lock by under other) e = absurd (true≢false (sym e))
open_of opener (Delegation write) e = absurd (true≢false (sym e))

hung_opener : (owner under opener : ℕ) (h : Holder) → st.hangs_on owner h ≡ false → is_lock_under under opener h ≡ true → (owner == opener) ≡ false
hung_opener owner under opener (Open by) e u = absurd (true≢false (sym u))
hung_opener owner under opener (Lock by number other) e u =
    let parts = and_parts (under == number) (opener == other) u in
    rw (sym (eqb-true opener other parts.1)) at (or_parts (owner == by) (owner == other) e).1
hung_opener owner under opener (Delegation write) e u = absurd (true≢false (sym u))

hung_under : (number under opener : ℕ) (h : Holder) → st.is_under number h ≡ false → is_lock_under under opener h ≡ true → (number == under) ≡ false
hung_under number under opener (Open by) e u = absurd (true≢false (sym u))
hung_under number under opener (Lock by other owner) e u = rw (sym (eqb-true under other (and_parts (under == other) (opener == owner) u).0)) at e
hung_under number under opener (Delegation write) e u = absurd (true≢false (sym u))

pub stateids_dropped : (l : NfsLists) (which : Whose) → IsSound l → IsSound (with_stateids l (without (st.is_whose which) l.stateids))
stateids_dropped l which sound = stateids_left l (st.is_whose which) sound (keeps which)
  where
    keeps : (which : Whose) (s x : StateidRow) (under opener : ℕ) → st.is_whose which s ≡ false → is_lock_under under opener s.holder ≡ true → st.fits_open under opener s.client s.file x ≡ true → st.is_whose which x ≡ false
    keeps (whose.Owner owner) s x under opener e u f =
        let told = and_parts (under == x.number) (st.is_open_by opener x.holder && (s.client == x.client && s.file == x.file)) f in
        let is = open_of opener x.holder (and_parts (st.is_open_by opener x.holder) (s.client == x.client && s.file == x.file) told.1).0 in
        ap (st.hangs_on owner) is ∙ hung_opener owner under opener s.holder e u
    keeps (whose.Stateid number) s x under opener e u f =
        let told = and_parts (under == x.number) (st.is_open_by opener x.holder && (s.client == x.client && s.file == x.file)) f in
        let is = open_of opener x.holder (and_parts (st.is_open_by opener x.holder) (s.client == x.client && s.file == x.file) told.1).0 in
        let apart = hung_under number under opener s.holder (or_parts (number == s.number) (st.is_under number s.holder) e).1 u in
        or_from (number == x.number) (st.is_under number x.holder) (ap (λ n. number == n) (sym (eqb-true under x.number told.0)) ∙ apart) (ap (st.is_under number) is)
    keeps (whose.Under number) s x under opener e u f =
        let told = and_parts (under == x.number) (st.is_open_by opener x.holder && (s.client == x.client && s.file == x.file)) f in
        let is = open_of opener x.holder (and_parts (st.is_open_by opener x.holder) (s.client == x.client && s.file == x.file) told.1).0 in
        ap (st.is_under number) is
    keeps (whose.Client client) s x under opener e u f =
        let told = and_parts (under == x.number) (st.is_open_by opener x.holder && (s.client == x.client && s.file == x.file)) f in
        let places = (and_parts (st.is_open_by opener x.holder) (s.client == x.client && s.file == x.file) told.1).1 in
        ap (λ n. client == n) (sym (eqb-true s.client x.client (and_parts (s.client == x.client) (s.file == x.file) places).0)) ∙ e
    keeps (whose.ClientFile client file) s x under opener e u f =
        let told = and_parts (under == x.number) (st.is_open_by opener x.holder && (s.client == x.client && s.file == x.file)) f in
        let places = and_parts (s.client == x.client) (s.file == x.file) (and_parts (st.is_open_by opener x.holder) (s.client == x.client && s.file == x.file) told.1).1 in
        (λ i. client == sym (eqb-true s.client x.client places.0) i && file == sym (eqb-true s.file x.file places.1) i) ∙ e

pub stateid_dropped : (l : NfsLists) (number : ℕ) → IsSound l → st.IsIdleStateid number l → IsSound (with_stateids l (without (st.is_stateid number) l.stateids))
stateid_dropped l number sound idle =
    let new = without (st.is_stateid number) l.stateids in
    let left : AllByRecursion (λ s. hangs (with_stateids l new) s ≡ true) l.stateids =
    all_both _ _ _ l.stateids (λ s h apart. hangs_stays l (with_stateids l new) s (λ c. c) (stays s.client s.file s.holder apart) h) sound.stateids (all_apart (λ s. st.is_under number s.holder) l.stateids idle) in
    record {
      clients_room = sound.clients_room;
      owners_room = sound.owners_room;
      opens_room = omega (arith, sound.opens_room, opens_left (st.is_stateid number) l.stateids);
      rising = sound.rising;
      owners = sound.owners;
      stateids = all_left _ _ (st.is_stateid number) l.stateids (λ s e h. h) left;
      kept = sound.kept;
    }
  where
    stays : (client file : ℕ) (h : Holder) → st.is_under number h ≡ false → Stays l (with_stateids l (without (st.is_stateid number) l.stateids)) client file h
    stays client file (Open owner) apart = λ kind h. h
    stays client file (Lock owner under opener) apart = (
      λ kind h. h,
      λ h. any_left (st.fits_open under opener client file) (st.is_stateid number) l.stateids (λ x f.
          let told = and_parts (under == x.number) (st.is_open_by opener x.holder && (client == x.client && file == x.file)) f in
          ap (λ n. number == n) (sym (eqb-true under x.number told.0)) ∙ apart) h,
    )
    stays client file (Delegation write) apart = tt

-- Kept results.

pub kept_added : (l : NfsLists) (k : KeptRow) → IsSound l → list_any (is_owner k.owner) l.owners ≡ true → IsSound (with_kept l (l.kept ++ k ∷ []))
kept_added l k sound there =
    record {
      clients_room = sound.clients_room;
      owners_room = sound.owners_room;
      opens_room = sound.opens_room;
      rising = sound.rising;
      owners = sound.owners;
      stateids = sound.stateids;
      kept = all_append (λ k. list_any (is_owner k.owner) l.owners ≡ true) l.kept (k ∷ []) sound.kept (there, tt);
    }

pub kept_changed : (l : NfsLists) (which : KeptRow → Bool) (bytes : List ℕ) → IsSound l → IsSound (with_kept l (changed which (with_result bytes) l.kept))
kept_changed l which bytes sound =
    record {
      clients_room = sound.clients_room;
      owners_room = sound.owners_room;
      opens_room = sound.opens_room;
      rising = sound.rising;
      owners = sound.owners;
      stateids = sound.stateids;
      kept = all_changed _ _ which (with_result bytes) l.kept (λ k h. h) (λ k h. h) sound.kept;
    }

pub kept_dropped : (l : NfsLists) (drops : KeptRow → Bool) → IsSound l → IsSound (with_kept l (without drops l.kept))
kept_dropped l drops sound =
    record {
      clients_room = sound.clients_room;
      owners_room = sound.owners_room;
      opens_room = sound.opens_room;
      rising = sound.rising;
      owners = sound.owners;
      stateids = sound.stateids;
      kept = all_left _ _ drops l.kept (λ k e h. h) sound.kept;
    }

-- how many opens there are after a change of a stateid that is there, of which a closed one stays closed
pub recounted : (ss : List StateidRow) (number : ℕ) (standing : Standing) (closes : Bool) → is_some (find (st.is_stateid number) ss) ≡ true
    → ((row : StateidRow) → find (st.is_stateid number) ss ≡ Some row → row.standing.closed ≡ true → standing.closed ≡ true)
    → ((row : StateidRow) → find (st.is_stateid number) ss ≡ Some row → closes ≡ (is_live row && standing.closed))
    → opens (changed (st.is_stateid number) (with_standing standing) ss) + (if closes then 1 else 0) ≡ opens ss
recounted ss number standing closes there closing is = by (find (st.is_stateid number) ss) refl there
  where
    told : (o a b w : Bool) (new old : ℕ) → (a ≡ true → b ≡ true) → w ≡ ((o && not a) && b) → new + (if o && not a then 1 else 0) ≡ old + (if o && not b then 1 else 0) → new + (if w then 1 else 0) ≡ old
    told o a b w new old closing is so = rw is (by_cases o a b new old closing so)
      where
        by_cases : (o a b : Bool) (new old : ℕ) → (a ≡ true → b ≡ true) → new + (if o && not a then 1 else 0) ≡ old + (if o && not b then 1 else 0) → new + (if (o && not a) && b then 1 else 0) ≡ old
        by_cases true true true new old closing so = omega (arith, so)
        by_cases true true false new old closing so = absurd (true≢false (sym (closing refl)))
        by_cases true false true new old closing so = omega (arith, so)
        by_cases true false false new old closing so = omega (arith, so)
        by_cases false a b new old closing so = omega (arith, so)

    by : (o : Option StateidRow) → find (st.is_stateid number) ss ≡ o → is_some o ≡ true → opens (changed (st.is_stateid number) (with_standing standing) ss) + (if closes then 1 else 0) ≡ opens ss
    by None e h = absurd (true≢false (sym h))
    by (Some r) e h = told (st.is_open r.holder) r.standing.closed standing.closed closes _ _ (closing r e) (is r e) (opens_changed (st.is_stateid number) (with_standing standing) ss r e)

pub stateid_changed_there : (l : NfsLists) (number : ℕ) (standing : Standing) → IsSound l → is_some (find (st.is_stateid number) l.stateids) ≡ true
    → ((row : StateidRow) → find (st.is_stateid number) l.stateids ≡ Some row → row.standing.closed ≡ true → standing.closed ≡ true)
    → IsSound (with_stateids l (changed (st.is_stateid number) (with_standing standing) l.stateids))
stateid_changed_there l number standing sound there closing = by (find (st.is_stateid number) l.stateids) refl there
  where
    by : (o : Option StateidRow) → find (st.is_stateid number) l.stateids ≡ o → is_some o ≡ true → IsSound (with_stateids l (changed (st.is_stateid number) (with_standing standing) l.stateids))
    by None e h = absurd (true≢false (sym h))
    by (Some r) e h = stateid_changed l (st.is_stateid number) standing r sound e (closing r e)

-- All that belongs to an owner, and to a client.

none_left : {A : Type 0} (test : A → Bool) (xs : List A) → list_any test (without test xs) ≡ false
none_left test [] = refl
none_left test (x ∷ xs) =
    elim (cases_Bool (test x)) [
      | inl gone ↦ rw gone (none_left test xs)
      | inr stays ↦ rw stays (rw stays (none_left test xs))
    ]

pub owner_forgotten : (l : NfsLists) (number : ℕ) → IsSound l → IsSound (st.without_owner number l)
owner_forgotten l number sound =
    let first = with_stateids l (without (λ s. st.hangs_on number s.holder) l.stateids) in
    let second = with_kept first (without (is_kept number) l.kept) in
    let ok = kept_dropped first (is_kept number) (stateids_dropped l (whose.Owner number) sound) in
    owner_dropped second number ok (none_left (λ s. st.hangs_on number s.holder) l.stateids, none_left (is_kept number) l.kept)

pub client_forgotten : (l : NfsLists) (client : ℕ) → IsSound l → IsSound (st.without_client client l)
client_forgotten l client sound =
    let first = with_stateids l (without (λ s. client == s.client) l.stateids) in
    let none = none_left (λ (s : StateidRow). client == s.client) l.stateids in
    let ok = owners_dropped first client (stateids_dropped l (whose.Client client) sound) none in
    client_dropped (st.without_owners client first) client true ok (λ on. (none_left (λ (o : OwnerRow). client == o.name.client) l.owners, none))

-- A stateid hangs on what was found.

owner_there : (number client : ℕ) (kind : OwnerKind) (os : List OwnerRow) → st.owner_fits client kind (find (is_owner number) os) ≡ true → has_owner number client kind os ≡ true
owner_there number client kind [] h = absurd (true≢false (sym h))
owner_there number client kind (o ∷ os) h =
    elim (cases_Bool (number == o.number)) [
      | inl e ↦ let fits : (client == o.name.client && same_kind kind o.name.kind) ≡ true = rw e at h in rw e (rw fits refl)
      | inr e ↦ rw e (owner_there number client kind os (rw e at h))
    ]

open_there : (number owner client file : ℕ) (ss : List StateidRow) → st.open_fits owner client file (find (st.is_stateid number) ss) ≡ true → has_open number owner client file ss ≡ true
open_there number owner client file [] h = absurd (true≢false (sym h))
open_there number owner client file (s ∷ ss) h =
    elim (cases_Bool (number == s.number)) [
      | inl e ↦ let fits : (st.is_open_by owner s.holder && (client == s.client && file == s.file)) ≡ true = rw e at h in rw e (rw fits refl)
      | inr e ↦ rw e (open_there number owner client file ss (rw e at h))
    ]

pub found_hangs : (l : NfsLists) (s : StateidRow) → st.can_hang l s ≡ true → hangs l s ≡ true
found_hangs l s h =
    let parts = and_parts (is_some (find (is_client s.client true) l.clients)) (st.holder_can_hang l s.client s.file s.holder) h in
    and_from (has_client s.client l.clients) (holder_hangs l s.client s.file s.holder) (sym (some_found (is_client s.client true) l.clients) ∙ parts.0) (by s.client s.file s.holder parts.1)
  where
    by : (client file : ℕ) (holder : Holder) → st.holder_can_hang l client file holder ≡ true → holder_hangs l client file holder ≡ true
    by client file (Open owner) h = owner_there owner client Opens l.owners h
    by client file (Lock owner under opener) h =
        let parts = and_parts (st.owner_fits client Locks (find (is_owner owner) l.owners)) (st.open_fits opener client file (find (st.is_stateid under) l.stateids)) h in
        and_from (has_owner owner client Locks l.owners) (has_open under opener client file l.stateids) (owner_there owner client Locks l.owners parts.0) (open_there under opener client file l.stateids parts.1)
    by client file (Delegation write) h = refl
