-- Each stateid stays its owner's, whatever comes, goes or changes of owners and stateids.
use Rattle.std.proofs.Common.{◌≡◌, ℕ, Bool, true, false, not, List, [], ◌∷◌, ◌++◌, Option, Some, None, is_some, option_map, if◌then◌else◌, refl, sym, ap, subst, ◌∙◌, inl, inr, true≢false}
use Rattle.std.proofs.lemmas.Bool.{cases_Bool, and_parts, or_parts, eq-eqb, eqb-true, false_from_ne_true}
use Rattle.std.proofs.lemmas.Option.{same_Some}
use Rattle.std.specs.Bool.{◌==◌}
use Rattle.std.specs.List.{AllByRecursion, find}
use Rattle.xl_base.proofs.Members.{all_from, all_in, all_weaker, pairwise_filter}
use Rattle.xl_base.specs.Lists.{Pairwise}
use Rattle.xl_nfs_state.proofs.AnyLaws.{all_changed, all_left}
use Rattle.xl_nfs_state.proofs.SoundLaws.{rising_changed, rising_left, rising_added}
use Rattle.xl_nfs_state.specs.Filed.{changed}
use Rattle.xl_nfs_state.specs.Keys.{place_of, same_place}
use Rattle.xl_nfs_state.specs.Rows.{with_standing, with_seqids}
use Rattle.xl_nfs_state.specs.State.{NfsLists, hangs_on, is_owner, is_stateid, is_under, is_whose, next_owner, other_owners, with_owners, with_stateids, without, without_client, without_owner}
use Rattle.xl_nfs_state.specs.declared.owner.OwnerKind.{OwnerKind}
use Rattle.xl_nfs_state.specs.declared.owner.OwnerKind.TheVariants as kinds
use Rattle.xl_nfs_state.specs.declared.owner.OwnerRow.{OwnerRow}
use Rattle.xl_nfs_state.specs.declared.owner.SeqidState.{SeqidState}
use Rattle.xl_nfs_state.specs.declared.stateid.Holder.{Holder}
use Rattle.xl_nfs_state.specs.declared.stateid.Holder.TheVariants as holders
use Rattle.xl_nfs_state.specs.declared.stateid.Standing.{Standing}
use Rattle.xl_nfs_state.specs.declared.stateid.StateidRow.{StateidRow}
use Rattle.xl_nfs_state.specs.declared.stateid.Whose.TheVariants as whose
use Rattle.xl_nfs_laws.specs.Orderly.{are_apart, closes, IsHeldBy, IsOrderly, IsOwnedBy}
use Rattle.xl_nfs_opens.specs.Seqids.{closed_gone, seqid_set}
use Rattle.xl_nfs_laws.proofs.EnteredOpenLaws.{left_found}
use Rattle.xl_nfs_laws.proofs.OpenLaws.{seqid_set_at}

-- ---- whose it is

-- the number of the owner by which it is held
abbrev pub owned_by : Holder → Option ℕ
owned_by (holders.Open owner) = Some owner
owned_by (holders.Lock owner under opener) = Some owner
owned_by (holders.Delegation write) = None

pub held_on : (old new : List OwnerRow) (r q : StateidRow) (h : Holder) → ((owner : ℕ) (kind : OwnerKind) → owned_by h ≡ Some owner → IsOwnedBy r kind (find (is_owner owner) old) → IsOwnedBy q kind (find (is_owner owner) new)) → IsHeldBy old r h → IsHeldBy new q h
held_on old new r q (holders.Open owner) keeps held = keeps owner kinds.Open refl held
held_on old new r q (holders.Lock owner under opener) keeps held = keeps owner kinds.Lock refl held
held_on old new r q (holders.Delegation write) keeps held = tt

-- what its owner's requests have closed says whether it is closed
pub closed_by : (os : List OwnerRow) (r : StateidRow) (h : Holder) (owner : ℕ) (o : OwnerRow) → owned_by h ≡ Some owner → find (is_owner owner) os ≡ Some o → IsHeldBy os r h → r.standing.closed ≡ closes o.seqids.closed r.number
closed_by os r (holders.Open w) owner o is found held = (let owned : IsOwnedBy r kinds.Open (Some o) = subst (λ (x : Option OwnerRow). IsOwnedBy r kinds.Open x) (ap (λ (m : ℕ). find (is_owner m) os) (same_Some w owner is) ∙ found) held in owned.2)
closed_by os r (holders.Lock w under opener) owner o is found held = (let owned : IsOwnedBy r kinds.Lock (Some o) = subst (λ (x : Option OwnerRow). IsOwnedBy r kinds.Lock x) (ap (λ (m : ℕ). find (is_owner m) os) (same_Some w owner is) ∙ found) held in owned.2)
closed_by os r (holders.Delegation write) owner o is found held = absurd (true≢false (ap is_some (sym is)))

-- ---- an owner's requests come further

owned_seqid_set : (r q : StateidRow) (kind : OwnerKind) (w owner : ℕ) (seqids : SeqidState) (x : Option OwnerRow) → r.client ≡ q.client → r.number ≡ q.number → (w ≡ owner → q.standing.closed ≡ closes seqids.closed q.number) → ((w == owner) ≡ false → q.standing.closed ≡ r.standing.closed) → IsOwnedBy r kind x → IsOwnedBy q kind (option_map (λ (o : OwnerRow). if w == owner then with_seqids seqids o else o) x)
owned_seqid_set r q kind w owner seqids None client number own other owned = absurd owned
owned_seqid_set r q kind w owner seqids (Some o) client number own other owned =
    elim (cases_Bool (w == owner)) [
      | inl e ↦ rw e (owned.0 ∙ client, owned.1, own (eqb-true w owner e))
      | inr e ↦ rw e (owned.0 ∙ client, owned.1, other e ∙ owned.2 ∙ ap (closes o.seqids.closed) number)
    ]

pub held_seqid_set : (os : List OwnerRow) (owner : ℕ) (seqids : SeqidState) (r q : StateidRow) → r.client ≡ q.client → r.number ≡ q.number → (owned_by r.holder ≡ Some owner → q.standing.closed ≡ closes seqids.closed q.number) → ((owned_by r.holder ≡ Some owner → ⊥) → q.standing.closed ≡ r.standing.closed) → IsHeldBy os r r.holder → IsHeldBy (changed (is_owner owner) (with_seqids seqids) os) q r.holder
held_seqid_set os owner seqids r q client number own other held =
    held_on os (changed (is_owner owner) (with_seqids seqids) os) r q r.holder (λ w kind is owned.
    subst (λ (x : Option OwnerRow). IsOwnedBy q kind x) (sym (seqid_set_at w owner seqids os))
    (owned_seqid_set r q kind w owner seqids (find (is_owner w) os) client number
    (λ e. own (is ∙ ap (λ (m : ℕ). Some m) e))
    (λ d. other (λ e. true≢false (sym (eq-eqb w owner (same_Some w owner (sym is ∙ e))) ∙ d)))
    owned)) held

-- what an owner closed before goes
abbrev dropped : Option ℕ → StateidRow → Bool
dropped None q = false
dropped (Some number) q = is_whose (whose.Stateid number) q

not_closed : (closed : Option ℕ) (r : StateidRow) → dropped closed r ≡ false → closes closed r.number ≡ false
not_closed None r stays = refl
not_closed (Some number) r stays = (or_parts (number == r.number) (is_under number r.holder) stays).0

-- what is left is held, once the owner's requests have come further
abbrev pub IsLeft : List OwnerRow → ℕ → OwnerRow → SeqidState → StateidRow → Type 0
IsLeft os owner o seqids q = dropped o.seqids.closed q ≡ false → IsHeldBy (changed (is_owner owner) (with_seqids seqids) os) q q.holder

-- it is another than what the owner's request closes
pub left_as_it_was : (os : List OwnerRow) (owner : ℕ) (o : OwnerRow) (seqids : SeqidState) (r : StateidRow) → find (is_owner owner) os ≡ Some o → closes seqids.closed r.number ≡ false → IsHeldBy os r r.holder → IsLeft os owner o seqids r
left_as_it_was os owner o seqids r found other held = λ stays.
    held_seqid_set os owner seqids r r refl refl (λ is. closed_by os r r.holder owner o is found held ∙ not_closed o.seqids.closed r stays ∙ sym other) (λ _. refl) held

-- it changes, and isn't closed
pub left_live : (os : List OwnerRow) (owner : ℕ) (o : OwnerRow) (seqids : SeqidState) (to : Standing) (r : StateidRow) → to.closed ≡ false → r.standing.closed ≡ false → seqids.closed ≡ None → IsHeldBy os r r.holder → IsLeft os owner o seqids (with_standing to r)
left_live os owner o seqids to r is was none held = λ stays.
    held_seqid_set os owner seqids r (with_standing to r) refl refl (λ _. is ∙ ap (λ (x : Option ℕ). closes x r.number) (sym none)) (λ _. is ∙ sym was) held

-- the owner's request closes it
pub left_closed : (os : List OwnerRow) (owner : ℕ) (o : OwnerRow) (seqids : SeqidState) (to : Standing) (r : StateidRow) → to.closed ≡ true → seqids.closed ≡ Some r.number → owned_by r.holder ≡ Some owner → IsHeldBy os r r.holder → IsLeft os owner o seqids (with_standing to r)
left_closed os owner o seqids to r is closing holds held = λ stays.
    held_seqid_set os owner seqids r (with_standing to r) refl refl (λ _. is ∙ sym (ap (λ (x : Option ℕ). closes x r.number) closing ∙ eq-eqb r.number r.number refl)) (λ other. absurd (other holds)) held

pub seqids_orderly : (l : NfsLists) (owner : ℕ) (o : OwnerRow) (seqids : SeqidState) (closed : Option ℕ) (ss : List StateidRow) → closed ≡ o.seqids.closed → IsOrderly l → Pairwise are_apart ss → AllByRecursion (IsLeft l.owners owner o seqids) ss → IsOrderly (closed_gone closed (seqid_set owner seqids (with_stateids l ss)))
seqids_orderly l owner o seqids None ss is orderly apart left = record {
  rising = rising_changed (is_owner owner) seqids l.owners orderly.rising;
  apart = apart;
  held = all_weaker _ _ ss (λ q h. h (ap (λ (x : Option ℕ). dropped x q) (sym is))) left;
}
seqids_orderly l owner o seqids (Some number) ss is orderly apart left = record {
  rising = rising_changed (is_owner owner) seqids l.owners orderly.rising;
  apart = pairwise_filter are_apart (λ q. not (is_whose (whose.Stateid number) q)) ss apart;
  held = all_left _ _ (is_whose (whose.Stateid number)) ss (λ q e h. h (ap (λ (x : Option ℕ). dropped x q) (sym is) ∙ e)) left;
}

-- ---- the stateid of a number changes

other_number : (number : ℕ) (x y : StateidRow) → (number == x.number) ≡ true → are_apart x y ≡ true → (number == y.number) ≡ false
other_number number x y here apart =
    let differs = (and_parts (not (y.number == x.number)) (not (same_place (place_of y) (place_of x))) apart).0 in
    false_from_ne_true (number == y.number) (λ e. (let same : (y.number == x.number) ≡ true = eq-eqb y.number x.number (sym (eqb-true number y.number e) ∙ eqb-true number x.number here) in true≢false (sym differs ∙ ap not same)))

pub all_marked : (P Q : StateidRow → Type 0) (number : ℕ) (to : StateidRow → StateidRow) (ss : List StateidRow) (r : StateidRow) → find (is_stateid number) ss ≡ Some r → Pairwise are_apart ss → ((x : StateidRow) → (number == x.number) ≡ false → P x → Q x) → (P r → Q (to r)) → AllByRecursion P ss → AllByRecursion Q (changed (is_stateid number) to ss)
all_marked P Q number to [] r found apart others marked all = absurd (true≢false (ap is_some (sym found)))
all_marked P Q number to (x ∷ xs) r found apart others marked all =
    elim (cases_Bool (number == x.number)) [
      | inl e ↦ (
          let f : Some x ≡ Some r = rw e at found in
          let here : Q (to x) = subst (λ (y : StateidRow). P y → Q (to y)) (sym (same_Some x r f)) marked all.0 in
          let rest : AllByRecursion Q xs = all_from Q xs (λ y h. others y (other_number number x y e (all_in (λ z. are_apart x z ≡ true) y xs apart.0 h)) (all_in P y xs all.1 h)) in
          rw e (here, rest))
      | inr e ↦ rw e (others x e all.0, all_marked P Q number to xs r (rw e at found) apart.1 others marked all.1)
    ]

pub apart_changed : (number : ℕ) (to : Standing) (ss : List StateidRow) → Pairwise are_apart ss → Pairwise are_apart (changed (is_stateid number) (with_standing to) ss)
apart_changed number to [] apart = tt
apart_changed number to (x ∷ xs) apart =
    elim (cases_Bool (number == x.number)) [
      | inl e ↦ rw e (apart.0, apart.1)
      | inr e ↦ rw e (all_changed _ _ (is_stateid number) (with_standing to) xs (λ y h. h) (λ y h. h) apart.0, apart_changed number to xs apart.1)
    ]

-- ---- owners come and go

found_more : (p : OwnerRow → Bool) (os : List OwnerRow) (x o : OwnerRow) → find p os ≡ Some o → find p (os ++ x ∷ []) ≡ Some o
found_more p [] x o found = absurd (true≢false (ap is_some (sym found)))
found_more p (y ∷ os) x o found =
    elim (cases_Bool (p y)) [
      | inl e ↦ (let f : Some y ≡ Some o = rw e at found in rw e f)
      | inr e ↦ rw e (found_more p os x o (rw e at found))
    ]

owned_more : (r : StateidRow) (kind : OwnerKind) (p : OwnerRow → Bool) (os new : List OwnerRow) (x : Option OwnerRow) → find p os ≡ x → ((o : OwnerRow) → x ≡ Some o → IsOwnedBy r kind (Some o) → find p new ≡ Some o) → IsOwnedBy r kind x → IsOwnedBy r kind (find p new)
owned_more r kind p os new None e there owned = absurd owned
owned_more r kind p os new (Some o) e there owned = subst (λ (x : Option OwnerRow). IsOwnedBy r kind x) (sym (there o refl owned)) owned

pub owner_comes : (l : NfsLists) (o : OwnerRow) → next_owner l.owners ≡ Some o.number → IsOrderly l → IsOrderly (with_owners l (l.owners ++ o ∷ []))
owner_comes l o next orderly = record {
  rising = rising_added l.owners o orderly.rising next;
  apart = orderly.apart;
  held = all_weaker _ _ l.stateids (λ r held. held_on l.owners (l.owners ++ o ∷ []) r r r.holder (λ w kind is owned. owned_more r kind (is_owner w) l.owners (l.owners ++ o ∷ []) (find (is_owner w) l.owners) refl (λ x e _. found_more (is_owner w) l.owners o x e) owned) held) orderly.held;
}

pub stateids_go : (l : NfsLists) (drops : StateidRow → Bool) → IsOrderly l → IsOrderly (with_stateids l (without drops l.stateids))
stateids_go l drops orderly = record {
  rising = orderly.rising;
  apart = pairwise_filter are_apart (λ q. not (drops q)) l.stateids orderly.apart;
  held = all_left _ _ drops l.stateids (λ q e h. h) orderly.held;
}

-- it hangs on another owner
hangs_apart : (number w : ℕ) (h : Holder) → hangs_on number h ≡ false → owned_by h ≡ Some w → (number == w) ≡ false
hangs_apart number w (holders.Open by) apart is = ap (λ (m : ℕ). number == m) (sym (same_Some by w is)) ∙ apart
hangs_apart number w (holders.Lock by under opener) apart is = ap (λ (m : ℕ). number == m) (sym (same_Some by w is)) ∙ (or_parts (number == by) (number == opener) apart).0
hangs_apart number w (holders.Delegation write) apart is = absurd (true≢false (ap is_some (sym is)))

found_is : (w : ℕ) (os : List OwnerRow) (o : OwnerRow) → find (is_owner w) os ≡ Some o → w ≡ o.number
found_is w [] o found = absurd (true≢false (ap is_some (sym found)))
found_is w (x ∷ xs) o found =
    elim (cases_Bool (w == x.number)) [
      | inl e ↦ (let f : Some x ≡ Some o = rw e at found in eqb-true w x.number e ∙ ap (λ (y : OwnerRow). y.number) (same_Some x o f))
      | inr e ↦ found_is w xs o (rw e at found)
    ]

owner_left : (os : List OwnerRow) (number w : ℕ) (o : OwnerRow) → (number == w) ≡ false → find (is_owner w) os ≡ Some o → find (is_owner w) (without (is_owner number) os) ≡ Some o
owner_left os number w o other found = left_found (is_owner w) (is_owner number) os o found (ap (λ (m : ℕ). number == m) (sym (found_is w os o found)) ∙ other)

pub owner_goes : (l : NfsLists) (number : ℕ) → IsOrderly l → IsOrderly (without_owner number l)
owner_goes l number orderly = record {
  rising = rising_left (is_owner number) l.owners orderly.rising;
  apart = pairwise_filter are_apart (λ q. not (hangs_on number q.holder)) l.stateids orderly.apart;
  held = all_left _ _ (λ q. hangs_on number q.holder) l.stateids (λ q apart held. held_on l.owners (without (is_owner number) l.owners) q q q.holder (λ w kind is owned. owned_more q kind (is_owner w) l.owners (without (is_owner number) l.owners) (find (is_owner w) l.owners) refl (λ o e _. owner_left l.owners number w o (hangs_apart number w q.holder apart is) e) owned) held) orderly.held;
}

pub client_goes : (l : NfsLists) (client : ℕ) → IsOrderly l → IsOrderly (without_client client l)
client_goes l client orderly = record {
  rising = rising_left (λ o. client == o.name.client) l.owners orderly.rising;
  apart = pairwise_filter are_apart (λ q. not (client == q.client)) l.stateids orderly.apart;
  held = all_left _ _ (λ q. client == q.client) l.stateids (λ q apart held. held_on l.owners (other_owners client l.owners) q q q.holder (λ w kind is owned. owned_more q kind (is_owner w) l.owners (other_owners client l.owners) (find (is_owner w) l.owners) refl (λ o e own. left_found (is_owner w) (λ x. client == x.name.client) l.owners o e (ap (λ (m : ℕ). client == m) own.0 ∙ apart)) owned) held) orderly.held;
}
