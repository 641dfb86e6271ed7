-- Owners and stateids stay orderly, whatever an operation comes to.
use Rattle.std.proofs.Common.{◌≡◌, ℕ, ◌+◌, ◌<◌, Bool, true, false, not, ◌&&◌, ◌||◌, List, [], ◌∷◌, ◌++◌, Option, Some, None, Ok, Err, Result, is_some, option_map, if◌then◌else◌, refl, sym, ap, subst, ◌∙◌, inl, inr, arith, true≢false}
use Rattle.std.proofs.lemmas.Bool.{cases_Bool, and_parts, and_from, eq-eqb, eqb-true, false_from_ne_true}
use Rattle.std.proofs.lemmas.Option.{same_Some}
use Rattle.std.specs.Bool.{◌==◌}
use Rattle.std.specs.List.{AllByRecursion, find}
use Rattle.std.specs.Option.{option_and_then}
use Rattle.xl_base.proofs.Members.{all_append, all_in, all_weaker, pairwise_append}
use Rattle.xl_base.proofs.Searches.{none_found}
use Rattle.xl_base.specs.Lists.{IsIn, Pairwise}
use Rattle.xl_nfs.specs.Opens.{OpenArgsItem}
use Rattle.xl_nfs.specs.declared.basics.Stateid.{Stateid}
use Rattle.xl_nfs.specs.declared.opens.CloseArgs.{CloseArgs}
use Rattle.xl_nfs.specs.declared.opens.OpenConfirmArgs.{OpenConfirmArgs}
use Rattle.xl_nfs.specs.declared.opens.OpenDowngradeArgs.{OpenDowngradeArgs}
use Rattle.xl_nfs.specs.declared.status.NfsStatus.{NfsStatus}
use Rattle.xl_nfs_state.proofs.SoundLaws.{fresh_number}
use Rattle.xl_nfs_state.specs.Alike.{kinds_are}
use Rattle.xl_nfs_state.specs.Filed.{changed}
use Rattle.xl_nfs_state.specs.Keys.{place_of, same_kind, same_place}
use Rattle.xl_nfs_state.specs.Rows.{with_standing, with_seqids}
use Rattle.xl_nfs_state.specs.State.{NfsLists, IsRising, can_hang, is_kept, is_owner, is_stateid, is_whose, next_owner, owned_on, with_stateids, without, without_owner}
use Rattle.xl_nfs_state.specs.Verdict.{next_seqid}
use Rattle.xl_nfs_state.specs.declared.client.ClientRow.{ClientRow}
use Rattle.xl_nfs_state.specs.declared.kept.KeptRow.{KeptRow}
use Rattle.xl_nfs_state.specs.declared.owner.OwnerKind.{OwnerKind}
use Rattle.xl_nfs_state.specs.declared.owner.OwnerKind.TheVariants as kinds
use Rattle.xl_nfs_state.specs.declared.owner.OwnerRow.{OwnerRow}
use Rattle.xl_nfs_state.specs.declared.owner.SeqidState.{SeqidState}
use Rattle.xl_nfs_state.specs.declared.stateid.Holder.{Holder}
use Rattle.xl_nfs_state.specs.declared.stateid.Holder.TheVariants as holders
use Rattle.xl_nfs_state.specs.declared.stateid.Standing.{Standing}
use Rattle.xl_nfs_state.specs.declared.stateid.StateidRow.{StateidRow}
use Rattle.xl_nfs_state.specs.declared.stateid.Whose.TheVariants as whose
use Rattle.xl_core.specs.State.{CoreState, drawn}
use Rattle.xl_core.specs.declared.ask.Answer.{Answer}
use Rattle.xl_nfs_opens.specs.Closing.{checked_as, counts, close, close_done, confirm_done, Returning, returned, return_done, deleg_return, done_lists, failed_lists, next_seqids, open_confirm, standing_fault, state_told}
use Rattle.xl_nfs_opens.specs.Downgrades.{downgrade_done, downgrade_fault, open_downgrade}
use Rattle.xl_nfs_opens.specs.Opens.{answer_status, answered, can_enter, can_stand, delegated, delegated_in, delegation_row, delegation_told, drawn_for, granted_wish, wish_of, either_bits, entered, granted_by, has_room, is_granted, judged, live, open_as, open_at, open_by, open_claimed, open_file, open_held, open_judged, open_of, open_row, open_seqids, opened_file, opened_told, opener_of, client_in, reclaims, refused_lists, repeated, stood}
use Rattle.xl_nfs_laws.specs.Orderly.{are_apart, closes, IsHeldBy, IsOrderly, IsOwnedBy}
use Rattle.xl_plan.specs.Plans.{AllKept}
use Rattle.xl_nfs_opens.specs.Plans.{Plan}
use Rattle.xl_nfs_opens.specs.Results.{spelled}
use Rattle.xl_nfs_opens.specs.Seqids.{advances, closed_gone, counted, is_opener, is_room_for, kept_for, new_owner, number_by, opener_number, remembered, seated, seated_by, seated_new, seqid_set}
use Rattle.xl_nfs_opens.specs.declared.opener.Checked.{Checked}
use Rattle.xl_nfs_opens.specs.declared.opener.Checked.TheVariants.{Refused, Repeated, Passed}
use Rattle.xl_nfs_opens.specs.declared.opener.Judged.{Judged}
use Rattle.xl_nfs_opens.specs.declared.opener.Judged.TheVariants as judgements
use Rattle.xl_nfs_opens.specs.declared.opener.Opener.{Opener}
use Rattle.xl_nfs_opens.specs.declared.told.Told.TheVariants.{Ended}
use Rattle.xl_nfs_laws.proofs.EnteredOpenLaws.{kept_stateids}
use Rattle.xl_nfs_laws.proofs.KeptResultLaws.{gone_owners}
use Rattle.xl_nfs_laws.proofs.OpenLaws.{kept_owners, seqid_set_at}
use Rattle.xl_nfs_laws.proofs.ListOrderLaws.{all_marked, apart_changed, held_on, IsLeft, left_as_it_was, left_closed, left_live, owner_comes, owner_goes, stateids_go, seqids_orderly}
use Rattle.xl_nfs_opens.proofs.OwnerLaws.{number_gone}
use Rattle.xl_nfs_laws.proofs.PassedCheckLaws.{IfPassed, IsPassed, checked_passed}
use Rattle.xl_nfs_laws.proofs.FirstSeqidLaws.{behind, is_own}

-- ---- what doesn't change owners and stateids

pub same_orderly : (l new : NfsLists) → new.owners ≡ l.owners → new.stateids ≡ l.stateids → IsOrderly l → IsOrderly new
same_orderly l new e f orderly = record {
  rising = subst IsRising (sym e) orderly.rising;
  apart = subst (λ (ss : List StateidRow). Pairwise are_apart ss) (sym f) orderly.apart;
  held = subst (λ (ss : List StateidRow). AllByRecursion (λ r. IsHeldBy new.owners r r.holder) ss) (sym f) (subst (λ (os : List OwnerRow). AllByRecursion (λ r. IsHeldBy os r r.holder) l.stateids) (sym e) orderly.held);
}

pub kept_orderly : (owner : ℕ) (bytes : List ℕ) (l : NfsLists) → IsOrderly l → IsOrderly (kept_for owner bytes l)
kept_orderly owner bytes l orderly = same_orderly l (kept_for owner bytes l) (kept_owners owner bytes l) (kept_stateids owner bytes l) orderly

-- ---- a request on an open

owned_live : (to : Standing) (r : StateidRow) (kind : OwnerKind) (x : Option OwnerRow) → to.closed ≡ r.standing.closed → IsOwnedBy r kind x → IsOwnedBy (with_standing to r) kind x
owned_live to r kind None is owned = absurd owned
owned_live to r kind (Some o) is owned = (owned.0, owned.1, is ∙ owned.2)

-- an open that isn't closed changes
pub stood_orderly : (l : NfsLists) (r : StateidRow) (access deny : ℕ) → find (is_stateid r.number) l.stateids ≡ Some r → r.standing.closed ≡ false → IsOrderly l → IsOrderly (stood r.number r access deny false l)
stood_orderly l r access deny found live orderly =
    let to : Standing = record { seqid = next_seqid r.standing.seqid; access = access; deny = deny; closed = false } in
    let Held : StateidRow → Type 0 = λ q. IsHeldBy l.owners q q.holder in
    record {
      rising = orderly.rising;
      apart = apart_changed r.number to l.stateids orderly.apart;
      held = all_marked Held Held r.number (with_standing to) l.stateids r found orderly.apart (λ x other held. held) (λ held. held_on l.owners l.owners r (with_standing to r) r.holder (λ w kind is owned. owned_live to r kind (find (is_owner w) l.owners) (sym live) owned) held) orderly.held;
    }

-- it counts, and closes nothing
pub counted_orderly : (l : NfsLists) (owner : ℕ) (o : OwnerRow) (closed : Option ℕ) (next : SeqidState) (bytes : List ℕ) → find (is_owner owner) l.owners ≡ Some o → closed ≡ o.seqids.closed → next.closed ≡ None → IsOrderly l → IsOrderly (counted owner closed next bytes l)
unfolding counted
counted_orderly l owner o closed next bytes found same none orderly =
    kept_orderly owner bytes _ (seqids_orderly l owner o next closed l.stateids same orderly orderly.apart (all_weaker _ _ l.stateids (λ r held. left_as_it_was l.owners owner o next r found (ap (λ (x : Option ℕ). closes x r.number) none) held) orderly.held))

-- it failed, and counts or not
pub failed_orderly : (l : NfsLists) (owner : ℕ) (o : OwnerRow) (seqids : SeqidState) (op seqid : ℕ) (status : NfsStatus) → find (is_owner owner) l.owners ≡ Some o → seqids ≡ o.seqids → IsOrderly l → IsOrderly (failed_lists l owner seqids op seqid status)
failed_orderly l owner o seqids op seqid status found same orderly =
    elim (cases_Bool (advances status)) [
      | inl e ↦ rw e (counted_orderly l owner o seqids.closed (next_seqids op seqid seqids.confirmed None) (spelled op (Ended status)) found (ap (λ (t : SeqidState). t.closed) same) refl orderly)
      | inr e ↦ rw e orderly
    ]

-- it was done, and the open has other rights, or others stand for its owner
pub done_orderly : (s : CoreState) (l : NfsLists) (r : StateidRow) (owner : ℕ) (seqids : SeqidState) (op seqid : ℕ) (confirmed : Bool) (access deny : ℕ) → IsPassed l r owner seqids → IsOrderly l → IsOrderly (done_lists s l r owner seqids op seqid confirmed None access deny false)
unfolding counted
done_orderly s l r owner seqids op seqid confirmed access deny passed orderly =
    let to : Standing = record { seqid = next_seqid r.standing.seqid; access = access; deny = deny; closed = false } in
    let next = next_seqids op seqid confirmed None in
    kept_orderly owner (spelled op (state_told s r)) _ (seqids_orderly l owner passed.row next seqids.closed (changed (is_stateid r.number) (with_standing to) l.stateids) (ap (λ (t : SeqidState). t.closed) passed.seqids_is) orderly (apart_changed r.number to l.stateids orderly.apart)
    (all_marked (λ q. IsHeldBy l.owners q q.holder) (IsLeft l.owners owner passed.row next) r.number (with_standing to) l.stateids r passed.found orderly.apart
    (λ x other held. left_as_it_was l.owners owner passed.row next x passed.owned refl held)
    (λ held. left_live l.owners owner passed.row next to r refl passed.live refl held) orderly.held))

-- it was closed
pub closed_orderly : (s : CoreState) (l : NfsLists) (r : StateidRow) (owner : ℕ) (seqids : SeqidState) (op seqid : ℕ) (confirmed : Bool) (access deny : ℕ) → IsPassed l r owner seqids → IsOrderly l → IsOrderly (done_lists s l r owner seqids op seqid confirmed (Some r.number) access deny true)
unfolding counted
closed_orderly s l r owner seqids op seqid confirmed access deny passed orderly =
    let to : Standing = record { seqid = next_seqid r.standing.seqid; access = access; deny = deny; closed = true } in
    let next = next_seqids op seqid confirmed (Some r.number) in
    kept_orderly owner (spelled op (state_told s r)) _ (seqids_orderly l owner passed.row next seqids.closed (changed (is_stateid r.number) (with_standing to) l.stateids) (ap (λ (t : SeqidState). t.closed) passed.seqids_is) orderly (apart_changed r.number to l.stateids orderly.apart)
    (all_marked (λ q. IsHeldBy l.owners q q.holder) (IsLeft l.owners owner passed.row next) r.number (with_standing to) l.stateids r passed.found orderly.apart
    (λ x other held. left_as_it_was l.owners owner passed.row next x passed.owned other held)
    (λ held. left_closed l.owners owner passed.row next to r refl refl (passed.holder) held) orderly.held))

-- ---- an owner that may be new

-- an owner that is found is found by its number
pub rising_found : (p : OwnerRow → Bool) (os : List OwnerRow) (x : OwnerRow) → IsRising os → find p os ≡ Some x → find (is_owner x.number) os ≡ Some x
rising_found p [] x rising found = absurd (true≢false (ap is_some (sym found)))
rising_found p (y ∷ os) x rising found =
    elim (cases_Bool (p y)) [
      | inl e ↦ (let f : Some y ≡ Some x = rw e at found in rw (eq-eqb x.number y.number (ap (λ (z : OwnerRow). z.number) (sym (same_Some y x f)))) f)
      | inr e ↦
          let rest : find p os ≡ Some x = rw e at found in
          let above : y.number < x.number = behind y p os x rising.0 rest in
          rw (false_from_ne_true (x.number == y.number) (λ d. omega (arith, eqb-true x.number y.number d, above))) (rising_found p os x rising.1 rest)
    ]

pub seated_orderly : (o : Opener) (seqids : SeqidState) (l : NfsLists) → seqids.closed ≡ None → IsOrderly l → IsOrderly (seated o seqids l)
unfolding seated
seated_orderly o seqids l none orderly = by (find (is_opener o) l.owners) refl
  where
    new : (next : Option ℕ) → next_owner l.owners ≡ next → IsOrderly (seated_new o seqids l next)
    new None e = orderly
    new (Some number) e = owner_comes l (new_owner o seqids number) e orderly

    by : (x : Option OwnerRow) → find (is_opener o) l.owners ≡ x → IsOrderly (seated_by o seqids l x)
    by None e = new (next_owner l.owners) refl
    by (Some r) e = seqids_orderly l r.number r seqids r.seqids.closed l.stateids refl orderly orderly.apart (all_weaker _ _ l.stateids (λ q held. left_as_it_was l.owners r.number r seqids q (rising_found (is_opener o) l.owners r orderly.rising e) (ap (λ (x : Option ℕ). closes x q.number) none) held) orderly.held)

-- the owner's row then
pub record IsSeated (o : Opener) (seqids : SeqidState) (l new : NfsLists) : Type 0 where
  pub row : OwnerRow
  pub number : row.number ≡ opener_number o l
  pub found : find (is_owner row.number) new.owners ≡ Some row
  pub named : find (is_opener o) new.owners ≡ Some row
  pub seqids_is : row.seqids ≡ seqids
  pub client : row.name.client ≡ o.client
  pub kind : row.name.kind ≡ o.kind

pub passes : (p : OwnerRow → Bool) (os : List OwnerRow) (x : OwnerRow) → find p os ≡ Some x → p x ≡ true
passes p [] x found = absurd (true≢false (ap is_some (sym found)))
passes p (y ∷ os) x found =
    elim (cases_Bool (p y)) [
      | inl e ↦ (let f : Some y ≡ Some x = rw e at found in ap p (sym (same_Some y x f)) ∙ e)
      | inr e ↦ passes p os x (rw e at found)
    ]

named_seqid_set : (o : Opener) (seqids : SeqidState) (os : List OwnerRow) (r : OwnerRow) → IsRising os → find (is_opener o) os ≡ Some r → find (is_opener o) (changed (is_owner r.number) (with_seqids seqids) os) ≡ Some (with_seqids seqids r)
named_seqid_set o seqids [] r rising found = absurd (true≢false (ap is_some (sym found)))
named_seqid_set o seqids (x ∷ os) r rising found =
    elim (cases_Bool (is_opener o x)) [
      | inl e ↦ (let f : Some x ≡ Some r = rw e at found in rw (eq-eqb r.number x.number (ap (λ (y : OwnerRow). y.number) (sym (same_Some x r f)))) (rw e (ap (λ (y : OwnerRow). Some (with_seqids seqids y)) (same_Some x r f))))
      | inr e ↦
          let rest : find (is_opener o) os ≡ Some r = rw e at found in
          let above : x.number < r.number = behind x (is_opener o) os r rising.0 rest in
          rw (false_from_ne_true (r.number == x.number) (λ d. omega (arith, eqb-true r.number x.number d, above))) (rw e (named_seqid_set o seqids os r rising.1 rest))
    ]

last_found : (p : OwnerRow → Bool) (os : List OwnerRow) (x : OwnerRow) → find p os ≡ None → p x ≡ true → find p (os ++ x ∷ []) ≡ Some x
last_found p [] x none is = rw is refl
last_found p (y ∷ os) x none is =
    elim (cases_Bool (p y)) [
      | inl e ↦ (let f : Some y ≡ None = rw e at none in absurd (true≢false (ap is_some f)))
      | inr e ↦ rw e (last_found p os x (rw e at none) is)
    ]

pub seat_is : (o : Opener) (seqids : SeqidState) (l : NfsLists) → IsRising l.owners → is_room_for o l ≡ true → IsSeated o seqids l (seated o seqids l)
unfolding seated
seat_is o seqids l rising room = by (find (is_opener o) l.owners) (next_owner l.owners) refl refl room
  where
    by : (x : Option OwnerRow) (next : Option ℕ) → find (is_opener o) l.owners ≡ x → next_owner l.owners ≡ next → (is_some x || is_some next) ≡ true → IsSeated o seqids l (seated_by o seqids l x)
    by (Some r) next e f is =
        let after : NfsLists = seqid_set r.number seqids l in
        let same : (closed_gone r.seqids.closed after).owners ≡ after.owners = gone_owners r.seqids.closed after in
        let parts = and_parts (o.client == r.name.client) _ (passes (is_opener o) l.owners r e) in
        record {
          row = with_seqids seqids r;
          number = ap (λ (x : Option OwnerRow). number_by x (next_owner l.owners)) (sym e);
          found = ap (λ (os : List OwnerRow). find (is_owner r.number) os) same ∙ seqid_set_at r.number r.number seqids l.owners ∙ ap (λ (x : Option OwnerRow). option_map (λ (y : OwnerRow). if r.number == r.number then with_seqids seqids y else y) x) (rising_found (is_opener o) l.owners r rising e) ∙ rw (eq-eqb r.number r.number refl) refl;
          named = ap (λ (os : List OwnerRow). find (is_opener o) os) same ∙ named_seqid_set o seqids l.owners r rising e;
          seqids_is = refl;
          client = sym (eqb-true o.client r.name.client parts.0);
          kind = sym (kinds_are o.kind r.name.kind (and_parts (same_kind o.kind r.name.kind) _ parts.1).0);
        }
    by None (Some number) e f is =
        subst (λ (next : Option ℕ). IsSeated o seqids l (seated_new o seqids l next)) (sym f) (record {
          row = new_owner o seqids number;
          number = ap (λ (x : Option OwnerRow). number_by x (Some number)) (sym e) ∙ ap (λ (next : Option ℕ). number_by (find (is_opener o) l.owners) next) (sym f);
          found = last_found (is_owner number) l.owners (new_owner o seqids number) (fresh_number l.owners number rising f) (eq-eqb number number refl);
          named = last_found (is_opener o) l.owners (new_owner o seqids number) e (is_own o seqids number);
          seqids_is = refl;
          client = refl;
          kind = refl;
        })
    by None None e f is = absurd (true≢false (sym is))

-- ---- an open comes

pub none_in : {A : Type 0} (p : A → Bool) (xs : List A) (x : A) → find p xs ≡ None → IsIn x xs → p x ≡ false
none_in p xs x none here = all_in (λ y. p y ≡ false) x xs (none_found p xs none) here

pub none_of : {A : Type 0} (x : Option A) → not (is_some x) ≡ true → x ≡ None
none_of None e = refl
none_of (Some a) e = absurd (true≢false (sym e))

-- a stateid comes behind those of other numbers and places
pub comes_orderly : (r : StateidRow) (l : NfsLists) → find (is_stateid r.number) l.stateids ≡ None → find (λ s. same_place (place_of r) (place_of s)) l.stateids ≡ None → IsHeldBy l.owners r r.holder → IsOrderly l → IsOrderly (with_stateids l (l.stateids ++ r ∷ []))
comes_orderly r l new free held orderly = record {
  rising = orderly.rising;
  apart = pairwise_append are_apart l.stateids (r ∷ []) orderly.apart (tt, tt) (λ x y h k. elim k [ inl same ↦ subst (λ (z : StateidRow). are_apart x z ≡ true) same (alone x h) | inr nowhere ↦ absurd nowhere ]);
  held = all_append (λ q. IsHeldBy l.owners q q.holder) l.stateids (r ∷ []) orderly.held (held, tt);
}
  where
    alone : (x : StateidRow) → IsIn x l.stateids → are_apart x r ≡ true
    alone x here = and_from (not (r.number == x.number)) (not (same_place (place_of r) (place_of x))) (ap not (none_in (is_stateid r.number) l.stateids x new here)) (ap not (none_in (λ s. same_place (place_of r) (place_of s)) l.stateids x free here))

pub entered_orderly : (r : StateidRow) (owner : ℕ) (l : NfsLists) → r.holder ≡ holders.Open owner → IsOwnedBy r kinds.Open (find (is_owner owner) l.owners) → IsOrderly l → IsOrderly (entered r l)
unfolding entered
entered_orderly r owner l holds owned orderly =
    let ss : List StateidRow = without (is_whose (whose.Stateid r.number)) l.stateids in
    let left : IsOrderly (with_stateids l ss) = stateids_go l (is_whose (whose.Stateid r.number)) orderly in
    elim (cases_Bool (can_enter r (with_stateids l ss))) [
      | inl e ↦ rw e (comes_orderly r (with_stateids l ss) (number_gone r.number l.stateids) (none_of _ (and_parts (not (is_some (find (λ s. same_place (place_of r) (place_of s)) ss))) _ e).0) (subst (λ (h : Holder). IsHeldBy l.owners r h) (sym holds) owned) left)
      | inr e ↦ rw e left
    ]

-- a stateid that is found is found by its number
pub apart_found : (p : StateidRow → Bool) (ss : List StateidRow) (r : StateidRow) → Pairwise are_apart ss → find p ss ≡ Some r → find (is_stateid r.number) ss ≡ Some r
apart_found p [] r apart found = absurd (true≢false (ap is_some (sym found)))
apart_found p (x ∷ ss) r apart found =
    elim (cases_Bool (p x)) [
      | inl e ↦ (let f : Some x ≡ Some r = rw e at found in rw (eq-eqb r.number x.number (ap (λ (y : StateidRow). y.number) (sym (same_Some x r f)))) f)
      | inr e ↦
          let rest : find p ss ≡ Some r = rw e at found in
          let other : not (r.number == x.number) ≡ true = (and_parts (not (r.number == x.number)) _ (later p x r ss apart.0 rest)).0 in
          rw (false_from_ne_true (r.number == x.number) (λ d. true≢false (sym other ∙ ap not d))) (apart_found p ss r apart.1 rest)
    ]
  where
    later : (q : StateidRow → Bool) (y z : StateidRow) (zs : List StateidRow) → AllByRecursion (λ w. are_apart y w ≡ true) zs → find q zs ≡ Some z → are_apart y z ≡ true
    later q y z [] all found = absurd (true≢false (ap is_some (sym found)))
    later q y z (w ∷ zs) all found =
        elim (cases_Bool (q w)) [
          | inl e ↦ (let f : Some w ≡ Some z = rw e at found in subst (λ (v : StateidRow). are_apart y v ≡ true) (same_Some w z f) all.0)
          | inr e ↦ later q y z zs all.1 (rw e at found)
        ]

pub live_is : (x : Option StateidRow) (r : StateidRow) → live x ≡ Some r → (x ≡ Some r) × (r.standing.closed ≡ false)
live_is None r e = absurd (true≢false (ap is_some (sym e)))
live_is (Some q) r e = by q.standing.closed refl e
  where
    by : (b : Bool) → q.standing.closed ≡ b → (if b then None else Some q) ≡ Some r → (Some q ≡ Some r) × (r.standing.closed ≡ false)
    by true is f = absurd (true≢false (ap is_some (sym f)))
    by false is f = (f, ap (λ (y : StateidRow). y.standing.closed) (sym (same_Some q r f)) ∙ is)

-- the open that an owner has on a file is there, and its owner is
pub record IsHad (o : Opener) (file : ℕ) (l : NfsLists) (r : StateidRow) : Type 0 where
  pub owner : OwnerRow
  pub named : find (is_opener o) l.owners ≡ Some owner
  pub placed : find (owned_on owner.number file) l.stateids ≡ Some r
  pub found : find (is_stateid r.number) l.stateids ≡ Some r
  pub live : r.standing.closed ≡ false

pub had_is : (o : Opener) (file : ℕ) (l : NfsLists) (r : StateidRow) → IsOrderly l → open_held l o file ≡ Some r → IsHad o file l r
had_is o file l r orderly e = by (find (is_opener o) l.owners) refl e
  where
    by : (x : Option OwnerRow) → find (is_opener o) l.owners ≡ x → live (option_and_then (λ y. find (owned_on y.number file) l.stateids) x) ≡ Some r → IsHad o file l r
    by None f e = absurd (true≢false (ap is_some (sym e)))
    by (Some y) f e =
        let is = live_is (find (owned_on y.number file) l.stateids) r e in
        record { owner = y; named = f; placed = is.0; found = apart_found (owned_on y.number file) l.stateids r orderly.apart is.0; live = is.1 }

-- ---- OPEN

-- a request of an owner that may be new counts
pub remembered_orderly : (o : Opener) (seqids : SeqidState) (bytes : List ℕ) (l : NfsLists) → seqids.closed ≡ None → IsOrderly l → IsOrderly (remembered o seqids bytes l)
unfolding remembered
remembered_orderly o seqids bytes l none orderly =
    elim (cases_Bool (is_room_for o l)) [
      | inl d ↦ rw d (kept_orderly (opener_number o l) bytes _ (seated_orderly o seqids l none orderly))
      | inr d ↦ rw d orderly
    ]

pub refused_orderly : (o : Opener) (a : OpenArgsItem) (confirmed : Bool) (status : NfsStatus) (l : NfsLists) → IsOrderly l → IsOrderly (refused_lists o a confirmed status l)
refused_orderly o a confirmed status l orderly =
    elim (cases_Bool (advances status)) [
      | inl e ↦ rw e (remembered_orderly o (open_seqids a confirmed) (spelled 18 (Ended status)) l refl orderly)
      | inr e ↦ rw e orderly
    ]

-- a new open is its owner's
pub owned_new : (s : CoreState) (o : Opener) (a : OpenArgsItem) (file : ℕ) (confirmed : Bool) (l : NfsLists) → o.kind ≡ kinds.Open → IsRising l.owners → is_room_for o l ≡ true → IsOwnedBy (open_row (s.counter + 1) o (opener_number o l) file a) kinds.Open (find (is_owner (opener_number o l)) (seated o (open_seqids a confirmed) l).owners)
owned_new s o a file confirmed l kind rising room =
    let is = seat_is o (open_seqids a confirmed) l rising room in
    subst (λ (x : Option OwnerRow). IsOwnedBy (open_row (s.counter + 1) o (opener_number o l) file a) kinds.Open x) (sym (ap (λ (m : ℕ). find (is_owner m) (seated o (open_seqids a confirmed) l).owners) (sym is.number) ∙ is.found))
    (is.client, is.kind ∙ kind, sym (ap (λ (t : SeqidState). closes t.closed (s.counter + 1)) is.seqids_is))

-- whatever it comes to, owners and stateids are orderly
abbrev pub Keeps : Plan → Type 0
Keeps plan = AllKept IsOrderly plan

-- a delegation comes: nothing else stands in its place or has its number
delegated_orderly : (s : CoreState) (o : Opener) (file : ℕ) (write : Option Bool) (l : NfsLists) → IsOrderly l → IsOrderly (delegated s o file write l)
unfolding delegated_in
delegated_orderly s o file None l orderly = orderly
delegated_orderly s o file (Some write) l orderly =
    let row = delegation_row (s.counter + 1) o file write in
    elim (cases_Bool (can_stand row l)) [
      | inr e ↦ rw e orderly
      | inl e ↦
          let parts = and_parts (not (is_some (find (is_stateid row.number) l.stateids))) (not (is_some (find (λ x. same_place (place_of row) (place_of x)) l.stateids)) && can_hang l row) e in
          let place = (and_parts (not (is_some (find (λ x. same_place (place_of row) (place_of x)) l.stateids))) (can_hang l row) parts.1).0 in
          rw e (comes_orderly row l (none_of (find (is_stateid row.number) l.stateids) parts.0) (none_of (find (λ x. same_place (place_of row) (place_of x)) l.stateids) place) tt orderly)
    ]

granted_keeps : (s : CoreState) (l : NfsLists) (o : Opener) (a : OpenArgsItem) (file : ℕ) (confirmed : Bool) (write : Option Bool) (x : Option StateidRow) → open_held l o file ≡ x → o.kind ≡ kinds.Open → is_room_for o l ≡ true → IsOrderly l → Keeps (granted_by s l o a file confirmed write x)
granted_keeps s l o a file confirmed write None e kind room orderly =
    kept_orderly (opener_number o l) (spelled 18 (opened_told (drawn_for write (drawn s)) (s.counter + 1) 1 confirmed (delegation_told (drawn s) write))) _
    (delegated_orderly (drawn s) o file write _ (entered_orderly (open_row (s.counter + 1) o (opener_number o l) file a) (opener_number o l) (seated o (open_seqids a confirmed) l) refl (owned_new s o a file confirmed l kind orderly.rising room) (seated_orderly o (open_seqids a confirmed) l refl orderly)))
granted_keeps s l o a file confirmed write (Some r) e kind room orderly =
    let had = had_is o file l r orderly e in
    kept_orderly (opener_number o l) (spelled 18 (opened_told (drawn_for write s) r.number (next_seqid r.standing.seqid) confirmed (delegation_told s write))) _
    (delegated_orderly s o file write _ (seated_orderly o (open_seqids a confirmed) _ refl (stood_orderly l r (either_bits r.standing.access a.access) (either_bits r.standing.deny a.deny) had.found had.live orderly)))

answered_keeps : (l : NfsLists) (current : Option ℕ) (o : Opener) (a : OpenArgsItem) (file : ℕ) (confirmed : Bool) (wish : Option Bool) (answer : Answer) (s : CoreState) → o.kind ≡ kinds.Open → is_room_for o l ≡ true → IsOrderly l → Keeps (answered l current o a file confirmed wish answer s)
answered_keeps l current o a file confirmed wish answer s kind room orderly =
    elim (cases_Bool (is_granted answer)) [
      | inl e ↦ rw e (granted_keeps s l o a file (confirmed || reclaims a.claim) (granted_wish s o file wish) (open_held l o file) refl kind room orderly)
      | inr e ↦ rw e (refused_orderly o a confirmed (answer_status (reclaims a.claim) answer) l orderly)
    ]

by_keeps : (others : ℕ) (s : CoreState) (l : NfsLists) (current : Option ℕ) (o : Opener) (a : OpenArgsItem) (confirmed : Bool) (r : Result ℕ NfsStatus) → o.kind ≡ kinds.Open → IsOrderly l → Keeps (open_by others s l current o a confirmed r)
by_keeps others s l current o a confirmed (Err status) kind orderly = refused_orderly o a confirmed status l orderly
by_keeps others s l current o a confirmed (Ok file) kind orderly =
    elim (cases_Bool (has_room others l o file)) [
      | inl e ↦ rw e (λ answer t. answered_keeps l current o a file confirmed (wish_of s l o a confirmed file) answer t kind (and_parts (is_room_for o l) _ e).0 orderly)
      | inr e ↦ rw e orderly
    ]

as_keeps : (files : List (List ℕ)) (others : ℕ) (s : CoreState) (l : NfsLists) (current : Option ℕ) (at : ℕ) (o : Opener) (a : OpenArgsItem) (confirmed : Bool) → o.kind ≡ kinds.Open → IsOrderly l → Keeps (open_as files others s l current at o a confirmed)
unfolding open_as
as_keeps files others s l current at o a confirmed kind orderly = by_keeps others s l current o a confirmed (opened_file files s l o.client at a) kind orderly

pub repeat_keeps : (s : CoreState) (l : NfsLists) (current : Option ℕ) (o : Option KeptRow) → IsOrderly l → Keeps (repeated s l current o)
repeat_keeps s l current None orderly = orderly
repeat_keeps s l current (Some k) orderly = orderly

judged_keeps : (files : List (List ℕ)) (others : ℕ) (s : CoreState) (l : NfsLists) (current : Option ℕ) (at : ℕ) (o : Opener) (a : OpenArgsItem) (j : Judged) → o.kind ≡ kinds.Open → IsOrderly l → Keeps (open_judged files others s l current at o a j)
judged_keeps files others s l current at o a judgements.Bad kind orderly = orderly
judged_keeps files others s l current at o a (judgements.Repeats number) kind orderly = repeat_keeps s l current (find (is_kept number) l.kept) orderly
judged_keeps files others s l current at o a (judgements.Anew number) kind orderly = (owner_goes l number orderly, λ t. as_keeps files others t (without_owner number l) current at o a false kind (owner_goes l number orderly))
judged_keeps files others s l current at o a judgements.New kind orderly = as_keeps files others s l current at o a false kind orderly
judged_keeps files others s l current at o a judgements.Next kind orderly = as_keeps files others s l current at o a true kind orderly

at_keeps : (files : List (List ℕ)) (others : ℕ) (s : CoreState) (l : NfsLists) (a : OpenArgsItem) (current : Option ℕ) → IsOrderly l → Keeps (open_at files others s l a current)
at_keeps files others s l a None orderly = orderly
at_keeps files others s l a (Some at) orderly = of (client_in s l a.owner.clientid)
  where
    of : (c : Option ClientRow) → Keeps (open_of files others s l (Some at) at a c)
    of None = orderly
    of (Some c) = judged_keeps files others s l (Some at) at (opener_of c a) a (judged l (opener_of c a) a.seqid) refl orderly

pub open_keeps : (files : List (List ℕ)) (others : ℕ) (s : CoreState) (l : NfsLists) (current : Option ℕ) (a : OpenArgsItem) → IsOrderly l → Keeps (open_file files others s l current a)
unfolding open_file open_claimed
open_keeps files others s l current a orderly = (orderly, λ t. (orderly, λ u. at_keeps files others u l a current orderly))

-- ---- OPEN_CONFIRM, OPEN_DOWNGRADE, CLOSE, DELEGRETURN

-- a request on a stateid keeps them, if it does once it passed
pub counts_keeps : (s : CoreState) (l : NfsLists) (current : Option ℕ) (kind : OwnerKind) (op seqid : ℕ) (stateid : Stateid) (rest : StateidRow → ℕ → SeqidState → Plan) → IsOrderly l → ((r : StateidRow) (w : ℕ) (v : SeqidState) → IsPassed l r w v → Keeps (rest r w v)) → Keeps (counts s l current rest (checked_as kind s l current op seqid stateid))
counts_keeps s l current kind op seqid stateid rest orderly each = by (checked_as kind s l current op seqid stateid) (checked_passed kind s l current op seqid stateid)
  where
    by : (c : Checked) → IfPassed l c → Keeps (counts s l current rest c)
    by (Refused status) passed = orderly
    by (Repeated owner) passed = repeat_keeps s l current (find (is_kept owner) l.kept) orderly
    by (Passed r w v) passed = each r w v passed

confirm_done_keeps : (s : CoreState) (l : NfsLists) (current : Option ℕ) (a : OpenConfirmArgs) (r : StateidRow) (owner : ℕ) (seqids : SeqidState) (x : Option NfsStatus) → IsPassed l r owner seqids → IsOrderly l → Keeps (confirm_done s l current a r owner seqids x)
confirm_done_keeps s l current a r owner seqids (Some status) passed orderly = failed_orderly l owner passed.row seqids 20 a.seqid status passed.owned passed.seqids_is orderly
confirm_done_keeps s l current a r owner seqids None passed orderly = done_orderly s l r owner seqids 20 a.seqid true r.standing.access r.standing.deny passed orderly

pub confirm_keeps : (s : CoreState) (l : NfsLists) (current : Option ℕ) (a : OpenConfirmArgs) → IsOrderly l → Keeps (open_confirm s l current a)
unfolding open_confirm
confirm_keeps s l current a orderly = (orderly, λ t. counts_keeps t l current kinds.Open 20 a.seqid a.stateid (λ r w v. confirm_done t l current a r w v (standing_fault r v a.stateid.seqid false)) orderly (λ r w v passed. confirm_done_keeps t l current a r w v (standing_fault r v a.stateid.seqid false) passed orderly))

downgrade_done_keeps : (s : CoreState) (l : NfsLists) (current : Option ℕ) (a : OpenDowngradeArgs) (r : StateidRow) (owner : ℕ) (seqids : SeqidState) (x : Option NfsStatus) → IsPassed l r owner seqids → IsOrderly l → Keeps (downgrade_done s l current a r owner seqids x)
downgrade_done_keeps s l current a r owner seqids (Some status) passed orderly = failed_orderly l owner passed.row seqids 21 a.seqid status passed.owned passed.seqids_is orderly
downgrade_done_keeps s l current a r owner seqids None passed orderly = done_orderly s l r owner seqids 21 a.seqid seqids.confirmed a.access a.deny passed orderly

pub downgrade_keeps : (s : CoreState) (l : NfsLists) (current : Option ℕ) (a : OpenDowngradeArgs) → IsOrderly l → Keeps (open_downgrade s l current a)
unfolding open_downgrade
downgrade_keeps s l current a orderly = (orderly, λ t. counts_keeps t l current kinds.Open 21 a.seqid a.stateid (λ r w v. downgrade_done t l current a r w v (downgrade_fault r v a)) orderly (λ r w v passed. downgrade_done_keeps t l current a r w v (downgrade_fault r v a) passed orderly))

close_done_keeps : (s : CoreState) (l : NfsLists) (current : Option ℕ) (a : CloseArgs) (r : StateidRow) (owner : ℕ) (seqids : SeqidState) (x : Option NfsStatus) → IsPassed l r owner seqids → IsOrderly l → Keeps (close_done s l current a r owner seqids x)
close_done_keeps s l current a r owner seqids (Some status) passed orderly = failed_orderly l owner passed.row seqids 4 a.seqid status passed.owned passed.seqids_is orderly
close_done_keeps s l current a r owner seqids None passed orderly = (orderly, λ t. stateids_go _ (is_whose (whose.Under r.number)) (closed_orderly t l r owner seqids 4 a.seqid seqids.confirmed r.standing.access r.standing.deny passed orderly))

pub close_keeps : (s : CoreState) (l : NfsLists) (current : Option ℕ) (a : CloseArgs) → IsOrderly l → Keeps (close s l current a)
unfolding close
close_keeps s l current a orderly = (orderly, λ t. counts_keeps t l current kinds.Open 4 a.seqid a.stateid (λ r w v. close_done t l current a r w v (standing_fault r v a.stateid.seqid true)) orderly (λ r w v passed. close_done_keeps t l current a r w v (standing_fault r v a.stateid.seqid true) passed orderly))

pub return_keeps : (s : CoreState) (l : NfsLists) (current : Option ℕ) (stateid : Stateid) → IsOrderly l → Keeps (deleg_return s l current stateid)
unfolding deleg_return
return_keeps s l current stateid orderly = (orderly, λ t. by t (returned t l current stateid))
  where
    by : (t : CoreState) (x : Returning) → Keeps (return_done t l current x)
    by t (Err status) = orderly
    by t (Ok r) = stateids_go l (is_whose (whose.Stateid r.number)) orderly
