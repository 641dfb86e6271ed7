-- Owners and stateids stay orderly, whatever an operation on locks comes to.
use Rattle.std.proofs.Common.{◌≡◌, ℕ, ◌+◌, ◌^◌, suc, Bool, true, false, not, ◌&&◌, ◌||◌, List, [], ◌∷◌, length, nat_lt, Option, Some, None, Ok, Err, Result, is_some, if◌then◌else◌, refl, sym, ap, subst, ◌∙◌, inl, inr}
use Rattle.std.proofs.lemmas.Bool.{cases_Bool, and_parts, eqb-true}
use Rattle.std.specs.Bool.{◌==◌}
use Rattle.std.specs.List.{find}
use Rattle.xl_nfs.specs.Basics.{OwnerItem}
use Rattle.xl_nfs.specs.Locks.{LockArgsItem, LockTestArgsItem, LockerItem, NewLockerItem, New, Known}
use Rattle.xl_nfs.specs.Outcomes.{is_ok}
use Rattle.xl_nfs.specs.declared.locks.KnownLocker.{KnownLocker}
use Rattle.xl_nfs.specs.declared.locks.UnlockArgs.{UnlockArgs}
use Rattle.xl_nfs.specs.declared.status.NfsStatus.{NfsStatus}
use Rattle.xl_nfs.specs.declared.status.NfsStatus.TheVariants as statuses
use Rattle.xl_nfs_state.specs.Filed.{changed}
use Rattle.xl_nfs_state.specs.Keys.{place_of, same_place}
use Rattle.xl_nfs_state.specs.Rows.{with_seqids}
use Rattle.xl_nfs_state.specs.State.{NfsLists, IsRising, is_kept, is_owner, is_owner_named, is_stateid, is_whose, last_number, most_owners, next_owner, owned_on, with_stateids, without}
use Rattle.xl_nfs_state.specs.Verdict.{verdict}
use Rattle.xl_nfs_state.specs.declared.client.ClientRow.{ClientRow}
use Rattle.xl_nfs_state.specs.declared.kept.KeptRow.{KeptRow}
use Rattle.xl_nfs_state.specs.declared.owner.OwnerKind.TheVariants as kinds
use Rattle.xl_nfs_state.specs.declared.owner.OwnerRow.{OwnerRow}
use Rattle.xl_nfs_state.specs.declared.owner.SeqidState.{SeqidState}
use Rattle.xl_nfs_state.specs.declared.seqid.SeqidVerdict.{SeqidVerdict}
use Rattle.xl_nfs_state.specs.declared.seqid.SeqidVerdict.TheVariants as verdicts
use Rattle.xl_nfs_state.specs.declared.stateid.Holder.{Holder}
use Rattle.xl_nfs_state.specs.declared.stateid.Holder.TheVariants as holders
use Rattle.xl_nfs_state.specs.declared.stateid.StateidRow.{StateidRow}
use Rattle.xl_nfs_state.specs.declared.stateid.Whose.TheVariants as whose
use Rattle.xl_core.specs.State.{CoreState, drawn}
use Rattle.xl_core.specs.declared.ask.Answer.{Answer}
use Rattle.xl_nfs_laws.proofs.OpenOrderLaws.{Keeps, counts_keeps, IsSeated, apart_found, comes_orderly, counted_orderly, done_orderly, failed_orderly, live_is, none_of, remembered_orderly, seat_is, stood_orderly}
use Rattle.xl_nfs_laws.proofs.KeptResultLaws.{gone_owners}
use Rattle.xl_nfs_laws.proofs.OpenLaws.{kept_owners}
use Rattle.xl_nfs_laws.proofs.ListOrderLaws.{owner_goes, stateids_go}
use Rattle.xl_nfs_opens.proofs.OwnerLaws.{number_gone}
use Rattle.xl_nfs_laws.proofs.PassedCheckLaws.{IsPassed}
use Rattle.xl_nfs_opens.specs.Closing.{next_seqids, opener_by, standing_fault, state_told}
use Rattle.xl_nfs_opens.specs.Opens.{client_in, is_granted, live, stood}
use Rattle.xl_nfs_laws.specs.Orderly.{closes, IsHeldBy, IsOrderly, IsOwnedBy}
use Rattle.xl_nfs_opens.specs.Plans.{status_of}
use Rattle.xl_nfs_opens.specs.Renewing.{stateid_of}
use Rattle.xl_nfs_opens.specs.Results.{spelled}
use Rattle.xl_nfs_opens.specs.Seqids.{advances, closed_gone, counted, is_opener, is_room_for, kept_for, number_by, opener_number, remembered, seated, seqid_set}
use Rattle.xl_nfs_opens.specs.declared.opener.Opener.{Opener}
use Rattle.xl_nfs_opens.specs.declared.told.Told.{Told}
use Rattle.xl_nfs_opens.specs.declared.told.Told.TheVariants.{Ended, State}
use Rattle.xl_nfs_locks.specs.Denials.{lock_told}
use Rattle.xl_nfs_locks.specs.FirstLocks as first
use Rattle.xl_nfs_locks.specs.Locks.{access_above, lock_answered, lock_by_owner, lock_end, lock_known, lock_standing, lock_to, refused_lists}
use Rattle.xl_nfs_locks.specs.Ranges.{last_byte}
use Rattle.xl_nfs_locks.specs.Releases.{holds_any, release, release_of, released, without_found}
use Rattle.xl_nfs_locks.specs.Tests.{lock_test, locker_of, test_at, test_of, test_to}
use Rattle.xl_nfs_locks.specs.Unlocks.{unlock, unlock_by_owner, unlock_standing, unlock_status, unlock_to, unlocked_as}
use Rattle.xl_nfs_locks.specs.declared.joining.BothOwners.{BothOwners}
use Rattle.xl_nfs_locks.specs.declared.joining.Joined.{Joined}
use Rattle.xl_nfs_locks.specs.declared.joining.Joined.TheVariants.{Bad, Again, Joins}

-- ---- LOCK by an owner that has locks there

refused_orderly : (l : NfsLists) (r : StateidRow) (owner : ℕ) (seqids : SeqidState) (seqid : ℕ) (told : Told) → IsPassed l r owner seqids → IsOrderly l → IsOrderly (refused_lists l owner seqids seqid told)
refused_orderly l r owner seqids seqid told passed orderly =
    elim (cases_Bool (advances (status_of told))) [
      | inl e ↦ rw e (counted_orderly l owner passed.row seqids.closed (next_seqids 12 seqid seqids.confirmed None) (spelled 12 told) passed.owned (ap (λ (t : SeqidState). t.closed) passed.seqids_is) refl orderly)
      | inr e ↦ rw e orderly
    ]

answered_keeps : (l : NfsLists) (current : Option ℕ) (r : StateidRow) (owner : ℕ) (seqids : SeqidState) (seqid : ℕ) (reclaim : Bool) (answer : Answer) (s : CoreState) → IsPassed l r owner seqids → IsOrderly l → Keeps (lock_answered l current r owner seqids seqid reclaim answer s)
answered_keeps l current r owner seqids seqid reclaim answer s passed orderly =
    elim (cases_Bool (is_granted answer)) [
      | inl e ↦ rw e (done_orderly s l r owner seqids 12 seqid seqids.confirmed 0 0 passed orderly)
      | inr e ↦ rw e (refused_orderly l r owner seqids seqid (lock_told s l reclaim answer) passed orderly)
    ]

by_owner_keeps : (l : NfsLists) (current : Option ℕ) (a : LockArgsItem) (r : StateidRow) (owner : ℕ) (seqids : SeqidState) (seqid last : ℕ) (o : Option Opener) → IsPassed l r owner seqids → IsOrderly l → Keeps (lock_by_owner l current a r owner seqids seqid last o)
by_owner_keeps l current a r owner seqids seqid last None passed orderly = orderly
by_owner_keeps l current a r owner seqids seqid last (Some o) passed orderly = λ answer t. answered_keeps l current r owner seqids seqid a.reclaim answer t passed orderly

to_keeps : (l : NfsLists) (current : Option ℕ) (a : LockArgsItem) (r : StateidRow) (owner : ℕ) (seqids : SeqidState) (seqid : ℕ) (x : Result ℕ NfsStatus) → IsPassed l r owner seqids → IsOrderly l → Keeps (lock_to l current a r owner seqids seqid x)
to_keeps l current a r owner seqids seqid (Err status) passed orderly = failed_orderly l owner passed.row seqids 12 seqid status passed.owned passed.seqids_is orderly
to_keeps l current a r owner seqids seqid (Ok last) passed orderly = by_owner_keeps l current a r owner seqids seqid last (opener_by l r.client owner) passed orderly

standing_keeps : (l : NfsLists) (current : Option ℕ) (a : LockArgsItem) (r : StateidRow) (owner : ℕ) (seqids : SeqidState) (seqid : ℕ) (x : Option NfsStatus) → IsPassed l r owner seqids → IsOrderly l → Keeps (lock_standing l current a r owner seqids seqid x)
standing_keeps l current a r owner seqids seqid (Some status) passed orderly = failed_orderly l owner passed.row seqids 12 seqid status passed.owned passed.seqids_is orderly
standing_keeps l current a r owner seqids seqid None passed orderly = to_keeps l current a r owner seqids seqid (lock_end a.kind (access_above l r.holder) (last_byte a.offset a.len)) passed orderly

known_keeps : (s : CoreState) (l : NfsLists) (current : Option ℕ) (a : LockArgsItem) (x : KnownLocker) → IsOrderly l → Keeps (lock_known s l current a x)
unfolding lock_known
known_keeps s l current a x orderly = (orderly, λ t. counts_keeps t l current kinds.Lock 12 x.seqid x.stateid (λ r w v. lock_standing l current a r w v x.seqid (standing_fault r v x.stateid.seqid true)) orderly (λ r w v passed. standing_keeps l current a r w v x.seqid (standing_fault r v x.stateid.seqid true) passed orderly))

-- ---- LOCK by an owner under an open

-- the open's owner counts
open_counted : (l : NfsLists) (b : BothOwners) (o : OwnerRow) (bytes : List ℕ) → find (is_owner b.number) l.owners ≡ Some o → b.seqids ≡ o.seqids → IsOrderly l → IsOrderly (first.counted_open b bytes l)
open_counted l b o bytes found same orderly = counted_orderly l b.number o b.seqids.closed (next_seqids 12 b.open_seqid b.seqids.confirmed None) bytes found (ap (λ (t : SeqidState). t.closed) same) refl orderly

-- and so does the lock owner
pub both_counted : (l : NfsLists) (b : BothOwners) (x : OwnerRow) (o : Opener) (bytes : List ℕ) → find (is_owner b.number) l.owners ≡ Some x → b.seqids ≡ x.seqids → IsOrderly l → IsOrderly (first.counted_both b o bytes l)
both_counted l b x o bytes found same orderly = remembered_orderly o (next_seqids 12 b.lock_seqid true None) bytes (first.counted_open b bytes l) refl (open_counted l b x bytes found same orderly)

both_refused_orderly : (l : NfsLists) (current : Option ℕ) (b : BothOwners) (x : OwnerRow) (o : Opener) (told : Told) → find (is_owner b.number) l.owners ≡ Some x → b.seqids ≡ x.seqids → IsOrderly l → Keeps (first.both_refused l current b o told)
both_refused_orderly l current b x o told found same orderly =
    elim (cases_Bool (advances (status_of told))) [
      | inl e ↦ rw e (both_counted l b x o (spelled 12 told) found same orderly)
      | inr e ↦ rw e orderly
    ]

-- a stateid of locks comes
pub entered_orderly : (r : StateidRow) (owner under opener : ℕ) (l : NfsLists) → r.holder ≡ holders.Lock owner under opener → IsOwnedBy r kinds.Lock (find (is_owner owner) l.owners) → IsOrderly l → IsOrderly (first.entered r l)
unfolding first.entered
entered_orderly r owner under opener l holds owned orderly =
    let ss : List StateidRow = without (is_whose (whose.Stateid r.number)) l.stateids in
    let left : IsOrderly (with_stateids l ss) = stateids_go l (is_whose (whose.Stateid r.number)) orderly in
    elim (cases_Bool (first.can_enter r (with_stateids l ss))) [
      | inl e ↦ rw e (comes_orderly r (with_stateids l ss) (number_gone r.number l.stateids) (none_of _ (and_parts (not (is_some (find (λ s. same_place (place_of r) (place_of s)) ss))) _ e).0) (subst (λ (h : Holder). IsHeldBy l.owners r h) (sym holds) owned) left)
      | inr e ↦ rw e left
    ]

-- an owner that counts makes no room and takes none
last_seqid_set : (p : OwnerRow → Bool) (seqids : SeqidState) (os : List OwnerRow) → last_number (changed p (with_seqids seqids) os) ≡ last_number os
last_seqid_set p seqids [] = refl
last_seqid_set p seqids (x ∷ []) = elim (cases_Bool (p x)) [ inl e ↦ rw e refl | inr e ↦ rw e refl ]
last_seqid_set p seqids (x ∷ y ∷ os) =
    elim (cases_Bool (p x)) [
      | inl e ↦ rw e refl
      | inr e ↦ rw e (elim (cases_Bool (p y)) [
        | inl d ↦ (let rest = last_seqid_set p seqids (y ∷ os) in let less = rw d at rest in rw d less)
        | inr d ↦ (let rest = last_seqid_set p seqids (y ∷ os) in let less = rw d at rest in rw d less)
      ])
    ]

found_seqid_set : (p q : OwnerRow → Bool) (seqids : SeqidState) (os : List OwnerRow) → ((x : OwnerRow) → p (with_seqids seqids x) ≡ p x) → is_some (find p (changed q (with_seqids seqids) os)) ≡ is_some (find p os)
found_seqid_set p q seqids [] same = refl
found_seqid_set p q seqids (x ∷ os) same =
    elim (cases_Bool (q x)) [
      | inl e ↦ rw e (elim (cases_Bool (p x)) [
        | inl d ↦ (let f : p (with_seqids seqids x) ≡ true = same x ∙ d in rw f (rw d refl))
        | inr d ↦ (let f : p (with_seqids seqids x) ≡ false = same x ∙ d in rw f (rw d refl))
      ])
      | inr e ↦ rw e (elim (cases_Bool (p x)) [
        | inl d ↦ rw d refl
        | inr d ↦ rw d (found_seqid_set p q seqids os same)
      ])
    ]

length_seqid_set : (p : OwnerRow → Bool) (seqids : SeqidState) (os : List OwnerRow) → length (changed p (with_seqids seqids) os) ≡ length os
length_seqid_set p seqids [] = refl
length_seqid_set p seqids (x ∷ os) =
    elim (cases_Bool (p x)) [
      | inl e ↦ rw e refl
      | inr e ↦ rw e (ap suc (length_seqid_set p seqids os))
    ]

pub next_seqid_set : (p : OwnerRow → Bool) (seqids : SeqidState) (os : List OwnerRow) → next_owner (changed p (with_seqids seqids) os) ≡ next_owner os
next_seqid_set p seqids os =
    ap (λ (n : ℕ). if nat_lt n most_owners && nat_lt (last_number (changed p (with_seqids seqids) os) + 1) (2 ^ 64) then Some (last_number (changed p (with_seqids seqids) os) + 1) else None) (length_seqid_set p seqids os)
    ∙ ap (λ (n : ℕ). if nat_lt (length os) most_owners && nat_lt (n + 1) (2 ^ 64) then Some (n + 1) else None) (last_seqid_set p seqids os)

pub counted_owners : (owner : ℕ) (closed : Option ℕ) (seqids : SeqidState) (bytes : List ℕ) (l : NfsLists) → (counted owner closed seqids bytes l).owners ≡ changed (is_owner owner) (with_seqids seqids) l.owners
unfolding counted
counted_owners owner closed seqids bytes l = kept_owners owner bytes (closed_gone closed (seqid_set owner seqids l)) ∙ gone_owners closed (seqid_set owner seqids l)

pub room_stays : (o : Opener) (owner : ℕ) (closed : Option ℕ) (seqids : SeqidState) (bytes : List ℕ) (l : NfsLists) → is_room_for o l ≡ true → is_room_for o (counted owner closed seqids bytes l) ≡ true
room_stays o owner closed seqids bytes l room =
    ap (λ (os : List OwnerRow). is_some (find (is_opener o) os) || is_some (next_owner os)) (counted_owners owner closed seqids bytes l)
    ∙ ap (λ (b : Bool). b || is_some (next_owner (changed (is_owner owner) (with_seqids seqids) l.owners))) (found_seqid_set (is_opener o) (is_owner owner) seqids l.owners (λ x. refl))
    ∙ ap (λ (x : Option ℕ). is_some (find (is_opener o) l.owners) || is_some x) (next_seqid_set (is_owner owner) seqids l.owners)
    ∙ room

-- the lists once both counted: the lock owner is there, and closed nothing
pub record IsLocker (o : Opener) (m : NfsLists) : Type 0 where
  pub row : OwnerRow
  pub found : find (is_owner (opener_number o m)) m.owners ≡ Some row
  pub client : row.name.client ≡ o.client
  pub kind : row.name.kind ≡ o.kind
  pub none : row.seqids.closed ≡ None

locker_is : (o : Opener) (seqids : SeqidState) (bytes : List ℕ) (k : NfsLists) → seqids.closed ≡ None → IsRising k.owners → is_room_for o k ≡ true → IsLocker o (remembered o seqids bytes k)
unfolding remembered
locker_is o seqids bytes k none rising room =
    let is : IsSeated o seqids k (seated o seqids k) = seat_is o seqids k rising room in
    let m : NfsLists = kept_for (opener_number o k) bytes (seated o seqids k) in
    let same : m.owners ≡ (seated o seqids k).owners = kept_owners (opener_number o k) bytes (seated o seqids k) in
    let named : find (is_opener o) m.owners ≡ Some is.row = ap (λ (os : List OwnerRow). find (is_opener o) os) same ∙ is.named in
    let number : opener_number o m ≡ is.row.number = ap (λ (x : Option OwnerRow). number_by x (next_owner m.owners)) named in
    rw room (record {
      row = is.row;
      found = ap (λ (n : ℕ). find (is_owner n) m.owners) number ∙ ap (λ (os : List OwnerRow). find (is_owner is.row.number) os) same ∙ is.found;
      client = is.client;
      kind = is.kind;
      none = ap (λ (t : SeqidState). t.closed) is.seqids_is ∙ none;
    })

pub both_locker : (l : NfsLists) (b : BothOwners) (x : OwnerRow) (o : Opener) (bytes : List ℕ) → find (is_owner b.number) l.owners ≡ Some x → b.seqids ≡ x.seqids → is_room_for o l ≡ true → IsOrderly l → IsLocker o (first.counted_both b o bytes l)
both_locker l b x o bytes found same room orderly =
    locker_is o (next_seqids 12 b.lock_seqid true None) bytes (first.counted_open b bytes l) refl (open_counted l b x bytes found same orderly).rising (room_stays o b.number b.seqids.closed (next_seqids 12 b.open_seqid b.seqids.confirmed None) bytes l room)

new_keeps : (s : CoreState) (l : NfsLists) (current : Option ℕ) (b : BothOwners) (x : OwnerRow) (o : Opener) (r : StateidRow) → o.client ≡ r.client → o.kind ≡ kinds.Lock → find (is_owner b.number) l.owners ≡ Some x → b.seqids ≡ x.seqids → is_room_for o l ≡ true → IsOrderly l → Keeps (first.joined_new s l current b o r)
new_keeps s l current b x o r client kind found same room orderly =
    let bytes = spelled 12 (State (stateid_of (drawn s) (s.counter + 1) 1)) in
    let m = first.counted_both b o bytes l in
    let is = both_locker l b x o bytes found same room orderly in
    entered_orderly (first.lock_row (s.counter + 1) r b.number (opener_number o m)) (opener_number o m) r.number b.number m refl
    (subst (λ (y : Option OwnerRow). IsOwnedBy (first.lock_row (s.counter + 1) r b.number (opener_number o m)) kinds.Lock y) (sym is.found) (is.client ∙ client, is.kind ∙ kind, sym (ap (λ (y : Option ℕ). closes y (s.counter + 1)) is.none)))
    (both_counted l b x o bytes found same orderly)

-- what it has under the open, if something
abbrev IsHeld : NfsLists → Option StateidRow → Type 0
IsHeld l None = Unit {0}
IsHeld l (Some q) = (find (is_stateid q.number) l.stateids ≡ Some q) × (q.standing.closed ≡ false)

joined_keeps : (s : CoreState) (l : NfsLists) (current : Option ℕ) (b : BothOwners) (x : OwnerRow) (o : Opener) (r : StateidRow) (q : Option StateidRow) → IsHeld l q → o.client ≡ r.client → o.kind ≡ kinds.Lock → find (is_owner b.number) l.owners ≡ Some x → b.seqids ≡ x.seqids → is_room_for o l ≡ true → IsOrderly l → Keeps (first.joined_by s l current b o r q)
joined_keeps s l current b x o r None held client kind found same room orderly = new_keeps s l current b x o r client kind found same room orderly
joined_keeps s l current b x o r (Some q) held client kind found same room orderly = both_counted (stood q.number q 0 0 false l) b x o (spelled 12 (state_told s q)) found same (stood_orderly l q 0 0 held.0 held.1 orderly)

join_answered_keeps : (l : NfsLists) (current : Option ℕ) (b : BothOwners) (x : OwnerRow) (o : Opener) (r : StateidRow) (q : Option StateidRow) (reclaim : Bool) (answer : Answer) (s : CoreState) → IsHeld l q → o.client ≡ r.client → o.kind ≡ kinds.Lock → find (is_owner b.number) l.owners ≡ Some x → b.seqids ≡ x.seqids → is_room_for o l ≡ true → IsOrderly l → Keeps (first.join_answered l current b o r q reclaim answer s)
join_answered_keeps l current b x o r q reclaim answer s held client kind found same room orderly =
    elim (cases_Bool (is_granted answer)) [
      | inl e ↦ rw e (joined_keeps s l current b x o r q held client kind found same room orderly)
      | inr e ↦ rw e (both_refused_orderly l current b x o (lock_told s l reclaim answer) found same orderly)
    ]

join_to_keeps : (l : NfsLists) (current : Option ℕ) (a : LockArgsItem) (b : BothOwners) (x : OwnerRow) (o : Opener) (r : StateidRow) (q : Option StateidRow) (last : Result ℕ NfsStatus) → IsHeld l q → o.client ≡ r.client → o.kind ≡ kinds.Lock → find (is_owner b.number) l.owners ≡ Some x → b.seqids ≡ x.seqids → IsOrderly l → Keeps (first.join_to l current a b o r q last)
join_to_keeps l current a b x o r q (Err status) held client kind found same orderly = both_refused_orderly l current b x o (Ended status) found same orderly
join_to_keeps l current a b x o r q (Ok last) held client kind found same orderly =
    elim (cases_Bool (is_room_for o l)) [
      | inl e ↦ rw e (λ answer t. join_answered_keeps l current b x o r q a.reclaim answer t held client kind found same e orderly)
      | inr e ↦ rw e orderly
    ]

abbrev IfJoined : NfsLists → Joined → Type 0
IfJoined l (Joins q) = IsHeld l q
IfJoined l Bad = Unit {0}
IfJoined l (Again owner) = Unit {0}

found_held : (l : NfsLists) (p : StateidRow → Bool) (q : Option StateidRow) → live (find p l.stateids) ≡ q → IsOrderly l → IsHeld l q
found_held l p None e orderly = tt
found_held l p (Some r) e orderly = (let is = live_is (find p l.stateids) r e in (apart_found p l.stateids r orderly.apart is.0, is.1))

verdict_held : (l : NfsLists) (w : OwnerRow) (q : Option StateidRow) (v : SeqidVerdict) → IsHeld l q → IfJoined l (first.by_verdict w q v)
verdict_held l w q verdicts.Repeat held = tt
verdict_held l w q verdicts.Next held = held
verdict_held l w q verdicts.New held = held
verdict_held l w q (verdicts.Bad last) held = tt

joined_held : (l : NfsLists) (r : StateidRow) (o : Opener) (seqid : ℕ) → IsOrderly l → IfJoined l (first.found_joined l r o seqid)
unfolding first.found_joined
joined_held l r o seqid orderly = by (find (is_opener o) l.owners)
  where
    by : (x : Option OwnerRow) → IfJoined l (first.by_row l r seqid x)
    by None = tt
    by (Some w) =
        let q = live (find (owned_on w.number r.file) l.stateids) in
        elim (cases_Bool (first.fits_under r.number q)) [
          | inl e ↦ rw e (verdict_held l w q (verdict (Some w.seqids) 12 seqid) (found_held l (owned_on w.number r.file) q refl orderly))
          | inr e ↦ rw e tt
        ]

again_keeps : (l : NfsLists) (current : Option ℕ) (b : BothOwners) (x : OwnerRow) (k : Option KeptRow) → find (is_owner b.number) l.owners ≡ Some x → b.seqids ≡ x.seqids → IsOrderly l → Keeps (first.join_again l current b k)
again_keeps l current b x None found same orderly = orderly
again_keeps l current b x (Some k) found same orderly = open_counted l b x k.result found same orderly

join_as_keeps : (l : NfsLists) (current : Option ℕ) (a : LockArgsItem) (b : BothOwners) (x : OwnerRow) (o : Opener) (r : StateidRow) (j : Joined) → IfJoined l j → o.client ≡ r.client → o.kind ≡ kinds.Lock → find (is_owner b.number) l.owners ≡ Some x → b.seqids ≡ x.seqids → IsOrderly l → Keeps (first.join_as l current a b o r j)
join_as_keeps l current a b x o r Bad held client kind found same orderly = orderly
join_as_keeps l current a b x o r (Again owner) held client kind found same orderly = again_keeps l current b x (find (is_kept owner) l.kept) found same orderly
join_as_keeps l current a b x o r (Joins q) held client kind found same orderly = join_to_keeps l current a b x o r q (lock_end a.kind r.standing.access (last_byte a.offset a.len)) held client kind found same orderly

join_of_keeps : (l : NfsLists) (current : Option ℕ) (a : LockArgsItem) (x : NewLockerItem) (b : BothOwners) (w : OwnerRow) (r : StateidRow) (c : Option ClientRow) → find (is_owner b.number) l.owners ≡ Some w → b.seqids ≡ w.seqids → IsOrderly l → Keeps (first.join_of l current a x b r (first.locker_under r x.owner.owner c))
join_of_keeps l current a x b w r None found same orderly = failed_orderly l b.number w b.seqids 12 b.open_seqid statuses.Inval found same orderly
join_of_keeps l current a x b w r (Some c) found same orderly =
    let o = locker_of c x.owner.owner in
    elim (cases_Bool (c.number == r.client)) [
      | inl e ↦ rw e (join_as_keeps l current a b w o r (first.found_joined l r o x.lock_seqid) (joined_held l r o x.lock_seqid orderly) (eqb-true c.number r.client e) refl found same orderly)
      | inr e ↦ rw e (failed_orderly l b.number w b.seqids 12 b.open_seqid statuses.Inval found same orderly)
    ]

join_standing_keeps : (s : CoreState) (l : NfsLists) (current : Option ℕ) (a : LockArgsItem) (x : NewLockerItem) (b : BothOwners) (w : OwnerRow) (r : StateidRow) (status : Option NfsStatus) → find (is_owner b.number) l.owners ≡ Some w → b.seqids ≡ w.seqids → IsOrderly l → Keeps (first.join_standing s l current a x b r status)
join_standing_keeps s l current a x b w r (Some status) found same orderly = failed_orderly l b.number w b.seqids 12 b.open_seqid status found same orderly
join_standing_keeps s l current a x b w r None found same orderly = join_of_keeps l current a x b w r (client_in s l x.owner.clientid) found same orderly

named_keeps : (s : CoreState) (l : NfsLists) (current : Option ℕ) (a : LockArgsItem) (x : NewLockerItem) → IsOrderly l → Keeps (first.lock_named s l current a x)
unfolding first.lock_named
named_keeps s l current a x orderly = (orderly, λ t. counts_keeps t l current kinds.Open 12 x.open_seqid x.open_stateid (λ r w v. first.join_standing t l current a x (first.both_of x w v) r (standing_fault r v x.open_stateid.seqid true)) orderly (λ r w v passed. join_standing_keeps t l current a x (first.both_of x w v) passed.row r (standing_fault r v x.open_stateid.seqid true) passed.owned passed.seqids_is orderly))

first_keeps : (s : CoreState) (l : NfsLists) (current : Option ℕ) (a : LockArgsItem) (x : NewLockerItem) → IsOrderly l → Keeps (first.lock_new s l current a x)
unfolding first.lock_new
first_keeps s l current a x orderly = (orderly, λ t. named_keeps t l current a x orderly)

pub lock_keeps : (s : CoreState) (l : NfsLists) (current : Option ℕ) (a : LockArgsItem) → IsOrderly l → Keeps (first.lock s l current a)
unfolding first.lock
lock_keeps s l current a orderly = by a.locker
  where
    by : (x : LockerItem) → Keeps (first.lock_by s l current a x)
    by (New x) = first_keeps s l current a x orderly
    by (Known x) = known_keeps s l current a x orderly

-- ---- LOCKT, LOCKU, RELEASE_LOCKOWNER

tested_keeps : (l : NfsLists) (current : Option ℕ) (a : LockTestArgsItem) (file : ℕ) (o : Opener) (last : Option ℕ) → IsOrderly l → Keeps (test_to l current a file o last)
tested_keeps l current a file o None orderly = orderly
tested_keeps l current a file o (Some last) orderly = λ answer t. orderly

test_of_keeps : (l : NfsLists) (current : Option ℕ) (a : LockTestArgsItem) (file : ℕ) (c : Option ClientRow) → IsOrderly l → Keeps (test_of l current a file c)
test_of_keeps l current a file None orderly = orderly
test_of_keeps l current a file (Some c) orderly = tested_keeps l current a file (locker_of c a.owner.owner) (last_byte a.offset a.len) orderly

test_at_keeps : (s : CoreState) (l : NfsLists) (a : LockTestArgsItem) (current : Option ℕ) → IsOrderly l → Keeps (test_at s l a current)
test_at_keeps s l a None orderly = orderly
test_at_keeps s l a (Some at) orderly =
    elim (cases_Bool (at == 0)) [
      | inl e ↦ rw e orderly
      | inr e ↦ rw e (test_of_keeps l (Some at) a at (client_in s l a.owner.clientid) orderly)
    ]

pub test_keeps : (s : CoreState) (l : NfsLists) (current : Option ℕ) (a : LockTestArgsItem) → IsOrderly l → Keeps (lock_test s l current a)
unfolding lock_test
test_keeps s l current a orderly = (orderly, λ t. test_at_keeps t l a current orderly)

unlocked_keeps : (s : CoreState) (l : NfsLists) (current : Option ℕ) (a : UnlockArgs) (r : StateidRow) (owner : ℕ) (seqids : SeqidState) (status : NfsStatus) → IsPassed l r owner seqids → IsOrderly l → Keeps (unlocked_as s l current a r owner seqids status)
unlocked_keeps s l current a r owner seqids status passed orderly =
    elim (cases_Bool (is_ok status)) [
      | inl e ↦ rw e (done_orderly s l r owner seqids 14 a.seqid seqids.confirmed 0 0 passed orderly)
      | inr e ↦ rw e (failed_orderly l owner passed.row seqids 14 a.seqid status passed.owned passed.seqids_is orderly)
    ]

unlock_owner_keeps : (l : NfsLists) (current : Option ℕ) (a : UnlockArgs) (r : StateidRow) (owner : ℕ) (seqids : SeqidState) (last : ℕ) (o : Option Opener) → IsPassed l r owner seqids → IsOrderly l → Keeps (unlock_by_owner l current a r owner seqids last o)
unlock_owner_keeps l current a r owner seqids last None passed orderly = orderly
unlock_owner_keeps l current a r owner seqids last (Some o) passed orderly = λ answer t. unlocked_keeps t l current a r owner seqids (unlock_status answer) passed orderly

unlock_to_keeps : (l : NfsLists) (current : Option ℕ) (a : UnlockArgs) (r : StateidRow) (owner : ℕ) (seqids : SeqidState) (last : Option ℕ) → IsPassed l r owner seqids → IsOrderly l → Keeps (unlock_to l current a r owner seqids last)
unlock_to_keeps l current a r owner seqids None passed orderly = failed_orderly l owner passed.row seqids 14 a.seqid statuses.Inval passed.owned passed.seqids_is orderly
unlock_to_keeps l current a r owner seqids (Some last) passed orderly = unlock_owner_keeps l current a r owner seqids last (opener_by l r.client owner) passed orderly

unlock_standing_keeps : (l : NfsLists) (current : Option ℕ) (a : UnlockArgs) (r : StateidRow) (owner : ℕ) (seqids : SeqidState) (status : Option NfsStatus) → IsPassed l r owner seqids → IsOrderly l → Keeps (unlock_standing l current a r owner seqids status)
unlock_standing_keeps l current a r owner seqids (Some status) passed orderly = failed_orderly l owner passed.row seqids 14 a.seqid status passed.owned passed.seqids_is orderly
unlock_standing_keeps l current a r owner seqids None passed orderly = unlock_to_keeps l current a r owner seqids (last_byte a.offset a.len) passed orderly

pub unlock_keeps : (s : CoreState) (l : NfsLists) (current : Option ℕ) (a : UnlockArgs) → IsOrderly l → Keeps (unlock s l current a)
unfolding unlock
unlock_keeps s l current a orderly = (orderly, λ t. counts_keeps t l current kinds.Lock 14 a.seqid a.stateid (λ r w v. unlock_standing l current a r w v (standing_fault r v a.stateid.seqid true)) orderly (λ r w v passed. unlock_standing_keeps l current a r w v (standing_fault r v a.stateid.seqid true) passed orderly))

released_orderly : (l : NfsLists) (o : Option OwnerRow) → IsOrderly l → IsOrderly (without_found l o)
released_orderly l None orderly = orderly
released_orderly l (Some r) orderly = owner_goes l r.number orderly

release_of_keeps : (s : CoreState) (l : NfsLists) (current : Option ℕ) (owner : List ℕ) (c : Option ClientRow) → IsOrderly l → Keeps (release_of s l current owner c)
unfolding released
release_of_keeps s l current owner None orderly = orderly
release_of_keeps s l current owner (Some c) orderly =
    elim (cases_Bool (holds_any s c.id owner)) [
      | inl e ↦ rw e orderly
      | inr e ↦ rw e (released_orderly l (find (is_owner_named c.number kinds.Lock owner) l.owners) orderly)
    ]

pub release_keeps : (s : CoreState) (l : NfsLists) (current : Option ℕ) (a : OwnerItem) → IsOrderly l → Keeps (release s l current a)
unfolding release
release_keeps s l current a orderly = (orderly, λ t. release_of_keeps t l current a.owner (client_in t l a.clientid) orderly)
