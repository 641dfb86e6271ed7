-- The stateid that a LOCK under an open is answered: a new one stands under the open, and one that stands there already is the
-- one used again.
use Rattle.std.proofs.Common.{◌≡◌, ℕ, ◌+◌, ◌≤◌, Bool, true, false, not, ◌&&◌, ◌||◌, List, [], ◌∷◌, Option, Some, None, Ok, Err, Result, is_some, if◌then◌else◌, refl, sym, ap, subst, ◌∙◌, inl, inr, arith, true≢false}
use Rattle.std.proofs.lemmas.Bool.{cases_Bool, and_parts, and_from, eq-eqb, eqb-true, false_from_ne_true}
use Rattle.std.proofs.lemmas.Option.{same_Some}
use Rattle.std.specs.Bool.{◌==◌}
use Rattle.std.specs.List.{find}
use Rattle.std.specs.Prelude.{IfSome, option_and_then, option_map}
use Rattle.xl_base.proofs.Members.{all_in, in_filter_from}
use Rattle.xl_base.proofs.Searches.{find_in}
use Rattle.xl_base.specs.Lists.{IsIn}
use Rattle.xl_nfs.specs.Locks.{LockArgsItem, NewLockerItem}
use Rattle.xl_nfs.specs.declared.basics.Stateid.{Stateid}
use Rattle.xl_nfs.specs.declared.status.NfsStatus.{NfsStatus}
use Rattle.xl_nfs_state.specs.Alike.{kinds_are}
use Rattle.xl_nfs_state.specs.Filed.{changed}
use Rattle.xl_nfs_state.specs.Keys.{place_of, same_kind, same_place}
use Rattle.xl_nfs_state.specs.Rows.{with_seqids}
use Rattle.xl_nfs_state.specs.State.{NfsLists, can_hang, is_client, is_kept, is_open_by, is_owner, is_stateid, is_under, is_whose, next_owner, open_fits, owned_on, owner_fits, with_stateids, without}
use Rattle.xl_nfs_state.specs.Verdict.{next_seqid, verdict}
use Rattle.xl_nfs_state.specs.declared.client.ClientRow.{ClientRow}
use Rattle.xl_nfs_state.specs.declared.owner.OwnerKind.TheVariants as kinds
use Rattle.xl_nfs_state.specs.declared.owner.OwnerRow.{OwnerRow}
use Rattle.xl_nfs_state.specs.declared.owner.SeqidState.{SeqidState}
use Rattle.xl_nfs_state.specs.declared.seqid.SeqidVerdict.{SeqidVerdict}
use Rattle.xl_nfs_state.specs.declared.seqid.SeqidVerdict.TheVariants as verdicts
use Rattle.xl_nfs_state.specs.declared.stateid.Holder.{Holder}
use Rattle.xl_nfs_state.specs.declared.stateid.Holder.TheVariants as holders
use Rattle.xl_nfs_state.specs.declared.stateid.StateidRow.{StateidRow}
use Rattle.xl_nfs_state.specs.declared.stateid.Whose.TheVariants as whose
use Rattle.xl_nfs_state.proofs.SoundLaws.{fresh_number}
use Rattle.xl_core.proofs.FrameLaws.{ask_frame}
use Rattle.xl_core.specs.Decide.{ask}
use Rattle.xl_core.specs.Good.{IsGood}
use Rattle.xl_core.specs.State.{CoreState, drawn}
use Rattle.xl_core.specs.declared.ask.Answer.{Answer}
use Rattle.xl_core.specs.declared.ask.Effect.{Effect}
use Rattle.xl_core.specs.Ids.{number_in}
use Rattle.xl_nfs_locks.specs.FirstLocks as first
use Rattle.xl_nfs_locks.specs.Locks.{lock_end}
use Rattle.xl_nfs_locks.specs.Ranges.{last_byte, lock_ask}
use Rattle.xl_nfs_locks.specs.Tests.{locker_of}
use Rattle.xl_nfs_locks.specs.declared.joining.BothOwners.{BothOwners}
use Rattle.xl_nfs_locks.specs.declared.joining.Joined.{Joined}
use Rattle.xl_nfs_locks.specs.declared.joining.Joined.TheVariants.{Bad, Joins}
use Rattle.xl_nfs_opens.proofs.OwnerLaws.{own_client}
use Rattle.xl_nfs_opens.specs.Closing.{checked, next_seqids, standing_fault}
use Rattle.xl_nfs_opens.specs.Opens.{all_rooms, client_in, is_granted, live}
use Rattle.xl_nfs_opens.specs.Plans.{Outcome, carried, told_behind}
use Rattle.xl_nfs_opens.specs.Renewing.{stateid_of}
use Rattle.xl_nfs_opens.specs.Results.{spelled}
use Rattle.xl_nfs_opens.specs.Seqids.{closed_gone, counted, is_opener, is_room_for, kept_for, number_by, opener_number, remembered, seated, seated_by, seated_new, seqid_set}
use Rattle.xl_nfs_opens.specs.declared.opener.Checked.{Checked}
use Rattle.xl_nfs_opens.specs.declared.opener.Checked.TheVariants.{Passed}
use Rattle.xl_nfs_opens.specs.declared.opener.Opener.{Opener}
use Rattle.xl_nfs_opens.specs.declared.told.Told.TheVariants.{State}
use Rattle.xl_nfs_laws.specs.AnsweredStateids.{AreLocksUnder, LockersCloseNothing, can_join, counted_new, new_locks}
use Rattle.xl_nfs_laws.specs.Orderly.{closes, IsHeldBy, IsOrderly, IsOwnedBy}
use Rattle.xl_nfs_laws.specs.StateidNumbers.{AreGivenOut}
use Rattle.xl_nfs_laws.proofs.AnsweredLockLaws.{first_stands, never_told}
use Rattle.xl_nfs_laws.proofs.AnsweredOpenLaws.{same_stateids}
use Rattle.xl_nfs_laws.proofs.EnteredOpenLaws.{kept_stateids, left_found, seated_there, still_there}
use Rattle.xl_nfs_laws.proofs.KnownOpenLaws.{free_of, gone_in, held_by, not_held, seated_clients}
use Rattle.xl_nfs_laws.proofs.ListOrderLaws.{closed_by}
use Rattle.xl_nfs_laws.proofs.LockOrderLaws.{both_locker, counted_owners, next_seqid_set, room_stays}
use Rattle.xl_nfs_laws.proofs.OpenCheckLaws.{passed_is}
use Rattle.xl_nfs_laws.proofs.OpenLaws.{kept_owners}
use Rattle.xl_nfs_laws.proofs.OpenNumberLaws.{later_on}
use Rattle.xl_nfs_laws.proofs.OpenOrderLaws.{IsSeated, counted_orderly, none_in, passes, rising_found, seat_is}
use Rattle.xl_nfs_laws.proofs.OwnerStayLaws.{Calm, counted_moves, locks_entered}

-- ---- the number of the lock owner is the same once both counted

numbered_set : (p q : OwnerRow → Bool) (seqids : SeqidState) (os : List OwnerRow) → ((x : OwnerRow) → p (with_seqids seqids x) ≡ p x) → option_map (λ (x : OwnerRow). x.number) (find p (changed q (with_seqids seqids) os)) ≡ option_map (λ (x : OwnerRow). x.number) (find p os)
numbered_set p q seqids [] same = refl
numbered_set p q seqids (x ∷ os) same =
    elim (cases_Bool (q x)) [
      | inl e ↦ rw e (elim (cases_Bool (p x)) [
        | inl d ↦ (let f : p (with_seqids seqids x) ≡ true = same x ∙ d in rw f (rw d refl))
        | inr d ↦ (let f : p (with_seqids seqids x) ≡ false = same x ∙ d in rw f (rw d refl))
      ])
      | inr e ↦ rw e (elim (cases_Bool (p x)) [
        | inl d ↦ rw d refl
        | inr d ↦ rw d (numbered_set p q seqids os same)
      ])
    ]

number_from : (x y : Option OwnerRow) (next : Option ℕ) → option_map (λ (z : OwnerRow). z.number) x ≡ option_map (λ (z : OwnerRow). z.number) y → number_by x next ≡ number_by y next
number_from None None next e = refl
number_from (Some r) (Some q) next e = same_Some r.number q.number e
number_from None (Some q) next e = absurd (true≢false (sym (ap is_some e)))
number_from (Some r) None next e = absurd (true≢false (ap is_some e))

pub counted_number : (o : Opener) (owner : ℕ) (closed : Option ℕ) (seqids : SeqidState) (bytes : List ℕ) (l : NfsLists) → opener_number o (counted owner closed seqids bytes l) ≡ opener_number o l
counted_number o owner closed seqids bytes l =
    ap (λ (os : List OwnerRow). number_by (find (is_opener o) os) (next_owner os)) (counted_owners owner closed seqids bytes l)
    ∙ ap (λ (next : Option ℕ). number_by (find (is_opener o) (changed (is_owner owner) (with_seqids seqids) l.owners)) next) (next_seqid_set (is_owner owner) seqids l.owners)
    ∙ number_from (find (is_opener o) (changed (is_owner owner) (with_seqids seqids) l.owners)) (find (is_opener o) l.owners) (next_owner l.owners) (numbered_set (is_opener o) (is_owner owner) seqids l.owners (λ x. refl))

seated_number : (o : Opener) (seqids : SeqidState) (bytes : List ℕ) (k : NfsLists) → IsSeated o seqids k (seated o seqids k) → opener_number o (kept_for (opener_number o k) bytes (seated o seqids k)) ≡ opener_number o k
seated_number o seqids bytes k is =
    let m : NfsLists = kept_for (opener_number o k) bytes (seated o seqids k) in
    ap (λ (x : Option OwnerRow). number_by x (next_owner m.owners)) (ap (λ (os : List OwnerRow). find (is_opener o) os) (kept_owners (opener_number o k) bytes (seated o seqids k)) ∙ is.named) ∙ is.number

remembered_number : (o : Opener) (seqids : SeqidState) (bytes : List ℕ) (k : NfsLists) → IsSeated o seqids k (seated o seqids k) → opener_number o (remembered o seqids bytes k) ≡ opener_number o k
unfolding remembered
remembered_number o seqids bytes k is =
    elim (cases_Bool (is_room_for o k)) [
      | inl e ↦ rw e (seated_number o seqids bytes k is)
      | inr e ↦ rw e refl
    ]

-- ---- what else the two leave

pub kept_clients : (owner : ℕ) (bytes : List ℕ) (l : NfsLists) → (kept_for owner bytes l).clients ≡ l.clients
kept_clients owner bytes l =
    elim (cases_Bool (is_some (find (is_kept owner) l.kept))) [
      | inl e ↦ rw e refl
      | inr e ↦ rw e (elim (cases_Bool (is_some (find (is_owner owner) l.owners))) [
        | inl d ↦ rw d refl
        | inr d ↦ rw d refl
      ])
    ]

pub gone_clients : (closed : Option ℕ) (l : NfsLists) → (closed_gone closed l).clients ≡ l.clients
gone_clients None l = refl
gone_clients (Some number) l = refl

pub counted_clients : (owner : ℕ) (closed : Option ℕ) (seqids : SeqidState) (bytes : List ℕ) (l : NfsLists) → (counted owner closed seqids bytes l).clients ≡ l.clients
unfolding counted
counted_clients owner closed seqids bytes l = kept_clients owner bytes (closed_gone closed (seqid_set owner seqids l)) ∙ gone_clients closed (seqid_set owner seqids l)

pub remembered_clients : (o : Opener) (seqids : SeqidState) (bytes : List ℕ) (k : NfsLists) → (remembered o seqids bytes k).clients ≡ k.clients
unfolding remembered
remembered_clients o seqids bytes k =
    elim (cases_Bool (is_room_for o k)) [
      | inl e ↦ rw e (kept_clients (opener_number o k) bytes (seated o seqids k) ∙ seated_clients o seqids k)
      | inr e ↦ rw e refl
    ]

-- what is left was there before
counted_in : (owner : ℕ) (closed : Option ℕ) (seqids : SeqidState) (bytes : List ℕ) (l : NfsLists) (y : StateidRow) → IsIn y (counted owner closed seqids bytes l).stateids → IsIn y l.stateids
unfolding counted
counted_in owner closed seqids bytes l y here =
    let m : NfsLists = closed_gone closed (seqid_set owner seqids l) in
    (gone_in closed (seqid_set owner seqids l) y (subst (λ (ss : List StateidRow). IsIn y ss) (kept_stateids owner bytes m) here)).0

seated_in : (o : Opener) (seqids : SeqidState) (k : NfsLists) (y : StateidRow) → IsIn y (seated o seqids k).stateids → IsIn y k.stateids
unfolding seated
seated_in o seqids k y = by (find (is_opener o) k.owners)
  where
    new : (next : Option ℕ) → IsIn y (seated_new o seqids k next).stateids → IsIn y k.stateids
    new None here = here
    new (Some number) here = here

    by : (x : Option OwnerRow) → IsIn y (seated_by o seqids k x).stateids → IsIn y k.stateids
    by None here = new (next_owner k.owners) here
    by (Some w) here = (gone_in w.seqids.closed (seqid_set w.number seqids k) y here).0

remembered_in : (o : Opener) (seqids : SeqidState) (bytes : List ℕ) (k : NfsLists) (y : StateidRow) → IsIn y (remembered o seqids bytes k).stateids → IsIn y k.stateids
unfolding remembered
remembered_in o seqids bytes k y =
    elim (cases_Bool (is_room_for o k)) [
      | inl e ↦ rw e (λ here. seated_in o seqids k y (subst (λ (ss : List StateidRow). IsIn y ss) (kept_stateids (opener_number o k) bytes (seated o seqids k)) here))
      | inr e ↦ rw e (λ here. here)
    ]

-- ---- a new stateid can come

-- what a lock owner has on a file isn't closed
not_shut : (l : NfsLists) (w : OwnerRow) (q : StateidRow) (file : ℕ) → IsOrderly l → LockersCloseNothing l → w.name.kind ≡ kinds.Lock → find (is_owner w.number) l.owners ≡ Some w → IsIn q l.stateids → owned_on w.number file q ≡ true → q.standing.closed ≡ false
not_shut l w q file orderly calm kind at here on =
    let found = subst (λ (o : Option OwnerRow). IfSome o (λ y. IsIn y l.owners × (is_owner w.number y ≡ true))) at (find_in (is_owner w.number) l.owners) in
    let none : w.seqids.closed ≡ None = all_in (λ (o : OwnerRow). o.name.kind ≡ kinds.Lock → o.seqids.closed ≡ None) w l.owners calm found.0 kind in
    closed_by l.owners q q.holder w.number w (held_by w.number file q.client q.file q.holder on) at (all_in (λ z. IsHeldBy l.owners z z.holder) q l.stateids orderly.held here) ∙ ap (λ (c : Option ℕ). closes c q.number) none

pub locker_kind : (o : Opener) (w : OwnerRow) → o.kind ≡ kinds.Lock → is_opener o w ≡ true → w.name.kind ≡ kinds.Lock
locker_kind o w kind is =
    let parts = and_parts (o.client == w.name.client) _ is in
    sym (kinds_are o.kind w.name.kind (and_parts (same_kind o.kind w.name.kind) _ parts.1).0) ∙ kind

-- what a lock owner that is found has on the file, if it has something, isn't closed
stands_live : (l : NfsLists) (o : Opener) (w : OwnerRow) (file : ℕ) (q : StateidRow) → IsOrderly l → LockersCloseNothing l → o.kind ≡ kinds.Lock → find (is_opener o) l.owners ≡ Some w → find (owned_on w.number file) l.stateids ≡ Some q → q.standing.closed ≡ false
stands_live l o w file q orderly calm kind named at =
    let there = subst (λ (x : Option StateidRow). IfSome x (λ y. IsIn y l.stateids × (owned_on w.number file y ≡ true))) at (find_in (owned_on w.number file) l.stateids) in
    not_shut l w q file orderly calm (locker_kind o w kind (passes (is_opener o) l.owners w named)) (rising_found (is_opener o) l.owners w orderly.rising named) there.0 there.1

live_some : (q : StateidRow) → q.standing.closed ≡ false → live (Some q) ≡ Some q
live_some q is = rw is refl

pub joins_same : (x y : Option StateidRow) → Joins x ≡ Joins y → x ≡ y
joins_same x y e = cc

-- what is found under the open is what the owner has there
verdict_joins : (w : OwnerRow) (q j : Option StateidRow) (v : SeqidVerdict) → first.by_verdict w q v ≡ Joins j → j ≡ q
verdict_joins w q j verdicts.Repeat e = absurd cc
verdict_joins w q j verdicts.Next e = sym (joins_same q j e)
verdict_joins w q j verdicts.New e = sym (joins_same q j e)
verdict_joins w q j (verdicts.Bad last) e = absurd cc

pub owner_joins : (r : StateidRow) (w : OwnerRow) (seqid : ℕ) (q j : Option StateidRow) → first.by_owner r w seqid q ≡ Joins j → j ≡ q
owner_joins r w seqid q j = by (first.fits_under r.number q) refl
  where
    by : (b : Bool) → first.fits_under r.number q ≡ b → (if b then first.by_verdict w q (verdict (Some w.seqids) 12 seqid) else Bad) ≡ Joins j → j ≡ q
    by true fits e = verdict_joins w q j (verdict (Some w.seqids) 12 seqid) e
    by false fits e = absurd cc

pub known_joins : (l : NfsLists) (r : StateidRow) (o : Opener) (seqid : ℕ) (w : OwnerRow) (j : Option StateidRow) → find (is_opener o) l.owners ≡ Some w → first.found_joined l r o seqid ≡ Joins j → j ≡ live (find (owned_on w.number r.file) l.stateids)
unfolding first.found_joined
known_joins l r o seqid w j named e = owner_joins r w seqid (live (find (owned_on w.number r.file) l.stateids)) j (sym (ap (λ (x : Option OwnerRow). first.by_row l r seqid x) named) ∙ e)

-- an owner that has a stateid on the file joins by that one
pub stood_joins : (l : NfsLists) (r : StateidRow) (o : Opener) (seqid : ℕ) (w : OwnerRow) (q : StateidRow) (j : Option StateidRow) → IsOrderly l → LockersCloseNothing l → o.kind ≡ kinds.Lock → find (is_opener o) l.owners ≡ Some w → find (owned_on w.number r.file) l.stateids ≡ Some q → first.found_joined l r o seqid ≡ Joins j → j ≡ Some q
stood_joins l r o seqid w q j orderly calm kind named at e =
    known_joins l r o seqid w j named e ∙ ap (λ (x : Option StateidRow). live x) at ∙ live_some q (stands_live l o w r.file q orderly calm kind named at)

none_found_there : (l : NfsLists) (r : StateidRow) (o : Opener) (seqid : ℕ) (w : OwnerRow) → IsOrderly l → LockersCloseNothing l → o.kind ≡ kinds.Lock → find (is_opener o) l.owners ≡ Some w → first.found_joined l r o seqid ≡ Joins None → (q : Option StateidRow) → find (owned_on w.number r.file) l.stateids ≡ q → q ≡ None
none_found_there l r o seqid w orderly calm kind named e None at = refl
none_found_there l r o seqid w orderly calm kind named e (Some q) at = absurd (true≢false (sym (ap is_some (stood_joins l r o seqid w q None orderly calm kind named at e))))

-- nothing stands in the place of a new stateid of locks
place_free : (l : NfsLists) (r : StateidRow) (o : Opener) (seqid : ℕ) → IsOrderly l → LockersCloseNothing l → o.kind ≡ kinds.Lock → is_room_for o l ≡ true → first.found_joined l r o seqid ≡ Joins None → (y : StateidRow) → IsIn y l.stateids → owned_on (opener_number o l) r.file y ≡ false
place_free l r o seqid orderly calm kind room joins y here = by (find (is_opener o) l.owners) (next_owner l.owners) refl refl room
  where
    by : (x : Option OwnerRow) (next : Option ℕ) → find (is_opener o) l.owners ≡ x → next_owner l.owners ≡ next → (is_some x || is_some next) ≡ true → owned_on (number_by x next) r.file y ≡ false
    by (Some w) next named f is = none_in (owned_on w.number r.file) l.stateids y (none_found_there l r o seqid w orderly calm kind named joins (find (owned_on w.number r.file) l.stateids) refl) here
    by None (Some number) named f is =
        false_from_ne_true (owned_on number r.file y) (λ at. not_held y number l.owners y.holder (held_by number r.file y.client y.file y.holder at) (fresh_number l.owners number orderly.rising f) (all_in (λ z. IsHeldBy l.owners z z.holder) y l.stateids orderly.held here))
    by None None named f is = absurd (true≢false (sym is))

-- the open under which it comes is there, and not closed; its owner is of that number, and has come so far
pub record IsOpener (l : NfsLists) (b : BothOwners) (r : StateidRow) : Type 0 where
  pub row : OwnerRow
  pub found : find (is_stateid r.number) l.stateids ≡ Some r
  pub holder : r.holder ≡ holders.Open b.number
  pub live : r.standing.closed ≡ false
  pub owner : find (is_owner b.number) l.owners ≡ Some row
  pub seqids_is : b.seqids ≡ row.seqids

-- the open stays as both count
open_stays : (l : NfsLists) (b : BothOwners) (o : Opener) (r : StateidRow) (bytes : List ℕ) → IsOrderly l → LockersCloseNothing l → o.kind ≡ kinds.Lock → IsOpener l b r → find (is_stateid r.number) (first.counted_both b o bytes l).stateids ≡ Some r
unfolding counted remembered
open_stays l b o r bytes orderly calm kind is =
    let next = next_seqids 12 b.open_seqid b.seqids.confirmed None in
    let set : NfsLists = seqid_set b.number next l in
    let k : NfsLists = first.counted_open b bytes l in
    let there = subst (λ (x : Option StateidRow). IfSome x (λ y. IsIn y l.stateids × (is_stateid r.number y ≡ true))) is.found (find_in (is_stateid r.number) l.stateids) in
    let held : IsHeldBy l.owners r r.holder = all_in (λ z. IsHeldBy l.owners z z.holder) r l.stateids orderly.held there.0 in
    let owned : IsOwnedBy r kinds.Open (Some is.row) = subst (λ (x : Option OwnerRow). IsOwnedBy r kinds.Open x) is.owner (subst (λ (h : Holder). IsHeldBy l.owners r h) is.holder held) in
    let other : b.seqids.closed ≡ Some r.number → ⊥ = λ e. true≢false (sym (eq-eqb r.number r.number refl) ∙ sym (ap (λ (c : Option ℕ). closes c r.number) (sym (ap (λ (t : SeqidState). t.closed) is.seqids_is) ∙ e)) ∙ sym owned.2 ∙ is.live) in
    let first_left : find (is_stateid r.number) k.stateids ≡ Some r = ap (λ (ss : List StateidRow). find (is_stateid r.number) ss) (kept_stateids b.number bytes (closed_gone b.seqids.closed set)) ∙ still_there b.seqids.closed set r b.number is.found is.holder other in
    let quiet : Calm k.owners = (counted_moves b.number b.seqids.closed next bytes l (λ row at kind. refl)).1 calm in
    let apart : option_and_then (λ (y : OwnerRow). y.seqids.closed) (find (is_opener o) k.owners) ≡ Some r.number → ⊥ = not_closing k (find (is_opener o) k.owners) refl quiet in
    let seqids = next_seqids 12 b.lock_seqid true None in
    elim (cases_Bool (is_room_for o k)) [
      | inl e ↦ rw e (ap (λ (ss : List StateidRow). find (is_stateid r.number) ss) (kept_stateids (opener_number o k) bytes (seated o seqids k)) ∙ seated_there o seqids k r b.number first_left is.holder apart)
      | inr e ↦ rw e first_left
    ]
  where
    not_closing : (k : NfsLists) (x : Option OwnerRow) → find (is_opener o) k.owners ≡ x → Calm k.owners → option_and_then (λ (y : OwnerRow). y.seqids.closed) x ≡ Some r.number → ⊥
    not_closing k None named quiet e = true≢false (sym (ap is_some e))
    not_closing k (Some w) named quiet e =
        let there = subst (λ (x : Option OwnerRow). IfSome x (λ y. IsIn y k.owners × (is_opener o y ≡ true))) named (find_in (is_opener o) k.owners) in
        let none : w.seqids.closed ≡ None = all_in (λ (y : OwnerRow). y.name.kind ≡ kinds.Lock → y.seqids.closed ≡ None) w k.owners quiet there.0 (locker_kind o w kind there.1) in
        true≢false (sym (ap is_some e) ∙ ap is_some none)

pub joins : (s : CoreState) (l : NfsLists) (b : BothOwners) (o : Opener) (r : StateidRow) (seqid : ℕ) → IsOrderly l → LockersCloseNothing l → AreGivenOut s.counter l → IsOpener l b r → o.client ≡ r.client → o.kind ≡ kinds.Lock → is_some (find (is_client r.client true) l.clients) ≡ true → is_room_for o l ≡ true → first.found_joined l r o seqid ≡ Joins None → can_join s l b o r ≡ true
joins s l b o r seqid orderly calm given is own kind client room joined =
    let bytes = spelled 12 (State (stateid_of (drawn s) (s.counter + 1) 1)) in
    let next = next_seqids 12 b.open_seqid b.seqids.confirmed None in
    let k : NfsLists = first.counted_open b bytes l in
    let m : NfsLists = counted_new s l b o in
    let row : StateidRow = new_locks s l b o r in
    let p : NfsLists = with_stateids m (without (is_whose (whose.Stateid (s.counter + 1))) m.stateids) in
    let seat = seat_is o (next_seqids 12 b.lock_seqid true None) k (counted_orderly l b.number is.row b.seqids.closed next bytes is.owner (ap (λ (t : SeqidState). t.closed) is.seqids_is) refl orderly).rising (room_stays o b.number b.seqids.closed next bytes l room) in
    let number : opener_number o m ≡ opener_number o l = remembered_number o (next_seqids 12 b.lock_seqid true None) bytes k seat ∙ counted_number o b.number b.seqids.closed next bytes l in
    let place : (y : StateidRow) → IsIn y p.stateids → same_place (place_of row) (place_of y) ≡ false = λ y here.
    ap (λ (n : ℕ). owned_on n r.file y) number ∙ place_free l r o seqid orderly calm kind room joined y (counted_in b.number b.seqids.closed next bytes l y (remembered_in o (next_seqids 12 b.lock_seqid true None) bytes k y (in_filter_from (λ q. not (is_whose (whose.Stateid (s.counter + 1)) q)) y m.stateids here).0)) in
    let free : find (λ y. same_place (place_of row) (place_of y)) p.stateids ≡ None = free_of (λ y. same_place (place_of row) (place_of y)) p.stateids place in
    let locker = both_locker l b is.row o bytes is.owner is.seqids_is room orderly in
    let clients : m.clients ≡ l.clients = remembered_clients o (next_seqids 12 b.lock_seqid true None) bytes k ∙ counted_clients b.number b.seqids.closed next bytes l in
    let fits : owner_fits r.client kinds.Lock (find (is_owner (opener_number o m)) m.owners) ≡ true =
    ap (owner_fits r.client kinds.Lock) locker.found ∙ and_from (r.client == locker.row.name.client) (same_kind kinds.Lock locker.row.name.kind) (eq-eqb r.client locker.row.name.client (sym (locker.client ∙ own))) (ap (same_kind kinds.Lock) (locker.kind ∙ kind)) in
    let there = subst (λ (x : Option StateidRow). IfSome x (λ y. IsIn y l.stateids × (is_stateid r.number y ≡ true))) is.found (find_in (is_stateid r.number) l.stateids) in
    let low : r.number ≤ s.counter = all_in (λ (y : StateidRow). y.number ≤ s.counter) r l.stateids given there.0 in
    let stays : is_whose (whose.Stateid (s.counter + 1)) r ≡ false = apart_new s.counter r b.number low is.holder in
    let stands : find (is_stateid r.number) p.stateids ≡ Some r = left_found (is_stateid r.number) (is_whose (whose.Stateid (s.counter + 1))) m.stateids r (open_stays l b o r bytes orderly calm kind is) stays in
    let under : open_fits b.number r.client r.file (find (is_stateid r.number) p.stateids) ≡ true = ap (open_fits b.number r.client r.file) stands ∙ and_from (is_open_by b.number r.holder) ((r.client == r.client) && (r.file == r.file)) (ap (is_open_by b.number) is.holder ∙ eq-eqb b.number b.number refl) (and_from (r.client == r.client) (r.file == r.file) (eq-eqb r.client r.client refl) (eq-eqb r.file r.file refl)) in
    and_from (not (is_some (find (λ y. same_place (place_of row) (place_of y)) p.stateids))) (can_hang p row) (ap (λ (x : Option StateidRow). not (is_some x)) free)
    (and_from (is_some (find (is_client r.client true) m.clients)) (owner_fits r.client kinds.Lock (find (is_owner (opener_number o m)) m.owners) && open_fits b.number r.client r.file (find (is_stateid r.number) p.stateids))
    (ap (λ (cs : List ClientRow). is_some (find (is_client r.client true) cs)) clients ∙ client)
    (and_from (owner_fits r.client kinds.Lock (find (is_owner (opener_number o m)) m.owners)) (open_fits b.number r.client r.file (find (is_stateid r.number) p.stateids)) fits under))
  where
    above : (last k : ℕ) → k ≤ last → (last + 1 == k) ≡ true → ⊥
    above last k le e = omega (arith, le, eqb-true (last + 1) k e)

    apart_new : (last : ℕ) (q : StateidRow) (w : ℕ) → q.number ≤ last → q.holder ≡ holders.Open w → is_whose (whose.Stateid (last + 1)) q ≡ false
    apart_new last q w le holds = rw (false_from_ne_true (last + 1 == q.number) (above last q.number le)) (ap (λ (h : Holder). is_under (last + 1) h) holds)

-- ---- what a LOCK under an open is answered

pub remembered_named : (o : Opener) (seqids : SeqidState) (bytes : List ℕ) (k : NfsLists) (is : IsSeated o seqids k (seated o seqids k)) → is_room_for o k ≡ true → find (is_opener o) (remembered o seqids bytes k).owners ≡ Some is.row
unfolding remembered
remembered_named o seqids bytes k is room = rw room (ap (λ (os : List OwnerRow). find (is_opener o) os) (kept_owners (opener_number o k) bytes (seated o seqids k)) ∙ is.named)

pub new_behind : (r : StateidRow) (o : Opener) (told : Stateid) (effects : List Effect) (done : Outcome) → AreLocksUnder r o told done → AreLocksUnder r o told (told_behind effects done)
new_behind r o told effects done is = record { row = is.row; owner = is.owner; opener = is.opener; found = is.found; told_is = is.told_is; client = is.client; file = is.file; its = is.its; holder = is.holder; live = is.live }

module _ (n : ℕ) (l : NfsLists) (current : Option ℕ) (b : BothOwners) (o : Opener) (r : StateidRow) (seqid : ℕ) (told : Stateid) (orderly : IsOrderly l) (calm : LockersCloseNothing l) (is : IsOpener l b r) (own : o.client ≡ r.client) (kind : o.kind ≡ kinds.Lock) (client : is_some (find (is_client r.client true) l.clients) ≡ true) (joined : first.found_joined l r o seqid ≡ Joins None) where
  granted_new_locks : (s : CoreState) → AreGivenOut s.counter l → is_room_for o l ≡ true → (carried n s l (first.joined_new s l current b o r)).0 ≡ State told → AreLocksUnder r o told (carried n s l (first.joined_new s l current b o r))
  granted_new_locks s given room said =
      let bytes = spelled 12 (State (stateid_of (drawn s) (s.counter + 1) 1)) in
      let next = next_seqids 12 b.open_seqid b.seqids.confirmed None in
      let k : NfsLists = first.counted_open b bytes l in
      let m : NfsLists = counted_new s l b o in
      let row : StateidRow = new_locks s l b o r in
      let there : is_room_for o k ≡ true = room_stays o b.number b.seqids.closed next bytes l room in
      let seat = seat_is o (next_seqids 12 b.lock_seqid true None) k (counted_orderly l b.number is.row b.seqids.closed next bytes is.owner (ap (λ (t : SeqidState). t.closed) is.seqids_is) refl orderly).rising there in
      let named : find (is_opener o) m.owners ≡ Some seat.row = remembered_named o (next_seqids 12 b.lock_seqid true None) bytes k seat there in
      record {
        row = row;
        owner = seat.row;
        opener = b.number;
        found = first_stands n s l current b o r (joins s l b o r seqid orderly calm given is own kind client room joined);
        told_is = sym (same_stateids (stateid_of (drawn s) (s.counter + 1) 1) told said);
        client = refl;
        file = refl;
        its = ap (λ (os : List OwnerRow). find (is_opener o) os) (locks_entered row m) ∙ named;
        holder = ap (λ (x : Option OwnerRow). holders.Lock (number_by x (next_owner m.owners)) r.number b.number) named;
        live = refl;
      }

  answered_new_locks : (s : CoreState) (reclaim : Bool) (answer : Answer) → AreGivenOut s.counter l → is_room_for o l ≡ true → (carried n s l (first.join_answered l current b o r None reclaim answer s)).0 ≡ State told → AreLocksUnder r o told (carried n s l (first.join_answered l current b o r None reclaim answer s))
  answered_new_locks s reclaim answer given room =
      elim (cases_Bool (is_granted answer)) [
        | inl e ↦ rw e (granted_new_locks s given room)
        | inr e ↦ rw e (λ said. absurd (never_told s l reclaim answer told said))
      ]

  pub ranged_new_locks : (s : CoreState) (a : LockArgsItem) (last : Result ℕ NfsStatus) → IsGood s → AreGivenOut s.counter l → (carried n s l (first.join_to l current a b o r None last)).0 ≡ State told → AreLocksUnder r o told (carried n s l (first.join_to l current a b o r None last))
  ranged_new_locks s a (Err status) good given = λ said. absurd cc
  ranged_new_locks s a (Ok last) good given =
      let q = lock_ask o r.file a.kind a.reclaim a.offset last in
      let z = ask n all_rooms s q in
      let frame = ask_frame n all_rooms s q good (own_client o.id) in
      let up : s.counter ≤ z.2.counter = omega (arith, frame.counter) in
      let more : AreGivenOut z.2.counter l = later_on s.counter z.2.counter l up given in
      elim (cases_Bool (is_room_for o l)) [
        | inl e ↦ rw e (λ said. new_behind r o told z.1 (carried n z.2 l (first.join_answered l current b o r None a.reclaim z.0 z.2)) (answered_new_locks z.2 a.reclaim z.0 more e said))
        | inr e ↦ rw e (λ said. absurd cc)
      ]

-- the client that names the lock owner is the open's
pub under_is : (r : StateidRow) (owner : List ℕ) (c : Option ClientRow) (o : Opener) → first.locker_under r owner c ≡ Some o → (k : ClientRow) × (c ≡ Some k) × (k.number ≡ r.client) × (o ≡ locker_of k owner)
under_is r owner None o e = absurd (true≢false (sym (ap is_some e)))
under_is r owner (Some k) o e = by (k.number == r.client) refl e
  where
    by : (same : Bool) → (k.number == r.client) ≡ same → (if same then Some (locker_of k owner) else None) ≡ Some o → (m : ClientRow) × (Some k ≡ Some m) × (m.number ≡ r.client) × (o ≡ locker_of m owner)
    by true is d = (k, refl, eqb-true k.number r.client is, sym (same_Some (locker_of k owner) o d))
    by false is d = absurd (true≢false (sym (ap is_some d)))

-- a client that is found by a clientid is confirmed under its number
pub client_there : (l : NfsLists) (who : Option ℕ) (k : ClientRow) → option_and_then (λ number. find (is_client number true) l.clients) who ≡ Some k → is_some (find (is_client k.number true) l.clients) ≡ true
client_there l None k e = absurd (true≢false (sym (ap is_some e)))
client_there l (Some number) k e =
    let there = subst (λ (x : Option ClientRow). IfSome x (λ y. IsIn y l.clients × (is_client number true y ≡ true))) e (find_in (is_client number true) l.clients) in
    let same : number ≡ k.number = eqb-true number k.number (and_parts (number == k.number) _ there.1).0 in
    subst (λ (m : ℕ). is_some (find (is_client m true) l.clients) ≡ true) same (ap is_some e)

pub opener_is : (s : CoreState) (l : NfsLists) (current : Option ℕ) (x : NewLockerItem) (r : StateidRow) (owner : ℕ) (seqids : SeqidState) → checked s l current 12 x.open_seqid x.open_stateid ≡ Passed r owner seqids → IsOpener l (first.both_of x owner seqids) r
opener_is s l current x r owner seqids e =
    let is = passed_is s l current 12 x.open_seqid x.open_stateid r owner seqids e in
    record { row = is.row; found = is.opened.found; holder = is.opened.holder; live = is.live; owner = is.opened.owner; seqids_is = is.seqids_is }

module _ (n : ℕ) (s : CoreState) (l : NfsLists) (current : Option ℕ) (a : LockArgsItem) (x : NewLockerItem) (r : StateidRow) (owner : ℕ) (seqids : SeqidState) (o : Opener) (told : Stateid) (passed : checked s l current 12 x.open_seqid x.open_stateid ≡ Passed r owner seqids) (under : first.locker_under r x.owner.owner (client_in s l x.owner.clientid) ≡ Some o) where
  -- by what is found under the open
  joins_as : (P : Outcome → Type 0) (j : Joined) → first.found_joined l r o x.lock_seqid ≡ j
      → ((carried n s l (first.join_as l current a (first.both_of x owner seqids) o r j)).0 ≡ State told → P (carried n s l (first.join_as l current a (first.both_of x owner seqids) o r j)))
      → (carried n s l (first.join_checked s l current a x (checked s l current 12 x.open_seqid x.open_stateid))).0 ≡ State told → P (carried n s l (first.join_checked s l current a x (checked s l current 12 x.open_seqid x.open_stateid)))
  joins_as P j joined goes =
      subst (λ (c : Checked). (carried n s l (first.join_checked s l current a x c)).0 ≡ State told → P (carried n s l (first.join_checked s l current a x c))) (sym passed) (standing (standing_fault r seqids x.open_stateid.seqid true))
    where
      b : BothOwners
      b = first.both_of x owner seqids

      of : (m : Option Opener) → m ≡ Some o → (carried n s l (first.join_of l current a x b r m)).0 ≡ State told → P (carried n s l (first.join_of l current a x b r m))
      of m e = subst (λ (y : Option Opener). (carried n s l (first.join_of l current a x b r y)).0 ≡ State told → P (carried n s l (first.join_of l current a x b r y))) (sym e)
          (subst (λ (k : Joined). (carried n s l (first.join_as l current a b o r k)).0 ≡ State told → P (carried n s l (first.join_as l current a b o r k))) (sym joined) goes)

      standing : (fault : Option NfsStatus) → (carried n s l (first.join_standing s l current a x b r fault)).0 ≡ State told → P (carried n s l (first.join_standing s l current a x b r fault))
      standing (Some status) = λ said. absurd cc
      standing None = of (first.locker_under r x.owner.owner (client_in s l x.owner.clientid)) under

  pub first_comes : IsGood s → IsOrderly l → LockersCloseNothing l → AreGivenOut s.counter l → first.found_joined l r o x.lock_seqid ≡ Joins None
      → (carried n s l (first.join_checked s l current a x (checked s l current 12 x.open_seqid x.open_stateid))).0 ≡ State told → AreLocksUnder r o told (carried n s l (first.join_checked s l current a x (checked s l current 12 x.open_seqid x.open_stateid)))
  first_comes good orderly calm given joined =
      let its = under_is r x.owner.owner (client_in s l x.owner.clientid) o under in
      let own : o.client ≡ r.client = ap (λ (y : Opener). y.client) its.3 ∙ its.2 in
      let kind : o.kind ≡ kinds.Lock = ap (λ (y : Opener). y.kind) its.3 in
      let client : is_some (find (is_client r.client true) l.clients) ≡ true = subst (λ (m : ℕ). is_some (find (is_client m true) l.clients) ≡ true) its.2 (client_there l (number_in s x.owner.clientid) its.0 its.1) in
      joins_as (λ done. AreLocksUnder r o told done) (Joins None) joined
      (ranged_new_locks n l current (first.both_of x owner seqids) o r x.lock_seqid told orderly calm (opener_is s l current x r owner seqids passed) own kind client joined s a (lock_end a.kind r.standing.access (last_byte a.offset a.len)) good given)

  pub first_again : (q : StateidRow) → first.found_joined l r o x.lock_seqid ≡ Joins (Some q)
      → (carried n s l (first.join_checked s l current a x (checked s l current 12 x.open_seqid x.open_stateid))).0 ≡ State told → told ≡ stateid_of (carried n s l (first.join_checked s l current a x (checked s l current 12 x.open_seqid x.open_stateid))).4 q.number (next_seqid q.standing.seqid)
  first_again q joined = joins_as (λ done. told ≡ stateid_of done.4 q.number (next_seqid q.standing.seqid)) (Joins (Some q)) joined (ranged (lock_end a.kind r.standing.access (last_byte a.offset a.len)))
    where
      b : BothOwners
      b = first.both_of x owner seqids

      answered : (t : CoreState) (answer : Answer) → (carried n t l (first.join_answered l current b o r (Some q) a.reclaim answer t)).0 ≡ State told → told ≡ stateid_of (carried n t l (first.join_answered l current b o r (Some q) a.reclaim answer t)).4 q.number (next_seqid q.standing.seqid)
      answered t answer =
          elim (cases_Bool (is_granted answer)) [
            | inl e ↦ rw e (λ said. sym (same_stateids (stateid_of t q.number (next_seqid q.standing.seqid)) told said))
            | inr e ↦ rw e (λ said. absurd (never_told t l a.reclaim answer told said))
          ]

      ranged : (last : Result ℕ NfsStatus) → (carried n s l (first.join_to l current a b o r (Some q) last)).0 ≡ State told → told ≡ stateid_of (carried n s l (first.join_to l current a b o r (Some q) last)).4 q.number (next_seqid q.standing.seqid)
      ranged (Err status) = λ said. absurd cc
      ranged (Ok last) =
          let z = ask n all_rooms s (lock_ask o r.file a.kind a.reclaim a.offset last) in
          elim (cases_Bool (is_room_for o l)) [
            | inl e ↦ rw e (answered z.2 z.0)
            | inr e ↦ rw e (λ said. absurd cc)
          ]
