-- The stateid that a LOCK under an open is told is there from then on, new or not: what a lock owner has under the open isn't what the open's
-- owner closed.
use Rattle.std.proofs.Common.{◌≡◌, ℕ, Bool, true, false, List, Option, Some, None, Ok, Err, Result, is_some, if◌then◌else◌, refl, sym, ap, subst, ◌∙◌, inl, inr, true≢false}
use Rattle.std.proofs.lemmas.Bool.{and_parts, cases_Bool, eqb-true}
use Rattle.std.proofs.lemmas.Option.{same_Some}
use Rattle.std.specs.Bool.{◌==◌}
use Rattle.std.specs.List.{find}
use Rattle.xl_base.proofs.Members.{all_in}
use Rattle.xl_base.specs.Lists.{IsIn}
use Rattle.xl_nfs.specs.Locks.{LockArgsItem, NewLockerItem}
use Rattle.xl_nfs.specs.declared.basics.Stateid.{Stateid}
use Rattle.xl_nfs.specs.declared.status.NfsStatus.{NfsStatus}
use Rattle.xl_nfs_state.specs.Rows.{with_standing}
use Rattle.xl_nfs_state.specs.State.{NfsLists, is_client, is_kept, is_open, is_owner, is_stateid, is_under, is_whose, next_owner, owned_on}
use Rattle.xl_nfs_state.specs.Verdict.{next_seqid, verdict}
use Rattle.xl_nfs_state.specs.declared.kept.KeptRow.{KeptRow}
use Rattle.xl_nfs_state.specs.declared.owner.OwnerKind.TheVariants as kinds
use Rattle.xl_nfs_state.specs.declared.owner.OwnerRow.{OwnerRow}
use Rattle.xl_nfs_state.specs.declared.owner.SeqidState.{SeqidState}
use Rattle.xl_nfs_state.specs.declared.stateid.Holder.{Holder}
use Rattle.xl_nfs_state.specs.declared.stateid.Holder.TheVariants as holders
use Rattle.xl_nfs_state.specs.declared.stateid.Standing.{Standing}
use Rattle.xl_nfs_state.specs.declared.stateid.StateidRow.{StateidRow}
use Rattle.xl_nfs_state.specs.declared.stateid.Whose.TheVariants as whose
use Rattle.xl_core.proofs.DeedLeaves.{found_in}
use Rattle.xl_core.specs.Decide.{ask}
use Rattle.xl_core.specs.Good.{IsGood}
use Rattle.xl_core.specs.Ids.{number_in}
use Rattle.xl_core.specs.State.{CoreState}
use Rattle.xl_core.specs.declared.ask.Answer.{Answer}
use Rattle.xl_nfs_locks.specs.FirstLocks as first
use Rattle.xl_nfs_locks.specs.Locks.{lock_end}
use Rattle.xl_nfs_locks.specs.Ranges.{last_byte, lock_ask}
use Rattle.xl_nfs_locks.specs.declared.joining.BothOwners.{BothOwners}
use Rattle.xl_nfs_locks.specs.declared.joining.Joined.{Joined}
use Rattle.xl_nfs_locks.specs.declared.joining.Joined.TheVariants.{Again, Bad, Joins}
use Rattle.xl_nfs_opens.specs.Closing.{checked, next_seqids, standing_fault, state_told}
use Rattle.xl_nfs_opens.specs.Opens.{all_rooms, client_in, is_granted, live, stood}
use Rattle.xl_nfs_opens.specs.Plans.{Outcome, carried}
use Rattle.xl_nfs_opens.specs.Renewing.{stateid_of}
use Rattle.xl_nfs_opens.specs.Results.{spelled}
use Rattle.xl_nfs_opens.specs.Seqids.{closed_gone, counted, is_opener, is_room_for, number_by, opener_number, remembered, seated, seated_by, seated_new, seqid_set}
use Rattle.xl_nfs_opens.specs.declared.opener.Checked.{Checked}
use Rattle.xl_nfs_opens.specs.declared.opener.Checked.TheVariants.{Passed, Refused, Repeated}
use Rattle.xl_nfs_opens.specs.declared.opener.Opener.{Opener}
use Rattle.xl_nfs_opens.specs.declared.told.Told.TheVariants.{State}
use Rattle.xl_nfs_laws.specs.AnsweredStateids.{AreLocksUnder, LockersCloseNothing}
use Rattle.xl_nfs_laws.specs.Delegated.{AreSet, is_open_still}
use Rattle.xl_nfs_laws.specs.DoneAsTold.{IsFirstTold}
use Rattle.xl_nfs_laws.specs.Orderly.{closes, IsHeldBy, IsOrderly, IsOwnedBy}
use Rattle.xl_nfs_laws.proofs.AnsweredLockLaws.{never_told}
use Rattle.xl_nfs_laws.proofs.AnsweredOpenLaws.{repeat_names, same_stateids, stays_named}
use Rattle.xl_nfs_laws.proofs.EnteredOpenLaws.{changed_found, kept_stateids}
use Rattle.xl_nfs_laws.proofs.FirstLockLaws.{IsOpener, client_there, counted_number, joins_same, locker_kind, new_behind, opener_is, owner_joins, ranged_new_locks, remembered_named, under_is}
use Rattle.xl_nfs_laws.proofs.KnownOpenLaws.{held_by, place_file}
use Rattle.xl_nfs_laws.proofs.ListOrderLaws.{closed_by, owned_by}
use Rattle.xl_nfs_laws.proofs.LockOrderLaws.{room_stays}
use Rattle.xl_nfs_laws.proofs.OpenCheckLaws.{passed_is}
use Rattle.xl_nfs_laws.proofs.OpenOrderLaws.{apart_found, counted_orderly, live_is, passes, rising_found, seat_is, stood_orderly}
use Rattle.xl_nfs_laws.proofs.OwnerStayLaws.{Calm, counted_moves}
use Rattle.xl_nfs_laws.proofs.StillDelegatedLaws.{owner_shut}

-- ---- what the lock owner has under the open

-- the lock owner is there, and has this stateid of locks on the open's file, under the open; it isn't closed
pub record IsMore (l : NfsLists) (r : StateidRow) (o : Opener) (q : StateidRow) : Type 0 where
  pub owner : OwnerRow
  pub named : find (is_opener o) l.owners ≡ Some owner
  pub placed : find (owned_on owner.number r.file) l.stateids ≡ Some q
  pub under : is_under r.number q.holder ≡ true
  pub live : q.standing.closed ≡ false

-- it is what a LOCK that joins by it has found
fits_joined : (r : StateidRow) (w : OwnerRow) (seqid : ℕ) (x : Option StateidRow) (q : StateidRow) → first.by_owner r w seqid x ≡ Joins (Some q) → x ≡ Some q → is_under r.number q.holder ≡ true
fits_joined r w seqid x q e is = by (first.fits_under r.number x) refl e
  where
    by : (b : Bool) → first.fits_under r.number x ≡ b → (if b then first.by_verdict w x (verdict (Some w.seqids) 12 seqid) else Bad) ≡ Joins (Some q) → is_under r.number q.holder ≡ true
    by true fits f = sym (ap (λ (y : Option StateidRow). first.fits_under r.number y) is) ∙ fits
    by false fits f = absurd cc

more_is : (l : NfsLists) (r : StateidRow) (o : Opener) (seqid : ℕ) (q : StateidRow) → first.found_joined l r o seqid ≡ Joins (Some q) → IsMore l r o q
unfolding first.found_joined
more_is l r o seqid q e = by (find (is_opener o) l.owners) refl e
  where
    by : (x : Option OwnerRow) → find (is_opener o) l.owners ≡ x → first.by_row l r seqid x ≡ Joins (Some q) → IsMore l r o q
    by None named f = absurd (true≢false (sym (ap is_some (joins_same None (Some q) f))))
    by (Some w) named f =
        let had : live (find (owned_on w.number r.file) l.stateids) ≡ Some q = sym (owner_joins r w seqid (live (find (owned_on w.number r.file) l.stateids)) (Some q) f) in
        let is = live_is (find (owned_on w.number r.file) l.stateids) q had in
        record { owner = w; named = named; placed = is.0; under = fits_joined r w seqid (live (find (owned_on w.number r.file) l.stateids)) q f had; live = is.1 }

-- what is under an open is of locks
lock_under : (m w : ℕ) (h : Holder) → is_under m h ≡ true → owned_by h ≡ Some w → (opener : ℕ) × (h ≡ holders.Lock w m opener)
lock_under m w (holders.Open by) e f = absurd (true≢false (sym e))
lock_under m w (holders.Delegation write) e f = absurd (true≢false (sym e))
lock_under m w (holders.Lock by under opener) e f = (opener, ap (λ (k : ℕ). holders.Lock k under opener) (same_Some by w f) ∙ ap (λ (k : ℕ). holders.Lock w k opener) (sym (eqb-true m under e)))

-- ---- it stays as both owners count

-- an owner that closed nothing counts, and what is there stays
seated_stays : (o : Opener) (seqids : SeqidState) (k : NfsLists) (y : StateidRow) → ((w : OwnerRow) → find (is_opener o) k.owners ≡ Some w → w.seqids.closed ≡ None) → find (is_stateid y.number) k.stateids ≡ Some y → find (is_stateid y.number) (seated o seqids k).stateids ≡ Some y
unfolding seated
seated_stays o seqids k y none found = by (find (is_opener o) k.owners) refl
  where
    new : (next : Option ℕ) → find (is_stateid y.number) (seated_new o seqids k next).stateids ≡ Some y
    new None = found
    new (Some number) = found

    by : (x : Option OwnerRow) → find (is_opener o) k.owners ≡ x → find (is_stateid y.number) (seated_by o seqids k x).stateids ≡ Some y
    by None e = new (next_owner k.owners)
    by (Some w) e = subst (λ (c : Option ℕ). find (is_stateid y.number) (closed_gone c (seqid_set w.number seqids k)).stateids ≡ Some y) (sym (none w e)) found

remembered_stays : (o : Opener) (seqids : SeqidState) (bytes : List ℕ) (k : NfsLists) (y : StateidRow) → ((w : OwnerRow) → find (is_opener o) k.owners ≡ Some w → w.seqids.closed ≡ None) → find (is_stateid y.number) k.stateids ≡ Some y → find (is_stateid y.number) (remembered o seqids bytes k).stateids ≡ Some y
unfolding remembered
remembered_stays o seqids bytes k y none found =
    elim (cases_Bool (is_room_for o k)) [
      | inl e ↦ rw e (ap (λ (ss : List StateidRow). find (is_stateid y.number) ss) (kept_stateids (opener_number o k) bytes (seated o seqids k)) ∙ seated_stays o seqids k y none found)
      | inr e ↦ rw e found
    ]

counted_stays : (owner : ℕ) (closed : Option ℕ) (seqids : SeqidState) (bytes : List ℕ) (l : NfsLists) (y : StateidRow) → find (is_stateid y.number) l.stateids ≡ Some y → ((m : ℕ) → closed ≡ Some m → is_whose (whose.Stateid m) y ≡ false) → find (is_stateid y.number) (counted owner closed seqids bytes l).stateids ≡ Some y
unfolding counted
counted_stays owner closed seqids bytes l y found stays =
    ap (λ (ss : List StateidRow). find (is_stateid y.number) ss) (kept_stateids owner bytes (closed_gone closed (seqid_set owner seqids l))) ∙ stays_named closed (seqid_set owner seqids l) y found stays

-- who closed nothing is a lock owner
none_closed : (k : NfsLists) (o : Opener) (w : OwnerRow) → o.kind ≡ kinds.Lock → Calm k.owners → find (is_opener o) k.owners ≡ Some w → w.seqids.closed ≡ None
none_closed k o w kind quiet named =
    let there = found_in (is_opener o) k.owners w named in
    all_in (λ (y : OwnerRow). y.name.kind ≡ kinds.Lock → y.seqids.closed ≡ None) w k.owners quiet there.0 (locker_kind o w kind there.1)

module _ (l : NfsLists) (last : ℕ) (b : BothOwners) (o : Opener) (r q : StateidRow) (orderly : IsOrderly l) (calm : LockersCloseNothing l) (set : AreSet last l) (is : IsOpener l b r) (own : o.client ≡ r.client) (kind : o.kind ≡ kinds.Lock) (more : IsMore l r o q) where
  there : find (is_stateid q.number) l.stateids ≡ Some q
  there = apart_found (owned_on more.owner.number r.file) l.stateids q orderly.apart more.placed

  mine : owned_by q.holder ≡ Some more.owner.number
  mine = held_by more.owner.number r.file q.client q.file q.holder (found_in (owned_on more.owner.number r.file) l.stateids q more.placed).1

  holds : (opener : ℕ) × (q.holder ≡ holders.Lock more.owner.number r.number opener)
  holds = lock_under r.number more.owner.number q.holder more.under mine

  here : IsIn q l.stateids
  here = (found_in (is_stateid q.number) l.stateids q there).0

  -- the open's owner didn't close the open
  other : (m : ℕ) → b.seqids.closed ≡ Some m → (m == r.number) ≡ false
  other m e =
      let held : IsHeldBy l.owners r r.holder = all_in (λ z. IsHeldBy l.owners z z.holder) r l.stateids orderly.held (found_in (is_stateid r.number) l.stateids r is.found).0 in
      let shut : r.standing.closed ≡ closes is.row.seqids.closed r.number = closed_by l.owners r r.holder b.number is.row (ap owned_by is.holder) is.owner held in
      sym (shut ∙ ap (λ (c : Option ℕ). closes c r.number) (sym (ap (λ (t : SeqidState). t.closed) is.seqids_is) ∙ e)) ∙ is.live

  -- nor these locks, as it closes opens alone
  apart : (m : ℕ) → b.seqids.closed ≡ Some m → (m == q.number) ≡ false
  apart m e =
      let shut = owner_shut last l (is_owner b.number) is.row is.owner set in
      let still : is_open_still (Some m) q ≡ true = subst (λ (c : Option ℕ). is_open_still c q ≡ true) (sym (ap (λ (t : SeqidState). t.closed) is.seqids_is) ∙ e) (all_in (λ (z : StateidRow). is_open_still is.row.seqids.closed z ≡ true) q l.stateids shut.other here) in
      let lock : is_open q.holder ≡ false = ap is_open holds.1 in
      elim (cases_Bool (m == q.number)) [
        | inl same ↦ (let no : false ≡ true = rw lock at (rw same at still) in absurd (true≢false (sym no)))
        | inr differs ↦ differs
      ]

  whose_not : (m : ℕ) → b.seqids.closed ≡ Some m → is_whose (whose.Stateid m) q ≡ false
  whose_not m e = rw (apart m e) (ap (is_under m) holds.1 ∙ other m e)

  client_is : q.client ≡ r.client
  client_is =
      let held : IsHeldBy l.owners q q.holder = all_in (λ z. IsHeldBy l.owners z z.holder) q l.stateids orderly.held here in
      let owned : IsOwnedBy q kinds.Lock (find (is_owner more.owner.number) l.owners) = subst (λ (h : Holder). IsHeldBy l.owners q h) holds.1 held in
      let theirs : IsOwnedBy q kinds.Lock (Some more.owner) = subst (λ (x : Option OwnerRow). IsOwnedBy q kinds.Lock x) (rising_found (is_opener o) l.owners more.owner orderly.rising more.named) owned in
      sym theirs.0 ∙ sym (eqb-true o.client more.owner.name.client (and_parts (o.client == more.owner.name.client) _ (passes (is_opener o) l.owners more.owner more.named)).0) ∙ own

  granted_more_locks : (n : ℕ) (t : CoreState) (current : Option ℕ) (told : Stateid) → is_room_for o l ≡ true → (carried n t l (first.joined_more t l current b o q)).0 ≡ State told → AreLocksUnder r o told (carried n t l (first.joined_more t l current b o q))
  granted_more_locks n t current told room said =
      let bytes = spelled 12 (state_told t q) in
      let to : Standing = record { seqid = next_seqid q.standing.seqid; access = 0; deny = 0; closed = false } in
      let after : NfsLists = stood q.number q 0 0 false l in
      let next = next_seqids 12 b.open_seqid b.seqids.confirmed None in
      let k : NfsLists = first.counted_open b bytes after in
      let quiet : Calm k.owners = (counted_moves b.number b.seqids.closed next bytes after (λ row at kind. refl)).1 calm in
      let room_then : is_room_for o k ≡ true = room_stays o b.number b.seqids.closed next bytes after room in
      let well : IsOrderly k = counted_orderly after b.number is.row b.seqids.closed next bytes is.owner (ap (λ (v : SeqidState). v.closed) is.seqids_is) refl (stood_orderly l q 0 0 there more.live orderly) in
      let seat = seat_is o (next_seqids 12 b.lock_seqid true None) k well.rising room_then in
      let number : seat.row.number ≡ more.owner.number = seat.number ∙ counted_number o b.number b.seqids.closed next bytes after ∙ ap (λ (x : Option OwnerRow). number_by x (next_owner l.owners)) more.named in
      record {
        row = with_standing to q;
        owner = seat.row;
        opener = holds.0;
        found = remembered_stays o (next_seqids 12 b.lock_seqid true None) bytes k (with_standing to q) (λ w named. none_closed k o w kind quiet named) (counted_stays b.number b.seqids.closed next bytes after (with_standing to q) (changed_found q.number to l.stateids q there) whose_not);
        told_is = sym (same_stateids (stateid_of t q.number (next_seqid q.standing.seqid)) told said);
        client = client_is;
        file = sym (place_file more.owner.number r.file q (found_in (owned_on more.owner.number r.file) l.stateids q more.placed).1);
        its = remembered_named o (next_seqids 12 b.lock_seqid true None) bytes k seat room_then;
        holder = holds.1 ∙ ap (λ (m : ℕ). holders.Lock m r.number holds.0) (sym number);
        live = refl;
      }

  answered_more_locks : (n : ℕ) (t : CoreState) (current : Option ℕ) (told : Stateid) (reclaim : Bool) (answer : Answer) → is_room_for o l ≡ true → (carried n t l (first.join_answered l current b o r (Some q) reclaim answer t)).0 ≡ State told → AreLocksUnder r o told (carried n t l (first.join_answered l current b o r (Some q) reclaim answer t))
  answered_more_locks n t current told reclaim answer room =
      elim (cases_Bool (is_granted answer)) [
        | inl e ↦ rw e (granted_more_locks n t current told room)
        | inr e ↦ rw e (λ said. absurd (never_told t l reclaim answer told said))
      ]

  pub ranged_more_locks : (n : ℕ) (s : CoreState) (current : Option ℕ) (told : Stateid) (a : LockArgsItem) (end : Result ℕ NfsStatus) → (carried n s l (first.join_to l current a b o r (Some q) end)).0 ≡ State told → AreLocksUnder r o told (carried n s l (first.join_to l current a b o r (Some q) end))
  ranged_more_locks n s current told a (Err status) = λ said. absurd cc
  ranged_more_locks n s current told a (Ok end) =
      let z = ask n all_rooms s (lock_ask o r.file a.kind a.reclaim a.offset end) in
      elim (cases_Bool (is_room_for o l)) [
        | inl e ↦ rw e (λ said. new_behind r o told z.1 (carried n z.2 l (first.join_answered l current b o r (Some q) a.reclaim z.0 z.2)) (answered_more_locks n z.2 current told a.reclaim z.0 e said))
        | inr e ↦ rw e (λ said. absurd cc)
      ]

-- ---- a LOCK under an open that is told a stateid

module _ (n : ℕ) (s : CoreState) (l : NfsLists) (current : Option ℕ) (a : LockArgsItem) (x : NewLockerItem) (told : Stateid) where
  -- it passed, its lock owner is of the open's client, and joins
  pub first_walk : (P : Outcome → Type 0)
      → ((r : StateidRow) (owner : ℕ) (seqids : SeqidState) (o : Opener) (q : Option StateidRow) → checked s l current 12 x.open_seqid x.open_stateid ≡ Passed r owner seqids → first.locker_under r x.owner.owner (client_in s l x.owner.clientid) ≡ Some o → first.found_joined l r o x.lock_seqid ≡ Joins q
      → (carried n s l (first.join_in l current a (first.both_of x owner seqids) o r q)).0 ≡ State told → P (carried n s l (first.join_in l current a (first.both_of x owner seqids) o r q)))
      → (c : Checked) → checked s l current 12 x.open_seqid x.open_stateid ≡ c → (carried n s l (first.join_checked s l current a x c)).0 ≡ State told → P (carried n s l (first.join_checked s l current a x c))
  first_walk P goes (Refused status) e said = absurd cc
  first_walk P goes (Repeated owner) e said = repeat_names n s l current told (find (is_kept owner) l.kept) said
  first_walk P goes (Passed r owner seqids) e said = standing (standing_fault r seqids x.open_stateid.seqid true) said
    where
      b : BothOwners
      b = first.both_of x owner seqids

      joined : (o : Opener) (j : Joined) → first.locker_under r x.owner.owner (client_in s l x.owner.clientid) ≡ Some o → first.found_joined l r o x.lock_seqid ≡ j → (carried n s l (first.join_as l current a b o r j)).0 ≡ State told → P (carried n s l (first.join_as l current a b o r j))
      joined o Bad under is f = absurd cc
      joined o (Again number) under is f = absurd (again (find (is_kept number) l.kept) f)
        where
          again : (k : Option KeptRow) → (carried n s l (first.join_again l current b k)).0 ≡ State told → ⊥
          again None g = absurd cc
          again (Some k) g = absurd cc
      joined o (Joins q) under is f = goes r owner seqids o q e under is f

      of : (m : Option Opener) → first.locker_under r x.owner.owner (client_in s l x.owner.clientid) ≡ m → (carried n s l (first.join_of l current a x b r m)).0 ≡ State told → P (carried n s l (first.join_of l current a x b r m))
      of None under f = absurd cc
      of (Some o) under f = joined o (first.found_joined l r o x.lock_seqid) under refl f

      standing : (fault : Option NfsStatus) → (carried n s l (first.join_standing s l current a x b r fault)).0 ≡ State told → P (carried n s l (first.join_standing s l current a x b r fault))
      standing (Some status) f = absurd cc
      standing None f = of (first.locker_under r x.owner.owner (client_in s l x.owner.clientid)) refl f

  -- the locks are there under the open
  pub first_locks : IsGood s → IsOrderly l → LockersCloseNothing l → AreSet s.counter l → (r : StateidRow) (owner : ℕ) (seqids : SeqidState) (o : Opener) (q : Option StateidRow) → checked s l current 12 x.open_seqid x.open_stateid ≡ Passed r owner seqids → first.locker_under r x.owner.owner (client_in s l x.owner.clientid) ≡ Some o → first.found_joined l r o x.lock_seqid ≡ Joins q
      → (carried n s l (first.join_in l current a (first.both_of x owner seqids) o r q)).0 ≡ State told → AreLocksUnder r o told (carried n s l (first.join_in l current a (first.both_of x owner seqids) o r q))
  first_locks good orderly calm set r owner seqids o q passed under joined said =
      let its = under_is r x.owner.owner (client_in s l x.owner.clientid) o under in
      let own : o.client ≡ r.client = ap (λ (y : Opener). y.client) its.3 ∙ its.2 in
      let kind : o.kind ≡ kinds.Lock = ap (λ (y : Opener). y.kind) its.3 in
      let client : is_some (find (is_client r.client true) l.clients) ≡ true = subst (λ (m : ℕ). is_some (find (is_client m true) l.clients) ≡ true) its.2 (client_there l (number_in s x.owner.clientid) its.0 its.1) in
      by own kind client q joined said
    where
      is : IsOpener l (first.both_of x owner seqids) r
      is = opener_is s l current x r owner seqids passed

      by : o.client ≡ r.client → o.kind ≡ kinds.Lock → is_some (find (is_client r.client true) l.clients) ≡ true → (j : Option StateidRow) → first.found_joined l r o x.lock_seqid ≡ Joins j → (carried n s l (first.join_in l current a (first.both_of x owner seqids) o r j)).0 ≡ State told → AreLocksUnder r o told (carried n s l (first.join_in l current a (first.both_of x owner seqids) o r j))
      by own kind client None e f = ranged_new_locks n l current (first.both_of x owner seqids) o r x.lock_seqid told orderly calm is own kind client e s a (lock_end a.kind r.standing.access (last_byte a.offset a.len)) good set.given f
      by own kind client (Some j) e f = ranged_more_locks l s.counter (first.both_of x owner seqids) o r j orderly calm set is own kind (more_is l r o x.lock_seqid j e) n s current told a (lock_end a.kind r.standing.access (last_byte a.offset a.len)) f

  pub first_named : IsGood s → IsOrderly l → LockersCloseNothing l → AreSet s.counter l → (r : StateidRow) (owner : ℕ) (seqids : SeqidState) (o : Opener) (q : Option StateidRow) → checked s l current 12 x.open_seqid x.open_stateid ≡ Passed r owner seqids → first.locker_under r x.owner.owner (client_in s l x.owner.clientid) ≡ Some o → first.found_joined l r o x.lock_seqid ≡ Joins q
      → (carried n s l (first.join_in l current a (first.both_of x owner seqids) o r q)).0 ≡ State told → IsFirstTold s l x told (carried n s l (first.join_in l current a (first.both_of x owner seqids) o r q))
  first_named good orderly calm set r owner seqids o q passed under joined said =
      let is = passed_is s l current 12 x.open_seqid x.open_stateid r owner seqids passed in
      let its = under_is r x.owner.owner (client_in s l x.owner.clientid) o under in
      record {
        opened = r;
        client = its.0;
        named = record { number = is.opened.number; found = is.opened.found };
        client_is = its.1;
        own = its.2;
        locks = subst (λ (p : Opener). AreLocksUnder r p told (carried n s l (first.join_in l current a (first.both_of x owner seqids) o r q))) its.3 (first_locks good orderly calm set r owner seqids o q passed under joined said);
      }
