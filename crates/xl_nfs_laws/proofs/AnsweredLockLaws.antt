-- The stateid that a LOCK by a lock's stateid, or a LOCKU, is answered is that of these locks as it stands then; and when a
-- range or a type of lock is refused.
use Rattle.std.proofs.Common.{◌≡◌, ℕ, ◌+◌, Bool, true, false, List, Option, Some, None, Result, Ok, Err, is_some, refl, sym, ap, subst, ◌∙◌, inl, inr, true≢false}
use Rattle.std.proofs.lemmas.Bool.{cases_Bool}
use Rattle.std.specs.List.{find}
use Rattle.std.specs.Prelude.{IfSome}
use Rattle.xl_base.proofs.Members.{all_in}
use Rattle.xl_base.proofs.Searches.{find_in}
use Rattle.xl_base.specs.Lists.{IsIn}
use Rattle.xl_nfs.specs.Locks.{LockArgsItem}
use Rattle.xl_nfs.specs.Outcomes.{is_ok}
use Rattle.xl_nfs.specs.declared.basics.Stateid.{Stateid}
use Rattle.xl_nfs.specs.declared.locks.KnownLocker.{KnownLocker}
use Rattle.xl_nfs.specs.declared.locks.UnlockArgs.{UnlockArgs}
use Rattle.xl_nfs.specs.declared.status.NfsStatus.{NfsStatus}
use Rattle.xl_nfs_state.specs.Rows.{with_standing}
use Rattle.xl_nfs_state.specs.State.{NfsLists, is_kept, is_owner, is_stateid, is_whose, without}
use Rattle.xl_nfs_state.specs.Verdict.{next_seqid}
use Rattle.xl_nfs_state.specs.declared.owner.OwnerKind.TheVariants as kinds
use Rattle.xl_nfs_state.specs.declared.owner.OwnerRow.{OwnerRow}
use Rattle.xl_nfs_state.specs.declared.owner.SeqidState.{SeqidState}
use Rattle.xl_nfs_state.specs.declared.stateid.Holder.{Holder}
use Rattle.xl_nfs_state.specs.declared.stateid.StateidRow.{StateidRow}
use Rattle.xl_nfs_state.specs.declared.stateid.Whose.TheVariants as whose
use Rattle.xl_core.specs.Decide.{ask}
use Rattle.xl_core.specs.State.{CoreState}
use Rattle.xl_core.specs.declared.ask.Answer.{Answer}
use Rattle.xl_core.specs.declared.ask.Answer.TheVariants as answers
use Rattle.xl_core.specs.declared.ask.Effect.{Effect}
use Rattle.xl_nfs_locks.specs.Checks.{locks_found}
use Rattle.xl_nfs_locks.specs.Denials.{lock_told}
use Rattle.xl_nfs_locks.specs.FirstLocks.{entered, joined_new}
use Rattle.xl_nfs_locks.specs.declared.joining.BothOwners.{BothOwners}
use Rattle.xl_nfs_opens.proofs.OwnerLaws.{number_gone}
use Rattle.xl_nfs_locks.specs.Locks.{access_above, lock_answered, lock_by_owner, lock_end, lock_found, lock_standing, lock_to}
use Rattle.xl_nfs_locks.specs.Ranges.{last_byte, lock_ask}
use Rattle.xl_nfs_locks.specs.Unlocks.{unlock_by_owner, unlock_found, unlock_standing, unlock_status, unlock_to, unlocked_as}
use Rattle.xl_nfs_opens.specs.Asks.{unlock_ask}
use Rattle.xl_nfs_opens.specs.Closing.{opener_by, standing_fault}
use Rattle.xl_nfs_opens.specs.Opens.{all_rooms, is_granted}
use Rattle.xl_nfs_opens.specs.Plans.{Outcome, carried, told_behind}
use Rattle.xl_nfs_opens.specs.Renewing.{stateid_of}
use Rattle.xl_nfs_opens.specs.declared.opener.Checked.{Checked}
use Rattle.xl_nfs_opens.specs.declared.opener.Checked.TheVariants.{Passed, Refused, Repeated}
use Rattle.xl_nfs_opens.specs.declared.opener.Opener.{Opener}
use Rattle.xl_nfs_opens.specs.declared.told.Told.TheVariants.{State}
use Rattle.xl_nfs_laws.specs.AnsweredStateids.{IsAnswered, LockersCloseNothing, can_join, counted_new, new_locks}
use Rattle.xl_nfs_laws.specs.LockStateids.{IsNextOn}
use Rattle.xl_nfs_laws.specs.Orderly.{IsHeldBy, IsOrderly, IsOwnedBy}
use Rattle.xl_nfs_laws.proofs.AnsweredOpenLaws.{done_stands, repeat_names, same_stateids}
use Rattle.xl_nfs_laws.proofs.EnteredOpenLaws.{found_behind}
use Rattle.xl_nfs_laws.proofs.LockStateidLaws.{passed_next}
use Rattle.xl_nfs_laws.proofs.OpenStateidLaws.{stands_exactly}

-- ---- what is answered

answered_behind : (s : CoreState) (l : NfsLists) (asked told : Stateid) (closed : Bool) (effects : List Effect) (done : Outcome) → IsAnswered s l asked told closed done → IsAnswered s l asked told closed (told_behind effects done)
answered_behind s l asked told closed effects done is = record { was = is.was; row = is.row; named = is.named; found = is.found; seqid = is.seqid; stands = is.stands; told_is = is.told_is; advanced = is.advanced; holder = is.holder; client = is.client; file = is.file; closed_is = is.closed_is }

-- what a lock owner's last request closed is nothing
locks_stay : (s : CoreState) (l : NfsLists) (current : Option ℕ) (seqid : ℕ) (stateid : Stateid) (r : StateidRow) (w : ℕ) (seqids : SeqidState) → IsOrderly l → LockersCloseNothing l → IsNextOn s l current seqid stateid r w seqids → (m : ℕ) → seqids.closed ≡ Some m → is_whose (whose.Stateid m) r ≡ false
locks_stay s l current seqid stateid r w seqids orderly calm is m e =
    let there = subst (λ (o : Option StateidRow). IfSome o (λ y. IsIn y l.stateids × (is_stateid r.number y ≡ true))) is.locks.found (find_in (is_stateid r.number) l.stateids) in
    let held : IsHeldBy l.owners r r.holder = all_in (λ z. IsHeldBy l.owners z z.holder) r l.stateids orderly.held there.0 in
    let owned : IsOwnedBy r kinds.Lock (Some is.row) = subst (λ (o : Option OwnerRow). IsOwnedBy r kinds.Lock o) is.locks.owner (subst (λ (h : Holder). IsHeldBy l.owners r h) is.locks.holder held) in
    let here = subst (λ (o : Option OwnerRow). IfSome o (λ y. IsIn y l.owners × (is_owner w y ≡ true))) is.locks.owner (find_in (is_owner w) l.owners) in
    let none : is.row.seqids.closed ≡ None = all_in (λ (o : OwnerRow). o.name.kind ≡ kinds.Lock → o.seqids.closed ≡ None) is.row l.owners calm here.0 owned.1 in
    absurd (true≢false (ap is_some (sym e ∙ ap (λ (t : SeqidState). t.closed) is.seqids_is ∙ none)))

-- a lock that isn't granted is told no stateid
pub never_told : (t : CoreState) (l : NfsLists) (reclaim : Bool) (answer : Answer) (told : Stateid) → lock_told t l reclaim answer ≡ State told → ⊥
never_told t l true (answers.Conflict c) told d = cc
never_told t l false (answers.Conflict c) told d = cc
never_told t l b (answers.Granted c) told d = cc
never_told t l b (answers.Queued id) told d = cc
never_told t l b (answers.Recall c) told d = cc
never_told t l b (answers.Grace until) told d = cc
never_told t l b (answers.NoGrace clock) told d = cc
never_told t l b answers.NotRecorded told d = cc
never_told t l b (answers.Full limit) told d = cc
never_told t l b answers.NotHeld told d = cc
never_told t l b answers.StoreFailed told d = cc

-- ---- LOCK by a lock's stateid

module _ (n : ℕ) (s : CoreState) (l : NfsLists) (current : Option ℕ) (a : LockArgsItem) (x : KnownLocker) (told : Stateid) (orderly : IsOrderly l) (calm : LockersCloseNothing l) where
  lock_answers : (t : CoreState) (answer : Answer) (r : StateidRow) (w : ℕ) (seqids : SeqidState) → x.stateid.seqid ≡ r.standing.seqid → IsNextOn s l current x.seqid x.stateid r w seqids → (carried n t l (lock_answered l current r w seqids x.seqid a.reclaim answer t)).0 ≡ State told → IsAnswered s l x.stateid told false (carried n t l (lock_answered l current r w seqids x.seqid a.reclaim answer t))
  lock_answers t answer r w seqids own is =
      elim (cases_Bool (is_granted answer)) [
        | inl e ↦ rw e (λ said. record {
          was = r;
          row = with_standing (record { seqid = next_seqid r.standing.seqid; access = 0; deny = 0; closed = false }) r;
          named = is.locks.number;
          found = is.locks.found;
          seqid = own;
          stands = done_stands t l r w seqids 12 x.seqid seqids.confirmed None 0 0 false is.locks.found (locks_stay s l current x.seqid x.stateid r w seqids orderly calm is);
          told_is = sym (same_stateids (stateid_of t r.number (next_seqid r.standing.seqid)) told said);
          advanced = refl;
          holder = refl;
          client = refl;
          file = refl;
          closed_is = refl;
        })
        | inr e ↦ rw e (λ said. absurd (never_told t l a.reclaim answer told said))
      ]

  lock_owned : (r : StateidRow) (w last : ℕ) (seqids : SeqidState) (o : Option Opener) → x.stateid.seqid ≡ r.standing.seqid → IsNextOn s l current x.seqid x.stateid r w seqids → (carried n s l (lock_by_owner l current a r w seqids x.seqid last o)).0 ≡ State told → IsAnswered s l x.stateid told false (carried n s l (lock_by_owner l current a r w seqids x.seqid last o))
  lock_owned r w last seqids None own is said = absurd cc
  lock_owned r w last seqids (Some o) own is said =
      let z = ask n all_rooms s (lock_ask o r.file a.kind a.reclaim a.offset last) in
      answered_behind s l x.stateid told false z.1 (carried n z.2 l (lock_answered l current r w seqids x.seqid a.reclaim z.0 z.2)) (lock_answers z.2 z.0 r w seqids own is said)

  lock_ranged : (r : StateidRow) (w : ℕ) (seqids : SeqidState) (last : Result ℕ NfsStatus) → x.stateid.seqid ≡ r.standing.seqid → IsNextOn s l current x.seqid x.stateid r w seqids → (carried n s l (lock_to l current a r w seqids x.seqid last)).0 ≡ State told → IsAnswered s l x.stateid told false (carried n s l (lock_to l current a r w seqids x.seqid last))
  lock_ranged r w seqids (Err status) own is said = absurd cc
  lock_ranged r w seqids (Ok last) own is said = lock_owned r w last seqids (opener_by l r.client w) own is said

  lock_passed : (r : StateidRow) (w : ℕ) (seqids : SeqidState) (fault : Option NfsStatus) → standing_fault r seqids x.stateid.seqid true ≡ fault → IsNextOn s l current x.seqid x.stateid r w seqids → (carried n s l (lock_standing l current a r w seqids x.seqid fault)).0 ≡ State told → IsAnswered s l x.stateid told false (carried n s l (lock_standing l current a r w seqids x.seqid fault))
  lock_passed r w seqids (Some status) e is said = absurd cc
  lock_passed r w seqids None e is said = lock_ranged r w seqids (lock_end a.kind (access_above l r.holder) (last_byte a.offset a.len)) ((stands_exactly r seqids x.stateid.seqid true).0 e).0 is said

  lock_checked : (c : Checked) → locks_found s l current 12 x.seqid x.stateid ≡ c → (carried n s l (lock_found s l current a x c)).0 ≡ State told → IsAnswered s l x.stateid told false (carried n s l (lock_found s l current a x c))
  lock_checked (Refused status) e said = absurd cc
  lock_checked (Repeated owner) e said = repeat_names n s l current told (find (is_kept owner) l.kept) said
  lock_checked (Passed r w seqids) e said = lock_passed r w seqids (standing_fault r seqids x.stateid.seqid true) refl (passed_next s l current 12 x.seqid x.stateid r w seqids e) said

pub lock_names : (n : ℕ) (s : CoreState) (l : NfsLists) (current : Option ℕ) (a : LockArgsItem) (x : KnownLocker) (told : Stateid) → IsOrderly l → LockersCloseNothing l → (carried n s l (lock_found s l current a x (locks_found s l current 12 x.seqid x.stateid))).0 ≡ State told → IsAnswered s l x.stateid told false (carried n s l (lock_found s l current a x (locks_found s l current 12 x.seqid x.stateid)))
lock_names n s l current a x told orderly calm = lock_checked n s l current a x told orderly calm (locks_found s l current 12 x.seqid x.stateid) refl

-- ---- LOCKU

module _ (n : ℕ) (s : CoreState) (l : NfsLists) (current : Option ℕ) (a : UnlockArgs) (told : Stateid) (orderly : IsOrderly l) (calm : LockersCloseNothing l) where
  unlock_answers : (t : CoreState) (status : NfsStatus) (r : StateidRow) (w : ℕ) (seqids : SeqidState) → a.stateid.seqid ≡ r.standing.seqid → IsNextOn s l current a.seqid a.stateid r w seqids → (carried n t l (unlocked_as t l current a r w seqids status)).0 ≡ State told → IsAnswered s l a.stateid told false (carried n t l (unlocked_as t l current a r w seqids status))
  unlock_answers t status r w seqids own is =
      elim (cases_Bool (is_ok status)) [
        | inl e ↦ rw e (λ said. record {
          was = r;
          row = with_standing (record { seqid = next_seqid r.standing.seqid; access = 0; deny = 0; closed = false }) r;
          named = is.locks.number;
          found = is.locks.found;
          seqid = own;
          stands = done_stands t l r w seqids 14 a.seqid seqids.confirmed None 0 0 false is.locks.found (locks_stay s l current a.seqid a.stateid r w seqids orderly calm is);
          told_is = sym (same_stateids (stateid_of t r.number (next_seqid r.standing.seqid)) told said);
          advanced = refl;
          holder = refl;
          client = refl;
          file = refl;
          closed_is = refl;
        })
        | inr e ↦ rw e (λ said. absurd cc)
      ]

  unlock_owned : (r : StateidRow) (w last : ℕ) (seqids : SeqidState) (o : Option Opener) → a.stateid.seqid ≡ r.standing.seqid → IsNextOn s l current a.seqid a.stateid r w seqids → (carried n s l (unlock_by_owner l current a r w seqids last o)).0 ≡ State told → IsAnswered s l a.stateid told false (carried n s l (unlock_by_owner l current a r w seqids last o))
  unlock_owned r w last seqids None own is said = absurd cc
  unlock_owned r w last seqids (Some o) own is said =
      let z = ask n all_rooms s (unlock_ask o r.file a.offset last) in
      answered_behind s l a.stateid told false z.1 (carried n z.2 l (unlocked_as z.2 l current a r w seqids (unlock_status z.0))) (unlock_answers z.2 (unlock_status z.0) r w seqids own is said)

  unlock_ranged : (r : StateidRow) (w : ℕ) (seqids : SeqidState) (last : Option ℕ) → a.stateid.seqid ≡ r.standing.seqid → IsNextOn s l current a.seqid a.stateid r w seqids → (carried n s l (unlock_to l current a r w seqids last)).0 ≡ State told → IsAnswered s l a.stateid told false (carried n s l (unlock_to l current a r w seqids last))
  unlock_ranged r w seqids None own is said = absurd cc
  unlock_ranged r w seqids (Some last) own is said = unlock_owned r w last seqids (opener_by l r.client w) own is said

  unlock_passed : (r : StateidRow) (w : ℕ) (seqids : SeqidState) (fault : Option NfsStatus) → standing_fault r seqids a.stateid.seqid true ≡ fault → IsNextOn s l current a.seqid a.stateid r w seqids → (carried n s l (unlock_standing l current a r w seqids fault)).0 ≡ State told → IsAnswered s l a.stateid told false (carried n s l (unlock_standing l current a r w seqids fault))
  unlock_passed r w seqids (Some status) e is said = absurd cc
  unlock_passed r w seqids None e is said = unlock_ranged r w seqids (last_byte a.offset a.len) ((stands_exactly r seqids a.stateid.seqid true).0 e).0 is said

  unlock_checked : (c : Checked) → locks_found s l current 14 a.seqid a.stateid ≡ c → (carried n s l (unlock_found s l current a c)).0 ≡ State told → IsAnswered s l a.stateid told false (carried n s l (unlock_found s l current a c))
  unlock_checked (Refused status) e said = absurd cc
  unlock_checked (Repeated owner) e said = repeat_names n s l current told (find (is_kept owner) l.kept) said
  unlock_checked (Passed r w seqids) e said = unlock_passed r w seqids (standing_fault r seqids a.stateid.seqid true) refl (passed_next s l current 14 a.seqid a.stateid r w seqids e) said

pub unlock_names : (n : ℕ) (s : CoreState) (l : NfsLists) (current : Option ℕ) (a : UnlockArgs) (told : Stateid) → IsOrderly l → LockersCloseNothing l → (carried n s l (unlock_found s l current a (locks_found s l current 14 a.seqid a.stateid))).0 ≡ State told → IsAnswered s l a.stateid told false (carried n s l (unlock_found s l current a (locks_found s l current 14 a.seqid a.stateid)))
unlock_names n s l current a told orderly calm = unlock_checked n s l current a told orderly calm (locks_found s l current 14 a.seqid a.stateid) refl

-- ---- LOCK under an open, by an owner without a stateid there

pub first_stands : (n : ℕ) (s : CoreState) (l : NfsLists) (current : Option ℕ) (b : BothOwners) (o : Opener) (r : StateidRow) → can_join s l b o r ≡ true → find (is_stateid (s.counter + 1)) (carried n s l (joined_new s l current b o r)).3.stateids ≡ Some (new_locks s l b o r)
unfolding entered
first_stands n s l current b o r room = rw room (found_behind (new_locks s l b o r) (without (is_whose (whose.Stateid (s.counter + 1))) (counted_new s l b o).stateids) (number_gone (s.counter + 1) (counted_new s l b o).stateids))

pub first_told : (n : ℕ) (s : CoreState) (l : NfsLists) (current : Option ℕ) (b : BothOwners) (o : Opener) (r : StateidRow) → (carried n s l (joined_new s l current b o r)).0 ≡ State (stateid_of (carried n s l (joined_new s l current b o r)).4 (s.counter + 1) 1)
first_told n s l current b o r = refl
