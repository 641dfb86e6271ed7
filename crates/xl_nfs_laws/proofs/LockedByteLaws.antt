-- What a LOCK, a LOCKT and a LOCKU leave and tell.
use Rattle.std.proofs.Common.{◌≡◌, ℕ, ◌≤◌, Bool, true, false, List, Option, Some, None, Ok, refl, sym, ap, subst, ◌∙◌, inl, inr, true≢false}
use Rattle.std.proofs.lemmas.Bool.{cases_Bool}
use Rattle.std.specs.Prelude.{◌&&◌, if◌then◌else◌}
use Rattle.xl_base.specs.declared.name.Owner.{Owner}
use Rattle.xl_base.specs.declared.stable.Recorded.{Recorded}
use Rattle.xl_matrix.specs.Owners.{posix}
use Rattle.xl_matrix.specs.declared.claim.Claim.{Claim}
use Rattle.xl_matrix.specs.declared.claim.Extent.TheVariants.{Bytes}
use Rattle.xl_matrix.specs.declared.claim.What.{What}
use Rattle.xl_matrix.specs.declared.claim.What.TheVariants as whats
use Rattle.xl_nfs.specs.Locks.{LockArgsItem}
use Rattle.xl_nfs.specs.Outcomes.{is_ok}
use Rattle.xl_nfs.specs.declared.basics.LockType.{LockType}
use Rattle.xl_nfs.specs.declared.status.NfsStatus.TheVariants as statuses
use Rattle.xl_nfs_state.specs.State.{NfsLists}
use Rattle.xl_nfs_state.specs.declared.owner.SeqidState.{SeqidState}
use Rattle.xl_nfs_state.specs.declared.stateid.StateidRow.{StateidRow}
use Rattle.xl_spans.specs.Spans.{within}
use Rattle.xl_table.proofs.WriteBack.{is_of-true}
use Rattle.xl_table.specs.Held.{is_of}
use Rattle.xl_core.proofs.WayAsks.{ask_due, ask_own}
use Rattle.xl_core.proofs.WayDeeds.{then_else}
use Rattle.xl_core.proofs.DeedLaws.{deed_makes}
use Rattle.xl_core.specs.Causes.{name_asked, noted_by}
use Rattle.xl_core.specs.Decide.{ask}
use Rattle.xl_core.specs.Deeds.{Asks}
use Rattle.xl_core.specs.Good.{IsGood}
use Rattle.xl_core.specs.Places.{ByteOf, held_at, entered_at, answered_at, else_was}
use Rattle.xl_core.specs.State.{CoreState, drawn}
use Rattle.xl_core.specs.Stores.{may_record, unstored}
use Rattle.xl_core.specs.declared.ask.Answer.{Answer}
use Rattle.xl_core.specs.declared.ask.Answer.TheVariants as answers
use Rattle.xl_core.specs.declared.ask.Ask.{Ask}
use Rattle.xl_nfs_locks.specs.Denials.{lock_told}
use Rattle.xl_nfs_locks.specs.FirstLocks.{joined_by, join_answered, join_to}
use Rattle.xl_nfs_laws.specs.LockLaws.{lock_claim, lock_way, unstored_for, AreLocked, byte_lock}
use Rattle.xl_nfs_locks.specs.Locks.{lock_answered, lock_by_owner}
use Rattle.xl_nfs_locks.specs.Ranges.{is_exclusive, lock_ask}
use Rattle.xl_nfs_locks.specs.declared.joining.BothOwners.{BothOwners}
use Rattle.xl_nfs_opens.specs.Opens.{all_rooms, is_granted}
use Rattle.xl_nfs_opens.specs.Plans.{carried, status_of}
use Rattle.xl_nfs_opens.specs.Seqids.{is_room_for}
use Rattle.xl_nfs_opens.specs.declared.opener.Opener.{Opener}
use Rattle.xl_nfs_laws.proofs.GraceStandings.{never_waits}
use Rattle.xl_nfs_laws.specs.OwnersRecorded.{recorded_for}
use Rattle.xl_nfs_laws.proofs.LockOwn.{lock_fits}

-- ---- a granted lock, byte by byte

entered_byte : (s : CoreState) (held : List Claim) (o : Opener) (file : ℕ) (kind : LockType) (first last at : ℕ) (owner : Owner) (byte : ℕ) (had : List What) → else_was (entered_at held (lock_claim s o file kind first last) (ByteOf at owner byte)) had ≡ (if is_of at owner (lock_claim s o file kind first last) && within first last byte then byte_lock (is_exclusive kind) byte else had)
entered_byte s held o file kind first last at owner byte had =
    let c = lock_claim s o file kind first last in
    elim (cases_Bool (is_of at owner c)) [
      | inr e ↦ rw e refl
      | inl e ↦
          let name : posix owner ≡ true = sym (ap posix (is_of-true at owner c e).1) in
          rw e (rw name (elim (cases_Bool (within first last byte)) [
            | inl b ↦ rw b refl
            | inr b ↦ rw b refl
          ]))
    ]

-- the answer is one that grants just what was asked
pub granted_is : (n : ℕ) (s : CoreState) (o : Opener) (file : ℕ) (kind : LockType) (reclaim : Bool) (first last : ℕ) → is_granted (ask n all_rooms s (lock_ask o file kind reclaim first last)).0 ≡ true → (ask n all_rooms s (lock_ask o file kind reclaim first last)).0 ≡ answers.Granted (lock_claim s o file kind first last)
granted_is n s o file kind reclaim first last ok = by (ask n all_rooms s (lock_ask o file kind reclaim first last)).0 refl ok
  where
    by : (answer : Answer) → (ask n all_rooms s (lock_ask o file kind reclaim first last)).0 ≡ answer → is_granted answer ≡ true → answer ≡ answers.Granted (lock_claim s o file kind first last)
    by (answers.Granted c) e ok = ap (λ (x : Claim). answers.Granted x) ((ask_due n all_rooms s (lock_ask o file kind reclaim first last) (whats.Range (Bytes first last) (is_exclusive kind)) (answers.Granted c) refl).0 e).0
    by (answers.Conflict c) e ok = absurd (true≢false (sym ok))
    by (answers.Queued id) e ok = absurd (true≢false (sym ok))
    by (answers.Recall c) e ok = absurd (true≢false (sym ok))
    by (answers.Grace until) e ok = absurd (true≢false (sym ok))
    by (answers.NoGrace clock) e ok = absurd (true≢false (sym ok))
    by answers.NotRecorded e ok = absurd (true≢false (sym ok))
    by (answers.Full limit) e ok = absurd (true≢false (sym ok))
    by answers.NotHeld e ok = absurd (true≢false (sym ok))
    by answers.StoreFailed e ok = absurd (true≢false (sym ok))

asked_locked : (n : ℕ) (s : CoreState) (o : Opener) (file : ℕ) (kind : LockType) (reclaim : Bool) (first last : ℕ) → IsGood s → first ≤ last → is_granted (ask n all_rooms s (lock_ask o file kind reclaim first last)).0 ≡ true → AreLocked o file kind first last s (ask n all_rooms s (lock_ask o file kind reclaim first last)).2
asked_locked n s o file kind reclaim first last good le ok = λ at owner byte.
    let a = lock_ask o file kind reclaim first last in
    let held = (lock_way s o file kind reclaim first last).claims in
    deed_makes n s (Asks all_rooms a) (ByteOf at owner byte) good (lock_fits o file kind reclaim first last le)
    ∙ then_else None (answered_at held a.act (ask n all_rooms s a).0 (ByteOf at owner byte)) (held_at s (ByteOf at owner byte))
    ∙ ap (λ (answer : Answer). else_was (answered_at held a.act answer (ByteOf at owner byte)) (held_at s (ByteOf at owner byte))) (granted_is n s o file kind reclaim first last ok)
    ∙ entered_byte s held o file kind first last at owner byte (held_at s (ByteOf at owner byte))

-- one that isn't granted leaves what is noted of the record once its breaks began: it doesn't wait
refused_noted : (n : ℕ) (s : CoreState) (o : Opener) (file : ℕ) (kind : LockType) (reclaim : Bool) (first last : ℕ) → IsGood s → first ≤ last → is_granted (ask n all_rooms s (lock_ask o file kind reclaim first last)).0 ≡ false
    → (ask n all_rooms s (lock_ask o file kind reclaim first last)).2 ≡ noted_by (lock_way s o file kind reclaim first last) (lock_ask o file kind reclaim first last) (ask n all_rooms s (lock_ask o file kind reclaim first last)).0
refused_noted n s o file kind reclaim first last good le fails =
    let a = lock_ask o file kind reclaim first last in
    (ask_own n all_rooms s a good (lock_fits o file kind reclaim first last le).party).refused
    (λ c e. true≢false (sym (ap is_granted e) ∙ fails))
    (λ number e. never_waits (lock_way s o file kind reclaim first last) a (lock_claim s o file kind first last) refl refl refl ((ask_due n all_rooms s a (whats.Range (Bytes first last) (is_exclusive kind)) (answers.Queued number) refl).0 e).1)

pub same_noted : (t : CoreState) (a : Ask) (answer : Answer) → ((c : Claim) → answer ≡ answers.Granted c → ⊥) → (answer ≡ answers.StoreFailed → ⊥) → noted_by t a answer ≡ t
same_noted t a (answers.Granted c) fails stored = absurd (fails c refl)
same_noted t a (answers.Conflict c) fails stored = refl
same_noted t a (answers.Queued id) fails stored = refl
same_noted t a (answers.Recall c) fails stored = refl
same_noted t a (answers.Grace until) fails stored = refl
same_noted t a (answers.NoGrace clock) fails stored = refl
same_noted t a answers.NotRecorded fails stored = refl
same_noted t a (answers.Full limit) fails stored = refl
same_noted t a answers.NotHeld fails stored = refl
same_noted t a answers.StoreFailed fails stored = absurd (stored refl)

-- and nothing is noted of it, unless the store failed
pub refused_stays : (n : ℕ) (s : CoreState) (o : Opener) (file : ℕ) (kind : LockType) (reclaim : Bool) (first last : ℕ) → IsGood s → first ≤ last → is_granted (ask n all_rooms s (lock_ask o file kind reclaim first last)).0 ≡ false
    → ((ask n all_rooms s (lock_ask o file kind reclaim first last)).0 ≡ answers.StoreFailed → ⊥) → (ask n all_rooms s (lock_ask o file kind reclaim first last)).2 ≡ lock_way s o file kind reclaim first last
refused_stays n s o file kind reclaim first last good le fails stored =
    let a = lock_ask o file kind reclaim first last in
    refused_noted n s o file kind reclaim first last good le fails ∙ same_noted (lock_way s o file kind reclaim first last) a (ask n all_rooms s a).0 (λ c e. true≢false (sym (ap is_granted e) ∙ fails)) stored

-- then the store of the record with its client and the client's verifier failed
failed_leaves : (n : ℕ) (s : CoreState) (o : Opener) (file : ℕ) (kind : LockType) (reclaim : Bool) (first last : ℕ) → IsGood s → first ≤ last → (ask n all_rooms s (lock_ask o file kind reclaim first last)).0 ≡ answers.StoreFailed
    → (ask n all_rooms s (lock_ask o file kind reclaim first last)).2 ≡ unstored_for o (lock_way s o file kind reclaim first last)
failed_leaves n s o file kind reclaim first last good le failed =
    refused_noted n s o file kind reclaim first last good le (ap is_granted failed) ∙ ap (λ (answer : Answer). noted_by t a answer) failed ∙ ap (λ (name : Option Recorded). unstored name t) named
  where
    a : Ask
    a = lock_ask o file kind reclaim first last

    t : CoreState
    t = lock_way s o file kind reclaim first last

    some : (b : Bool) → may_record n t (if b then Some (recorded_for o) else None) ≡ false → (if b then Some (recorded_for o) else None) ≡ Some (recorded_for o)
    some true e = refl
    some false e = absurd (true≢false e)

    named : name_asked t a ≡ Some (recorded_for o)
    named = some _ ((ask_due n all_rooms s a (whats.Range (Bytes first last) (is_exclusive kind)) answers.StoreFailed refl).0 failed).3

-- ---- LOCK

told_no : (s : CoreState) (l : NfsLists) (reclaim : Bool) (answer : Answer) → is_granted answer ≡ false → is_ok (status_of (lock_told s l reclaim answer)) ≡ false
told_no s l reclaim (answers.Granted c) fails = absurd (true≢false fails)
told_no s l true (answers.Conflict c) fails = refl
told_no s l false (answers.Conflict c) fails = refl
told_no s l reclaim (answers.Queued id) fails = refl
told_no s l reclaim (answers.Recall c) fails = refl
told_no s l reclaim (answers.Grace until) fails = refl
told_no s l reclaim (answers.NoGrace clock) fails = refl
told_no s l reclaim answers.NotRecorded fails = refl
told_no s l reclaim (answers.Full limit) fails = refl
told_no s l reclaim answers.NotHeld fails = refl
told_no s l reclaim answers.StoreFailed fails = refl

-- what it tells, by an owner with a stateid
pub known_told : (n : ℕ) (t : CoreState) (l : NfsLists) (current : Option ℕ) (r : StateidRow) (owner : ℕ) (seqids : SeqidState) (seqid : ℕ) (reclaim : Bool) (answer : Answer) → status_of (carried n t l (lock_answered l current r owner seqids seqid reclaim answer t)).0 ≡ status_of (lock_told t l reclaim answer)
known_told n t l current r owner seqids seqid reclaim (answers.Granted c) = refl
known_told n t l current r owner seqids seqid reclaim (answers.Conflict c) = refl
known_told n t l current r owner seqids seqid reclaim (answers.Queued id) = refl
known_told n t l current r owner seqids seqid reclaim (answers.Recall c) = refl
known_told n t l current r owner seqids seqid reclaim (answers.Grace until) = refl
known_told n t l current r owner seqids seqid reclaim (answers.NoGrace clock) = refl
known_told n t l current r owner seqids seqid reclaim answers.NotRecorded = refl
known_told n t l current r owner seqids seqid reclaim (answers.Full limit) = refl
known_told n t l current r owner seqids seqid reclaim answers.NotHeld = refl
known_told n t l current r owner seqids seqid reclaim answers.StoreFailed = refl

joined_told : (n : ℕ) (t : CoreState) (l : NfsLists) (current : Option ℕ) (b : BothOwners) (o : Opener) (r : StateidRow) (q : Option StateidRow) → status_of (carried n t l (joined_by t l current b o r q)).0 ≡ statuses.Ok
joined_told n t l current b o r None = refl
joined_told n t l current b o r (Some q) = refl

-- and under an open
pub first_told : (n : ℕ) (t : CoreState) (l : NfsLists) (current : Option ℕ) (b : BothOwners) (o : Opener) (r : StateidRow) (q : Option StateidRow) (reclaim : Bool) (answer : Answer) → status_of (carried n t l (join_answered l current b o r q reclaim answer t)).0 ≡ status_of (lock_told t l reclaim answer)
first_told n t l current b o r q reclaim (answers.Granted c) = joined_told n t l current b o r q
first_told n t l current b o r q reclaim (answers.Conflict c) = refl
first_told n t l current b o r q reclaim (answers.Queued id) = refl
first_told n t l current b o r q reclaim (answers.Recall c) = refl
first_told n t l current b o r q reclaim (answers.Grace until) = refl
first_told n t l current b o r q reclaim (answers.NoGrace clock) = refl
first_told n t l current b o r q reclaim answers.NotRecorded = refl
first_told n t l current b o r q reclaim (answers.Full limit) = refl
first_told n t l current b o r q reclaim answers.NotHeld = refl
first_told n t l current b o r q reclaim answers.StoreFailed = refl

-- SERVERFAULT is told where the store failed alone
pub told_failed : (n : ℕ) (s t : CoreState) (l : NfsLists) (o : Opener) (file : ℕ) (kind : LockType) (reclaim : Bool) (first last : ℕ) (answer : Answer) → (ask n all_rooms s (lock_ask o file kind reclaim first last)).0 ≡ answer → status_of (lock_told t l reclaim answer) ≡ statuses.ServerFault → answer ≡ answers.StoreFailed
told_failed n s t l o file kind reclaim first last answers.StoreFailed e told = refl
told_failed n s t l o file kind reclaim first last answers.NotHeld e told = absurd ((ask_due n all_rooms s (lock_ask o file kind reclaim first last) (whats.Range (Bytes first last) (is_exclusive kind)) answers.NotHeld refl).0 e)
told_failed n s t l o file kind true first last (answers.Conflict c) e told = absurd cc
told_failed n s t l o file kind false first last (answers.Conflict c) e told = absurd cc
told_failed n s t l o file kind reclaim first last (answers.Granted c) e told = absurd cc
told_failed n s t l o file kind reclaim first last (answers.Queued id) e told = absurd cc
told_failed n s t l o file kind reclaim first last (answers.Recall c) e told = absurd cc
told_failed n s t l o file kind reclaim first last (answers.Grace until) e told = absurd cc
told_failed n s t l o file kind reclaim first last (answers.NoGrace clock) e told = absurd cc
told_failed n s t l o file kind reclaim first last answers.NotRecorded e told = absurd cc
told_failed n s t l o file kind reclaim first last (answers.Full limit) e told = absurd cc

-- how it is answered, by an owner with a stateid
pub known_ok : (n : ℕ) (s : CoreState) (l : NfsLists) (current : Option ℕ) (r : StateidRow) (owner : ℕ) (seqids : SeqidState) (seqid : ℕ) (reclaim : Bool) (answer : Answer) → (is_ok (status_of (carried n s l (lock_answered l current r owner seqids seqid reclaim answer s)).0) ≡ is_granted answer) × ((carried n s l (lock_answered l current r owner seqids seqid reclaim answer s)).4 ≡ s)
known_ok n s l current r owner seqids seqid reclaim answer =
    elim (cases_Bool (is_granted answer)) [
      | inl e ↦ rw e (refl, refl)
      | inr e ↦ rw e (told_no s l reclaim answer e, refl)
    ]

pub known_locked : (n : ℕ) (s : CoreState) (l : NfsLists) (current : Option ℕ) (a : LockArgsItem) (r : StateidRow) (owner : ℕ) (seqids : SeqidState) (seqid last : ℕ) (o : Opener) → IsGood s → a.offset ≤ last → is_ok (status_of (carried n s l (lock_by_owner l current a r owner seqids seqid last (Some o))).0) ≡ true
    → AreLocked o r.file a.kind a.offset last s (carried n s l (lock_by_owner l current a r owner seqids seqid last (Some o))).4
known_locked n s l current a r owner seqids seqid last o good le ok =
    let x = ask n all_rooms s (lock_ask o r.file a.kind a.reclaim a.offset last) in
    let by = known_ok n x.2 l current r owner seqids seqid a.reclaim x.0 in
    subst (λ (t : CoreState). AreLocked o r.file a.kind a.offset last s t) (sym by.1) (asked_locked n s o r.file a.kind a.reclaim a.offset last good le (sym by.0 ∙ ok))

pub known_refused : (n : ℕ) (s : CoreState) (l : NfsLists) (current : Option ℕ) (a : LockArgsItem) (r : StateidRow) (owner : ℕ) (seqids : SeqidState) (seqid last : ℕ) (o : Opener) → IsGood s → a.offset ≤ last → is_ok (status_of (carried n s l (lock_by_owner l current a r owner seqids seqid last (Some o))).0) ≡ false
    → (status_of (carried n s l (lock_by_owner l current a r owner seqids seqid last (Some o))).0 ≡ statuses.ServerFault → ⊥) → (carried n s l (lock_by_owner l current a r owner seqids seqid last (Some o))).4 ≡ lock_way s o r.file a.kind a.reclaim a.offset last
known_refused n s l current a r owner seqids seqid last o good le fails other =
    let x = ask n all_rooms s (lock_ask o r.file a.kind a.reclaim a.offset last) in
    let by = known_ok n x.2 l current r owner seqids seqid a.reclaim x.0 in
    by.1 ∙ refused_stays n s o r.file a.kind a.reclaim a.offset last good le (sym by.0 ∙ fails) (λ failed. other (known_told n x.2 l current r owner seqids seqid a.reclaim x.0 ∙ ap (λ (answer : Answer). status_of (lock_told x.2 l a.reclaim answer)) failed))

pub known_failed : (n : ℕ) (s : CoreState) (l : NfsLists) (current : Option ℕ) (a : LockArgsItem) (r : StateidRow) (owner : ℕ) (seqids : SeqidState) (seqid last : ℕ) (o : Opener) → IsGood s → a.offset ≤ last → status_of (carried n s l (lock_by_owner l current a r owner seqids seqid last (Some o))).0 ≡ statuses.ServerFault
    → (carried n s l (lock_by_owner l current a r owner seqids seqid last (Some o))).4 ≡ unstored_for o (lock_way s o r.file a.kind a.reclaim a.offset last)
known_failed n s l current a r owner seqids seqid last o good le told =
    let x = ask n all_rooms s (lock_ask o r.file a.kind a.reclaim a.offset last) in
    let by = known_ok n x.2 l current r owner seqids seqid a.reclaim x.0 in
    by.1 ∙ failed_leaves n s o r.file a.kind a.reclaim a.offset last good le (told_failed n s x.2 l o r.file a.kind a.reclaim a.offset last x.0 refl (sym (known_told n x.2 l current r owner seqids seqid a.reclaim x.0) ∙ told))

-- and under an open: a number may be drawn, which no claim has
drawn_bytes : (o : Opener) (file : ℕ) (kind : LockType) (first last : ℕ) (s t : CoreState) → AreLocked o file kind first last s t → AreLocked o file kind first last s (drawn t)
unfolding drawn
drawn_bytes o file kind first last s t locked = locked

joined_locked : (n : ℕ) (s t : CoreState) (l : NfsLists) (current : Option ℕ) (b : BothOwners) (o : Opener) (r : StateidRow) (kind : LockType) (first last : ℕ) (q : Option StateidRow) → AreLocked o r.file kind first last s t → AreLocked o r.file kind first last s (carried n t l (joined_by t l current b o r q)).4
joined_locked n s t l current b o r kind first last None locked = drawn_bytes o r.file kind first last s t locked
joined_locked n s t l current b o r kind first last (Some q) locked = locked

joined_ok : (n : ℕ) (s : CoreState) (l : NfsLists) (current : Option ℕ) (b : BothOwners) (o : Opener) (r : StateidRow) (q : Option StateidRow) → is_ok (status_of (carried n s l (joined_by s l current b o r q)).0) ≡ true
joined_ok n s l current b o r None = refl
joined_ok n s l current b o r (Some q) = refl

pub first_ok : (n : ℕ) (s : CoreState) (l : NfsLists) (current : Option ℕ) (b : BothOwners) (o : Opener) (r : StateidRow) (q : Option StateidRow) (reclaim : Bool) (answer : Answer) → is_ok (status_of (carried n s l (join_answered l current b o r q reclaim answer s)).0) ≡ is_granted answer
first_ok n s l current b o r q reclaim answer =
    elim (cases_Bool (is_granted answer)) [
      | inl e ↦ rw e (joined_ok n s l current b o r q)
      | inr e ↦ rw e (told_no s l reclaim answer e)
    ]

first_granted : (n : ℕ) (s t : CoreState) (l : NfsLists) (current : Option ℕ) (b : BothOwners) (o : Opener) (r : StateidRow) (kind : LockType) (first last : ℕ) (q : Option StateidRow) (reclaim : Bool) (answer : Answer) → is_granted answer ≡ true → AreLocked o r.file kind first last s t → AreLocked o r.file kind first last s (carried n t l (join_answered l current b o r q reclaim answer t)).4
first_granted n s t l current b o r kind first last q reclaim answer ok locked = rw ok (joined_locked n s t l current b o r kind first last q locked)

pub first_locked : (n : ℕ) (s : CoreState) (l : NfsLists) (current : Option ℕ) (a : LockArgsItem) (b : BothOwners) (o : Opener) (r : StateidRow) (q : Option StateidRow) (last : ℕ) → IsGood s → a.offset ≤ last → is_room_for o l ≡ true → is_ok (status_of (carried n s l (join_to l current a b o r q (Ok last))).0) ≡ true → AreLocked o r.file a.kind a.offset last s (carried n s l (join_to l current a b o r q (Ok last))).4
first_locked n s l current a b o r q last good le room ok =
    let x = ask n all_rooms s (lock_ask o r.file a.kind a.reclaim a.offset last) in
    let granted : is_granted x.0 ≡ true = sym (first_ok n x.2 l current b o r q a.reclaim x.0) ∙ (rw room at ok) in
    rw room (first_granted n s x.2 l current b o r a.kind a.offset last q a.reclaim x.0 granted (asked_locked n s o r.file a.kind a.reclaim a.offset last good le granted))

first_no : (n : ℕ) (t : CoreState) (l : NfsLists) (current : Option ℕ) (b : BothOwners) (o : Opener) (r : StateidRow) (q : Option StateidRow) (reclaim : Bool) (answer : Answer) → is_granted answer ≡ false → (carried n t l (join_answered l current b o r q reclaim answer t)).4 ≡ t
first_no n t l current b o r q reclaim answer fails = rw fails refl

pub first_refused : (n : ℕ) (s : CoreState) (l : NfsLists) (current : Option ℕ) (a : LockArgsItem) (b : BothOwners) (o : Opener) (r : StateidRow) (q : Option StateidRow) (last : ℕ) → IsGood s → a.offset ≤ last → is_room_for o l ≡ true → is_ok (status_of (carried n s l (join_to l current a b o r q (Ok last))).0) ≡ false
    → (status_of (carried n s l (join_to l current a b o r q (Ok last))).0 ≡ statuses.ServerFault → ⊥) → (carried n s l (join_to l current a b o r q (Ok last))).4 ≡ lock_way s o r.file a.kind a.reclaim a.offset last
first_refused n s l current a b o r q last good le room fails other =
    let x = ask n all_rooms s (lock_ask o r.file a.kind a.reclaim a.offset last) in
    let denied : is_granted x.0 ≡ false = sym (first_ok n x.2 l current b o r q a.reclaim x.0) ∙ (rw room at fails) in
    let answered = first_told n x.2 l current b o r q a.reclaim x.0 in
    let never : status_of (carried n x.2 l (join_answered l current b o r q a.reclaim x.0 x.2)).0 ≡ statuses.ServerFault → ⊥ = rw room at other in
    rw room (first_no n x.2 l current b o r q a.reclaim x.0 denied ∙ refused_stays n s o r.file a.kind a.reclaim a.offset last good le denied (λ failed. never (answered ∙ ap (λ (answer : Answer). status_of (lock_told x.2 l a.reclaim answer)) failed)))

pub first_failed : (n : ℕ) (s : CoreState) (l : NfsLists) (current : Option ℕ) (a : LockArgsItem) (b : BothOwners) (o : Opener) (r : StateidRow) (q : Option StateidRow) (last : ℕ) → IsGood s → a.offset ≤ last → is_room_for o l ≡ true → status_of (carried n s l (join_to l current a b o r q (Ok last))).0 ≡ statuses.ServerFault
    → (carried n s l (join_to l current a b o r q (Ok last))).4 ≡ unstored_for o (lock_way s o r.file a.kind a.reclaim a.offset last)
first_failed n s l current a b o r q last good le room told =
    let x = ask n all_rooms s (lock_ask o r.file a.kind a.reclaim a.offset last) in
    let said : status_of (carried n x.2 l (join_answered l current b o r q a.reclaim x.0 x.2)).0 ≡ statuses.ServerFault = rw room at told in
    let failed : x.0 ≡ answers.StoreFailed = told_failed n s x.2 l o r.file a.kind a.reclaim a.offset last x.0 refl (sym (first_told n x.2 l current b o r q a.reclaim x.0) ∙ said) in
    rw room (first_no n x.2 l current b o r q a.reclaim x.0 (ap is_granted failed) ∙ failed_leaves n s o r.file a.kind a.reclaim a.offset last good le failed)
