-- Whom an OPEN and a LOCK leave in the record, with which verifier, and whom grace lets in.
use Rattle.std.proofs.Common.{◌≡◌, ℕ, Bool, true, false, ◌&&◌, List, [], ◌∷◌, Option, Some, None, is_some, Result, Ok, ◌↔◌, refl, sym, ap, subst, ◌∙◌, inl, inr}
use Rattle.std.proofs.lemmas.Bool.{both_ways, cases_Bool}
use Rattle.std.specs.Prelude.{◌||◌}
use Rattle.xl_base.specs.Stable.{Stable, agree, is_kept, is_recordable, keeps, same_name}
use Rattle.xl_base.specs.declared.stable.Mark.{Mark}
use Rattle.xl_base.specs.declared.stable.Mark.TheVariants.{Verifier}
use Rattle.xl_base.specs.declared.stable.Recorded.{Recorded}
use Rattle.xl_grace.specs.Grace.{is_known}
use Rattle.xl_matrix.specs.declared.claim.Claim.{Claim}
use Rattle.xl_matrix.specs.declared.claim.Extent.TheVariants.{Bytes}
use Rattle.xl_matrix.specs.declared.claim.What.{What}
use Rattle.xl_matrix.specs.declared.claim.What.TheVariants as whats
use Rattle.xl_nfs.specs.Locks.{LockArgsItem}
use Rattle.xl_nfs.specs.Opens.{OpenArgsItem}
use Rattle.xl_nfs.specs.Outcomes.{is_ok}
use Rattle.xl_nfs.specs.declared.basics.LockType.{LockType}
use Rattle.xl_nfs.specs.declared.status.NfsStatus.{NfsStatus}
use Rattle.xl_nfs.specs.declared.status.NfsStatus.TheVariants as statuses
use Rattle.xl_nfs_state.specs.State.{NfsLists}
use Rattle.xl_nfs_state.specs.declared.owner.SeqidState.{SeqidState}
use Rattle.xl_nfs_state.specs.declared.stateid.StateidRow.{StateidRow}
use Rattle.xl_core.proofs.WayAsks.{ask_due}
use Rattle.xl_core.specs.Askers.{asked_what, is_client}
use Rattle.xl_core.specs.Causes.{asks_claims}
use Rattle.xl_core.specs.Decide.{ask}
use Rattle.xl_core.specs.Good.{IsGood}
use Rattle.xl_core.specs.Knowing.{KnowsRecord}
use Rattle.xl_core.specs.Standings.{asker_as}
use Rattle.xl_core.specs.State.{Aside, CoreState, drawn}
use Rattle.xl_core.specs.declared.ask.Answer.{Answer}
use Rattle.xl_core.specs.declared.ask.Answer.TheVariants as answers
use Rattle.xl_core.specs.declared.ask.Ask.{Ask}
use Rattle.xl_plan.proofs.GraceLaws.{granted_told}
use Rattle.xl_plan.proofs.RecordLaws.{failed_told, reclaim_told, recorded_told}
use Rattle.xl_nfs_opens.proofs.OpenOwn.{ask_fits}
use Rattle.xl_nfs_opens.proofs.OwnerLaws.{own_client}
use Rattle.xl_nfs_opens.specs.Opens.{all_rooms, answer_status, answered, granted_by, granted_wish, has_room, is_granted, judged, open_as, open_by, open_held, open_judged, open_on, opened_file, reclaims, rights_of, share_ask, wish_of}
use Rattle.xl_nfs_opens.specs.Plans.{Outcome, carried, status_of}
use Rattle.xl_nfs_opens.specs.Seqids.{is_room_for}
use Rattle.xl_nfs_opens.specs.declared.opener.Opener.{Opener}
use Rattle.xl_nfs_locks.specs.FirstLocks.{joined_by, join_answered, join_to}
use Rattle.xl_nfs_locks.specs.Locks.{lock_by_owner}
use Rattle.xl_nfs_locks.specs.Ranges.{is_exclusive, lock_ask}
use Rattle.xl_nfs_locks.specs.declared.joining.BothOwners.{BothOwners}
use Rattle.xl_nfs_laws.proofs.LockedByteLaws.{first_ok, granted_is, known_ok}
use Rattle.xl_nfs_laws.proofs.OpenStatusLaws.{answered_claims, as_status, further}
use Rattle.xl_nfs_laws.specs.LockLaws.{lock_claim}
use Rattle.xl_nfs_laws.specs.OpenLaws.{goes_on}
use Rattle.xl_nfs_laws.specs.OwnersRecorded.{recorded_for, IsRecordedFor}

-- what is let in by grace
abbrev IsLetIn : CoreState → Opener → Bool → Type 0
IsLetIn s o reclaim = (reclaim ≡ is_some s.grace) × (reclaim ≡ true → is_known (recorded_for o) s.stable.names ≡ true)

-- ---- any ask of an owner

-- a mark that is kept agrees
one_known : (held : Option Mark) (mark : Mark) → keeps held (Some mark) ≡ true → agree held (Some mark) ≡ true
one_known None mark e = absurd (both_ways false refl e)
one_known (Some kept) mark e = e

or_right : (a b : Bool) → b ≡ true → (a || b) ≡ true
or_right true b e = refl
or_right false b e = e

some_known : (here keeps agrees rest others : Bool) → (keeps ≡ true → agrees ≡ true) → (rest ≡ true → others ≡ true) → ((here && keeps) || rest) ≡ true → ((here && agrees) || others) ≡ true
some_known true true agrees rest others one more e = ap (λ (b : Bool). b || others) (one refl)
some_known true false agrees rest others one more e = or_right agrees others (more e)
some_known false keeps agrees rest others one more e = more e

kept_known : (o : Opener) (names : List Recorded) → is_kept (recorded_for o) names ≡ true → is_known (recorded_for o) names ≡ true
kept_known o [] e = absurd (both_ways false refl e)
kept_known o (held ∷ names) e =
    some_known (same_name held (recorded_for o)) (keeps held.mark (Some (Verifier o.verifier))) (agree held.mark (Some (Verifier o.verifier))) (is_kept (recorded_for o) names) (is_known (recorded_for o) names) (one_known held.mark (Verifier o.verifier)) (kept_known o names) e

-- what it leaves of the record
ask_recorded : (n : ℕ) (s : CoreState) (o : Opener) (x : Ask) (what : What) (c : Claim) → IsGood s → is_client x.owner x.party ≡ true → asked_what x.act ≡ Some what → asks_claims x.act ≡ true → x.monitored ≡ true → asker_as x ≡ recorded_for o → (ask n all_rooms s x).0 ≡ answers.Granted c
    → IsRecordedFor o x.reclaim s (ask n all_rooms s x).2.stable
ask_recorded n s o x what c good client act asks monitored named granted = (kept, λ knows. known knows x.reclaim refl) where
  new : Stable
  new = (ask n all_rooms s x).2.stable

  kept : x.reclaim ≡ false → is_kept (recorded_for o) new.names ≡ true
  kept plain = subst (λ (name : Recorded). is_kept name new.names ≡ true) named (recorded_told n all_rooms s x what c good client act monitored plain (ap is_recordable named) granted)

  same : x.reclaim ≡ true → new ≡ s.stable
  same back = ap (λ (y : Aside). y.stable) (reclaim_told n all_rooms s x good client back)

  known : KnowsRecord s → (b : Bool) → x.reclaim ≡ b → is_known (recorded_for o) new.names ≡ true
  known knows false plain = kept_known o new.names (kept plain)
  known knows true back =
      subst (λ (name : Recorded). is_known name new.names ≡ true) named
      (subst (λ (stable : Stable). is_known (asker_as x) stable.names ≡ true) (sym (same back)) ((granted_told n all_rooms s x what c act asks knows granted).1 back))

-- ---- an OPEN

share_recorded : (n : ℕ) (s : CoreState) (wish : Option Bool) (o : Opener) (a : OpenArgsItem) (file : ℕ) (c : Claim) → IsGood s → (ask n all_rooms s (share_ask wish o a file)).0 ≡ answers.Granted c → IsRecordedFor o (reclaims a.claim) s (ask n all_rooms s (share_ask wish o a file)).2.stable
unfolding share_ask
share_recorded n s wish o a file c good granted = ask_recorded n s o (share_ask wish o a file) (whats.Share (rights_of a.access) (rights_of a.deny)) c good (ask_fits wish o a file).party refl refl refl refl granted

share_let_in : (n : ℕ) (s : CoreState) (wish : Option Bool) (o : Opener) (a : OpenArgsItem) (file : ℕ) (c : Claim) → KnowsRecord s → (ask n all_rooms s (share_ask wish o a file)).0 ≡ answers.Granted c → IsLetIn s o (reclaims a.claim)
unfolding share_ask
share_let_in n s wish o a file c knows granted = granted_told n all_rooms s (share_ask wish o a file) (whats.Share (rights_of a.access) (rights_of a.deny)) c refl refl knows granted

share_failed : (n : ℕ) (s : CoreState) (wish : Option Bool) (o : Opener) (a : OpenArgsItem) (file : ℕ) → IsGood s → s.failed ≡ false → ((ask n all_rooms s (share_ask wish o a file)).0 ≡ answers.StoreFailed) ↔ ((ask n all_rooms s (share_ask wish o a file)).2.failed ≡ true)
unfolding share_ask
share_failed n s wish o a file good fresh = failed_told n all_rooms s (share_ask wish o a file) (whats.Share (rights_of a.access) (rights_of a.deny)) good (ask_fits wish o a file).party refl fresh

-- the core owes each share an answer
share_held : (n : ℕ) (s : CoreState) (wish : Option Bool) (o : Opener) (a : OpenArgsItem) (file : ℕ) → (ask n all_rooms s (share_ask wish o a file)).0 ≡ answers.NotHeld → ⊥
unfolding share_ask
share_held n s wish o a file e = (ask_due n all_rooms s (share_ask wish o a file) (whats.Share (rights_of a.access) (rights_of a.deny)) answers.NotHeld refl).0 e

-- behind the answer only numbers are drawn
granted_left : {A : Type 0} (get : CoreState → A) → ((t : CoreState) → get (drawn t) ≡ get t) → (n : ℕ) (t : CoreState) (l : NfsLists) (o : Opener) (a : OpenArgsItem) (file : ℕ) (confirmed : Bool) (write : Option Bool) (had : Option StateidRow) → get (carried n t l (granted_by t l o a file confirmed write had)).4 ≡ get t
granted_left get draws n t l o a file confirmed None None = draws t
granted_left get draws n t l o a file confirmed None (Some r) = refl
granted_left get draws n t l o a file confirmed (Some write) None = draws (drawn t) ∙ draws t
granted_left get draws n t l o a file confirmed (Some write) (Some r) = draws t

answered_left : {A : Type 0} (get : CoreState → A) → ((t : CoreState) → get (drawn t) ≡ get t) → (n : ℕ) (t : CoreState) (l : NfsLists) (current : Option ℕ) (o : Opener) (a : OpenArgsItem) (file : ℕ) (confirmed : Bool) (wish : Option Bool) (answer : Answer) → get (carried n t l (answered l current o a file confirmed wish answer t)).4 ≡ get t
answered_left get draws n t l current o a file confirmed wish answer =
    elim (cases_Bool (is_granted answer)) [
      | inl e ↦ rw e (granted_left get draws n t l o a file (confirmed || reclaims a.claim) (granted_wish t o file wish) (open_held l o file))
      | inr e ↦ rw e refl
    ]

drawn_stable : (t : CoreState) → (drawn t).stable ≡ t.stable
unfolding drawn
drawn_stable t = refl

drawn_failed : (t : CoreState) → (drawn t).failed ≡ t.failed
unfolding drawn
drawn_failed t = refl

-- the state that an OPEN leaves which is judged further
further_left : {A : Type 0} (get : CoreState → A) → ((t : CoreState) → get (drawn t) ≡ get t) → (n : ℕ) (files : List (List ℕ)) (others : ℕ) (s : CoreState) (l : NfsLists) (current : Option ℕ) (at : ℕ) (o : Opener) (a : OpenArgsItem) (confirmed : Bool) (file : ℕ) → goes_on (judged l o a.seqid) ≡ Some confirmed → opened_file files s l o.client at a ≡ Ok file → has_room others l o file ≡ true
    → get (carried n s l (open_judged files others s l current at o a (judged l o a.seqid))).4 ≡ get (ask n all_rooms s (share_ask (wish_of s l o a confirmed file) o a file)).2
unfolding open_as
further_left get draws n files others s l current at o a confirmed file goes found room =
    ap (λ (r : Outcome). get r.4) (further n files others s l current at o a (judged l o a.seqid) confirmed goes)
    ∙ ap (λ (x : Result ℕ NfsStatus). get (carried n s l (open_by others s l current o a confirmed x)).4) found
    ∙ on
  where
    wish : Option Bool
    wish = wish_of s l o a confirmed file

    on : get (carried n s l (open_on others s l current o a confirmed file)).4 ≡ get (ask n all_rooms s (share_ask wish o a file)).2
    on =
        let r = ask n all_rooms s (share_ask wish o a file) in
        rw room (answered_left get draws n r.2 l current o a file confirmed wish r.0)

-- and its status
further_status : (n : ℕ) (files : List (List ℕ)) (others : ℕ) (s : CoreState) (l : NfsLists) (current : Option ℕ) (at : ℕ) (o : Opener) (a : OpenArgsItem) (confirmed : Bool) (file : ℕ) → goes_on (judged l o a.seqid) ≡ Some confirmed → opened_file files s l o.client at a ≡ Ok file → has_room others l o file ≡ true
    → status_of (carried n s l (open_judged files others s l current at o a (judged l o a.seqid))).0 ≡ answer_status (reclaims a.claim) (ask n all_rooms s (share_ask (wish_of s l o a confirmed file) o a file)).0
further_status n files others s l current at o a confirmed file goes found room =
    ap (λ (r : Outcome). status_of r.0) (further n files others s l current at o a (judged l o a.seqid) confirmed goes) ∙ as_status n files others s l current at o a confirmed file found room

-- one that is OK was granted its share
further_granted : (n : ℕ) (files : List (List ℕ)) (others : ℕ) (s : CoreState) (l : NfsLists) (current : Option ℕ) (at : ℕ) (o : Opener) (a : OpenArgsItem) (confirmed : Bool) (file : ℕ) → goes_on (judged l o a.seqid) ≡ Some confirmed → opened_file files s l o.client at a ≡ Ok file → has_room others l o file ≡ true
    → status_of (carried n s l (open_judged files others s l current at o a (judged l o a.seqid))).0 ≡ statuses.Ok → (c : Claim) × ((ask n all_rooms s (share_ask (wish_of s l o a confirmed file) o a file)).0 ≡ answers.Granted c)
further_granted n files others s l current at o a confirmed file goes found room ok =
    let wish = wish_of s l o a confirmed file in
    let r = ask n all_rooms s (share_ask wish o a file) in
    (answered_claims n r.2 l current o a file confirmed wish r.0 (sym (further_status n files others s l current at o a confirmed file goes found room) ∙ ok)).0

pub open_recorded : (n : ℕ) (files : List (List ℕ)) (others : ℕ) (s : CoreState) (l : NfsLists) (current : Option ℕ) (at : ℕ) (o : Opener) (a : OpenArgsItem) (confirmed : Bool) (file : ℕ) → IsGood s → goes_on (judged l o a.seqid) ≡ Some confirmed → opened_file files s l o.client at a ≡ Ok file → has_room others l o file ≡ true
    → (let r = carried n s l (open_judged files others s l current at o a (judged l o a.seqid)) in status_of r.0 ≡ statuses.Ok → IsRecordedFor o (reclaims a.claim) s r.4.stable)
open_recorded n files others s l current at o a confirmed file good goes found room ok =
    let granted = further_granted n files others s l current at o a confirmed file goes found room ok in
    subst (λ (stable : Stable). IsRecordedFor o (reclaims a.claim) s stable) (sym (further_left (λ t. t.stable) drawn_stable n files others s l current at o a confirmed file goes found room))
    (share_recorded n s (wish_of s l o a confirmed file) o a file granted.0 good granted.1)

pub open_let_in : (n : ℕ) (files : List (List ℕ)) (others : ℕ) (s : CoreState) (l : NfsLists) (current : Option ℕ) (at : ℕ) (o : Opener) (a : OpenArgsItem) (confirmed : Bool) (file : ℕ) → KnowsRecord s → goes_on (judged l o a.seqid) ≡ Some confirmed → opened_file files s l o.client at a ≡ Ok file → has_room others l o file ≡ true
    → status_of (carried n s l (open_judged files others s l current at o a (judged l o a.seqid))).0 ≡ statuses.Ok → (reclaims a.claim ≡ is_some s.grace) × (reclaims a.claim ≡ true → is_known (recorded_for o) s.stable.names ≡ true)
open_let_in n files others s l current at o a confirmed file knows goes found room ok =
    let granted = further_granted n files others s l current at o a confirmed file goes found room ok in
    share_let_in n s (wish_of s l o a confirmed file) o a file granted.0 knows granted.1

-- SERVERFAULT is told of an ask where its store failed alone
failed_status : (n : ℕ) (s : CoreState) (wish : Option Bool) (o : Opener) (a : OpenArgsItem) (file : ℕ) (reclaim : Bool) (answer : Answer) → (ask n all_rooms s (share_ask wish o a file)).0 ≡ answer → answer_status reclaim answer ≡ statuses.ServerFault → answer ≡ answers.StoreFailed
failed_status n s wish o a file reclaim answers.StoreFailed is e = refl
failed_status n s wish o a file reclaim answers.NotHeld is e = absurd (share_held n s wish o a file is)
failed_status n s wish o a file true (answers.Conflict c) is e = absurd cc
failed_status n s wish o a file false (answers.Conflict c) is e = absurd cc
failed_status n s wish o a file reclaim (answers.Granted c) is e = absurd cc
failed_status n s wish o a file reclaim (answers.Queued id) is e = absurd cc
failed_status n s wish o a file reclaim (answers.Recall c) is e = absurd cc
failed_status n s wish o a file reclaim (answers.Grace until) is e = absurd cc
failed_status n s wish o a file reclaim (answers.NoGrace clock) is e = absurd cc
failed_status n s wish o a file reclaim answers.NotRecorded is e = absurd cc
failed_status n s wish o a file reclaim (answers.Full limit) is e = absurd cc

pub open_failed : (n : ℕ) (files : List (List ℕ)) (others : ℕ) (s : CoreState) (l : NfsLists) (current : Option ℕ) (at : ℕ) (o : Opener) (a : OpenArgsItem) (confirmed : Bool) (file : ℕ) → IsGood s → s.failed ≡ false → goes_on (judged l o a.seqid) ≡ Some confirmed → opened_file files s l o.client at a ≡ Ok file → has_room others l o file ≡ true
    → (let r = carried n s l (open_judged files others s l current at o a (judged l o a.seqid)) in (status_of r.0 ≡ statuses.ServerFault) ↔ (r.4.failed ≡ true))
open_failed n files others s l current at o a confirmed file good fresh goes found room =
    let wish = wish_of s l o a confirmed file in
    let status = further_status n files others s l current at o a confirmed file goes found room in
    let left = further_left (λ t. t.failed) drawn_failed n files others s l current at o a confirmed file goes found room in
    let fair = share_failed n s wish o a file good fresh in (
      λ told. left ∙ fair.0 (failed_status n s wish o a file (reclaims a.claim) _ refl (sym status ∙ told)),
      λ failed. status ∙ ap (λ (answer : Answer). answer_status (reclaims a.claim) answer) (fair.1 (sym left ∙ failed)),
    )

-- ---- a LOCK

lock_recorded : (n : ℕ) (s : CoreState) (o : Opener) (file : ℕ) (kind : LockType) (reclaim : Bool) (first last : ℕ) → IsGood s → is_granted (ask n all_rooms s (lock_ask o file kind reclaim first last)).0 ≡ true → IsRecordedFor o reclaim s (ask n all_rooms s (lock_ask o file kind reclaim first last)).2.stable
lock_recorded n s o file kind reclaim first last good granted =
    ask_recorded n s o (lock_ask o file kind reclaim first last) (whats.Range (Bytes first last) (is_exclusive kind)) (lock_claim s o file kind first last) good (own_client o.id) refl refl refl refl (granted_is n s o file kind reclaim first last granted)

lock_let_in : (n : ℕ) (s : CoreState) (o : Opener) (file : ℕ) (kind : LockType) (reclaim : Bool) (first last : ℕ) → KnowsRecord s → is_granted (ask n all_rooms s (lock_ask o file kind reclaim first last)).0 ≡ true → IsLetIn s o reclaim
lock_let_in n s o file kind reclaim first last knows granted =
    granted_told n all_rooms s (lock_ask o file kind reclaim first last) (whats.Range (Bytes first last) (is_exclusive kind)) (lock_claim s o file kind first last) refl refl knows (granted_is n s o file kind reclaim first last granted)

pub known_recorded : (n : ℕ) (s : CoreState) (l : NfsLists) (current : Option ℕ) (a : LockArgsItem) (r : StateidRow) (owner : ℕ) (seqids : SeqidState) (seqid last : ℕ) (o : Opener) → IsGood s → (let done = carried n s l (lock_by_owner l current a r owner seqids seqid last (Some o)) in is_ok (status_of done.0) ≡ true → IsRecordedFor o a.reclaim s done.4.stable)
known_recorded n s l current a r owner seqids seqid last o good ok =
    let x = ask n all_rooms s (lock_ask o r.file a.kind a.reclaim a.offset last) in
    let by = known_ok n x.2 l current r owner seqids seqid a.reclaim x.0 in
    subst (λ (t : CoreState). IsRecordedFor o a.reclaim s t.stable) (sym by.1) (lock_recorded n s o r.file a.kind a.reclaim a.offset last good (sym by.0 ∙ ok))

pub known_let_in : (n : ℕ) (s : CoreState) (l : NfsLists) (current : Option ℕ) (a : LockArgsItem) (r : StateidRow) (owner : ℕ) (seqids : SeqidState) (seqid last : ℕ) (o : Opener) → KnowsRecord s → is_ok (status_of (carried n s l (lock_by_owner l current a r owner seqids seqid last (Some o))).0) ≡ true
    → (a.reclaim ≡ is_some s.grace) × (a.reclaim ≡ true → is_known (recorded_for o) s.stable.names ≡ true)
known_let_in n s l current a r owner seqids seqid last o knows ok =
    let x = ask n all_rooms s (lock_ask o r.file a.kind a.reclaim a.offset last) in
    lock_let_in n s o r.file a.kind a.reclaim a.offset last knows (sym (known_ok n x.2 l current r owner seqids seqid a.reclaim x.0).0 ∙ ok)

joined_stable : (n : ℕ) (t : CoreState) (l : NfsLists) (current : Option ℕ) (b : BothOwners) (o : Opener) (r : StateidRow) (q : Option StateidRow) → (carried n t l (joined_by t l current b o r q)).4.stable ≡ t.stable
unfolding drawn
joined_stable n t l current b o r None = refl
joined_stable n t l current b o r (Some q) = refl

join_stable : (n : ℕ) (t : CoreState) (l : NfsLists) (current : Option ℕ) (b : BothOwners) (o : Opener) (r : StateidRow) (q : Option StateidRow) (reclaim : Bool) (answer : Answer) → (carried n t l (join_answered l current b o r q reclaim answer t)).4.stable ≡ t.stable
join_stable n t l current b o r q reclaim answer =
    elim (cases_Bool (is_granted answer)) [
      | inl e ↦ rw e (joined_stable n t l current b o r q)
      | inr e ↦ rw e refl
    ]

first_granted : (n : ℕ) (s : CoreState) (l : NfsLists) (current : Option ℕ) (a : LockArgsItem) (b : BothOwners) (o : Opener) (r : StateidRow) (q : Option StateidRow) (last : ℕ) → is_room_for o l ≡ true → is_ok (status_of (carried n s l (join_to l current a b o r q (Ok last))).0) ≡ true → is_granted (ask n all_rooms s (lock_ask o r.file a.kind a.reclaim a.offset last)).0 ≡ true
first_granted n s l current a b o r q last room ok =
    let x = ask n all_rooms s (lock_ask o r.file a.kind a.reclaim a.offset last) in
    sym (first_ok n x.2 l current b o r q a.reclaim x.0) ∙ (rw room at ok)

pub first_recorded : (n : ℕ) (s : CoreState) (l : NfsLists) (current : Option ℕ) (a : LockArgsItem) (b : BothOwners) (o : Opener) (r : StateidRow) (q : Option StateidRow) (last : ℕ) → IsGood s → is_room_for o l ≡ true → (let done = carried n s l (join_to l current a b o r q (Ok last)) in is_ok (status_of done.0) ≡ true → IsRecordedFor o a.reclaim s done.4.stable)
first_recorded n s l current a b o r q last good room ok =
    let x = ask n all_rooms s (lock_ask o r.file a.kind a.reclaim a.offset last) in
    let granted = first_granted n s l current a b o r q last room ok in
    rw room (subst (λ (stable : Stable). IsRecordedFor o a.reclaim s stable) (sym (join_stable n x.2 l current b o r q a.reclaim x.0)) (lock_recorded n s o r.file a.kind a.reclaim a.offset last good granted))

pub first_let_in : (n : ℕ) (s : CoreState) (l : NfsLists) (current : Option ℕ) (a : LockArgsItem) (b : BothOwners) (o : Opener) (r : StateidRow) (q : Option StateidRow) (last : ℕ) → KnowsRecord s → is_room_for o l ≡ true → is_ok (status_of (carried n s l (join_to l current a b o r q (Ok last))).0) ≡ true
    → (a.reclaim ≡ is_some s.grace) × (a.reclaim ≡ true → is_known (recorded_for o) s.stable.names ≡ true)
first_let_in n s l current a b o r q last knows room ok = lock_let_in n s o r.file a.kind a.reclaim a.offset last knows (first_granted n s l current a b o r q last room ok)
