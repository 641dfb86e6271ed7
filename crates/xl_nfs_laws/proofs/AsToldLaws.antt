-- What the results of a COMPOUND say is done is done.
use Rattle.std.proofs.Common.{◌≡◌, ℕ, ◌/◌, ◌%◌, ◌^◌, take, drop, Bool, true, false, List, [], ◌∷◌, Option, Some, None, if◌then◌else◌, refl, sym, ap, subst, ◌∙◌}
use Rattle.std.specs.Bool.{◌==◌}
use Rattle.std.specs.Int.{w32, w64, from_be_bytes}
use Rattle.std.specs.List.{find}
use Rattle.std.specs.Option.{option_and_then}
use Rattle.std.specs.Prelude.{IfSome}
use Rattle.xl_base.specs.Stable.{Stable}
use Rattle.xl_base.specs.declared.journal.Exports.{Exports}
use Rattle.xl_nfs.specs.Basics.{OwnerItem}
use Rattle.xl_nfs.specs.Locks.{LockArgsItem, LockTestArgsItem, LockerItem, New, NewLockerItem, Known}
use Rattle.xl_nfs.specs.Opens.{OpenArgsItem}
use Rattle.xl_nfs.specs.Ops.{OpItem, Close, DelegReturn, GetFh, Lock, LockT, LockU, Lookup, Open, OpenConfirm, OpenDowngrade, PutFh, PutRootFh, Renew, SetClientId, SetClientIdConfirm, ReleaseLockOwner, NotSupported, Illegal, op_number}
use Rattle.xl_nfs.specs.declared.basics.LockType.{LockType}
use Rattle.xl_nfs.specs.declared.basics.Stateid.{Stateid}
use Rattle.xl_nfs.specs.declared.locks.KnownLocker.{KnownLocker}
use Rattle.xl_nfs.specs.declared.locks.UnlockArgs.{UnlockArgs}
use Rattle.xl_nfs.specs.declared.opens.CloseArgs.{CloseArgs}
use Rattle.xl_nfs.specs.declared.opens.OpenConfirmArgs.{OpenConfirmArgs}
use Rattle.xl_nfs.specs.declared.opens.OpenDowngradeArgs.{OpenDowngradeArgs}
use Rattle.xl_nfs_state.specs.State.{NfsLists, is_client}
use Rattle.xl_nfs_state.specs.declared.client.ClientRow.{ClientRow}
use Rattle.xl_nfs_state.specs.declared.stateid.StateidRow.{StateidRow}
use Rattle.xl_programs.specs.Programs.{RequestItem}
use Rattle.xl_programs.specs.Sent.{sent_to}
use Rattle.xl_core.proofs.DeedLists.{deeds_good}
use Rattle.xl_core.specs.Deeds.{all_done, all_told_of, AreFit}
use Rattle.xl_core.specs.Good.{IsGood}
use Rattle.xl_core.specs.Ids.{number_in}
use Rattle.xl_core.specs.Askers.{asker}
use Rattle.xl_core.specs.Places.{ByteOf, held_at}
use Rattle.xl_core.specs.State.{CoreState}
use Rattle.xl_core.specs.Ticks.{renew}
use Rattle.xl_core.specs.declared.ask.Effect.{Effect}
use Rattle.xl_plan.proofs.BindLaws.{within_carries}
use Rattle.xl_plan.proofs.RowLaws.{row_goes, row_stops}
use Rattle.xl_plan.specs.Plans as plans
use Rattle.xl_names.specs.Names.{number_of}
use Rattle.xl_names.specs.declared.name.Name.{Name}
use Rattle.xl_names.specs.declared.name.Name.TheVariants.{NfsShare}
use Rattle.xl_nfs_opens.specs.Closing.{checked, close, close_by, confirm_by, deleg_return, open_confirm, return_done, returned}
use Rattle.xl_nfs_opens.specs.Downgrades.{downgrade_by, open_downgrade}
use Rattle.xl_nfs_opens.specs.Opens.{claim_client, client_in, judged, open_at, open_claimed, open_file, open_of, opener_of, rights_of, share_ask, share_held}
use Rattle.xl_nfs_opens.specs.Plans.{Outcome, carried, told_behind}
use Rattle.xl_nfs_opens.specs.Renewing.{number_of as number_in_other, renewals, renewals_by, state_client}
use Rattle.xl_nfs_opens.specs.declared.opener.Opener.{Opener}
use Rattle.xl_nfs_opens.specs.declared.told.Told.TheVariants.{Opened, State}
use Rattle.xl_nfs_locks.specs.Checks.{locks_found}
use Rattle.xl_nfs_locks.specs.FirstLocks.{join_checked, lock, lock_by, lock_named, lock_new}
use Rattle.xl_nfs_locks.specs.Locks.{lock_found, lock_known}
use Rattle.xl_nfs_locks.specs.Releases.{release, release_of}
use Rattle.xl_nfs_locks.specs.Tests.{lock_test, locker_of, test_at}
use Rattle.xl_nfs_locks.specs.Unlocks.{unlock, unlock_found}
use Rattle.xl_front_nfs.specs.FrontNfs.{Called, Garbage, Null, Refused, Compound, call_in, call_reply, nfs_reply}
use Rattle.xl_front_nfs.specs.State.{FrontNfs}
use Rattle.xl_front_nfs.specs.Steps.{planned, Step, Runs, Garbled, Cut, Course, begun, noted, step_plan, goes_on, compound}
use Rattle.xl_nfs_laws.specs.AnsweredStateids.{IsAnswered, LockersCloseNothing}
use Rattle.xl_nfs_laws.specs.AskedRequests.{IfRun}
use Rattle.xl_nfs_laws.specs.AsTold.{AreAllTold, AreRequestTold, AreToldBy, IsAsTold, IsOpenTold, IsStepAsTold, IsStepTold, StepDone}
use Rattle.xl_nfs_laws.specs.Delegated.{AreSet, AreTied}
use Rattle.xl_nfs_laws.specs.DoneAsTold.{AreBytesLocked, AreFirstLocked, AreKnownLocked, AreUnlocked, IsClosed, IsDowngraded, IsFirstTold, IsGivenBack, IsLockTestTold, IsLockTold, IsNamed, IsReleased}
use Rattle.xl_nfs_laws.specs.LockLaws.{AreFree, AreLocked, owner_of}
use Rattle.xl_nfs_laws.specs.OpenLaws.{IsShared}
use Rattle.xl_nfs_laws.specs.Orderly.{IsDelegated, IsKnown, IsOrderly, IsReturned}
use Rattle.xl_nfs_laws.specs.StateidNumbers.{AreGivenOut}
use Rattle.xl_nfs_laws.proofs.AnsweredLockLaws.{lock_names, unlock_names}
use Rattle.xl_nfs_laws.proofs.AnsweredOpenLaws.{close_names, confirm_names, downgrade_names}
use Rattle.xl_nfs_laws.proofs.DoneAsToldLaws.{close_ends, downgrade_lowers, first_held, given_back, known_held, release_told, renew_told, test_told, unlocked_free}
use Rattle.xl_nfs_laws.proofs.FirstLockLaws.{new_behind}
use Rattle.xl_nfs_laws.proofs.FirstToldLaws.{first_named, first_walk}
use Rattle.xl_nfs_laws.proofs.KnownOpenLaws.{told_is_known}
use Rattle.xl_nfs_laws.proofs.OwnerStayLaws.{item_calm}
use Rattle.xl_nfs_laws.proofs.RequestDelegationLaws.{item_tied}
use Rattle.xl_nfs_laws.proofs.RequestNumberLaws.{item_good}
use Rattle.xl_nfs_laws.proofs.RequestOrderLaws.{item_orderly}
use Rattle.xl_nfs_laws.proofs.SharedOpenLaws.{judged_shares}
use Rattle.xl_nfs_laws.proofs.ToldDelegationLaws.{told_delegated}
use Rattle.xl_table.specs.Relock.{shares_of}

-- ---- behind the renewal of a lease

renewed_by : (n : ℕ) (s : CoreState) (o : Option ClientRow) → ((all_done n s (renewals_by o)).stable ≡ s.stable) × ((all_done n s (renewals_by o)).counter ≡ s.counter) × AreFit n s (renewals_by o)
unfolding renew
renewed_by n s None = (refl, refl, tt)
renewed_by n s (Some r) = (refl, refl, (tt, tt))

renewed_as : (n : ℕ) (s : CoreState) (l : NfsLists) (who : Option ℕ) → ((all_done n s (renewals l who)).stable ≡ s.stable) × ((all_done n s (renewals l who)).counter ≡ s.counter) × AreFit n s (renewals l who)
renewed_as n s l None = (refl, refl, tt)
renewed_as n s l (Some number) = renewed_by n s (find (is_client number true) l.clients)

other_as : (s t : CoreState) (other : List ℕ) → t.stable ≡ s.stable → number_in_other t other ≡ number_in_other s other
unfolding number_in_other
other_as s t other e = ap (λ (x : Stable). if from_be_bytes w32 (take 4 other) == x.epoch then Some (from_be_bytes w64 (drop 4 other)) else None) e

client_as : (s t : CoreState) (l : NfsLists) (clientid : ℕ) → t.stable ≡ s.stable → client_in t l clientid ≡ client_in s l clientid
client_as s t l clientid e =
    ap (λ (x : Stable). option_and_then (λ number. find (is_client number true) l.clients) (if clientid / 2 ^ 32 == x.epoch then Some (clientid % 2 ^ 32) else None)) e

answered_from : (s t : CoreState) (l : NfsLists) (asked told : Stateid) (closed : Bool) (effects : List Effect) (done : Outcome) → t.stable ≡ s.stable → IsAnswered t l asked told closed done → IsAnswered s l asked told closed (told_behind effects done)
answered_from s t l asked told closed effects done stable is = record {
  was = is.was;
  row = is.row;
  named = sym (other_as s t asked.other stable) ∙ is.named;
  found = is.found;
  seqid = is.seqid;
  stands = is.stands;
  told_is = is.told_is;
  advanced = is.advanced;
  holder = is.holder;
  client = is.client;
  file = is.file;
  closed_is = is.closed_is;
}

-- what a stateid names before a renewal it names behind it, and the other way round
named_from : (s t : CoreState) (l : NfsLists) (stateid : Stateid) (r : StateidRow) → t.stable ≡ s.stable → IsNamed t l stateid r → IsNamed s l stateid r
named_from s t l stateid r stable is = record { number = sym (other_as s t stateid.other stable) ∙ is.number; found = is.found }

named_to : (s t : CoreState) (l : NfsLists) (stateid : Stateid) (r : StateidRow) → t.stable ≡ s.stable → IsNamed s l stateid r → IsNamed t l stateid r
named_to s t l stateid r stable is = record { number = other_as s t stateid.other stable ∙ is.number; found = is.found }

renewed_names : (n : ℕ) (s : CoreState) (l : NfsLists) (who : Option ℕ) → (all_done n s (renewals l who)).names ≡ s.names
unfolding renew
renewed_names n s l None = refl
renewed_names n s l (Some number) = by (find (is_client number true) l.clients)
  where
    by : (x : Option ClientRow) → (all_done n s (renewals_by x)).names ≡ s.names
    by None = refl
    by (Some r) = refl

-- what is held is held behind it
locked_from : (n : ℕ) (s : CoreState) (l : NfsLists) (who : Option ℕ) (o : Opener) (file : ℕ) (kind : LockType) (first last : ℕ) (u : CoreState) → AreLocked o file kind first last (all_done n s (renewals l who)) u → AreLocked o file kind first last s u
unfolding renew
locked_from n s l None o file kind first last u is = is
locked_from n s l (Some number) o file kind first last u is = by (find (is_client number true) l.clients) is
  where
    by : (x : Option ClientRow) → AreLocked o file kind first last (all_done n s (renewals_by x)) u → AreLocked o file kind first last s u
    by None was = was
    by (Some r) was = was

freed_from : (n : ℕ) (s : CoreState) (l : NfsLists) (who : Option ℕ) (o : Opener) (file first last : ℕ) (u : CoreState) → AreFree o file first last (all_done n s (renewals l who)) u → AreFree o file first last s u
unfolding renew
freed_from n s l None o file first last u is = is
freed_from n s l (Some number) o file first last u is = by (find (is_client number true) l.clients) is
  where
    by : (x : Option ClientRow) → AreFree o file first last (all_done n s (renewals_by x)) u → AreFree o file first last s u
    by None was = was
    by (Some r) was = was

closed_from : (n : ℕ) (s : CoreState) (l : NfsLists) (who : Option ℕ) (stateid : Stateid) (effects : List Effect) (done : Outcome) → IsClosed (all_done n s (renewals l who)) l stateid done → IsClosed s l stateid (told_behind effects done)
closed_from n s l who stateid effects done is = record {
  share = λ r owner number o named holds by known. is.share r owner number o (behind r named) holds by known;
  bytes = λ r q o byte named under by most. subst (λ (names : List Name). held_at done.4 (ByteOf r.file (owner_of names o) byte) ≡ []) (renewed_names n s l who) (is.bytes r q o byte (behind r named) under by most);
  locks = λ r named. is.locks r (behind r named);
}
  where
    behind : (r : StateidRow) → IsNamed s l stateid r → IsNamed (all_done n s (renewals l who)) l stateid r
    behind r named = named_to s (all_done n s (renewals l who)) l stateid r (renewed_as n s l who).0 named

-- ---- OPEN_CONFIRM, OPEN_DOWNGRADE, CLOSE, LOCK and LOCKU

confirm_told : (n : ℕ) (s : CoreState) (l : NfsLists) (current : Option ℕ) (a : OpenConfirmArgs) → IsOrderly l → IsAsTold s l (OpenConfirm a) (carried n s l (open_confirm s l current a))
unfolding open_confirm
confirm_told n s l current a orderly = λ told said.
    let who = state_client s l a.stateid in
    let t = all_done n s (renewals l who) in
    answered_from s t l a.stateid told false (all_told_of n s (renewals l who)) (carried n t l (confirm_by t l current a (checked t l current 20 a.seqid a.stateid))) (renewed_as n s l who).0 (confirm_names n t l current a told orderly said)

renewed_share : (n : ℕ) (s : CoreState) (l : NfsLists) (who : Option ℕ) (o : Opener) (file : ℕ) → share_held (all_done n s (renewals l who)) o file ≡ share_held s o file
unfolding renew share_held
renewed_share n s l None o file = refl
renewed_share n s l (Some number) o file = by (find (is_client number true) l.clients)
  where
    by : (x : Option ClientRow) → share_held (all_done n s (renewals_by x)) o file ≡ share_held s o file
    by None = refl
    by (Some r) = refl

lowered_from : (n : ℕ) (s : CoreState) (l : NfsLists) (who : Option ℕ) (a : OpenDowngradeArgs) (effects : List Effect) (done : Outcome) → IsDowngraded (all_done n s (renewals l who)) l a done → IsDowngraded s l a (told_behind effects done)
lowered_from n s l who a effects done is = record {
  access = λ r named. is.access r (behind r named);
  deny = λ r named. is.deny r (behind r named);
  share = λ r owner number o claim named holds by known held has. is.share r owner number o claim (behind r named) holds by (ap (number_of (NfsShare o.id o.owner)) (renewed_names n s l who) ∙ known) (renewed_share n s l who o r.file ∙ held) has;
}
  where
    behind : (r : StateidRow) → IsNamed s l a.stateid r → IsNamed (all_done n s (renewals l who)) l a.stateid r
    behind r named = named_to s (all_done n s (renewals l who)) l a.stateid r (renewed_as n s l who).0 named

downgrade_told : (n : ℕ) (s : CoreState) (l : NfsLists) (current : Option ℕ) (a : OpenDowngradeArgs) → IsGood s → IsOrderly l → IsAsTold s l (OpenDowngrade a) (carried n s l (open_downgrade s l current a))
unfolding open_downgrade
downgrade_told n s l current a good orderly = λ told said.
    let who = state_client s l a.stateid in
    let t = all_done n s (renewals l who) in
    let done : Outcome = carried n t l (downgrade_by t l current a (checked t l current 21 a.seqid a.stateid)) in
    let kept = renewed_as n s l who in (
      answered_from s t l a.stateid told false (all_told_of n s (renewals l who)) done kept.0 (downgrade_names n t l current a told orderly said),
      lowered_from n s l who a (all_told_of n s (renewals l who)) done (downgrade_lowers n t l current a told (deeds_good n s (renewals l who) good kept.2) orderly (checked t l current 21 a.seqid a.stateid) refl said),
    )

close_told : (n : ℕ) (s : CoreState) (l : NfsLists) (current : Option ℕ) (a : CloseArgs) → IsGood s → IsOrderly l → IsAsTold s l (Close a) (carried n s l (close s l current a))
unfolding close
close_told n s l current a good orderly = λ told said.
    let who = state_client s l a.stateid in
    let t = all_done n s (renewals l who) in
    let done : Outcome = carried n t l (close_by t l current a (checked t l current 4 a.seqid a.stateid)) in
    let kept = renewed_as n s l who in (
      answered_from s t l a.stateid told true (all_told_of n s (renewals l who)) done kept.0 (close_names n t l current a told orderly said),
      closed_from n s l who a.stateid (all_told_of n s (renewals l who)) done (close_ends n t l current a told (deeds_good n s (renewals l who) good kept.2) (checked t l current 4 a.seqid a.stateid) refl said),
    )

unlocked_from : (n : ℕ) (s : CoreState) (l : NfsLists) (who : Option ℕ) (a : UnlockArgs) (effects : List Effect) (done : Outcome) → AreUnlocked (all_done n s (renewals l who)) l a done → AreUnlocked s l a (told_behind effects done)
unlocked_from n s l who a effects done is = record {
  row = is.row;
  owner = is.owner;
  last = is.last;
  named = named_from s (all_done n s (renewals l who)) l a.stateid is.row (renewed_as n s l who).0 is.named;
  owner_is = is.owner_is;
  last_is = is.last_is;
  free = freed_from n s l who is.owner is.row.file a.offset is.last done.4 is.free;
}

unlock_told : (n : ℕ) (s : CoreState) (l : NfsLists) (current : Option ℕ) (a : UnlockArgs) → IsGood s → IsOrderly l → LockersCloseNothing l → IsAsTold s l (LockU a) (carried n s l (unlock s l current a))
unfolding unlock
unlock_told n s l current a good orderly calm = λ told said.
    let who = state_client s l a.stateid in
    let t = all_done n s (renewals l who) in
    let done : Outcome = carried n t l (unlock_found t l current a (locks_found t l current 14 a.seqid a.stateid)) in
    let kept = renewed_as n s l who in (
      answered_from s t l a.stateid told false (all_told_of n s (renewals l who)) done kept.0 (unlock_names n t l current a told orderly calm said),
      unlocked_from n s l who a (all_told_of n s (renewals l who)) done (unlocked_free n t l current a told (deeds_good n s (renewals l who) good kept.2) (locks_found t l current 14 a.seqid a.stateid) refl said),
    )

known_told : (n : ℕ) (s : CoreState) (l : NfsLists) (current : Option ℕ) (a : LockArgsItem) (x : KnownLocker) (told : Stateid) → IsOrderly l → LockersCloseNothing l → (carried n s l (lock_known s l current a x)).0 ≡ State told → IsAnswered s l x.stateid told false (carried n s l (lock_known s l current a x))
unfolding lock_known
known_told n s l current a x told orderly calm said =
    let who = state_client s l x.stateid in
    let t = all_done n s (renewals l who) in
    answered_from s t l x.stateid told false (all_told_of n s (renewals l who)) (carried n t l (lock_found t l current a x (locks_found t l current 12 x.seqid x.stateid))) (renewed_as n s l who).0 (lock_names n t l current a x told orderly calm said)

known_from : (n : ℕ) (s : CoreState) (l : NfsLists) (who : Option ℕ) (stateid : Stateid) (a : LockArgsItem) (effects : List Effect) (done : Outcome) → AreKnownLocked (all_done n s (renewals l who)) l stateid a done → AreKnownLocked s l stateid a (told_behind effects done)
known_from n s l who stateid a effects done is = record {
  row = is.row;
  owner = is.owner;
  last = is.last;
  named = named_from s (all_done n s (renewals l who)) l stateid is.row (renewed_as n s l who).0 is.named;
  owner_is = is.owner_is;
  last_is = is.last_is;
  held = locked_from n s l who is.owner is.row.file a.kind a.offset is.last done.4 is.held;
}

known_locks : (n : ℕ) (s : CoreState) (l : NfsLists) (current : Option ℕ) (a : LockArgsItem) (x : KnownLocker) (told : Stateid) → IsGood s → (carried n s l (lock_known s l current a x)).0 ≡ State told → AreKnownLocked s l x.stateid a (carried n s l (lock_known s l current a x))
unfolding lock_known
known_locks n s l current a x told good said =
    let who = state_client s l x.stateid in
    let t = all_done n s (renewals l who) in
    known_from n s l who x.stateid a (all_told_of n s (renewals l who)) (carried n t l (lock_found t l current a x (locks_found t l current 12 x.seqid x.stateid)))
    (known_held n t l current a x told (deeds_good n s (renewals l who) good (renewed_as n s l who).2) (locks_found t l current 12 x.seqid x.stateid) refl said)

-- ---- LOCK under an open

-- the stateid that it is told, and what it locks
abbrev IsFirstDone : CoreState → NfsLists → LockArgsItem → NewLockerItem → Stateid → Outcome → Type 0
IsFirstDone s l a x told done = IsFirstTold s l x told done × AreFirstLocked s l x a done

first_from : (n : ℕ) (s : CoreState) (l : NfsLists) (who : Option ℕ) (a : LockArgsItem) (x : NewLockerItem) (told : Stateid) (effects : List Effect) (done : Outcome) → IsFirstDone (all_done n s (renewals l who)) l a x told done → IsFirstDone s l a x told (told_behind effects done)
first_from n s l who a x told effects done is =
    let t = all_done n s (renewals l who) in
    let stable = (renewed_as n s l who).0 in (
      record {
        opened = is.0.opened;
        client = is.0.client;
        named = named_from s t l x.open_stateid is.0.opened stable is.0.named;
        client_is = sym (client_as s t l x.owner.clientid stable) ∙ is.0.client_is;
        own = is.0.own;
        locks = new_behind is.0.opened (locker_of is.0.client x.owner.owner) told effects done is.0.locks;
      },
      record {
        opened = is.1.opened;
        client = is.1.client;
        last = is.1.last;
        named = named_from s t l x.open_stateid is.1.opened stable is.1.named;
        client_is = sym (client_as s t l x.owner.clientid stable) ∙ is.1.client_is;
        last_is = is.1.last_is;
        held = locked_from n s l who (locker_of is.1.client x.owner.owner) is.1.opened.file a.kind a.offset is.1.last done.4 is.1.held;
      },
    )

named_done : (n : ℕ) (s : CoreState) (l : NfsLists) (current : Option ℕ) (a : LockArgsItem) (x : NewLockerItem) (told : Stateid) → IsGood s → IsOrderly l → LockersCloseNothing l → AreSet s.counter l → (carried n s l (lock_named s l current a x)).0 ≡ State told → IsFirstDone s l a x told (carried n s l (lock_named s l current a x))
unfolding lock_named
named_done n s l current a x told good orderly calm set said =
    let who = number_in s x.owner.clientid in
    let t = all_done n s (renewals l who) in
    let kept = renewed_as n s l who in
    let well : IsGood t = deeds_good n s (renewals l who) good kept.2 in
    let now : AreSet t.counter l = subst (λ (k : ℕ). AreSet k l) (sym kept.1) set in
    first_from n s l who a x told (all_told_of n s (renewals l who)) (carried n t l (join_checked t l current a x (checked t l current 12 x.open_seqid x.open_stateid)))
    (first_walk n t l current a x told (λ done. IsFirstDone t l a x told done)
    (λ r owner seqids o q passed under joined f. (first_named n t l current a x told well orderly calm now r owner seqids o q passed under joined f, first_held n t l current a x told well r owner seqids o q passed under f))
    (checked t l current 12 x.open_seqid x.open_stateid) refl said)

first_done : (n : ℕ) (s : CoreState) (l : NfsLists) (current : Option ℕ) (a : LockArgsItem) (x : NewLockerItem) (told : Stateid) → IsGood s → IsOrderly l → LockersCloseNothing l → AreSet s.counter l → (carried n s l (lock_new s l current a x)).0 ≡ State told → IsFirstDone s l a x told (carried n s l (lock_new s l current a x))
unfolding lock_new
first_done n s l current a x told good orderly calm set said =
    let who = state_client s l x.open_stateid in
    let t = all_done n s (renewals l who) in
    let kept = renewed_as n s l who in
    first_from n s l who a x told (all_told_of n s (renewals l who)) (carried n t l (lock_named t l current a x))
    (named_done n t l current a x told (deeds_good n s (renewals l who) good kept.2) orderly calm (subst (λ (k : ℕ). AreSet k l) (sym kept.1) set) said)

locker_told : (n : ℕ) (s : CoreState) (l : NfsLists) (current : Option ℕ) (a : LockArgsItem) (x : LockerItem) (told : Stateid) → IsGood s → IsOrderly l → LockersCloseNothing l → AreSet s.counter l → (carried n s l (lock_by s l current a x)).0 ≡ State told → IsLockTold s l x told (carried n s l (lock_by s l current a x)) × AreBytesLocked s l a x (carried n s l (lock_by s l current a x))
locker_told n s l current a (New x) told good orderly calm set said = first_done n s l current a x told good orderly calm set said
locker_told n s l current a (Known x) told good orderly calm set said = (known_told n s l current a x told orderly calm said, known_locks n s l current a x told good said)

lock_told : (n : ℕ) (s : CoreState) (l : NfsLists) (current : Option ℕ) (a : LockArgsItem) → IsGood s → IsOrderly l → LockersCloseNothing l → AreSet s.counter l → IsAsTold s l (Lock a) (carried n s l (lock s l current a))
unfolding lock
lock_told n s l current a good orderly calm set = λ told said. locker_told n s l current a a.locker told good orderly calm set said

-- ---- LOCKT, DELEGRETURN and RELEASE_LOCKOWNER

tested : (n : ℕ) (s : CoreState) (l : NfsLists) (current : Option ℕ) (a : LockTestArgsItem) → IsAsTold s l (LockT a) (carried n s l (lock_test s l current a))
unfolding lock_test
tested n s l current a = λ c file last client is other ends.
    (let who = number_in s a.owner.clientid in
    let t = all_done n s (renewals l who) in
    behind c file last (all_told_of n s (renewals l who)) (carried n t l (test_at t l a current)) (test_told n t l a c file last current (client_as s t l a.owner.clientid (renewed_as n s l who).0 ∙ client) ends other is))
  where
    behind : (c : ClientRow) (file last : ℕ) (effects : List Effect) (done : Outcome) → IsLockTestTold l a c file last done → IsLockTestTold l a c file last (told_behind effects done)
    behind c file last effects done is = record { told = is.told; denied = is.denied }

returned_from : (s t : CoreState) (l : NfsLists) (at : ℕ) (stateid : Stateid) (r : StateidRow) → t.stable ≡ s.stable → IsReturned t l at stateid r → IsReturned s l at stateid r
returned_from s t l at stateid r stable is = record { number = is.number; write = is.write; named = sym (other_as s t stateid.other stable) ∙ is.named; found = is.found; file = is.file; live = is.live; holder = is.holder; seqid = is.seqid }

given_back_told : (n : ℕ) (s : CoreState) (l : NfsLists) (current : Option ℕ) (stateid : Stateid) → IsGood s → IsOrderly l → IsAsTold s l (DelegReturn stateid) (carried n s l (deleg_return s l current stateid))
unfolding deleg_return
given_back_told n s l current stateid good orderly = λ said.
    (let who = state_client s l stateid in
    let t = all_done n s (renewals l who) in
    let kept = renewed_as n s l who in
    behind t kept.0 (all_told_of n s (renewals l who)) (carried n t l (return_done t l current (returned t l current stateid))) (given_back n t l stateid (deeds_good n s (renewals l who) good kept.2) orderly current said))
  where
    behind : (t : CoreState) → t.stable ≡ s.stable → (effects : List Effect) (done : Outcome) → IsGivenBack t l stateid done → IsGivenBack s l stateid (told_behind effects done)
    behind t stable effects done is = record {
      row = is.row;
      file = is.file;
      current = is.current;
      returned = returned_from s t l is.file stateid is.row stable is.returned;
      stateid_gone = is.stateid_gone;
      delegation_gone = is.delegation_gone;
      cache_gone = is.cache_gone;
    }

released_told : (n : ℕ) (s : CoreState) (l : NfsLists) (current : Option ℕ) (a : OwnerItem) → IsAsTold s l (ReleaseLockOwner a) (carried n s l (release s l current a))
unfolding release
released_told n s l current a = λ said.
    (let who = number_in s a.clientid in
    let t = all_done n s (renewals l who) in
    behind t (renewed_as n s l who).0 (all_told_of n s (renewals l who)) (carried n t l (release_of t l current a.owner (client_in t l a.clientid))) (release_told n t l current a (client_in t l a.clientid) refl said))
  where
    behind : (t : CoreState) → t.stable ≡ s.stable → (effects : List Effect) (done : Outcome) → IsReleased t l a done → IsReleased s l a (told_behind effects done)
    behind t stable effects done is = record { client = is.client; named = sym (client_as s t l a.clientid stable) ∙ is.named; free = is.free; gone = is.gone }

-- ---- OPEN

-- by the client that is found
client_told : (n : ℕ) (files : List (List ℕ)) (others : ℕ) (s : CoreState) (l : NfsLists) (at : ℕ) (a : OpenArgsItem) (stateid : Stateid) (flags : ℕ) (delegation : Option (Stateid × Bool)) (c : ClientRow) → IsGood s → IsOrderly l → AreGivenOut s.counter l → client_in s l a.owner.clientid ≡ Some c
    → (carried n s l (open_of files others s l (Some at) at a (Some c))).0 ≡ Opened stateid flags delegation → IsOpenTold s c a stateid delegation (carried n s l (open_of files others s l (Some at) at a (Some c)))
client_told n files others s l at a stateid flags None c good orderly out found said = record {
  known = told_is_known n files others s l (Some at) at c a stateid flags None orderly found said;
  delegated = tt;
  shared = judged_shares n files others s l (Some at) at (opener_of c a) a stateid flags None (judged l (opener_of c a) a.seqid) good said;
}
client_told n files others s l at a stateid flags (Some given) c good orderly out found said = record {
  known = told_is_known n files others s l (Some at) at c a stateid flags (Some given) orderly found said;
  delegated = told_delegated n files others s l (Some at) at c a stateid given.0 flags given.1 good out found said;
  shared = judged_shares n files others s l (Some at) at (opener_of c a) a stateid flags (Some given) (judged l (opener_of c a) a.seqid) good said;
}

at_told : (n : ℕ) (files : List (List ℕ)) (others : ℕ) (s : CoreState) (l : NfsLists) (a : OpenArgsItem) (current : Option ℕ) (stateid : Stateid) (flags : ℕ) (delegation : Option (Stateid × Bool)) (c : ClientRow) → IsGood s → IsOrderly l → AreGivenOut s.counter l → client_in s l a.owner.clientid ≡ Some c
    → (carried n s l (open_at files others s l a current)).0 ≡ Opened stateid flags delegation → IsOpenTold s c a stateid delegation (carried n s l (open_at files others s l a current))
at_told n files others s l a None stateid flags delegation c good orderly out found said = absurd cc
at_told n files others s l a (Some at) stateid flags delegation c good orderly out found said =
    subst (λ (x : Option ClientRow). (carried n s l (open_of files others s l (Some at) at a x)).0 ≡ Opened stateid flags delegation → IsOpenTold s c a stateid delegation (carried n s l (open_of files others s l (Some at) at a x))) (sym found)
    (client_told n files others s l at a stateid flags delegation c good orderly out found) said

known_behind : (o : Opener) (a : OpenArgsItem) (stateid : Stateid) (effects : List Effect) (done : Outcome) → IsKnown o a stateid done → IsKnown o a stateid (told_behind effects done)
known_behind o a stateid effects done is = record { row = is.row; owner = is.owner; found = is.found; named = is.named; opener = is.opener; holder = is.holder; file = is.file; live = is.live; access = is.access; deny = is.deny }

delegated_behind : (o : Opener) (effects : List Effect) (done : Outcome) (delegation : Option (Stateid × Bool)) → IfSome delegation (λ given. IsDelegated o given.0 given.1 done) → IfSome delegation (λ given. IsDelegated o given.0 given.1 (told_behind effects done))
delegated_behind o effects done None is = tt
delegated_behind o effects done (Some given) is = record { row = is.row; found = is.found; named = is.named; client = is.client; file = is.file; holder = is.holder; held = is.held }

opened_behind : (n : ℕ) (s : CoreState) (l : NfsLists) (who : Option ℕ) (c : ClientRow) (a : OpenArgsItem) (stateid : Stateid) (delegation : Option (Stateid × Bool)) (effects : List Effect) (done : Outcome) → IsOpenTold (all_done n s (renewals l who)) c a stateid delegation done → IsOpenTold s c a stateid delegation (told_behind effects done)
opened_behind n s l who c a stateid delegation effects done is = record {
  known = known_behind (opener_of c a) a stateid effects done is.known;
  delegated = delegated_behind (opener_of c a) effects done delegation is.delegated;
  shared = λ file at. subst (λ (names : List Name). IsShared (rights_of a.access) (rights_of a.deny) (shares_of file (asker (share_ask None (opener_of c a) a file) names) done.4.claims)) (renewed_names n s l who) (is.shared file at);
}

claimed_told : (n : ℕ) (files : List (List ℕ)) (others : ℕ) (s : CoreState) (l : NfsLists) (current : Option ℕ) (a : OpenArgsItem) (stateid : Stateid) (flags : ℕ) (delegation : Option (Stateid × Bool)) (c : ClientRow) → IsGood s → IsOrderly l → AreGivenOut s.counter l → client_in s l a.owner.clientid ≡ Some c
    → (carried n s l (open_claimed files others s l current a)).0 ≡ Opened stateid flags delegation → IsOpenTold s c a stateid delegation (carried n s l (open_claimed files others s l current a))
unfolding open_claimed
claimed_told n files others s l current a stateid flags delegation c good orderly out found said =
    let who = claim_client s l a.claim in
    let kept = renewed_as n s l who in
    let t = all_done n s (renewals l who) in
    opened_behind n s l who c a stateid delegation (all_told_of n s (renewals l who)) (carried n t l (open_at files others t l a current))
    (at_told n files others t l a current stateid flags delegation c (deeds_good n s (renewals l who) good kept.2) orderly (subst (λ (k : ℕ). AreGivenOut k l) (sym kept.1) out) (client_as s t l a.owner.clientid kept.0 ∙ found) said)

open_told : (n : ℕ) (files : List (List ℕ)) (others : ℕ) (s : CoreState) (l : NfsLists) (current : Option ℕ) (a : OpenArgsItem) → IsGood s → IsOrderly l → AreGivenOut s.counter l → IsAsTold s l (Open a) (carried n s l (open_file files others s l current a))
unfolding open_file
open_told n files others s l current a good orderly out = λ stateid flags delegation c said found.
    let who = number_in s a.owner.clientid in
    let kept = renewed_as n s l who in
    let t = all_done n s (renewals l who) in
    opened_behind n s l who c a stateid delegation (all_told_of n s (renewals l who)) (carried n t l (open_claimed files others t l current a))
    (claimed_told n files others t l current a stateid flags delegation c (deeds_good n s (renewals l who) good kept.2) orderly (subst (λ (k : ℕ). AreGivenOut k l) (sym kept.1) out) (client_as s t l a.owner.clientid kept.0 ∙ found) said)

-- ---- the table

-- what an operation needs of the state
record IsMet (s : CoreState) (l : NfsLists) : Type 0 where
  good : IsGood s
  orderly : IsOrderly l
  calm : LockersCloseNothing l
  tied : AreTied s l

plan_told : (n : ℕ) (files : List (List ℕ)) (others : ℕ) (s : CoreState) (l : NfsLists) (current : Option ℕ) (op : OpItem) → IsMet s l → IsAsTold s l op (carried n s l (planned files others s l current op))
unfolding planned
plan_told n files others s l current (Open a) met = open_told n files others s l current a met.good met.orderly met.tied.set.given
plan_told n files others s l current (OpenConfirm a) met = confirm_told n s l current a met.orderly
plan_told n files others s l current (OpenDowngrade a) met = downgrade_told n s l current a met.good met.orderly
plan_told n files others s l current (Close a) met = close_told n s l current a met.good met.orderly
plan_told n files others s l current (Lock a) met = lock_told n s l current a met.good met.orderly met.calm met.tied.set
plan_told n files others s l current (LockU a) met = unlock_told n s l current a met.good met.orderly met.calm
plan_told n files others s l current PutRootFh met = tt
plan_told n files others s l current (PutFh fh) met = tt
plan_told n files others s l current GetFh met = tt
plan_told n files others s l current (Lookup name) met = tt
plan_told n files others s l current (SetClientId a) met = tt
plan_told n files others s l current (SetClientIdConfirm a) met = tt
plan_told n files others s l current (Renew clientid) met = λ said. renew_told n s l current clientid said
plan_told n files others s l current (DelegReturn stateid) met = given_back_told n s l current stateid met.good met.orderly
plan_told n files others s l current (LockT a) met = tested n s l current a
plan_told n files others s l current (ReleaseLockOwner a) met = released_told n s l current a
plan_told n files others s l current (NotSupported number) met = tt
plan_told n files others s l current (Illegal number) met = tt

-- ---- a request

-- a step comes to what its operation comes to
run_is : (n : ℕ) (files : List (List ℕ)) (others : ℕ) (c : Course) (s : CoreState) (l : NfsLists) (op : OpItem)
    → (let r = plans.carried n s l (planned files others s l c.current op) in plans.carried n s l (step_plan files others c s l (Runs op)) ≡ (noted c (op_number op) r.0, r.1, r.2, r.3))
unfolding step_plan
run_is n files others c s l op = within_carries n s l (λ m. m) (λ told m. (noted c (op_number op) told, m)) (planned files others s l c.current op)

step_told : (n : ℕ) (files : List (List ℕ)) (others : ℕ) (c : Course) (s : CoreState) (l : NfsLists) (step : Step) → IsMet s l → IsStepAsTold c s l step (plans.carried n s l (step_plan files others c s l step))
unfolding step_plan
step_told n files others c s l (Runs op) met =
    let r = plans.carried n s l (planned files others s l c.current op) in
    subst (λ (x : StepDone). IsStepTold c s l op x) (sym (run_is n files others c s l op))
    (record { told = r.0.0; current = r.0.1; result = refl; as_told = plan_told n files others s l c.current op met })
step_told n files others c s l (Garbled number) met = (refl, refl)
step_told n files others c s l Cut met = (refl, refl)

met_by : (n : ℕ) (files : List (List ℕ)) (others : ℕ) (c : Course) (s : CoreState) (l : NfsLists) (step : Step) → IsMet s l → (let r = plans.carried n s l (step_plan files others c s l step) in IsMet r.3 r.2)
unfolding step_plan
met_by n files others c s l (Runs op) met =
    let current = c.current in
    subst (λ (x : StepDone). IsMet x.3 x.2) (sym (run_is n files others c s l op))
    (record {
      good = item_good n files others s l current op met.good;
      orderly = item_orderly n files others s l current op met.orderly;
      calm = item_calm n files others s l current op met.orderly met.calm;
      tied = item_tied n files others s l current op met.good met.orderly met.tied;
    })
met_by n files others c s l (Garbled number) met = met
met_by n files others c s l Cut met = met

all_told : (n : ℕ) (files : List (List ℕ)) (others : ℕ) (c : Course) (s : CoreState) (l : NfsLists) (steps : List Step) → IsMet s l → AreAllTold files others n c s l steps (plans.carried n s l (compound files others c s l steps)).0
all_told n files others c s l [] met = refl
all_told n files others c s l (step ∷ steps) met =
    let r = plans.carried n s l (step_plan files others c s l step) in
    (step_told n files others c s l step met, by (goes_on r.0) refl (all_told n files others r.0 r.3 r.2 steps (met_by n files others c s l step met)))
  where
    by : (on : Bool) → (let r = plans.carried n s l (step_plan files others c s l step) in goes_on r.0 ≡ on → AreAllTold files others n r.0 r.3 r.2 steps (plans.carried n r.3 r.2 (compound files others r.0 r.3 r.2 steps)).0
        → IfRun on (AreAllTold files others n r.0 r.3 r.2 steps (plans.carried n s l (compound files others c s l (step ∷ steps))).0) ((plans.carried n s l (compound files others c s l (step ∷ steps))).0 ≡ r.0))
    by true = λ on rest.
        let r = plans.carried n s l (step_plan files others c s l step) in
        subst (λ (last : Course). AreAllTold files others n r.0 r.3 r.2 steps last) (sym (ap (λ (x : StepDone). x.0) (row_goes (step_plan files others) goes_on n c s l step steps on))) rest
    by false = λ off rest. ap (λ (x : StepDone). x.0) (row_stops (step_plan files others) goes_on n c s l step steps off)

call_told : (n : ℕ) (files : List (List ℕ)) (others : ℕ) (f : FrontNfs) (s : CoreState) (conn xid : ℕ) (call : Called) → IsMet s f.state → AreToldBy n files others f s conn xid call (sent_to conn (call_reply n files others f s xid call))
call_told n files others f s conn xid Garbage met = tt
call_told n files others f s conn xid Null met = tt
call_told n files others f s conn xid (Refused tag status) met = tt
call_told n files others f s conn xid (Compound tag steps) met = ((plans.carried n s f.state (compound files others begun s f.state steps)).0, refl, all_told n files others begun s f.state steps met)

pub request_told : (n : ℕ) (exports : Exports) (others : ℕ) (f : FrontNfs) (s : CoreState) (conn : ℕ) (r : RequestItem) → IsGood s → IsOrderly f.state → LockersCloseNothing f.state → AreTied s f.state → AreRequestTold n exports others f s conn r (sent_to conn (nfs_reply n exports others f s r))
request_told n exports others f s conn r good orderly calm tied = call_told n exports.files others f s conn r.xid (call_in r) (record { good = good; orderly = orderly; calm = calm; tied = tied })
