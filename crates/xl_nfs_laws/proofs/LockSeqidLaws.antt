-- What requests of a lock owner leave: repeats, and how far the owner's requests have come.
use Rattle.std.proofs.Common.{◌≡◌, ℕ, ◌<◌, ◌^◌, Bool, true, false, List, Option, Some, None, Result, Ok, Err, is_some, refl, sym, ap, subst, ◌∙◌, inl, inr, arith, true≢false}
use Rattle.std.proofs.lemmas.Bool.{cases_Bool, and_parts, eq-eqb}
use Rattle.std.proofs.lemmas.Option.{same_Some}
use Rattle.std.specs.Bool.{◌==◌}
use Rattle.std.specs.List.{find}
use Rattle.std.specs.Prelude.{IfSome}
use Rattle.xl_base.proofs.Members.{all_in}
use Rattle.xl_base.proofs.Searches.{find_in}
use Rattle.xl_base.specs.Lists.{IsIn}
use Rattle.xl_nfs.specs.Locks.{LockArgsItem, NewLockerItem}
use Rattle.xl_nfs.specs.Outcomes.{is_ok}
use Rattle.xl_nfs.specs.declared.basics.Stateid.{Stateid}
use Rattle.xl_nfs.specs.declared.locks.KnownLocker.{KnownLocker}
use Rattle.xl_nfs.specs.declared.locks.UnlockArgs.{UnlockArgs}
use Rattle.xl_nfs.specs.declared.status.NfsStatus.{NfsStatus}
use Rattle.xl_nfs.specs.declared.status.NfsStatus.TheVariants as statuses
use Rattle.xl_nfs_state.proofs.ResultMapLaws.{some_found}
use Rattle.xl_nfs_state.specs.State.{NfsLists, IsSound, hangs, has_client, holder_hangs, is_client, is_kept, is_owner, is_stateid, owned_on}
use Rattle.xl_nfs_state.specs.Verdict.{next_seqid, verdict}
use Rattle.xl_nfs_state.specs.declared.client.ClientRow.{ClientRow}
use Rattle.xl_nfs_state.specs.declared.kept.KeptRow.{KeptRow}
use Rattle.xl_nfs_state.specs.declared.owner.OwnerKind.TheVariants as kinds
use Rattle.xl_nfs_state.specs.declared.owner.OwnerRow.{OwnerRow}
use Rattle.xl_nfs_state.specs.declared.owner.SeqidState.{SeqidState}
use Rattle.xl_nfs_state.specs.declared.stateid.StateidRow.{StateidRow}
use Rattle.xl_core.specs.Decide.{ask}
use Rattle.xl_core.specs.State.{CoreState}
use Rattle.xl_core.specs.declared.ask.Answer.{Answer}
use Rattle.xl_nfs_laws.proofs.OpenSeqidLaws.{IsNext, counted_advanced, done_advanced, failed_counts, passed_is_next}
use Rattle.xl_nfs_laws.proofs.OpenLaws.{left_alone, repeat_kept}
use Rattle.xl_nfs_laws.proofs.FirstSeqidLaws.{differs}
use Rattle.xl_nfs_laws.specs.OpenSeqids.{seqids_after, CountsFor, HasAdvanced}
use Rattle.xl_nfs_opens.specs.Asks.{unlock_ask}
use Rattle.xl_nfs_opens.specs.Closing.{checked, failed, next_seqids, opener_by, opener_named, standing_fault}
use Rattle.xl_nfs_laws.specs.OpenLaws.{IsRepeated}
use Rattle.xl_nfs_opens.specs.Opens.{all_rooms, client_in, is_granted, live, repeated}
use Rattle.xl_nfs_opens.specs.Plans.{carried, status_of}
use Rattle.xl_nfs_opens.specs.Results.{spelled}
use Rattle.xl_nfs_opens.specs.Seqids.{advances, is_opener}
use Rattle.xl_nfs_opens.specs.declared.opener.Checked.{Checked}
use Rattle.xl_nfs_opens.specs.declared.opener.Checked.TheVariants.{Passed, Refused, Repeated}
use Rattle.xl_nfs_opens.specs.declared.opener.Opener.{Opener}
use Rattle.xl_nfs_opens.specs.declared.told.Told.{Told}
use Rattle.xl_nfs_opens.specs.declared.told.Told.TheVariants.{Ended}
use Rattle.xl_nfs_locks.specs.Checks.{locks_found}
use Rattle.xl_nfs_locks.specs.Denials.{lock_told}
use Rattle.xl_nfs_locks.specs.FirstLocks.{both_of, by_row, by_verdict, counted_open, fits_under, found_joined, join_again, join_as, join_checked, join_of, join_standing, locker_under}
use Rattle.xl_nfs_laws.specs.LockStateids.{HasComeAgain, IsNextOn}
use Rattle.xl_nfs_locks.specs.Locks.{access_above, lock_answered, lock_by_owner, lock_end, lock_found, lock_refused, lock_standing, lock_to}
use Rattle.xl_nfs_locks.specs.Ranges.{last_byte, lock_ask}
use Rattle.xl_nfs_locks.specs.Tests.{locker_of}
use Rattle.xl_nfs_locks.specs.Unlocks.{unlock_by_owner, unlock_found, unlock_standing, unlock_status, unlock_to, unlocked_as}
use Rattle.xl_nfs_locks.specs.declared.joining.BothOwners.{BothOwners}
use Rattle.xl_nfs_locks.specs.declared.joining.Joined.{Joined}
use Rattle.xl_nfs_locks.specs.declared.joining.Joined.TheVariants.{Again, Bad, Joins}
use Rattle.xl_nfs_laws.proofs.LockOwnerLaws.{other_kind, to_stays, unnamed_seqid_set}
use Rattle.xl_nfs_laws.proofs.LockStateidLaws.{passed_next}
use Rattle.xl_nfs_laws.proofs.LockOrderLaws.{counted_owners}

-- ---- repeats

pub lock_repeated : (n : ℕ) (s : CoreState) (l : NfsLists) (current : Option ℕ) (a : LockArgsItem) (x : KnownLocker) (number : ℕ) (k : KeptRow) → find (is_kept number) l.kept ≡ Some k → IsRepeated k.result l s (carried n s l (lock_found s l current a x (Repeated number)))
lock_repeated n s l current a x number k e = repeat_kept n s l current (find (is_kept number) l.kept) k e

pub unlock_repeated : (n : ℕ) (s : CoreState) (l : NfsLists) (current : Option ℕ) (a : UnlockArgs) (number : ℕ) (k : KeptRow) → find (is_kept number) l.kept ≡ Some k → IsRepeated k.result l s (carried n s l (unlock_found s l current a (Repeated number)))
unlock_repeated n s l current a number k e = repeat_kept n s l current (find (is_kept number) l.kept) k e

pub first_repeated : (n : ℕ) (s : CoreState) (l : NfsLists) (current : Option ℕ) (a : LockArgsItem) (x : NewLockerItem) (number : ℕ) (k : KeptRow) → find (is_kept number) l.kept ≡ Some k → IsRepeated k.result l s (carried n s l (join_checked s l current a x (Repeated number)))
first_repeated n s l current a x number k e = repeat_kept n s l current (find (is_kept number) l.kept) k e

-- ---- the client and the owner of locks that are there are there

named_both : (c : Option ClientRow) (o : OwnerRow) → is_some c ≡ true → (x : Opener) × (opener_named c (Some o) ≡ Some x)
named_both None o there = absurd (true≢false (sym there))
named_both (Some c) o there = (record { client = c.number; id = c.id; verifier = c.details.verifier; kind = o.name.kind; owner = o.name.owner }, refl)

pub opener_there : (l : NfsLists) (r : StateidRow) (owner : ℕ) (o : OwnerRow) → IsSound l → find (is_stateid r.number) l.stateids ≡ Some r → find (is_owner owner) l.owners ≡ Some o → (x : Opener) × (opener_by l r.client owner ≡ Some x)
unfolding opener_by
opener_there l r owner o sound found owned =
    let here : IsIn r l.stateids = (subst (λ (x : Option StateidRow). IfSome x (λ y. IsIn y l.stateids × ((r.number == y.number) ≡ true))) found (find_in (is_stateid r.number) l.stateids)).0 in
    let hung : hangs l r ≡ true = all_in (λ (s : StateidRow). hangs l s ≡ true) r l.stateids sound.stateids here in
    let client : has_client r.client l.clients ≡ true = (and_parts (has_client r.client l.clients) (holder_hangs l r.client r.file r.holder) hung).0 in
    let both = named_both (find (is_client r.client true) l.clients) o (some_found (is_client r.client true) l.clients ∙ client) in
    (both.0, ap (λ (y : Option OwnerRow). opener_named (find (is_client r.client true) l.clients) y) owned ∙ both.1)

-- ---- LOCK by a lock's stateid

refused_counts : (n : ℕ) (s : CoreState) (l : NfsLists) (current : Option ℕ) (owner : ℕ) (o : OwnerRow) (seqids : SeqidState) (seqid : ℕ) (told : Told) → find (is_owner owner) l.owners ≡ Some o → CountsFor owner o (next_seqids 12 seqid seqids.confirmed None) 12 l (carried n s l (lock_refused l current owner seqids seqid told))
refused_counts n s l current owner o seqids seqid told found = λ counts. rw counts (counted_advanced owner o seqids.closed (next_seqids 12 seqid seqids.confirmed None) (spelled 12 told) l found)

answered_counts : (n : ℕ) (s : CoreState) (l : NfsLists) (current : Option ℕ) (r : StateidRow) (owner : ℕ) (o : OwnerRow) (seqids : SeqidState) (seqid : ℕ) (reclaim : Bool) (answer : Answer) → find (is_owner owner) l.owners ≡ Some o → CountsFor owner o (next_seqids 12 seqid seqids.confirmed None) 12 l (carried n s l (lock_answered l current r owner seqids seqid reclaim answer s))
answered_counts n s l current r owner o seqids seqid reclaim answer found =
    elim (cases_Bool (is_granted answer)) [
      | inl e ↦ rw e (λ counts. done_advanced s l r owner o seqids 12 seqid seqids.confirmed None 0 0 false found)
      | inr e ↦ rw e (refused_counts n s l current owner o seqids seqid (lock_told s l reclaim answer) found)
    ]

lock_by_counts : (n : ℕ) (s : CoreState) (l : NfsLists) (current : Option ℕ) (a : LockArgsItem) (r : StateidRow) (owner : ℕ) (o : OwnerRow) (seqids : SeqidState) (seqid last : ℕ) (x : Opener) (by : Option Opener) → by ≡ Some x → find (is_owner owner) l.owners ≡ Some o → CountsFor owner o (next_seqids 12 seqid seqids.confirmed None) 12 l (carried n s l (lock_by_owner l current a r owner seqids seqid last by))
lock_by_counts n s l current a r owner o seqids seqid last x None e found = absurd (true≢false (ap is_some (sym e)))
lock_by_counts n s l current a r owner o seqids seqid last x (Some y) e found =
    let z = ask n all_rooms s (lock_ask y r.file a.kind a.reclaim a.offset last) in
    answered_counts n z.2 l current r owner o seqids seqid a.reclaim z.0 found

lock_to_counts : (n : ℕ) (s : CoreState) (l : NfsLists) (current : Option ℕ) (a : LockArgsItem) (r : StateidRow) (owner : ℕ) (o : OwnerRow) (seqids : SeqidState) (seqid : ℕ) (last : Result ℕ NfsStatus) (x : Opener) → opener_by l r.client owner ≡ Some x → find (is_owner owner) l.owners ≡ Some o → CountsFor owner o (next_seqids 12 seqid seqids.confirmed None) 12 l (carried n s l (lock_to l current a r owner seqids seqid last))
lock_to_counts n s l current a r owner o seqids seqid (Err status) x by found = failed_counts n s l current owner o seqids 12 seqid status found
lock_to_counts n s l current a r owner o seqids seqid (Ok last) x by found = lock_by_counts n s l current a r owner o seqids seqid last x (opener_by l r.client owner) by found

lock_standing_counts : (n : ℕ) (s : CoreState) (l : NfsLists) (current : Option ℕ) (a : LockArgsItem) (r : StateidRow) (owner : ℕ) (o : OwnerRow) (seqids : SeqidState) (seqid : ℕ) (fault : Option NfsStatus) (x : Opener) → opener_by l r.client owner ≡ Some x → find (is_owner owner) l.owners ≡ Some o → CountsFor owner o (next_seqids 12 seqid seqids.confirmed None) 12 l (carried n s l (lock_standing l current a r owner seqids seqid fault))
lock_standing_counts n s l current a r owner o seqids seqid (Some status) x by found = failed_counts n s l current owner o seqids 12 seqid status found
lock_standing_counts n s l current a r owner o seqids seqid None x by found = lock_to_counts n s l current a r owner o seqids seqid (lock_end a.kind (access_above l r.holder) (last_byte a.offset a.len)) x by found

-- how far the owner's requests have come once one by the next seqid counts
next_come : (s : CoreState) (l : NfsLists) (current : Option ℕ) (op seqid : ℕ) (stateid : Stateid) (r : StateidRow) (owner : ℕ) (seqids : SeqidState) (o : OwnerRow) → IsNextOn s l current seqid stateid r owner seqids → find (is_owner owner) l.owners ≡ Some o → next_seqids op seqid seqids.confirmed None ≡ seqids_after o op o.seqids.confirmed None
next_come s l current op seqid stateid r owner seqids o is found =
    let same : is.row ≡ o = same_Some is.row o (sym is.locks.owner ∙ found) in
    let come : next_seqids op seqid seqids.confirmed None ≡ seqids_after is.row op is.row.seqids.confirmed None = (λ i. next_seqids op (is.seqid_is i) (is.seqids_is i).confirmed None) in
    come ∙ ap (λ (y : OwnerRow). seqids_after y op y.seqids.confirmed None) same

pub lock_counts : (n : ℕ) (s : CoreState) (l : NfsLists) (current : Option ℕ) (a : LockArgsItem) (x : KnownLocker) (r : StateidRow) (owner : ℕ) (seqids : SeqidState) (o : OwnerRow) → IsSound l → locks_found s l current 12 x.seqid x.stateid ≡ Passed r owner seqids → find (is_owner owner) l.owners ≡ Some o
    → CountsFor owner o (seqids_after o 12 o.seqids.confirmed None) 12 l (carried n s l (lock_found s l current a x (locks_found s l current 12 x.seqid x.stateid)))
lock_counts n s l current a x r owner seqids o sound e found =
    let is : IsNextOn s l current x.seqid x.stateid r owner seqids = passed_next s l current 12 x.seqid x.stateid r owner seqids e in
    let by = opener_there l r owner o sound is.locks.found found in
    let fault = standing_fault r seqids x.stateid.seqid true in
    subst (λ (c : Checked). CountsFor owner o (seqids_after o 12 o.seqids.confirmed None) 12 l (carried n s l (lock_found s l current a x c))) (sym e)
    (subst (λ (t : SeqidState). CountsFor owner o t 12 l (carried n s l (lock_standing l current a r owner seqids x.seqid fault))) (next_come s l current 12 x.seqid x.stateid r owner seqids o is found)
    (lock_standing_counts n s l current a r owner o seqids x.seqid fault by.0 by.1 found))

-- ---- LOCKU

unlocked_counts : (n : ℕ) (s : CoreState) (l : NfsLists) (current : Option ℕ) (a : UnlockArgs) (r : StateidRow) (owner : ℕ) (o : OwnerRow) (seqids : SeqidState) (status : NfsStatus) → find (is_owner owner) l.owners ≡ Some o → CountsFor owner o (next_seqids 14 a.seqid seqids.confirmed None) 14 l (carried n s l (unlocked_as s l current a r owner seqids status))
unlocked_counts n s l current a r owner o seqids status found =
    elim (cases_Bool (is_ok status)) [
      | inl e ↦ rw e (λ counts. done_advanced s l r owner o seqids 14 a.seqid seqids.confirmed None 0 0 false found)
      | inr e ↦ rw e (failed_counts n s l current owner o seqids 14 a.seqid status found)
    ]

unlock_by_counts : (n : ℕ) (s : CoreState) (l : NfsLists) (current : Option ℕ) (a : UnlockArgs) (r : StateidRow) (owner : ℕ) (o : OwnerRow) (seqids : SeqidState) (last : ℕ) (x : Opener) (by : Option Opener) → by ≡ Some x → find (is_owner owner) l.owners ≡ Some o → CountsFor owner o (next_seqids 14 a.seqid seqids.confirmed None) 14 l (carried n s l (unlock_by_owner l current a r owner seqids last by))
unlock_by_counts n s l current a r owner o seqids last x None e found = absurd (true≢false (ap is_some (sym e)))
unlock_by_counts n s l current a r owner o seqids last x (Some y) e found =
    let z = ask n all_rooms s (unlock_ask y r.file a.offset last) in
    unlocked_counts n z.2 l current a r owner o seqids (unlock_status z.0) found

unlock_to_counts : (n : ℕ) (s : CoreState) (l : NfsLists) (current : Option ℕ) (a : UnlockArgs) (r : StateidRow) (owner : ℕ) (o : OwnerRow) (seqids : SeqidState) (last : Option ℕ) (x : Opener) → opener_by l r.client owner ≡ Some x → find (is_owner owner) l.owners ≡ Some o → CountsFor owner o (next_seqids 14 a.seqid seqids.confirmed None) 14 l (carried n s l (unlock_to l current a r owner seqids last))
unlock_to_counts n s l current a r owner o seqids None x by found = failed_counts n s l current owner o seqids 14 a.seqid statuses.Inval found
unlock_to_counts n s l current a r owner o seqids (Some last) x by found = unlock_by_counts n s l current a r owner o seqids last x (opener_by l r.client owner) by found

unlock_standing_counts : (n : ℕ) (s : CoreState) (l : NfsLists) (current : Option ℕ) (a : UnlockArgs) (r : StateidRow) (owner : ℕ) (o : OwnerRow) (seqids : SeqidState) (fault : Option NfsStatus) (x : Opener) → opener_by l r.client owner ≡ Some x → find (is_owner owner) l.owners ≡ Some o → CountsFor owner o (next_seqids 14 a.seqid seqids.confirmed None) 14 l (carried n s l (unlock_standing l current a r owner seqids fault))
unlock_standing_counts n s l current a r owner o seqids (Some status) x by found = failed_counts n s l current owner o seqids 14 a.seqid status found
unlock_standing_counts n s l current a r owner o seqids None x by found = unlock_to_counts n s l current a r owner o seqids (last_byte a.offset a.len) x by found

pub unlock_counts : (n : ℕ) (s : CoreState) (l : NfsLists) (current : Option ℕ) (a : UnlockArgs) (r : StateidRow) (owner : ℕ) (seqids : SeqidState) (o : OwnerRow) → IsSound l → locks_found s l current 14 a.seqid a.stateid ≡ Passed r owner seqids → find (is_owner owner) l.owners ≡ Some o
    → CountsFor owner o (seqids_after o 14 o.seqids.confirmed None) 14 l (carried n s l (unlock_found s l current a (locks_found s l current 14 a.seqid a.stateid)))
unlock_counts n s l current a r owner seqids o sound e found =
    let is : IsNextOn s l current a.seqid a.stateid r owner seqids = passed_next s l current 14 a.seqid a.stateid r owner seqids e in
    let by = opener_there l r owner o sound is.locks.found found in
    let fault = standing_fault r seqids a.stateid.seqid true in
    subst (λ (c : Checked). CountsFor owner o (seqids_after o 14 o.seqids.confirmed None) 14 l (carried n s l (unlock_found s l current a c))) (sym e)
    (subst (λ (t : SeqidState). CountsFor owner o t 14 l (carried n s l (unlock_standing l current a r owner seqids fault))) (next_come s l current 14 a.seqid a.stateid r owner seqids o is found)
    (unlock_standing_counts n s l current a r owner o seqids fault by.0 by.1 found))

-- ---- what doesn't count

abbrev IsUncounted : NfsLists → Told → NfsLists → Type 0
IsUncounted l told new = advances (status_of told) ≡ false → new ≡ l

repeat_stays : (n : ℕ) (s : CoreState) (l : NfsLists) (current : Option ℕ) (k : Option KeptRow) → (carried n s l (repeated s l current k)).3 ≡ l
repeat_stays n s l current None = refl
repeat_stays n s l current (Some k) = refl

answered_stays : (n : ℕ) (s : CoreState) (l : NfsLists) (current : Option ℕ) (r : StateidRow) (owner : ℕ) (seqids : SeqidState) (seqid : ℕ) (reclaim : Bool) (answer : Answer) → IsUncounted l (carried n s l (lock_answered l current r owner seqids seqid reclaim answer s)).0 (carried n s l (lock_answered l current r owner seqids seqid reclaim answer s)).3
answered_stays n s l current r owner seqids seqid reclaim answer =
    elim (cases_Bool (is_granted answer)) [
      | inl e ↦ rw e (λ not. absurd (true≢false not))
      | inr e ↦ rw e (λ not. rw not refl)
    ]

lock_by_stays : (n : ℕ) (s : CoreState) (l : NfsLists) (current : Option ℕ) (a : LockArgsItem) (r : StateidRow) (owner : ℕ) (seqids : SeqidState) (seqid last : ℕ) (by : Option Opener) → IsUncounted l (carried n s l (lock_by_owner l current a r owner seqids seqid last by)).0 (carried n s l (lock_by_owner l current a r owner seqids seqid last by)).3
lock_by_stays n s l current a r owner seqids seqid last None = λ not. refl
lock_by_stays n s l current a r owner seqids seqid last (Some y) =
    let z = ask n all_rooms s (lock_ask y r.file a.kind a.reclaim a.offset last) in
    answered_stays n z.2 l current r owner seqids seqid a.reclaim z.0

lock_to_stays : (n : ℕ) (s : CoreState) (l : NfsLists) (current : Option ℕ) (a : LockArgsItem) (r : StateidRow) (owner : ℕ) (seqids : SeqidState) (seqid : ℕ) (last : Result ℕ NfsStatus) → IsUncounted l (carried n s l (lock_to l current a r owner seqids seqid last)).0 (carried n s l (lock_to l current a r owner seqids seqid last)).3
lock_to_stays n s l current a r owner seqids seqid (Err status) = λ not. left_alone l owner seqids 12 seqid status not
lock_to_stays n s l current a r owner seqids seqid (Ok last) = lock_by_stays n s l current a r owner seqids seqid last (opener_by l r.client owner)

lock_standing_stays : (n : ℕ) (s : CoreState) (l : NfsLists) (current : Option ℕ) (a : LockArgsItem) (r : StateidRow) (owner : ℕ) (seqids : SeqidState) (seqid : ℕ) (fault : Option NfsStatus) → IsUncounted l (carried n s l (lock_standing l current a r owner seqids seqid fault)).0 (carried n s l (lock_standing l current a r owner seqids seqid fault)).3
lock_standing_stays n s l current a r owner seqids seqid (Some status) = λ not. left_alone l owner seqids 12 seqid status not
lock_standing_stays n s l current a r owner seqids seqid None = lock_to_stays n s l current a r owner seqids seqid (lock_end a.kind (access_above l r.holder) (last_byte a.offset a.len))

lock_found_stays : (n : ℕ) (s : CoreState) (l : NfsLists) (current : Option ℕ) (a : LockArgsItem) (x : KnownLocker) (c : Checked) → IsUncounted l (carried n s l (lock_found s l current a x c)).0 (carried n s l (lock_found s l current a x c)).3
lock_found_stays n s l current a x (Refused status) = λ not. refl
lock_found_stays n s l current a x (Repeated owner) = λ not. repeat_stays n s l current (find (is_kept owner) l.kept)
lock_found_stays n s l current a x (Passed r owner seqids) = lock_standing_stays n s l current a r owner seqids x.seqid (standing_fault r seqids x.stateid.seqid true)

pub lock_stays : (n : ℕ) (s : CoreState) (l : NfsLists) (current : Option ℕ) (a : LockArgsItem) (x : KnownLocker) → advances (status_of (carried n s l (lock_found s l current a x (locks_found s l current 12 x.seqid x.stateid))).0) ≡ false → (carried n s l (lock_found s l current a x (locks_found s l current 12 x.seqid x.stateid))).3 ≡ l
lock_stays n s l current a x = lock_found_stays n s l current a x (locks_found s l current 12 x.seqid x.stateid)

unlocked_stays : (n : ℕ) (s : CoreState) (l : NfsLists) (current : Option ℕ) (a : UnlockArgs) (r : StateidRow) (owner : ℕ) (seqids : SeqidState) (status : NfsStatus) → IsUncounted l (carried n s l (unlocked_as s l current a r owner seqids status)).0 (carried n s l (unlocked_as s l current a r owner seqids status)).3
unlocked_stays n s l current a r owner seqids status =
    elim (cases_Bool (is_ok status)) [
      | inl e ↦ rw e (λ not. absurd (true≢false not))
      | inr e ↦ rw e (λ not. left_alone l owner seqids 14 a.seqid status not)
    ]

unlock_by_stays : (n : ℕ) (s : CoreState) (l : NfsLists) (current : Option ℕ) (a : UnlockArgs) (r : StateidRow) (owner : ℕ) (seqids : SeqidState) (last : ℕ) (by : Option Opener) → IsUncounted l (carried n s l (unlock_by_owner l current a r owner seqids last by)).0 (carried n s l (unlock_by_owner l current a r owner seqids last by)).3
unlock_by_stays n s l current a r owner seqids last None = λ not. refl
unlock_by_stays n s l current a r owner seqids last (Some y) =
    let z = ask n all_rooms s (unlock_ask y r.file a.offset last) in
    unlocked_stays n z.2 l current a r owner seqids (unlock_status z.0)

unlock_to_stays : (n : ℕ) (s : CoreState) (l : NfsLists) (current : Option ℕ) (a : UnlockArgs) (r : StateidRow) (owner : ℕ) (seqids : SeqidState) (last : Option ℕ) → IsUncounted l (carried n s l (unlock_to l current a r owner seqids last)).0 (carried n s l (unlock_to l current a r owner seqids last)).3
unlock_to_stays n s l current a r owner seqids None = λ not. left_alone l owner seqids 14 a.seqid statuses.Inval not
unlock_to_stays n s l current a r owner seqids (Some last) = unlock_by_stays n s l current a r owner seqids last (opener_by l r.client owner)

unlock_standing_stays : (n : ℕ) (s : CoreState) (l : NfsLists) (current : Option ℕ) (a : UnlockArgs) (r : StateidRow) (owner : ℕ) (seqids : SeqidState) (fault : Option NfsStatus) → IsUncounted l (carried n s l (unlock_standing l current a r owner seqids fault)).0 (carried n s l (unlock_standing l current a r owner seqids fault)).3
unlock_standing_stays n s l current a r owner seqids (Some status) = λ not. left_alone l owner seqids 14 a.seqid status not
unlock_standing_stays n s l current a r owner seqids None = unlock_to_stays n s l current a r owner seqids (last_byte a.offset a.len)

unlock_found_stays : (n : ℕ) (s : CoreState) (l : NfsLists) (current : Option ℕ) (a : UnlockArgs) (c : Checked) → IsUncounted l (carried n s l (unlock_found s l current a c)).0 (carried n s l (unlock_found s l current a c)).3
unlock_found_stays n s l current a (Refused status) = λ not. refl
unlock_found_stays n s l current a (Repeated owner) = λ not. repeat_stays n s l current (find (is_kept owner) l.kept)
unlock_found_stays n s l current a (Passed r owner seqids) = unlock_standing_stays n s l current a r owner seqids (standing_fault r seqids a.stateid.seqid true)

pub unlock_stays : (n : ℕ) (s : CoreState) (l : NfsLists) (current : Option ℕ) (a : UnlockArgs) → advances (status_of (carried n s l (unlock_found s l current a (locks_found s l current 14 a.seqid a.stateid))).0) ≡ false → (carried n s l (unlock_found s l current a (locks_found s l current 14 a.seqid a.stateid))).3 ≡ l
unlock_stays n s l current a = unlock_found_stays n s l current a (locks_found s l current 14 a.seqid a.stateid)

-- ---- the last LOCK of a lock owner under an open

verdict_again : (w : OwnerRow) (q : Option StateidRow) (seqid : ℕ) → seqid ≡ w.seqids.seqid → w.seqids.op ≡ 12 → seqid < 2 ^ 32 → by_verdict w q (verdict (Some w.seqids) 12 seqid) ≡ Again w.number
verdict_again w q seqid last op le =
    rw (differs seqid (next_seqid w.seqids.seqid) (λ e. omega (arith, e, last, le))) (rw (eq-eqb seqid w.seqids.seqid last) (rw (eq-eqb 12 w.seqids.op (sym op)) refl))

pub last_again : (l : NfsLists) (r : StateidRow) (o : Opener) (w : OwnerRow) (seqid : ℕ) → find (is_opener o) l.owners ≡ Some w → fits_under r.number (live (find (owned_on w.number r.file) l.stateids)) ≡ true → seqid ≡ w.seqids.seqid → w.seqids.op ≡ 12 → seqid < 2 ^ 32 → found_joined l r o seqid ≡ Again w.number
unfolding found_joined
last_again l r o w seqid found under last op le =
    ap (λ (x : Option OwnerRow). by_row l r seqid x) found ∙ rw under (verdict_again w (live (find (owned_on w.number r.file) l.stateids)) seqid last op le)

locker_kind : (r : StateidRow) (owner : List ℕ) (c : Option ClientRow) (o : Opener) → locker_under r owner c ≡ Some o → o.kind ≡ kinds.Lock
locker_kind r owner None o e = absurd (true≢false (ap is_some (sym e)))
locker_kind r owner (Some c) o e =
    elim (cases_Bool (c.number == r.client)) [
      | inl h ↦ ap (λ (y : Opener). y.kind) (sym (same_Some (locker_of c owner) o (rw h at e)))
      | inr h ↦ (let none : None ≡ Some o = rw h at e in absurd (true≢false (ap is_some (sym none))))
    ]

again_comes : (n : ℕ) (s : CoreState) (l : NfsLists) (current : Option ℕ) (b : BothOwners) (p : OwnerRow) (o : Opener) (x : Option KeptRow) (k : KeptRow) → b.seqids ≡ p.seqids → b.open_seqid ≡ next_seqid p.seqids.seqid → find (is_owner b.number) l.owners ≡ Some p → is_opener o p ≡ false → x ≡ Some k → HasComeAgain b.number p o k.result l s (carried n s l (join_again l current b x))
again_comes n s l current b p o None k seqids_is seqid_is found other e = absurd (true≢false (ap is_some (sym e)))
again_comes n s l current b p o (Some y) k seqids_is seqid_is found other e =
    let next : SeqidState = next_seqids 12 b.open_seqid b.seqids.confirmed None in
    let come : next ≡ seqids_after p 12 p.seqids.confirmed None = (λ i. next_seqids 12 (seqid_is i) (seqids_is i).confirmed None) in
    let rows = counted_owners b.number b.seqids.closed next y.result l in
    subst (λ (z : KeptRow). HasComeAgain b.number p o z.result l s (carried n s l (join_again l current b (Some y)))) (same_Some y k e)
    (record {
      told = refl;
      open_owner = subst (λ (t : SeqidState). HasAdvanced b.number p t y.result l (counted_open b y.result l)) come (counted_advanced b.number p b.seqids.closed next y.result l found);
      lock_owner = ap (λ (os : List OwnerRow). find (is_opener o) os) rows ∙ unnamed_seqid_set (is_opener o) next b.number l.owners p (λ z. refl) found other;
      core = refl;
    })

pub first_again : (n : ℕ) (s : CoreState) (l : NfsLists) (current : Option ℕ) (a : LockArgsItem) (x : NewLockerItem) (r : StateidRow) (owner : ℕ) (seqids : SeqidState) (p : OwnerRow) (o : Opener) (number : ℕ) (k : KeptRow) → checked s l current 12 x.open_seqid x.open_stateid ≡ Passed r owner seqids → find (is_owner owner) l.owners ≡ Some p → p.name.kind ≡ kinds.Open → standing_fault r seqids x.open_stateid.seqid true ≡ None
    → locker_under r x.owner.owner (client_in s l x.owner.clientid) ≡ Some o → found_joined l r o x.lock_seqid ≡ Again number → find (is_kept number) l.kept ≡ Some k → HasComeAgain owner p o k.result l s (carried n s l (join_checked s l current a x (checked s l current 12 x.open_seqid x.open_stateid)))
first_again n s l current a x r owner seqids p o number k e found opens stands locker again kept =
    let next : IsNext owner p seqids x.open_seqid = passed_is_next s l current 12 x.open_seqid x.open_stateid r owner seqids p e found in
    let b : BothOwners = both_of x owner seqids in
    let other : is_opener o p ≡ false = other_kind o p opens (locker_kind r x.owner.owner (client_in s l x.owner.clientid) o locker) in
    subst (λ (c : Checked). HasComeAgain owner p o k.result l s (carried n s l (join_checked s l current a x c))) (sym e)
    (subst (λ (f : Option NfsStatus). HasComeAgain owner p o k.result l s (carried n s l (join_standing s l current a x b r f))) (sym stands)
    (subst (λ (y : Option Opener). HasComeAgain owner p o k.result l s (carried n s l (join_of l current a x b r y))) (sym locker)
    (subst (λ (j : Joined). HasComeAgain owner p o k.result l s (carried n s l (join_as l current a b o r j))) (sym again)
    (again_comes n s l current b p o (find (is_kept number) l.kept) k next.seqids_is next.seqid_is found other kept))))

-- ---- a LOCK under an open that counts with the open's owner alone

alone_counts : (n : ℕ) (s : CoreState) (l : NfsLists) (current : Option ℕ) (x : NewLockerItem) (r : StateidRow) (owner : ℕ) (seqids : SeqidState) (p : OwnerRow) (status : NfsStatus) → checked s l current 12 x.open_seqid x.open_stateid ≡ Passed r owner seqids → find (is_owner owner) l.owners ≡ Some p → CountsFor owner p (seqids_after p 12 p.seqids.confirmed None) 12 l (carried n s l (failed l current owner seqids 12 x.open_seqid status))
alone_counts n s l current x r owner seqids p status e found =
    let next : IsNext owner p seqids x.open_seqid = passed_is_next s l current 12 x.open_seqid x.open_stateid r owner seqids p e found in
    let come : next_seqids 12 x.open_seqid seqids.confirmed None ≡ seqids_after p 12 p.seqids.confirmed None = (λ i. next_seqids 12 (next.seqid_is i) (next.seqids_is i).confirmed None) in
    subst (λ (t : SeqidState). CountsFor owner p t 12 l (carried n s l (failed l current owner seqids 12 x.open_seqid status))) come (failed_counts n s l current owner p seqids 12 x.open_seqid status found)

pub stale_counts : (n : ℕ) (s : CoreState) (l : NfsLists) (current : Option ℕ) (a : LockArgsItem) (x : NewLockerItem) (r : StateidRow) (owner : ℕ) (seqids : SeqidState) (p : OwnerRow) (status : NfsStatus) → checked s l current 12 x.open_seqid x.open_stateid ≡ Passed r owner seqids → find (is_owner owner) l.owners ≡ Some p → standing_fault r seqids x.open_stateid.seqid true ≡ Some status
    → CountsFor owner p (seqids_after p 12 p.seqids.confirmed None) 12 l (carried n s l (join_checked s l current a x (checked s l current 12 x.open_seqid x.open_stateid)))
stale_counts n s l current a x r owner seqids p status e found stale =
    let T : SeqidState = seqids_after p 12 p.seqids.confirmed None in
    subst (λ (c : Checked). CountsFor owner p T 12 l (carried n s l (join_checked s l current a x c))) (sym e)
    (subst (λ (f : Option NfsStatus). CountsFor owner p T 12 l (carried n s l (join_standing s l current a x (both_of x owner seqids) r f))) (sym stale)
    (alone_counts n s l current x r owner seqids p status e found))

pub foreign_counts : (n : ℕ) (s : CoreState) (l : NfsLists) (current : Option ℕ) (a : LockArgsItem) (x : NewLockerItem) (r : StateidRow) (owner : ℕ) (seqids : SeqidState) (p : OwnerRow) → checked s l current 12 x.open_seqid x.open_stateid ≡ Passed r owner seqids → find (is_owner owner) l.owners ≡ Some p → standing_fault r seqids x.open_stateid.seqid true ≡ None → locker_under r x.owner.owner (client_in s l x.owner.clientid) ≡ None
    → CountsFor owner p (seqids_after p 12 p.seqids.confirmed None) 12 l (carried n s l (join_checked s l current a x (checked s l current 12 x.open_seqid x.open_stateid)))
foreign_counts n s l current a x r owner seqids p e found stands none =
    let T : SeqidState = seqids_after p 12 p.seqids.confirmed None in
    subst (λ (c : Checked). CountsFor owner p T 12 l (carried n s l (join_checked s l current a x c))) (sym e)
    (subst (λ (f : Option NfsStatus). CountsFor owner p T 12 l (carried n s l (join_standing s l current a x (both_of x owner seqids) r f))) (sym stands)
    (subst (λ (y : Option Opener). CountsFor owner p T 12 l (carried n s l (join_of l current a x (both_of x owner seqids) r y))) (sym none)
    (alone_counts n s l current x r owner seqids p statuses.Inval e found)))

-- ---- a LOCK under an open that doesn't count

abbrev IsUnkept : NfsLists → Told → NfsLists → Type 0
IsUnkept l told new = (status : NfsStatus) → told ≡ Ended status → advances status ≡ false → new ≡ l

unkept : (l : NfsLists) (told : Told) (new : NfsLists) → IsUncounted l told new → IsUnkept l told new
unkept l told new stays = λ status e not. stays (ap (λ (t : Told). advances (status_of t)) e ∙ not)

again_unkept : (n : ℕ) (s : CoreState) (l : NfsLists) (current : Option ℕ) (b : BothOwners) (k : Option KeptRow) → IsUnkept l (carried n s l (join_again l current b k)).0 (carried n s l (join_again l current b k)).3
again_unkept n s l current b None = λ status e not. refl
again_unkept n s l current b (Some k) = λ status e not. absurd cc

join_as_unkept : (n : ℕ) (s : CoreState) (l : NfsLists) (current : Option ℕ) (a : LockArgsItem) (b : BothOwners) (o : Opener) (r : StateidRow) (j : Joined) → IsUnkept l (carried n s l (join_as l current a b o r j)).0 (carried n s l (join_as l current a b o r j)).3
join_as_unkept n s l current a b o r Bad = λ status e not. refl
join_as_unkept n s l current a b o r (Again owner) = again_unkept n s l current b (find (is_kept owner) l.kept)
join_as_unkept n s l current a b o r (Joins q) = unkept l _ _ (to_stays n s l current a b o r q (lock_end a.kind r.standing.access (last_byte a.offset a.len)))

join_of_unkept : (n : ℕ) (s : CoreState) (l : NfsLists) (current : Option ℕ) (a : LockArgsItem) (x : NewLockerItem) (b : BothOwners) (r : StateidRow) (o : Option Opener) → IsUnkept l (carried n s l (join_of l current a x b r o)).0 (carried n s l (join_of l current a x b r o)).3
join_of_unkept n s l current a x b r None = unkept l _ _ (λ not. left_alone l b.number b.seqids 12 b.open_seqid statuses.Inval not)
join_of_unkept n s l current a x b r (Some o) = join_as_unkept n s l current a b o r (found_joined l r o x.lock_seqid)

join_standing_unkept : (n : ℕ) (s : CoreState) (l : NfsLists) (current : Option ℕ) (a : LockArgsItem) (x : NewLockerItem) (b : BothOwners) (r : StateidRow) (fault : Option NfsStatus) → IsUnkept l (carried n s l (join_standing s l current a x b r fault)).0 (carried n s l (join_standing s l current a x b r fault)).3
join_standing_unkept n s l current a x b r (Some status) = unkept l _ _ (λ not. left_alone l b.number b.seqids 12 b.open_seqid status not)
join_standing_unkept n s l current a x b r None = join_of_unkept n s l current a x b r (locker_under r x.owner.owner (client_in s l x.owner.clientid))

join_checked_unkept : (n : ℕ) (s : CoreState) (l : NfsLists) (current : Option ℕ) (a : LockArgsItem) (x : NewLockerItem) (c : Checked) → IsUnkept l (carried n s l (join_checked s l current a x c)).0 (carried n s l (join_checked s l current a x c)).3
join_checked_unkept n s l current a x (Refused status) = λ told e not. refl
join_checked_unkept n s l current a x (Repeated owner) = λ status e not. repeat_stays n s l current (find (is_kept owner) l.kept)
join_checked_unkept n s l current a x (Passed r owner seqids) = join_standing_unkept n s l current a x (both_of x owner seqids) r (standing_fault r seqids x.open_stateid.seqid true)

pub first_unkept : (n : ℕ) (s : CoreState) (l : NfsLists) (current : Option ℕ) (a : LockArgsItem) (x : NewLockerItem) (status : NfsStatus) → (carried n s l (join_checked s l current a x (checked s l current 12 x.open_seqid x.open_stateid))).0 ≡ Ended status → advances status ≡ false → (carried n s l (join_checked s l current a x (checked s l current 12 x.open_seqid x.open_stateid))).3 ≡ l
first_unkept n s l current a x = join_checked_unkept n s l current a x (checked s l current 12 x.open_seqid x.open_stateid)
