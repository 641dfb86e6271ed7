-- Owners stay, except for a cause, and those of locks close nothing, whatever is asked, expires or goes.
use Rattle.std.proofs.Common.{◌≡◌, ℕ, ◌+◌, Bool, true, false, not, ◌&&◌, ◌||◌, length, List, [], ◌∷◌, ◌++◌, Option, Some, None, is_some, Result, Ok, Err, refl, sym, ap, subst, ◌∙◌, inl, inr, true≢false}
use Rattle.std.proofs.lemmas.Bool.{cases_Bool, and_from, eqb-true}
use Rattle.std.proofs.lemmas.Option.{same_Some}
use Rattle.std.specs.Bool.{◌==◌}
use Rattle.std.specs.List.{AllByRecursion, find}
use Rattle.std.specs.Prelude.{IfSome, if◌then◌else◌, nat_le, option_and_then, option_map}
use Rattle.xl_base.proofs.Members.{all_append, all_in}
use Rattle.xl_base.proofs.Searches.{find_in}
use Rattle.xl_base.specs.Handles.{file_at}
use Rattle.xl_base.specs.Lists.{IsIn}
use Rattle.xl_base.specs.declared.event.Moment.{Moment}
use Rattle.xl_base.specs.declared.journal.Exports.{Exports}
use Rattle.xl_nfs.specs.Basics.{OwnerItem}
use Rattle.xl_nfs.specs.Clients.{SetClientIdArgsItem}
use Rattle.xl_nfs.specs.Locks.{LockArgsItem, LockTestArgsItem, LockerItem, NewLockerItem, New, Known}
use Rattle.xl_nfs.specs.Opens.{OpenArgsItem}
use Rattle.xl_nfs.specs.Ops.{OpItem, Close, DelegReturn, GetFh, Lock, LockT, LockU, Lookup, Open, OpenConfirm, OpenDowngrade, PutFh, PutRootFh, Renew, SetClientId, SetClientIdConfirm, ReleaseLockOwner, NotSupported, Illegal}
use Rattle.xl_nfs.specs.Outcomes.{is_ok}
use Rattle.xl_nfs.specs.declared.basics.Stateid.{Stateid}
use Rattle.xl_nfs.specs.declared.locks.KnownLocker.{KnownLocker}
use Rattle.xl_nfs.specs.declared.locks.UnlockArgs.{UnlockArgs}
use Rattle.xl_nfs.specs.declared.opens.CloseArgs.{CloseArgs}
use Rattle.xl_nfs.specs.declared.opens.OpenConfirmArgs.{OpenConfirmArgs}
use Rattle.xl_nfs.specs.declared.opens.OpenDowngradeArgs.{OpenDowngradeArgs}
use Rattle.xl_nfs.specs.declared.status.NfsStatus.{NfsStatus}
use Rattle.xl_nfs.specs.declared.status.NfsStatus.TheVariants as statuses
use Rattle.xl_nfs_state.proofs.AnyLaws.{all_left}
use Rattle.xl_nfs_state.specs.Filed.{changed}
use Rattle.xl_nfs_state.specs.Rows.{with_seqids}
use Rattle.xl_nfs_state.specs.State.{NfsLists, IsRising, is_client, is_client_named, is_kept, is_owner, is_owner_named, is_stateid, is_whose, next_owner, other_owners, with_stateids, without, without_owner}
use Rattle.xl_nfs_state.specs.Verdict.{next_seqid, verdict}
use Rattle.xl_nfs_state.specs.declared.client.ClientRow.{ClientRow}
use Rattle.xl_nfs_state.specs.declared.kept.KeptRow.{KeptRow}
use Rattle.xl_nfs_state.specs.declared.owner.OwnerKind.{OwnerKind}
use Rattle.xl_nfs_state.specs.declared.owner.OwnerKind.TheVariants as kinds
use Rattle.xl_nfs_state.specs.declared.owner.OwnerName.{OwnerName}
use Rattle.xl_nfs_state.specs.declared.owner.OwnerRow.{OwnerRow}
use Rattle.xl_nfs_state.specs.declared.owner.SeqidState.{SeqidState}
use Rattle.xl_nfs_state.specs.declared.seqid.SeqidVerdict.{SeqidVerdict}
use Rattle.xl_nfs_state.specs.declared.seqid.SeqidVerdict.TheVariants as verdicts
use Rattle.xl_nfs_state.specs.declared.stateid.Holder.{Holder}
use Rattle.xl_nfs_state.specs.declared.stateid.StateidRow.{StateidRow}
use Rattle.xl_nfs_state.specs.declared.stateid.Whose.TheVariants as whose
use Rattle.xl_programs.specs.Programs.{RequestItem}
use Rattle.xl_core.specs.Deeds.{all_done}
use Rattle.xl_core.specs.Ids.{number_in}
use Rattle.xl_core.specs.State.{CoreState, drawn}
use Rattle.xl_core.specs.declared.ask.Answer.{Answer}
use Rattle.xl_core.specs.declared.ask.Effect.{Effect}
use Rattle.xl_core.specs.declared.ask.Effect.TheVariants.{Expired}
use Rattle.xl_plan.proofs.PlanLaws.{kept_so}
use Rattle.xl_plan.specs.Plans.{AllKept, Asking, Behind, Does, Tells}
use Rattle.xl_nfs_opens.specs.Closing.{Returning, checked, checked_as, close, close_done, confirm_done, counts, deleg_return, done_lists, failed_lists, next_seqids, open_confirm, opener_by, return_done, returned, standing_fault, state_told}
use Rattle.xl_nfs_opens.specs.Downgrades.{downgrade_done, downgrade_fault, open_downgrade}
use Rattle.xl_nfs_opens.specs.Files.{file_named}
use Rattle.xl_nfs_opens.specs.Opens.{answer_status, answered, client_in, delegated, delegation_told, drawn_for, either_bits, entered, granted_by, granted_wish, has_room, is_granted, judged, judged_by, judged_row, open_as, open_at, open_by, open_claimed, open_file, open_held, open_judged, open_of, open_row, open_seqids, claim_client, opened_file, opened_told, opener_of, reclaims, refused_lists, repeated, stood, wish_of}
use Rattle.xl_nfs_opens.specs.Plans.{Plan, carried, status_of}
use Rattle.xl_nfs_opens.specs.Renewing.{renewals, stateid_of}
use Rattle.xl_nfs_opens.specs.Results.{spelled}
use Rattle.xl_nfs_opens.specs.Seqids.{advances, closed_gone, counted, is_opener, is_room_for, kept_for, new_owner, opener_number, remembered, seated, seated_by, seated_new, seqid_set}
use Rattle.xl_nfs_opens.specs.declared.opener.Checked.{Checked}
use Rattle.xl_nfs_opens.specs.declared.opener.Checked.TheVariants.{Refused, Repeated, Passed}
use Rattle.xl_nfs_opens.specs.declared.opener.Judged.{Judged}
use Rattle.xl_nfs_opens.specs.declared.opener.Judged.TheVariants as judgements
use Rattle.xl_nfs_opens.specs.declared.opener.Opener.{Opener}
use Rattle.xl_nfs_opens.specs.declared.told.Told.{Told}
use Rattle.xl_nfs_opens.specs.declared.told.Told.TheVariants.{Ended, State}
use Rattle.xl_nfs_locks.specs.Denials.{lock_told}
use Rattle.xl_nfs_locks.specs.FirstLocks as first
use Rattle.xl_nfs_locks.specs.Locks.{access_above, lock_answered, lock_by_owner, lock_end, lock_known, lock_standing, lock_to, refused_lists as lock_refused_lists}
use Rattle.xl_nfs_locks.specs.Ranges.{last_byte}
use Rattle.xl_nfs_locks.specs.Releases.{holds_any, release, release_of, released, without_found as without_owner_found}
use Rattle.xl_nfs_locks.specs.Tests.{lock_test, locker_of, test_at, test_of, test_to}
use Rattle.xl_nfs_locks.specs.Unlocks.{unlock, unlock_by_owner, unlock_standing, unlock_status, unlock_to, unlocked_as}
use Rattle.xl_nfs_locks.specs.declared.joining.BothOwners.{BothOwners}
use Rattle.xl_nfs_locks.specs.declared.joining.Joined.{Joined}
use Rattle.xl_nfs_locks.specs.declared.joining.Joined.TheVariants.{Bad, Again, Joins}
use Rattle.xl_front_nfs.specs.Clients.{confirm_found, confirm_held, confirm_number, confirm_over, confirmed_by, has_room as has_client_room, number_kept, renew, renew_found, renew_number, set_by, set_client_id, set_client_id_confirm, without_found, without_named, without_number}
use Rattle.xl_front_nfs.specs.FrontNfs.{Called, Garbage, Null, Refused as Turned, Compound, call_in, nfs_step, replied}
use Rattle.xl_front_nfs.specs.Handles.{found_file, get_fh, look_up, put_fh, put_file, put_root_fh}
use Rattle.xl_front_nfs.specs.State.{FrontNfs, empty_nfs_front, forgotten, lists_shown, nfs_shown, nfs_tick}
use Rattle.xl_front_nfs.specs.Steps.{planned}
use Rattle.xl_nfs_laws.specs.AnsweredStateids.{IsNextOnOpen, LockersCloseNothing}
use Rattle.xl_nfs_laws.specs.Orderly.{IsHeldBy, IsOrderly, IsOwnedBy}
use Rattle.xl_nfs_laws.specs.OwnersStay.{is_expired, is_of, is_opened_anew, is_other_start, is_released, is_restarted, is_restarted_as, may_go, name_numbered}
use Rattle.xl_nfs_laws.proofs.ClientCaseLaws.{find_without, named_apart}
use Rattle.xl_nfs_laws.proofs.EnteredOpenLaws.{found_before, left_found}
use Rattle.xl_nfs_laws.proofs.KeptResultLaws.{delegated_owners, entered_owners, gone_owners}
use Rattle.xl_nfs_laws.proofs.OpenCheckLaws.{passed_is}
use Rattle.xl_nfs_laws.proofs.OpenLaws.{kept_owners, seqid_set_at}
use Rattle.xl_nfs_laws.proofs.OpenOrderLaws.{passes, rising_found}
use Rattle.xl_nfs_laws.proofs.RenewedLaws.{number_then}
use Rattle.xl_nfs_laws.proofs.RequestDeedLaws.{compound_keeps}
use Rattle.xl_nfs_laws.proofs.RequestOrderLaws.{item_orderly}

-- ---- owners in two lists

-- those of locks have closed nothing
abbrev pub Calm : List OwnerRow → Type 0
Calm os = AllByRecursion (λ (o : OwnerRow). o.name.kind ≡ kinds.Lock → o.seqids.closed ≡ None) os

-- each stays, and those of locks close nothing
abbrev pub Moves : List OwnerRow → List OwnerRow → Type 0
Moves os ns = ((number : ℕ) (name : OwnerName) → name_numbered number os ≡ Some name → name_numbered number ns ≡ Some name) × (Calm os → Calm ns)

moves_self : (os : List OwnerRow) → Moves os os
moves_self os = ((λ number name at. at), (λ calm. calm))

moves_then : (os ns ps : List OwnerRow) → Moves os ns → Moves ns ps → Moves os ps
moves_then os ns ps one two = ((λ number name at. two.0 number name (one.0 number name at)), (λ calm. two.1 (one.1 calm)))

moves_to : (os ns ps : List OwnerRow) → ns ≡ ps → Moves os ps → Moves os ns
moves_to os ns ps same moves = subst (λ (qs : List OwnerRow). Moves os qs) (sym same) moves

-- each except these stays
abbrev Follows : (OwnerRow → Bool) → List OwnerRow → List OwnerRow → Type 0
Follows gone os ns = ((number : ℕ) (o : OwnerRow) → find (is_owner number) os ≡ Some o → gone o ≡ false → name_numbered number ns ≡ Some o.name) × (Calm os → Calm ns)

moves_follow : (gone : OwnerRow → Bool) (os ns : List OwnerRow) → Moves os ns → Follows gone os ns
moves_follow gone os ns moves = ((λ number o found left. moves.0 number o.name (ap (λ (x : Option OwnerRow). option_map (λ (y : OwnerRow). y.name) x) found)), moves.1)

follows_then : (gone : OwnerRow → Bool) (os ns ps : List OwnerRow) → Follows gone os ns → Moves ns ps → Follows gone os ps
follows_then gone os ns ps one two = ((λ number o found left. two.0 number o.name (one.0 number o found left)), (λ calm. two.1 (one.1 calm)))

-- those of which this holds go
goes_follow : (gone : OwnerRow → Bool) (p : OwnerRow → Bool) (os : List OwnerRow) → ((number : ℕ) (o : OwnerRow) → find (is_owner number) os ≡ Some o → gone o ≡ false → p o ≡ false) → Follows gone os (without p os)
goes_follow gone p os apart = (
  λ number o found left. ap (λ (x : Option OwnerRow). option_map (λ (y : OwnerRow). y.name) x) (left_found (is_owner number) p os o found (apart number o found left)),
  λ calm. all_left (λ (o : OwnerRow). o.name.kind ≡ kinds.Lock → o.seqids.closed ≡ None) (λ (o : OwnerRow). o.name.kind ≡ kinds.Lock → o.seqids.closed ≡ None) p os (λ o stays h. h) calm,
)

-- ---- an owner's requests come further

named_set : (number owner : ℕ) (seqids : SeqidState) (x : Option OwnerRow) → option_map (λ (o : OwnerRow). o.name) (option_map (λ (r : OwnerRow). if number == owner then with_seqids seqids r else r) x) ≡ option_map (λ (o : OwnerRow). o.name) x
named_set number owner seqids None = refl
named_set number owner seqids (Some r) = elim (cases_Bool (number == owner)) [ inl e ↦ rw e refl | inr e ↦ rw e refl ]

calm_set : (owner : ℕ) (seqids : SeqidState) (os : List OwnerRow) → ((row : OwnerRow) → find (is_owner owner) os ≡ Some row → row.name.kind ≡ kinds.Lock → seqids.closed ≡ None) → Calm os → Calm (changed (is_owner owner) (with_seqids seqids) os)
calm_set owner seqids [] none calm = tt
calm_set owner seqids (x ∷ xs) none calm =
    elim (cases_Bool (owner == x.number)) [
      | inl e ↦ (let here : find (is_owner owner) (x ∷ xs) ≡ Some x = rw e refl in let one : x.name.kind ≡ kinds.Lock → seqids.closed ≡ None = none x here in rw e (one, calm.1))
      | inr e ↦ (
          let later : (row : OwnerRow) → find (is_owner owner) xs ≡ Some row → row.name.kind ≡ kinds.Lock → seqids.closed ≡ None = λ row seen. none row (rw e seen) in
          let rest : Calm (changed (is_owner owner) (with_seqids seqids) xs) = calm_set owner seqids xs later calm.1 in
          rw e (calm.0, rest))
    ]

seqids_moves : (os : List OwnerRow) (owner : ℕ) (seqids : SeqidState) → ((row : OwnerRow) → find (is_owner owner) os ≡ Some row → row.name.kind ≡ kinds.Lock → seqids.closed ≡ None) → Moves os (changed (is_owner owner) (with_seqids seqids) os)
seqids_moves os owner seqids none = (
  λ number name at. ap (λ (x : Option OwnerRow). option_map (λ (o : OwnerRow). o.name) x) (seqid_set_at number owner seqids os) ∙ named_set number owner seqids (find (is_owner number) os) ∙ at,
  calm_set owner seqids os none,
)

pub counted_moves : (owner : ℕ) (closed : Option ℕ) (next : SeqidState) (bytes : List ℕ) (l : NfsLists) → ((row : OwnerRow) → find (is_owner owner) l.owners ≡ Some row → row.name.kind ≡ kinds.Lock → next.closed ≡ None) → Moves l.owners (counted owner closed next bytes l).owners
unfolding counted
counted_moves owner closed next bytes l none =
    let m : NfsLists = closed_gone closed (seqid_set owner next l) in
    moves_to l.owners (kept_for owner bytes m).owners (changed (is_owner owner) (with_seqids next) l.owners) (kept_owners owner bytes m ∙ gone_owners closed (seqid_set owner next l)) (seqids_moves l.owners owner next none)

failed_moves : (l : NfsLists) (owner : ℕ) (seqids : SeqidState) (op seqid : ℕ) (status : NfsStatus) → Moves l.owners (failed_lists l owner seqids op seqid status).owners
failed_moves l owner seqids op seqid status =
    elim (cases_Bool (advances status)) [
      | inl e ↦ rw e (counted_moves owner seqids.closed (next_seqids op seqid seqids.confirmed None) (spelled op (Ended status)) l (λ row at kind. refl))
      | inr e ↦ rw e (moves_self l.owners)
    ]

-- it was done, and closed nothing
done_moves : (s : CoreState) (l : NfsLists) (r : StateidRow) (owner : ℕ) (seqids : SeqidState) (op seqid : ℕ) (confirmed : Bool) (access deny : ℕ) (closed : Bool) → Moves l.owners (done_lists s l r owner seqids op seqid confirmed None access deny closed).owners
done_moves s l r owner seqids op seqid confirmed access deny closed = counted_moves owner seqids.closed (next_seqids op seqid confirmed None) (spelled op (state_told s r)) (stood r.number r access deny closed l) (λ row at kind. refl)

-- ---- an owner that may be new

comes_moves : (os : List OwnerRow) (x : OwnerRow) → x.seqids.closed ≡ None → Moves os (os ++ x ∷ [])
comes_moves os x none = (
  λ number name at. by number name (find (is_owner number) os) refl at,
  λ calm. all_append (λ (o : OwnerRow). o.name.kind ≡ kinds.Lock → o.seqids.closed ≡ None) os (x ∷ []) calm ((λ kind. none), tt),
)
  where
    by : (number : ℕ) (name : OwnerName) (y : Option OwnerRow) → find (is_owner number) os ≡ y → option_map (λ (o : OwnerRow). o.name) y ≡ Some name → name_numbered number (os ++ x ∷ []) ≡ Some name
    by number name None e at = absurd (true≢false (ap is_some (sym at)))
    by number name (Some o) e at = ap (λ (z : Option OwnerRow). option_map (λ (p : OwnerRow). p.name) z) (found_before (is_owner number) os (x ∷ []) o e) ∙ at

seated_moves : (o : Opener) (seqids : SeqidState) (l : NfsLists) → seqids.closed ≡ None → Moves l.owners (seated o seqids l).owners
unfolding seated
seated_moves o seqids l none = by (find (is_opener o) l.owners)
  where
    new : (next : Option ℕ) → Moves l.owners (seated_new o seqids l next).owners
    new None = moves_self l.owners
    new (Some number) = comes_moves l.owners (new_owner o seqids number) none

    by : (x : Option OwnerRow) → Moves l.owners (seated_by o seqids l x).owners
    by None = new (next_owner l.owners)
    by (Some r) = moves_to l.owners (closed_gone r.seqids.closed (seqid_set r.number seqids l)).owners (changed (is_owner r.number) (with_seqids seqids) l.owners) (gone_owners r.seqids.closed (seqid_set r.number seqids l)) (seqids_moves l.owners r.number seqids (λ row at kind. none))

remembered_moves : (o : Opener) (seqids : SeqidState) (bytes : List ℕ) (l : NfsLists) → seqids.closed ≡ None → Moves l.owners (remembered o seqids bytes l).owners
unfolding remembered
remembered_moves o seqids bytes l none =
    elim (cases_Bool (is_room_for o l)) [
      | inl d ↦ rw d (moves_to l.owners (kept_for (opener_number o l) bytes (seated o seqids l)).owners (seated o seqids l).owners (kept_owners (opener_number o l) bytes (seated o seqids l)) (seated_moves o seqids l none))
      | inr d ↦ rw d (moves_self l.owners)
    ]

-- ---- OPEN

-- of whatever is kept, each owner of these stays, and those of locks close nothing
abbrev Moved : List OwnerRow → Plan → Type 0
Moved os plan = AllKept (λ (m : NfsLists). Moves os m.owners) plan

refused_moves : (o : Opener) (a : OpenArgsItem) (confirmed : Bool) (status : NfsStatus) (l : NfsLists) → Moves l.owners (refused_lists o a confirmed status l).owners
refused_moves o a confirmed status l =
    elim (cases_Bool (advances status)) [
      | inl e ↦ rw e (remembered_moves o (open_seqids a confirmed) (spelled 18 (Ended status)) l refl)
      | inr e ↦ rw e (moves_self l.owners)
    ]

granted_moves : (s : CoreState) (l : NfsLists) (o : Opener) (a : OpenArgsItem) (file : ℕ) (confirmed : Bool) (write : Option Bool) (x : Option StateidRow) → Moved l.owners (granted_by s l o a file confirmed write x)
granted_moves s l o a file confirmed write None =
    let row : StateidRow = open_row (s.counter + 1) o (opener_number o l) file a in
    let there : NfsLists = seated o (open_seqids a confirmed) l in
    let whole : NfsLists = delegated (drawn s) o file write (entered row there) in
    let bytes = spelled 18 (opened_told (drawn_for write (drawn s)) (s.counter + 1) 1 confirmed (delegation_told (drawn s) write)) in
    moves_to l.owners (kept_for (opener_number o l) bytes whole).owners there.owners (kept_owners (opener_number o l) bytes whole ∙ delegated_owners (drawn s) o file write (entered row there) ∙ entered_owners row there) (seated_moves o (open_seqids a confirmed) l refl)
granted_moves s l o a file confirmed write (Some r) =
    let after : NfsLists = stood r.number r (either_bits r.standing.access a.access) (either_bits r.standing.deny a.deny) false l in
    let there : NfsLists = seated o (open_seqids a confirmed) after in
    let whole : NfsLists = delegated s o file write there in
    let bytes = spelled 18 (opened_told (drawn_for write s) r.number (next_seqid r.standing.seqid) confirmed (delegation_told s write)) in
    moves_to l.owners (kept_for (opener_number o l) bytes whole).owners there.owners (kept_owners (opener_number o l) bytes whole ∙ delegated_owners s o file write there) (seated_moves o (open_seqids a confirmed) after refl)

answered_moves : (l : NfsLists) (current : Option ℕ) (o : Opener) (a : OpenArgsItem) (file : ℕ) (confirmed : Bool) (wish : Option Bool) (answer : Answer) (s : CoreState) → Moved l.owners (answered l current o a file confirmed wish answer s)
answered_moves l current o a file confirmed wish answer s =
    elim (cases_Bool (is_granted answer)) [
      | inl e ↦ rw e (granted_moves s l o a file (confirmed || reclaims a.claim) (granted_wish s o file wish) (open_held l o file))
      | inr e ↦ rw e (refused_moves o a confirmed (answer_status (reclaims a.claim) answer) l)
    ]

by_moves : (others : ℕ) (s : CoreState) (l : NfsLists) (current : Option ℕ) (o : Opener) (a : OpenArgsItem) (confirmed : Bool) (r : Result ℕ NfsStatus) → Moved l.owners (open_by others s l current o a confirmed r)
by_moves others s l current o a confirmed (Err status) = refused_moves o a confirmed status l
by_moves others s l current o a confirmed (Ok file) =
    elim (cases_Bool (has_room others l o file)) [
      | inl e ↦ rw e (λ answer t. answered_moves l current o a file confirmed (wish_of s l o a confirmed file) answer t)
      | inr e ↦ rw e (moves_self l.owners)
    ]

as_moves : (files : List (List ℕ)) (others : ℕ) (s : CoreState) (l : NfsLists) (current : Option ℕ) (at : ℕ) (o : Opener) (a : OpenArgsItem) (confirmed : Bool) → Moved l.owners (open_as files others s l current at o a confirmed)
unfolding open_as
as_moves files others s l current at o a confirmed = by_moves others s l current o a confirmed (opened_file files s l o.client at a)

repeat_moves : (s : CoreState) (l : NfsLists) (current : Option ℕ) (k : Option KeptRow) → Moved l.owners (repeated s l current k)
repeat_moves s l current None = moves_self l.owners
repeat_moves s l current (Some k) = moves_self l.owners

-- the same except of some that go
abbrev Followed : (OwnerRow → Bool) → List OwnerRow → Plan → Type 0
Followed gone os plan = AllKept (λ (m : NfsLists). Follows gone os m.owners) plan

kept_weaker : (K J : NfsLists → Type 0) (p : Plan) → ((m : NfsLists) → K m → J m) → AllKept K p → AllKept J p
kept_weaker K J (Tells told) weaker all = tt
kept_weaker K J (Does deeds kept told) weaker all = weaker kept all
kept_weaker K J (Behind deeds kept rest) weaker all = (weaker kept all.0, λ t. kept_weaker K J (rest t) weaker (all.1 t))
kept_weaker K J (Asking left a rest) weaker all = λ answer t. kept_weaker K J (rest answer t) weaker (all answer t)

moved_follows : (gone : OwnerRow → Bool) (os : List OwnerRow) (p : Plan) → Moved os p → Followed gone os p
moved_follows gone os p moved = kept_weaker (λ (m : NfsLists). Moves os m.owners) (λ (m : NfsLists). Follows gone os m.owners) p (λ m moves. moves_follow gone os m.owners moves) moved

then_follows : (gone : OwnerRow → Bool) (os ns : List OwnerRow) (p : Plan) → Follows gone os ns → Moved ns p → Followed gone os p
then_follows gone os ns p one moved = kept_weaker (λ (m : NfsLists). Moves ns m.owners) (λ (m : NfsLists). Follows gone os m.owners) p (λ m moves. follows_then gone os ns m.owners one moves) moved

-- the owner of this number, which was found by another test, is the one that goes
one_goes : (gone test : OwnerRow → Bool) (os : List OwnerRow) (r : OwnerRow) → IsRising os → find test os ≡ Some r → gone r ≡ true → Follows gone os (without (is_owner r.number) os)
one_goes gone test os r rising at goes =
    goes_follow gone (is_owner r.number) os (λ number o found left.
    elim (cases_Bool (r.number == o.number)) [
      | inr e ↦ e
      | inl e ↦
          let same : r.number ≡ number = eqb-true r.number o.number e ∙ sym (eqb-true number o.number (passes (is_owner number) os o found)) in
          let its : find (is_owner number) os ≡ Some r = subst (λ (k : ℕ). find (is_owner k) os ≡ Some r) same (rising_found test os r rising at) in
          absurd (true≢false (sym goes ∙ ap gone (same_Some r o (sym its ∙ found)) ∙ left))
    ])

-- the owner whose number is judged anew was never confirmed
record IsAnew (l : NfsLists) (o : Opener) (number : ℕ) : Type 0 where
  row : OwnerRow
  named : find (is_opener o) l.owners ≡ Some row
  number_is : row.number ≡ number
  fresh : row.seqids.confirmed ≡ false

anew_is : (l : NfsLists) (o : Opener) (seqid number : ℕ) → judged l o seqid ≡ judgements.Anew number → IsAnew l o number
unfolding judged
anew_is l o seqid number e = by (find (is_opener o) l.owners) refl e
  where
    same_number : {k : ℕ} → judgements.Anew k ≡ judgements.Anew number → k ≡ number
    same_number d = cc

    fresh_by : (r : OwnerRow) (b : Bool) → find (is_opener o) l.owners ≡ Some r → r.seqids.confirmed ≡ b → (other : Judged) → (other ≡ judgements.Anew number → ⊥) → (if b then other else judgements.Anew r.number) ≡ judgements.Anew number → IsAnew l o number
    fresh_by r true at is other apart d = absurd (apart d)
    fresh_by r false at is other apart d = record { row = r; named = at; number_is = same_number d; fresh = is }

    by_verdict : (r : OwnerRow) (v : SeqidVerdict) → find (is_opener o) l.owners ≡ Some r → judged_row r v ≡ judgements.Anew number → IsAnew l o number
    by_verdict r verdicts.Repeat at d = absurd cc
    by_verdict r verdicts.Next at d = fresh_by r r.seqids.confirmed at refl judgements.Next (λ x. cc) d
    by_verdict r verdicts.New at d = absurd cc
    by_verdict r (verdicts.Bad last) at d = fresh_by r r.seqids.confirmed at refl judgements.Bad (λ x. cc) d

    by : (x : Option OwnerRow) → find (is_opener o) l.owners ≡ x → judged_by seqid x ≡ judgements.Anew number → IsAnew l o number
    by None at d = absurd cc
    by (Some r) at d = by_verdict r (verdict (Some r.seqids) 18 seqid) at d

judged_follows : (files : List (List ℕ)) (others : ℕ) (s : CoreState) (l : NfsLists) (current : Option ℕ) (at : ℕ) (c : ClientRow) (a : OpenArgsItem) (j : Judged) → judged l (opener_of c a) a.seqid ≡ j → IsOrderly l → Followed (λ o. is_opened_anew a.owner.owner o (Some c)) l.owners (open_judged files others s l current at (opener_of c a) a j)
judged_follows files others s l current at c a judgements.Bad e orderly = moves_follow (λ o. is_opened_anew a.owner.owner o (Some c)) l.owners l.owners (moves_self l.owners)
judged_follows files others s l current at c a (judgements.Repeats number) e orderly = moved_follows (λ o. is_opened_anew a.owner.owner o (Some c)) l.owners (repeated s l current (find (is_kept number) l.kept)) (repeat_moves s l current (find (is_kept number) l.kept))
judged_follows files others s l current at c a (judgements.Anew number) e orderly =
    let gone : OwnerRow → Bool = λ o. is_opened_anew a.owner.owner o (Some c) in
    let is = anew_is l (opener_of c a) a.seqid number e in
    let named : is_opener (opener_of c a) is.row ≡ true = passes (is_opener (opener_of c a)) l.owners is.row is.named in
    let goes : gone is.row ≡ true = and_from (is_owner_named c.number kinds.Open a.owner.owner is.row) (not is.row.seqids.confirmed) named (ap not is.fresh) in
    let left : Follows gone l.owners (without (is_owner number) l.owners) = subst (λ (k : ℕ). Follows gone l.owners (without (is_owner k) l.owners)) is.number_is (one_goes gone (is_opener (opener_of c a)) l.owners is.row orderly.rising is.named goes) in
    (left, λ t. then_follows gone l.owners (without_owner number l).owners (open_as files others t (without_owner number l) current at (opener_of c a) a false) left (as_moves files others t (without_owner number l) current at (opener_of c a) a false))
judged_follows files others s l current at c a judgements.New e orderly = moved_follows (λ o. is_opened_anew a.owner.owner o (Some c)) l.owners (open_as files others s l current at (opener_of c a) a false) (as_moves files others s l current at (opener_of c a) a false)
judged_follows files others s l current at c a judgements.Next e orderly = moved_follows (λ o. is_opened_anew a.owner.owner o (Some c)) l.owners (open_as files others s l current at (opener_of c a) a true) (as_moves files others s l current at (opener_of c a) a true)

-- who is named before leases are renewed is named then
client_then : (n : ℕ) (s : CoreState) (l : NfsLists) (who : Option ℕ) (clientid : ℕ) → client_in (all_done n s (renewals l who)) l clientid ≡ client_in s l clientid
client_then n s l who clientid = ap (λ (o : Option ℕ). option_and_then (λ (number : ℕ). find (is_client number true) l.clients) o) (number_then n s l who clientid)

self_follows : (gone : OwnerRow → Bool) (l : NfsLists) → Follows gone l.owners l.owners
self_follows gone l = moves_follow gone l.owners l.owners (moves_self l.owners)

-- OPEN, once leases are renewed
at_follows : (files : List (List ℕ)) (others : ℕ) (t : CoreState) (l : NfsLists) (a : OpenArgsItem) (current : Option ℕ) (x : Option ClientRow) → client_in t l a.owner.clientid ≡ x → IsOrderly l → Followed (λ o. is_opened_anew a.owner.owner o x) l.owners (open_at files others t l a current)
at_follows files others t l a None x e orderly = self_follows (λ o. is_opened_anew a.owner.owner o x) l
at_follows files others t l a (Some at) x e orderly = subst (λ (c : Option ClientRow). Followed (λ o. is_opened_anew a.owner.owner o x) l.owners (open_of files others t l (Some at) at a c)) (sym e) (of x)
  where
    of : (c : Option ClientRow) → Followed (λ o. is_opened_anew a.owner.owner o c) l.owners (open_of files others t l (Some at) at a c)
    of None = self_follows (λ o. is_opened_anew a.owner.owner o None) l
    of (Some c) = judged_follows files others t l (Some at) at c a (judged l (opener_of c a) a.seqid) refl orderly

open_follows : (n : ℕ) (files : List (List ℕ)) (others : ℕ) (s : CoreState) (l : NfsLists) (current : Option ℕ) (a : OpenArgsItem) → IsOrderly l → Follows (λ o. is_opened_anew a.owner.owner o (client_in s l a.owner.clientid)) l.owners (carried n s l (open_file files others s l current a)).3.owners
unfolding open_file open_claimed
open_follows n files others s l current a orderly =
    let gone : OwnerRow → Bool = λ o. is_opened_anew a.owner.owner o (client_in s l a.owner.clientid) in
    let t : CoreState = all_done n s (renewals l (number_in s a.owner.clientid)) in
    let u : CoreState = all_done n t (renewals l (claim_client t l a.claim)) in
    let named : client_in u l a.owner.clientid ≡ client_in s l a.owner.clientid = client_then n t l (claim_client t l a.claim) a.owner.clientid ∙ client_then n s l (number_in s a.owner.clientid) a.owner.clientid in
    kept_so (λ (m : NfsLists). Follows gone l.owners m.owners) n u l (open_at files others u l a current) (self_follows gone l) (at_follows files others u l a current (client_in s l a.owner.clientid) named orderly)

-- ---- OPEN_CONFIRM, OPEN_DOWNGRADE, CLOSE, DELEGRETURN

counts_moves : (s : CoreState) (l : NfsLists) (current : Option ℕ) (rest : StateidRow → ℕ → SeqidState → Plan) (c : Checked) → ((r : StateidRow) (w : ℕ) (v : SeqidState) → c ≡ Passed r w v → Moved l.owners (rest r w v)) → Moved l.owners (counts s l current rest c)
counts_moves s l current rest (Refused status) each = moves_self l.owners
counts_moves s l current rest (Repeated owner) each = repeat_moves s l current (find (is_kept owner) l.kept)
counts_moves s l current rest (Passed r w v) each = each r w v refl

confirm_done_moves : (s : CoreState) (l : NfsLists) (current : Option ℕ) (a : OpenConfirmArgs) (r : StateidRow) (owner : ℕ) (seqids : SeqidState) (x : Option NfsStatus) → Moved l.owners (confirm_done s l current a r owner seqids x)
confirm_done_moves s l current a r owner seqids (Some status) = failed_moves l owner seqids 20 a.seqid status
confirm_done_moves s l current a r owner seqids None = done_moves s l r owner seqids 20 a.seqid true r.standing.access r.standing.deny false

confirm_moves : (s : CoreState) (l : NfsLists) (current : Option ℕ) (a : OpenConfirmArgs) → Moved l.owners (open_confirm s l current a)
unfolding open_confirm
confirm_moves s l current a = (moves_self l.owners, λ t. counts_moves t l current (λ r w v. confirm_done t l current a r w v (standing_fault r v a.stateid.seqid false)) (checked t l current 20 a.seqid a.stateid) (λ r w v e. confirm_done_moves t l current a r w v (standing_fault r v a.stateid.seqid false)))

downgrade_done_moves : (s : CoreState) (l : NfsLists) (current : Option ℕ) (a : OpenDowngradeArgs) (r : StateidRow) (owner : ℕ) (seqids : SeqidState) (x : Option NfsStatus) → Moved l.owners (downgrade_done s l current a r owner seqids x)
downgrade_done_moves s l current a r owner seqids (Some status) = failed_moves l owner seqids 21 a.seqid status
downgrade_done_moves s l current a r owner seqids None = done_moves s l r owner seqids 21 a.seqid seqids.confirmed a.access a.deny false

downgrade_moves : (s : CoreState) (l : NfsLists) (current : Option ℕ) (a : OpenDowngradeArgs) → Moved l.owners (open_downgrade s l current a)
unfolding open_downgrade
downgrade_moves s l current a = (moves_self l.owners, λ t. counts_moves t l current (λ r w v. downgrade_done t l current a r w v (downgrade_fault r v a)) (checked t l current 21 a.seqid a.stateid) (λ r w v e. downgrade_done_moves t l current a r w v (downgrade_fault r v a)))

-- an owner of an open that passed has opens
opens_owner : (s : CoreState) (l : NfsLists) (current : Option ℕ) (seqid : ℕ) (stateid : Stateid) (r : StateidRow) (w : ℕ) (seqids : SeqidState) → IsOrderly l → IsNextOnOpen s l current seqid stateid r w seqids → (row : OwnerRow) → find (is_owner w) l.owners ≡ Some row → row.name.kind ≡ kinds.Open
opens_owner s l current seqid stateid r w seqids orderly is row at =
    let there = subst (λ (o : Option StateidRow). IfSome o (λ y. IsIn y l.stateids × (is_stateid r.number y ≡ true))) is.opened.found (find_in (is_stateid r.number) l.stateids) in
    let held : IsHeldBy l.owners r r.holder = all_in (λ z. IsHeldBy l.owners z z.holder) r l.stateids orderly.held there.0 in
    let owned : IsOwnedBy r kinds.Open (Some row) = subst (λ (o : Option OwnerRow). IsOwnedBy r kinds.Open o) at (subst (λ (h : Holder). IsHeldBy l.owners r h) is.opened.holder held) in
    owned.1

not_both : (kind : OwnerKind) → kind ≡ kinds.Open → kind ≡ kinds.Lock → ⊥
not_both kind opens locks = cc

close_done_moves : (s : CoreState) (l : NfsLists) (current : Option ℕ) (a : CloseArgs) (r : StateidRow) (owner : ℕ) (seqids : SeqidState) (x : Option NfsStatus) → ((row : OwnerRow) → find (is_owner owner) l.owners ≡ Some row → row.name.kind ≡ kinds.Open) → Moved l.owners (close_done s l current a r owner seqids x)
close_done_moves s l current a r owner seqids (Some status) opens = failed_moves l owner seqids 4 a.seqid status
close_done_moves s l current a r owner seqids None opens = (
  moves_self l.owners,
  λ t. counted_moves owner seqids.closed (next_seqids 4 a.seqid seqids.confirmed (Some r.number)) (spelled 4 (state_told t r)) (stood r.number r r.standing.access r.standing.deny true l) (λ row at kind. absurd (not_both row.name.kind (opens row at) kind)),
)

close_moves : (s : CoreState) (l : NfsLists) (current : Option ℕ) (a : CloseArgs) → IsOrderly l → Moved l.owners (close s l current a)
unfolding close
close_moves s l current a orderly = (
  moves_self l.owners,
  λ t. counts_moves t l current (λ r w v. close_done t l current a r w v (standing_fault r v a.stateid.seqid true)) (checked t l current 4 a.seqid a.stateid)
      (λ r w v e. close_done_moves t l current a r w v (standing_fault r v a.stateid.seqid true) (opens_owner t l current a.seqid a.stateid r w v orderly (passed_is t l current 4 a.seqid a.stateid r w v e))),
)

return_moves : (s : CoreState) (l : NfsLists) (current : Option ℕ) (stateid : Stateid) → Moved l.owners (deleg_return s l current stateid)
unfolding deleg_return
return_moves s l current stateid = (moves_self l.owners, λ t. by t (returned t l current stateid))
  where
    by : (t : CoreState) (x : Returning) → Moved l.owners (return_done t l current x)
    by t (Err status) = moves_self l.owners
    by t (Ok r) = moves_self l.owners

-- ---- LOCK

lock_refused_moves : (l : NfsLists) (owner : ℕ) (seqids : SeqidState) (seqid : ℕ) (told : Told) → Moves l.owners (lock_refused_lists l owner seqids seqid told).owners
lock_refused_moves l owner seqids seqid told =
    elim (cases_Bool (advances (status_of told))) [
      | inl e ↦ rw e (counted_moves owner seqids.closed (next_seqids 12 seqid seqids.confirmed None) (spelled 12 told) l (λ row at kind. refl))
      | inr e ↦ rw e (moves_self l.owners)
    ]

lock_answered_moves : (l : NfsLists) (current : Option ℕ) (r : StateidRow) (owner : ℕ) (seqids : SeqidState) (seqid : ℕ) (reclaim : Bool) (answer : Answer) (s : CoreState) → Moved l.owners (lock_answered l current r owner seqids seqid reclaim answer s)
lock_answered_moves l current r owner seqids seqid reclaim answer s =
    elim (cases_Bool (is_granted answer)) [
      | inl e ↦ rw e (done_moves s l r owner seqids 12 seqid seqids.confirmed 0 0 false)
      | inr e ↦ rw e (lock_refused_moves l owner seqids seqid (lock_told s l reclaim answer))
    ]

lock_owner_moves : (l : NfsLists) (current : Option ℕ) (a : LockArgsItem) (r : StateidRow) (owner : ℕ) (seqids : SeqidState) (seqid last : ℕ) (o : Option Opener) → Moved l.owners (lock_by_owner l current a r owner seqids seqid last o)
lock_owner_moves l current a r owner seqids seqid last None = moves_self l.owners
lock_owner_moves l current a r owner seqids seqid last (Some o) = λ answer t. lock_answered_moves l current r owner seqids seqid a.reclaim answer t

lock_to_moves : (l : NfsLists) (current : Option ℕ) (a : LockArgsItem) (r : StateidRow) (owner : ℕ) (seqids : SeqidState) (seqid : ℕ) (last : Result ℕ NfsStatus) → Moved l.owners (lock_to l current a r owner seqids seqid last)
lock_to_moves l current a r owner seqids seqid (Err status) = failed_moves l owner seqids 12 seqid status
lock_to_moves l current a r owner seqids seqid (Ok last) = lock_owner_moves l current a r owner seqids seqid last (opener_by l r.client owner)

lock_standing_moves : (l : NfsLists) (current : Option ℕ) (a : LockArgsItem) (r : StateidRow) (owner : ℕ) (seqids : SeqidState) (seqid : ℕ) (x : Option NfsStatus) → Moved l.owners (lock_standing l current a r owner seqids seqid x)
lock_standing_moves l current a r owner seqids seqid (Some status) = failed_moves l owner seqids 12 seqid status
lock_standing_moves l current a r owner seqids seqid None = lock_to_moves l current a r owner seqids seqid (lock_end a.kind (access_above l r.holder) (last_byte a.offset a.len))

known_moves : (s : CoreState) (l : NfsLists) (current : Option ℕ) (a : LockArgsItem) (x : KnownLocker) → Moved l.owners (lock_known s l current a x)
unfolding lock_known
known_moves s l current a x = (moves_self l.owners, λ t. counts_moves t l current (λ r w v. lock_standing l current a r w v x.seqid (standing_fault r v x.stateid.seqid true)) (checked_as kinds.Lock t l current 12 x.seqid x.stateid) (λ r w v e. lock_standing_moves l current a r w v x.seqid (standing_fault r v x.stateid.seqid true)))

-- the open's owner counts, and then the lock owner
both_moves : (b : BothOwners) (o : Opener) (bytes : List ℕ) (l : NfsLists) → Moves l.owners (first.counted_both b o bytes l).owners
both_moves b o bytes l =
    let m : NfsLists = first.counted_open b bytes l in
    moves_then l.owners m.owners (first.counted_both b o bytes l).owners (counted_moves b.number b.seqids.closed (next_seqids 12 b.open_seqid b.seqids.confirmed None) bytes l (λ row at kind. refl)) (remembered_moves o (next_seqids 12 b.lock_seqid true None) bytes m refl)

both_refused_moves : (l : NfsLists) (current : Option ℕ) (b : BothOwners) (o : Opener) (told : Told) → Moved l.owners (first.both_refused l current b o told)
both_refused_moves l current b o told =
    elim (cases_Bool (advances (status_of told))) [
      | inl e ↦ rw e (both_moves b o (spelled 12 told) l)
      | inr e ↦ rw e (moves_self l.owners)
    ]

pub locks_entered : (r : StateidRow) (l : NfsLists) → (first.entered r l).owners ≡ l.owners
unfolding first.entered
locks_entered r l = by (first.can_enter r m)
  where
    m : NfsLists
    m = with_stateids l (without (is_whose (whose.Stateid r.number)) l.stateids)

    by : (b : Bool) → (if b then with_stateids m (m.stateids ++ r ∷ []) else m).owners ≡ l.owners
    by true = refl
    by false = refl

joined_moves : (s : CoreState) (l : NfsLists) (current : Option ℕ) (b : BothOwners) (o : Opener) (r : StateidRow) (q : Option StateidRow) → Moved l.owners (first.joined_by s l current b o r q)
joined_moves s l current b o r None =
    let bytes = spelled 12 (State (stateid_of (drawn s) (s.counter + 1) 1)) in
    let m : NfsLists = first.counted_both b o bytes l in
    let row : StateidRow = first.lock_row (s.counter + 1) r b.number (opener_number o m) in
    moves_to l.owners (first.entered row m).owners m.owners (locks_entered row m) (both_moves b o bytes l)
joined_moves s l current b o r (Some q) = both_moves b o (spelled 12 (state_told s q)) (stood q.number q 0 0 false l)

join_answered_moves : (l : NfsLists) (current : Option ℕ) (b : BothOwners) (o : Opener) (r : StateidRow) (q : Option StateidRow) (reclaim : Bool) (answer : Answer) (s : CoreState) → Moved l.owners (first.join_answered l current b o r q reclaim answer s)
join_answered_moves l current b o r q reclaim answer s =
    elim (cases_Bool (is_granted answer)) [
      | inl e ↦ rw e (joined_moves s l current b o r q)
      | inr e ↦ rw e (both_refused_moves l current b o (lock_told s l reclaim answer))
    ]

join_to_moves : (l : NfsLists) (current : Option ℕ) (a : LockArgsItem) (b : BothOwners) (o : Opener) (r : StateidRow) (q : Option StateidRow) (last : Result ℕ NfsStatus) → Moved l.owners (first.join_to l current a b o r q last)
join_to_moves l current a b o r q (Err status) = both_refused_moves l current b o (Ended status)
join_to_moves l current a b o r q (Ok last) =
    elim (cases_Bool (is_room_for o l)) [
      | inl e ↦ rw e (λ answer t. join_answered_moves l current b o r q a.reclaim answer t)
      | inr e ↦ rw e (moves_self l.owners)
    ]

join_as_moves : (l : NfsLists) (current : Option ℕ) (a : LockArgsItem) (b : BothOwners) (o : Opener) (r : StateidRow) (j : Joined) → Moved l.owners (first.join_as l current a b o r j)
join_as_moves l current a b o r Bad = moves_self l.owners
join_as_moves l current a b o r (Again owner) = by (find (is_kept owner) l.kept)
  where
    by : (k : Option KeptRow) → Moved l.owners (first.join_again l current b k)
    by None = moves_self l.owners
    by (Some k) = counted_moves b.number b.seqids.closed (next_seqids 12 b.open_seqid b.seqids.confirmed None) k.result l (λ row at kind. refl)
join_as_moves l current a b o r (Joins q) = join_to_moves l current a b o r q (lock_end a.kind r.standing.access (last_byte a.offset a.len))

join_of_moves : (l : NfsLists) (current : Option ℕ) (a : LockArgsItem) (x : NewLockerItem) (b : BothOwners) (r : StateidRow) (o : Option Opener) → Moved l.owners (first.join_of l current a x b r o)
join_of_moves l current a x b r None = failed_moves l b.number b.seqids 12 b.open_seqid statuses.Inval
join_of_moves l current a x b r (Some o) = join_as_moves l current a b o r (first.found_joined l r o x.lock_seqid)

join_standing_moves : (s : CoreState) (l : NfsLists) (current : Option ℕ) (a : LockArgsItem) (x : NewLockerItem) (b : BothOwners) (r : StateidRow) (status : Option NfsStatus) → Moved l.owners (first.join_standing s l current a x b r status)
join_standing_moves s l current a x b r (Some status) = failed_moves l b.number b.seqids 12 b.open_seqid status
join_standing_moves s l current a x b r None = join_of_moves l current a x b r (first.locker_under r x.owner.owner (client_in s l x.owner.clientid))

named_moves : (s : CoreState) (l : NfsLists) (current : Option ℕ) (a : LockArgsItem) (x : NewLockerItem) → Moved l.owners (first.lock_named s l current a x)
unfolding first.lock_named
named_moves s l current a x = (moves_self l.owners, λ t. counts_moves t l current (λ r w v. first.join_standing t l current a x (first.both_of x w v) r (standing_fault r v x.open_stateid.seqid true)) (checked t l current 12 x.open_seqid x.open_stateid) (λ r w v e. join_standing_moves t l current a x (first.both_of x w v) r (standing_fault r v x.open_stateid.seqid true)))

lock_moves : (s : CoreState) (l : NfsLists) (current : Option ℕ) (a : LockArgsItem) → Moved l.owners (first.lock s l current a)
unfolding first.lock first.lock_new
lock_moves s l current a = by a.locker
  where
    by : (x : LockerItem) → Moved l.owners (first.lock_by s l current a x)
    by (New x) = (moves_self l.owners, λ t. named_moves t l current a x)
    by (Known x) = known_moves s l current a x

-- ---- LOCKT, LOCKU, RELEASE_LOCKOWNER

test_at_moves : (s : CoreState) (l : NfsLists) (a : LockTestArgsItem) (current : Option ℕ) → Moved l.owners (test_at s l a current)
test_at_moves s l a None = moves_self l.owners
test_at_moves s l a (Some at) =
    elim (cases_Bool (at == 0)) [
      | inl e ↦ rw e (moves_self l.owners)
      | inr e ↦ rw e (of (client_in s l a.owner.clientid))
    ]
  where
    to : (c : ClientRow) (last : Option ℕ) → Moved l.owners (test_to l (Some at) a at (locker_of c a.owner.owner) last)
    to c None = moves_self l.owners
    to c (Some last) = λ answer t. moves_self l.owners

    of : (c : Option ClientRow) → Moved l.owners (test_of l (Some at) a at c)
    of None = moves_self l.owners
    of (Some c) = to c (last_byte a.offset a.len)

test_moves : (s : CoreState) (l : NfsLists) (current : Option ℕ) (a : LockTestArgsItem) → Moved l.owners (lock_test s l current a)
unfolding lock_test
test_moves s l current a = (moves_self l.owners, λ t. test_at_moves t l a current)

unlocked_moves : (s : CoreState) (l : NfsLists) (current : Option ℕ) (a : UnlockArgs) (r : StateidRow) (owner : ℕ) (seqids : SeqidState) (status : NfsStatus) → Moved l.owners (unlocked_as s l current a r owner seqids status)
unlocked_moves s l current a r owner seqids status =
    elim (cases_Bool (is_ok status)) [
      | inl e ↦ rw e (done_moves s l r owner seqids 14 a.seqid seqids.confirmed 0 0 false)
      | inr e ↦ rw e (failed_moves l owner seqids 14 a.seqid status)
    ]

unlock_owner_moves : (l : NfsLists) (current : Option ℕ) (a : UnlockArgs) (r : StateidRow) (owner : ℕ) (seqids : SeqidState) (last : ℕ) (o : Option Opener) → Moved l.owners (unlock_by_owner l current a r owner seqids last o)
unlock_owner_moves l current a r owner seqids last None = moves_self l.owners
unlock_owner_moves l current a r owner seqids last (Some o) = λ answer t. unlocked_moves t l current a r owner seqids (unlock_status answer)

unlock_standing_moves : (l : NfsLists) (current : Option ℕ) (a : UnlockArgs) (r : StateidRow) (owner : ℕ) (seqids : SeqidState) (x : Option NfsStatus) → Moved l.owners (unlock_standing l current a r owner seqids x)
unlock_standing_moves l current a r owner seqids (Some status) = failed_moves l owner seqids 14 a.seqid status
unlock_standing_moves l current a r owner seqids None = to (last_byte a.offset a.len)
  where
    to : (last : Option ℕ) → Moved l.owners (unlock_to l current a r owner seqids last)
    to None = failed_moves l owner seqids 14 a.seqid statuses.Inval
    to (Some last) = unlock_owner_moves l current a r owner seqids last (opener_by l r.client owner)

unlock_moves : (s : CoreState) (l : NfsLists) (current : Option ℕ) (a : UnlockArgs) → Moved l.owners (unlock s l current a)
unfolding unlock
unlock_moves s l current a = (moves_self l.owners, λ t. counts_moves t l current (λ r w v. unlock_standing l current a r w v (standing_fault r v a.stateid.seqid true)) (checked_as kinds.Lock t l current 14 a.seqid a.stateid) (λ r w v e. unlock_standing_moves l current a r w v (standing_fault r v a.stateid.seqid true)))

release_goes : (l : NfsLists) (c : ClientRow) (owner : List ℕ) (x : Option OwnerRow) → find (is_owner_named c.number kinds.Lock owner) l.owners ≡ x → IsOrderly l → Follows (λ o. is_released owner o (Some c)) l.owners (without_owner_found l x).owners
release_goes l c owner None e orderly = self_follows (λ o. is_released owner o (Some c)) l
release_goes l c owner (Some r) e orderly = one_goes (λ o. is_released owner o (Some c)) (is_owner_named c.number kinds.Lock owner) l.owners r orderly.rising e (passes (is_owner_named c.number kinds.Lock owner) l.owners r e)

release_of_follows : (n : ℕ) (t : CoreState) (l : NfsLists) (current : Option ℕ) (owner : List ℕ) (x : Option ClientRow) → IsOrderly l → Follows (λ o. is_released owner o x) l.owners (carried n t l (release_of t l current owner x)).3.owners
unfolding released
release_of_follows n t l current owner None orderly = self_follows (λ o. is_released owner o None) l
release_of_follows n t l current owner (Some c) orderly =
    elim (cases_Bool (holds_any t c.id owner)) [
      | inl e ↦ rw e (self_follows (λ o. is_released owner o (Some c)) l)
      | inr e ↦ rw e (release_goes l c owner (find (is_owner_named c.number kinds.Lock owner) l.owners) refl orderly)
    ]

release_follows : (n : ℕ) (s : CoreState) (l : NfsLists) (current : Option ℕ) (a : OwnerItem) → IsOrderly l → Follows (λ o. is_released a.owner o (client_in s l a.clientid)) l.owners (carried n s l (release s l current a)).3.owners
unfolding release
release_follows n s l current a orderly =
    let t : CoreState = all_done n s (renewals l (number_in s a.clientid)) in
    subst (λ (x : Option ClientRow). Follows (λ o. is_released a.owner o x) l.owners (carried n t l (release_of t l current a.owner (client_in t l a.clientid))).3.owners) (client_then n s l (number_in s a.clientid) a.clientid)
    (release_of_follows n t l current a.owner (client_in t l a.clientid) orderly)

-- ---- operations of clients, and on handles

-- what changes no owner
same_follows : (gone : OwnerRow → Bool) (l : NfsLists) (os : List OwnerRow) → os ≡ l.owners → Follows gone l.owners os
same_follows gone l os same = subst (λ (ns : List OwnerRow). Follows gone l.owners ns) (sym same) (self_follows gone l)

come_follows : (gone : OwnerRow → Bool) (number : ℕ) (os : List OwnerRow) → ((o : OwnerRow) → gone o ≡ false → (number == o.name.client) ≡ false) → Follows gone os (other_owners number os)
come_follows gone number os apart = goes_follow gone (λ o. number == o.name.client) os (λ k o at left. apart o left)

two_go : (gone : OwnerRow → Bool) (one two : ℕ) (os : List OwnerRow) → ((o : OwnerRow) → gone o ≡ false → ((one == o.name.client) ≡ false) × ((two == o.name.client) ≡ false)) → Follows gone os (other_owners two (other_owners one os))
two_go gone one two os apart = (
  λ number o at left. ap (λ (x : Option OwnerRow). option_map (λ (y : OwnerRow). y.name) x) (left_found (is_owner number) (λ y. two == y.name.client) (other_owners one os) o (left_found (is_owner number) (λ y. one == y.name.client) os o at (apart o left).0) (apart o left).1),
  λ calm. all_left (λ (o : OwnerRow). o.name.kind ≡ kinds.Lock → o.seqids.closed ≡ None) (λ (o : OwnerRow). o.name.kind ≡ kinds.Lock → o.seqids.closed ≡ None) (λ y. two == y.name.client) (other_owners one os) (λ o stays h. h) (all_left (λ (o : OwnerRow). o.name.kind ≡ kinds.Lock → o.seqids.closed ≡ None) (λ (o : OwnerRow). o.name.kind ≡ kinds.Lock → o.seqids.closed ≡ None) (λ y. one == y.name.client) os (λ o stays h. h) calm),
)

both_false : (a b : Bool) → (a || b) ≡ false → (a ≡ false) × (b ≡ false)
both_false true b e = absurd (true≢false e)
both_false false b e = (refl, e)

over_follows : (n : ℕ) (s : CoreState) (l m : NfsLists) (current : Option ℕ) (number : ℕ) (r : ClientRow) (x : Option ClientRow) → m.owners ≡ l.owners → Follows (λ o. is_other_start o.name.client number x) l.owners (carried n s l (confirm_over s m current number r x)).3.owners
over_follows n s l m current number r None same = subst (λ (os : List OwnerRow). Follows (λ o. is_other_start o.name.client number None) l.owners (other_owners number os)) (sym same) (come_follows (λ o. is_other_start o.name.client number None) number l.owners (λ o left. left))
over_follows n s l m current number r (Some q) same =
    elim (cases_Bool (q.number == number)) [
      | inl e ↦ rw e (same_follows (λ o. not true && ((q.number == o.name.client) || (number == o.name.client))) l m.owners same)
      | inr e ↦ rw e (subst (λ (os : List OwnerRow). Follows (λ o. not false && ((q.number == o.name.client) || (number == o.name.client))) l.owners (other_owners number (other_owners q.number os))) (sym same) (two_go (λ o. not false && ((q.number == o.name.client) || (number == o.name.client))) q.number number l.owners (λ o left. both_false (q.number == o.name.client) (number == o.name.client) left)))
    ]

held_same : (n : ℕ) (s : CoreState) (l : NfsLists) (current : Option ℕ) (verifier : List ℕ) (x : Option ClientRow) → (carried n s l (confirm_held l current verifier x)).3.owners ≡ l.owners
held_same n s l current verifier None = refl
held_same n s l current verifier (Some r) = refl

found_follows : (n : ℕ) (s : CoreState) (l : NfsLists) (current : Option ℕ) (number : ℕ) (verifier : List ℕ) (x : Option ClientRow) → Follows (λ o. is_restarted_as l number o x) l.owners (carried n s l (confirm_found s l current number verifier x)).3.owners
found_follows n s l current number verifier None = same_follows (λ o. is_restarted_as l number o None) l (carried n s l (confirm_held l current verifier (find (is_client number true) l.clients))).3.owners (held_same n s l current verifier (find (is_client number true) l.clients))
found_follows n s l current number verifier (Some r) =
    let m : NfsLists = without_number number l in
    let named : find (is_client_named r.id true) m.clients ≡ find (is_client_named r.id true) l.clients = find_without (is_client_named r.id true) (is_client number false) l.clients (named_apart r.id number) in
    subst (λ (x : Option ClientRow). Follows (λ o. is_other_start o.name.client number (find (is_client_named r.id true) l.clients)) l.owners (carried n s l (confirm_over s m current number r x)).3.owners) (sym named) (over_follows n s l m current number r (find (is_client_named r.id true) l.clients) refl)

number_follows : (n : ℕ) (s : CoreState) (l : NfsLists) (current : Option ℕ) (verifier : List ℕ) (x : Option ℕ) → Follows (λ o. is_restarted l verifier o x) l.owners (carried n s l (confirm_number s l current verifier x)).3.owners
number_follows n s l current verifier None = self_follows (λ o. is_restarted l verifier o None) l
number_follows n s l current verifier (Some number) = found_follows n s l current number verifier (confirmed_by verifier (find (is_client number false) l.clients))

put_moves : (count : ℕ) (l : NfsLists) (current o : Option ℕ) → Moved l.owners (put_file count l current o)
put_moves count l current None = tt
put_moves count l current (Some file) = elim (cases_Bool (nat_le file count)) [ inl e ↦ rw e (moves_self l.owners) | inr e ↦ rw e tt ]

get_moves : (l : NfsLists) (current : Option ℕ) → Moved l.owners (get_fh l current)
unfolding get_fh
get_moves l None = tt
get_moves l (Some file) = moves_self l.owners

look_moves : (files : List (List ℕ)) (l : NfsLists) (current : Option ℕ) (name : List ℕ) → Moved l.owners (look_up files l current name)
unfolding look_up
look_moves files l None name = tt
look_moves files l (Some file) name =
    elim (cases_Bool (file == 0)) [
      | inr e ↦ rw e tt
      | inl e ↦ rw e (elim (cases_Bool (length name == 0)) [
        | inl d ↦ rw d tt
        | inr d ↦ rw d (by (file_named files name))
      ])
    ]
  where
    by : (x : Option ℕ) → Moved l.owners (found_file l (Some file) x)
    by None = tt
    by (Some found) = moves_self l.owners

renew_moves : (l : NfsLists) (current : Option ℕ) (o : Option ℕ) → Moved l.owners (renew_number l current o)
renew_moves l current None = tt
renew_moves l current (Some number) = by (find (is_client number true) l.clients)
  where
    by : (o : Option ClientRow) → Moved l.owners (renew_found l current o)
    by None = tt
    by (Some r) = moves_self l.owners

set_moves : (s : CoreState) (l m : NfsLists) (current : Option ℕ) (a : SetClientIdArgsItem) (kept : Option ℕ) → m.owners ≡ l.owners → Moved l.owners (set_by s m current a kept)
set_moves s l m current a kept same =
    elim (cases_Bool (has_client_room m)) [
      | inl e ↦ rw e (moves_to l.owners m.owners l.owners same (moves_self l.owners))
      | inr e ↦ rw e (moves_to l.owners m.owners l.owners same (moves_self l.owners))
    ]

without_same : (l : NfsLists) (x : Option ClientRow) → (without_found l x).owners ≡ l.owners
without_same l None = refl
without_same l (Some r) = refl

-- ---- an operation

-- one by which none may go
item_stays : (n : ℕ) (s : CoreState) (l : NfsLists) (p : Plan) → Moved l.owners p → Follows (λ o. false) l.owners (carried n s l p).3.owners
item_stays n s l p moved = moves_follow (λ o. false) l.owners (carried n s l p).3.owners (kept_so (λ (m : NfsLists). Moves l.owners m.owners) n s l p (moves_self l.owners) moved)

item_follows : (n : ℕ) (files : List (List ℕ)) (others : ℕ) (s : CoreState) (l : NfsLists) (current : Option ℕ) (item : OpItem) → IsOrderly l → Follows (may_go s l item) l.owners (carried n s l (planned files others s l current item)).3.owners
unfolding planned put_root_fh put_fh renew set_client_id set_client_id_confirm
item_follows n files others s l current PutRootFh orderly = self_follows (λ o. false) l
item_follows n files others s l current (PutFh fh) orderly = item_stays n s l (put_file (length files) l current (file_at fh)) (put_moves (length files) l current (file_at fh))
item_follows n files others s l current GetFh orderly = item_stays n s l (get_fh l current) (get_moves l current)
item_follows n files others s l current (Lookup name) orderly = item_stays n s l (look_up files l current name) (look_moves files l current name)
item_follows n files others s l current (SetClientId a) orderly = (let m = without_named a.id l in item_stays n s l (set_by s m current a (number_kept a.verifier (find (is_client_named a.id true) m.clients))) (set_moves s l m current a (number_kept a.verifier (find (is_client_named a.id true) m.clients)) (without_same l (find (is_client_named a.id false) l.clients))))
item_follows n files others s l current (SetClientIdConfirm a) orderly = number_follows n s l current a.verifier (number_in s a.clientid)
item_follows n files others s l current (Renew clientid) orderly = item_stays n s l (renew_number l current (number_in s clientid)) (renew_moves l current (number_in s clientid))
item_follows n files others s l current (Open a) orderly = open_follows n files others s l current a orderly
item_follows n files others s l current (OpenConfirm a) orderly = item_stays n s l (open_confirm s l current a) (confirm_moves s l current a)
item_follows n files others s l current (OpenDowngrade a) orderly = item_stays n s l (open_downgrade s l current a) (downgrade_moves s l current a)
item_follows n files others s l current (Close a) orderly = item_stays n s l (close s l current a) (close_moves s l current a orderly)
item_follows n files others s l current (DelegReturn stateid) orderly = item_stays n s l (deleg_return s l current stateid) (return_moves s l current stateid)
item_follows n files others s l current (Lock a) orderly = item_stays n s l (first.lock s l current a) (lock_moves s l current a)
item_follows n files others s l current (LockT a) orderly = item_stays n s l (lock_test s l current a) (test_moves s l current a)
item_follows n files others s l current (LockU a) orderly = item_stays n s l (unlock s l current a) (unlock_moves s l current a)
item_follows n files others s l current (ReleaseLockOwner a) orderly = release_follows n s l current a orderly
item_follows n files others s l current (Illegal number) orderly = self_follows (λ o. false) l
item_follows n files others s l current (NotSupported number) orderly = self_follows (λ o. false) l

pub item_names : (n : ℕ) (files : List (List ℕ)) (others : ℕ) (s : CoreState) (l : NfsLists) (current : Option ℕ) (item : OpItem) (number : ℕ) (o : OwnerRow) → IsOrderly l → find (is_owner number) l.owners ≡ Some o → may_go s l item o ≡ false → name_numbered number (carried n s l (planned files others s l current item)).3.owners ≡ Some o.name
item_names n files others s l current item number o orderly at left = (item_follows n files others s l current item orderly).0 number o at left

pub item_calm : (n : ℕ) (files : List (List ℕ)) (others : ℕ) (s : CoreState) (l : NfsLists) (current : Option ℕ) (item : OpItem) → IsOrderly l → LockersCloseNothing l → LockersCloseNothing (carried n s l (planned files others s l current item)).3
item_calm n files others s l current item orderly calm = (item_follows n files others s l current item orderly).1 calm

-- ---- a request, a start, and time

call_calm : (n : ℕ) (files : List (List ℕ)) (others : ℕ) (f : FrontNfs) (s : CoreState) (xid : ℕ) (called : Called) → IsOrderly f.state → LockersCloseNothing f.state → LockersCloseNothing (replied n files others f s xid called).2.state
call_calm n files others f s xid (Compound tag steps) orderly calm =
    (compound_keeps (λ t m. IsOrderly m × LockersCloseNothing m) n files others s f.state steps (λ t m current op is. (item_orderly n files others t m current op is.0, item_calm n files others t m current op is.0 is.1)) (orderly, calm)).1
call_calm n files others f s xid Garbage orderly calm = calm
call_calm n files others f s xid Null orderly calm = calm
call_calm n files others f s xid (Turned tag status) orderly calm = calm

pub request_calm : (n : ℕ) (exports : Exports) (others : ℕ) (f : FrontNfs) (s : CoreState) (conn : ℕ) (r : RequestItem) → IsOrderly f.state → LockersCloseNothing f.state → LockersCloseNothing (nfs_step n exports others f s conn r).2.state
unfolding nfs_step
request_calm n exports others f s conn r orderly calm = call_calm n exports.files others f s r.xid (call_in r) orderly calm

pub start_calm : LockersCloseNothing empty_nfs_front.state
start_calm = tt

pub tick_calm : (f : FrontNfs) (now : Moment) → LockersCloseNothing f.state → LockersCloseNothing (nfs_tick f now).state
unfolding nfs_tick
tick_calm f now calm = calm

pub tick_owners : (f : FrontNfs) (now : Moment) → (nfs_tick f now).state.owners ≡ f.state.owners
unfolding nfs_tick
tick_owners f now = refl

gone_client : (l : NfsLists) (x : Option ClientRow) → Follows (λ o. is_of o x) l.owners (forgotten l x).owners
gone_client l None = self_follows (λ o. false) l
gone_client l (Some r) = come_follows (λ o. r.number == o.name.client) r.number l.owners (λ o left. left)

lists_follow : (l : NfsLists) (effect : Effect) → Follows (λ o. is_expired l effect o) l.owners (lists_shown l effect).owners
lists_follow l (Expired id) = gone_client l (find (is_client_named id true) l.clients)
lists_follow l effect = self_follows (λ o. false) l

pub shown_calm : (f : FrontNfs) (effect : Effect) → LockersCloseNothing f.state → LockersCloseNothing (nfs_shown f effect).state
unfolding nfs_shown
shown_calm f effect calm = (lists_follow f.state effect).1 calm

pub shown_names : (f : FrontNfs) (effect : Effect) (number : ℕ) (o : OwnerRow) → find (is_owner number) f.state.owners ≡ Some o → is_expired f.state effect o ≡ false → name_numbered number (nfs_shown f effect).state.owners ≡ Some o.name
unfolding nfs_shown
shown_names f effect number o at left = (lists_follow f.state effect).0 number o at left
