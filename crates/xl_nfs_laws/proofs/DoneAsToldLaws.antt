-- What operations that are OK have done, each in the state behind the renewals that come before it: locks are held or free, and what a CLOSE,
-- a DELEGRETURN and a RELEASE_LOCKOWNER end is gone.
use Rattle.std.proofs.Common.{◌≡◌, ℕ, zero, suc, ◌+◌, ◌-◌, ◌≤◌, Bool, true, false, not, List, [], ◌∷◌, Option, Some, None, Ok, Err, Result, is_some, refl, sym, ap, subst, ◌∙◌, ◌↔◌, inl, inr, arith, true≢false}
use Rattle.std.proofs.lemmas.Bool.{and_parts, cases_Bool, eq-eqb, ltb-false}
use Rattle.std.proofs.lemmas.Option.{same_Some}
use Rattle.std.specs.Bool.{◌==◌}
use Rattle.std.specs.Cmp.Lexicographic.{bytes_decides}
use Rattle.std.specs.List.{find}
use Rattle.std.specs.Prelude.{◌&&◌, ◌||◌, bytes_eq, nat_le, nat_lt, option_and_then, option_map}
use Rattle.xl_base.proofs.Members.{in_filter_from}
use Rattle.xl_base.specs.Lists.{IsIn}
use Rattle.xl_base.specs.declared.event.Moment.{Moment}
use Rattle.xl_base.specs.declared.name.Owner.{Owner}
use Rattle.xl_base.specs.declared.name.Owner.TheVariants as owners
use Rattle.xl_base.specs.declared.name.Protocol.TheVariants.{Nfs}
use Rattle.xl_matrix.specs.Blocks.{is_range}
use Rattle.xl_matrix.specs.Equal.{same_owners}
use Rattle.xl_matrix.specs.declared.claim.Claim.{Claim}
use Rattle.xl_matrix.specs.declared.claim.What.{What}
use Rattle.xl_matrix.specs.declared.claim.What.TheVariants as whats
use Rattle.xl_names.specs.Names.{number_of}
use Rattle.xl_names.specs.declared.name.Name.TheVariants.{NfsRange}
use Rattle.xl_nfs.specs.Basics.{OwnerItem}
use Rattle.xl_nfs.specs.Locks.{LockArgsItem, LockTestArgsItem, NewLockerItem}
use Rattle.xl_nfs.specs.Outcomes.{is_ok}
use Rattle.xl_nfs.specs.declared.basics.LockType.{LockType}
use Rattle.xl_nfs.specs.declared.basics.Stateid.{Stateid}
use Rattle.xl_nfs.specs.declared.locks.KnownLocker.{KnownLocker}
use Rattle.xl_nfs.specs.declared.locks.UnlockArgs.{UnlockArgs}
use Rattle.xl_nfs.specs.declared.opens.CloseArgs.{CloseArgs}
use Rattle.xl_nfs.specs.declared.opens.OpenDowngradeArgs.{OpenDowngradeArgs}
use Rattle.xl_nfs.specs.declared.status.NfsStatus.{NfsStatus}
use Rattle.xl_nfs.specs.declared.status.NfsStatus.TheVariants as statuses
use Rattle.xl_nfs_state.specs.State.{NfsLists, delegated_on, is_client, is_kept, is_stateid, is_whose, without}
use Rattle.xl_nfs_state.specs.declared.client.ClientRow.{ClientRow}
use Rattle.xl_nfs_state.specs.declared.owner.SeqidState.{SeqidState}
use Rattle.xl_nfs_state.specs.declared.stateid.Holder.{Holder}
use Rattle.xl_nfs_state.specs.declared.stateid.Holder.TheVariants as holders
use Rattle.xl_nfs_state.specs.declared.stateid.StateidRow.{StateidRow}
use Rattle.xl_nfs_state.specs.declared.stateid.Whose.TheVariants as whose
use Rattle.xl_spans.specs.Spans.{mode_at}
use Rattle.xl_spans.specs.declared.span.Span.{Span}
use Rattle.xl_table.specs.Held.{is_of, spans_of, with_span}
use Rattle.xl_table.specs.Relock.{holds_range, is_range_by, shares_of}
use Rattle.xl_core.proofs.DeedLeaves.{found_in}
use Rattle.xl_core.specs.Good.{IsGood}
use Rattle.xl_core.specs.Ids.{number_in}
use Rattle.xl_core.specs.Leases.{Lease, moment_after, with_lease}
use Rattle.xl_core.specs.Places.{ByteOf, byte_held, held_at}
use Rattle.xl_core.specs.State.{CoreState}
use Rattle.xl_core.specs.Ticks.{renew as renew_lease}
use Rattle.xl_front_nfs.specs.Clients.{renew, renew_found, renew_number}
use Rattle.xl_nfs_locks.specs.Checks.{locks_found}
use Rattle.xl_nfs_locks.specs.FirstLocks.{both_of, join_in, join_to, locker_under}
use Rattle.xl_nfs_locks.specs.Locks.{access_above, lock_by_owner, lock_end, lock_found, lock_standing, lock_to}
use Rattle.xl_nfs_locks.specs.Ranges.{last_byte, may_lock, test_ask}
use Rattle.xl_nfs_locks.specs.Releases.{holds_any, holds_by, release_of}
use Rattle.xl_nfs_locks.specs.Tests.{locker_of, test_at, test_of, test_to}
use Rattle.xl_nfs_locks.specs.Unlocks.{unlock_by_owner, unlock_found, unlock_standing, unlock_to}
use Rattle.xl_nfs_locks.specs.declared.joining.BothOwners.{BothOwners}
use Rattle.xl_nfs_opens.proofs.CheckLaws.{finds}
use Rattle.xl_nfs_opens.proofs.OwnerLaws.{own_client}
use Rattle.xl_nfs_opens.specs.Asks.{all_ones}
use Rattle.xl_nfs_opens.specs.Closing.{checked, close_by, close_done, delegates, lock_owner, locks_under, opener_by, return_done, returned, Returning, standing_fault, state_returned}
use Rattle.xl_nfs_opens.specs.Files.{root}
use Rattle.xl_nfs_opens.specs.Downgrades.{downgrade_by, downgrade_done, downgrade_fault}
use Rattle.xl_nfs_opens.specs.Opens.{client_in, rights_of, share_held}
use Rattle.xl_nfs_opens.specs.Plans.{Outcome, carried, status_of}
use Rattle.xl_nfs_opens.specs.Seqids.{is_room_for}
use Rattle.xl_nfs_opens.specs.declared.opener.Checked.{Checked}
use Rattle.xl_nfs_opens.specs.declared.opener.Checked.TheVariants.{Passed, Refused, Repeated}
use Rattle.xl_nfs_opens.specs.declared.opener.Opener.{Opener}
use Rattle.xl_nfs_opens.specs.declared.told.Told.{Told}
use Rattle.xl_nfs_opens.specs.declared.told.Told.TheVariants.{Ended, State}
use Rattle.xl_nfs_laws.specs.DoneAsTold.{AreFirstLocked, AreKnownLocked, AreUnlocked, IsClosed, IsDowngraded, IsGivenBack, IsLockTestTold, IsNamed, IsReleased, IsRenewed}
use Rattle.xl_nfs_laws.specs.LockLaws.{AreLocked, IsTestDenial, IsTestTold, owner_of, test_claim}
use Rattle.xl_nfs_laws.specs.LockStateids.{IsNextOn}
use Rattle.xl_nfs_laws.specs.Orderly.{IsOrderly}
use Rattle.xl_nfs_laws.proofs.AnsweredOpenLaws.{done_stands, open_stays, repeat_names}
use Rattle.xl_nfs_laws.proofs.ClosedLockLaws.{closed_alone, closed_free}
use Rattle.xl_nfs_laws.proofs.CloseLaws.{close_gives}
use Rattle.xl_nfs_laws.proofs.DowngradeLaws.{downgrade_share}
use Rattle.xl_nfs_laws.proofs.FirstLockLaws.{under_is}
use Rattle.xl_nfs_laws.proofs.KnownOpenLaws.{free_of}
use Rattle.xl_nfs_laws.proofs.LockedByteLaws.{first_locked, known_locked}
use Rattle.xl_nfs_laws.proofs.LockOwnerLaws.{release_forgets}
use Rattle.xl_nfs_laws.proofs.LockStateidLaws.{passed_next}
use Rattle.xl_nfs_laws.proofs.LockStatusLaws.{test_changes_nothing, test_denied, test_exactly, unlock_frees}
use Rattle.xl_nfs_laws.proofs.OpenCheckLaws.{passed_is}
use Rattle.xl_nfs_laws.proofs.OpenDelegationLaws.{placed_one}
use Rattle.xl_nfs_laws.proofs.ToldDelegationLaws.{return_exactly, returned_gone, returned_uncached}

-- ---- ranges

positive : (k : ℕ) → (k == 0) ≡ false → 1 ≤ k
positive zero e = absurd (true≢false e)
positive (suc k) e = omega arith

-- the last byte isn't before the first
last_above : (offset len last : ℕ) → last_byte offset len ≡ Some last → offset ≤ last
unfolding last_byte
last_above offset len last e =
    elim (cases_Bool (len == 0)) [
      | inl none ↦ (let f : None ≡ Some last = rw none at e in absurd (true≢false (sym (ap is_some f))))
      | inr some ↦ elim (cases_Bool (nat_lt all_ones offset)) [
        | inl far ↦ (let f : None ≡ Some last = rw far at (rw some at e) in absurd (true≢false (sym (ap is_some f))))
        | inr near ↦ elim (cases_Bool (len == all_ones)) [
          | inl whole ↦ (let f : Some all_ones ≡ Some last = rw whole at (rw near at (rw some at e)) in omega (arith, same_Some all_ones last f, ltb-false all_ones offset near))
          | inr part ↦ elim (cases_Bool (nat_le (offset + len) all_ones)) [
            | inl within ↦ (let f : Some (offset + len - 1) ≡ Some last = rw within at (rw part at (rw near at (rw some at e))) in omega (arith, same_Some (offset + len - 1) last f, positive len some))
            | inr past ↦ (let f : None ≡ Some last = rw past at (rw part at (rw near at (rw some at e))) in absurd (true≢false (sym (ap is_some f))))
          ]
        ]
      ]
    ]

abbrev end_in : Result ℕ NfsStatus → Option ℕ
end_in (Ok last) = Some last
end_in (Err status) = None

-- a range that passes has this last byte
end_is : (kind : LockType) (access : ℕ) (end : Option ℕ) (last : ℕ) → lock_end kind access end ≡ Ok last → end ≡ Some last
end_is kind access None last e = absurd cc
end_is kind access (Some m) last e =
    elim (cases_Bool (may_lock kind access)) [
      | inl may ↦ (let f : Some m ≡ Some last = ap end_in (rw may at e) in f)
      | inr beyond ↦ (let f : None ≡ Some last = ap end_in (rw beyond at e) in absurd (true≢false (sym (ap is_some f))))
    ]

-- ---- LOCK

told_ok : (told : Stateid) (x : Told) → x ≡ State told → is_ok (status_of x) ≡ true
told_ok told x said = ap (λ (y : Told). is_ok (status_of y)) said

module _ (n : ℕ) (s : CoreState) (l : NfsLists) (current : Option ℕ) (a : LockArgsItem) (x : KnownLocker) (told : Stateid) (good : IsGood s) where
  held_owned : (r : StateidRow) (w last : ℕ) (seqids : SeqidState) (o : Option Opener) → opener_by l r.client w ≡ o → last_byte a.offset a.len ≡ Some last → IsNextOn s l current x.seqid x.stateid r w seqids → (carried n s l (lock_by_owner l current a r w seqids x.seqid last o)).0 ≡ State told → AreKnownLocked s l x.stateid a (carried n s l (lock_by_owner l current a r w seqids x.seqid last o))
  held_owned r w last seqids None whose_is ends is said = absurd cc
  held_owned r w last seqids (Some o) whose_is ends is said = record {
    row = r;
    owner = o;
    last = last;
    named = record { number = is.locks.number; found = is.locks.found };
    owner_is = ap (λ (h : Holder). opener_by l r.client (lock_owner h)) is.locks.holder ∙ whose_is;
    last_is = ends;
    held = known_locked n s l current a r w seqids x.seqid last o good (last_above a.offset a.len last ends) (told_ok told (carried n s l (lock_by_owner l current a r w seqids x.seqid last (Some o))).0 said);
  }

  held_ranged : (r : StateidRow) (w : ℕ) (seqids : SeqidState) (end : Result ℕ NfsStatus) → lock_end a.kind (access_above l r.holder) (last_byte a.offset a.len) ≡ end → IsNextOn s l current x.seqid x.stateid r w seqids → (carried n s l (lock_to l current a r w seqids x.seqid end)).0 ≡ State told → AreKnownLocked s l x.stateid a (carried n s l (lock_to l current a r w seqids x.seqid end))
  held_ranged r w seqids (Err status) e is said = absurd cc
  held_ranged r w seqids (Ok last) e is said = held_owned r w last seqids (opener_by l r.client w) refl (end_is a.kind (access_above l r.holder) (last_byte a.offset a.len) last e) is said

  held_passed : (r : StateidRow) (w : ℕ) (seqids : SeqidState) (fault : Option NfsStatus) → IsNextOn s l current x.seqid x.stateid r w seqids → (carried n s l (lock_standing l current a r w seqids x.seqid fault)).0 ≡ State told → AreKnownLocked s l x.stateid a (carried n s l (lock_standing l current a r w seqids x.seqid fault))
  held_passed r w seqids (Some status) is said = absurd cc
  held_passed r w seqids None is said = held_ranged r w seqids (lock_end a.kind (access_above l r.holder) (last_byte a.offset a.len)) refl is said

  pub known_held : (c : Checked) → locks_found s l current 12 x.seqid x.stateid ≡ c → (carried n s l (lock_found s l current a x c)).0 ≡ State told → AreKnownLocked s l x.stateid a (carried n s l (lock_found s l current a x c))
  known_held (Refused status) e said = absurd cc
  known_held (Repeated owner) e said = repeat_names n s l current told (find (is_kept owner) l.kept) said
  known_held (Passed r w seqids) e said = held_passed r w seqids (standing_fault r seqids x.stateid.seqid true) (passed_next s l current 12 x.seqid x.stateid r w seqids e) said

-- under an open
module _ (n : ℕ) (s : CoreState) (l : NfsLists) (current : Option ℕ) (a : LockArgsItem) (x : NewLockerItem) (told : Stateid) (good : IsGood s) where
  no_room : (b : BothOwners) (o : Opener) (r : StateidRow) (q : Option StateidRow) (last : ℕ) → is_room_for o l ≡ false → (carried n s l (join_to l current a b o r q (Ok last))).0 ≡ State told → ⊥
  no_room b o r q last full = rw full (λ said. absurd cc)

  first_ranged : (r : StateidRow) (owner : ℕ) (seqids : SeqidState) (o : Opener) (q : Option StateidRow) (end : Result ℕ NfsStatus) → lock_end a.kind r.standing.access (last_byte a.offset a.len) ≡ end → checked s l current 12 x.open_seqid x.open_stateid ≡ Passed r owner seqids → locker_under r x.owner.owner (client_in s l x.owner.clientid) ≡ Some o
      → (carried n s l (join_to l current a (both_of x owner seqids) o r q end)).0 ≡ State told → AreFirstLocked s l x a (carried n s l (join_to l current a (both_of x owner seqids) o r q end))
  first_ranged r owner seqids o q (Err status) e passed under said = absurd cc
  first_ranged r owner seqids o q (Ok last) e passed under said =
      let is = passed_is s l current 12 x.open_seqid x.open_stateid r owner seqids passed in
      let its = under_is r x.owner.owner (client_in s l x.owner.clientid) o under in
      let ends : last_byte a.offset a.len ≡ Some last = end_is a.kind r.standing.access (last_byte a.offset a.len) last e in
      elim (cases_Bool (is_room_for o l)) [
        | inr full ↦ absurd (no_room (both_of x owner seqids) o r q last full said)
        | inl room ↦ record {
          opened = r;
          client = its.0;
          last = last;
          named = record { number = is.opened.number; found = is.opened.found };
          client_is = its.1;
          last_is = ends;
          held = subst (λ (p : Opener). AreLocked p r.file a.kind a.offset last s (carried n s l (join_to l current a (both_of x owner seqids) o r q (Ok last))).4) its.3
              (first_locked n s l current a (both_of x owner seqids) o r q last good (last_above a.offset a.len last ends) room (told_ok told (carried n s l (join_to l current a (both_of x owner seqids) o r q (Ok last))).0 said));
        }
      ]

  pub first_held : (r : StateidRow) (owner : ℕ) (seqids : SeqidState) (o : Opener) (q : Option StateidRow) → checked s l current 12 x.open_seqid x.open_stateid ≡ Passed r owner seqids → locker_under r x.owner.owner (client_in s l x.owner.clientid) ≡ Some o
      → (carried n s l (join_in l current a (both_of x owner seqids) o r q)).0 ≡ State told → AreFirstLocked s l x a (carried n s l (join_in l current a (both_of x owner seqids) o r q))
  first_held r owner seqids o q passed under said = first_ranged r owner seqids o q (lock_end a.kind r.standing.access (last_byte a.offset a.len)) refl passed under said

-- ---- LOCKU

module _ (n : ℕ) (s : CoreState) (l : NfsLists) (current : Option ℕ) (a : UnlockArgs) (told : Stateid) (good : IsGood s) where
  free_owned : (r : StateidRow) (w last : ℕ) (seqids : SeqidState) (o : Option Opener) → opener_by l r.client w ≡ o → last_byte a.offset a.len ≡ Some last → IsNextOn s l current a.seqid a.stateid r w seqids → (carried n s l (unlock_by_owner l current a r w seqids last o)).0 ≡ State told → AreUnlocked s l a (carried n s l (unlock_by_owner l current a r w seqids last o))
  free_owned r w last seqids None whose_is ends is said = absurd cc
  free_owned r w last seqids (Some o) whose_is ends is said = record {
    row = r;
    owner = o;
    last = last;
    named = record { number = is.locks.number; found = is.locks.found };
    owner_is = ap (λ (h : Holder). opener_by l r.client (lock_owner h)) is.locks.holder ∙ whose_is;
    last_is = ends;
    free = unlock_frees n s l current a r w seqids last o good (last_above a.offset a.len last ends) (told_ok told (carried n s l (unlock_by_owner l current a r w seqids last (Some o))).0 said);
  }

  free_ranged : (r : StateidRow) (w : ℕ) (seqids : SeqidState) (end : Option ℕ) → last_byte a.offset a.len ≡ end → IsNextOn s l current a.seqid a.stateid r w seqids → (carried n s l (unlock_to l current a r w seqids end)).0 ≡ State told → AreUnlocked s l a (carried n s l (unlock_to l current a r w seqids end))
  free_ranged r w seqids None e is said = absurd cc
  free_ranged r w seqids (Some last) e is said = free_owned r w last seqids (opener_by l r.client w) refl e is said

  free_passed : (r : StateidRow) (w : ℕ) (seqids : SeqidState) (fault : Option NfsStatus) → IsNextOn s l current a.seqid a.stateid r w seqids → (carried n s l (unlock_standing l current a r w seqids fault)).0 ≡ State told → AreUnlocked s l a (carried n s l (unlock_standing l current a r w seqids fault))
  free_passed r w seqids (Some status) is said = absurd cc
  free_passed r w seqids None is said = free_ranged r w seqids (last_byte a.offset a.len) refl is said

  pub unlocked_free : (c : Checked) → locks_found s l current 14 a.seqid a.stateid ≡ c → (carried n s l (unlock_found s l current a c)).0 ≡ State told → AreUnlocked s l a (carried n s l (unlock_found s l current a c))
  unlocked_free (Refused status) e said = absurd cc
  unlocked_free (Repeated owner) e said = repeat_names n s l current told (find (is_kept owner) l.kept) said
  unlocked_free (Passed r w seqids) e said = free_passed r w seqids (standing_fault r seqids a.stateid.seqid true) (passed_next s l current 14 a.seqid a.stateid r w seqids e) said

-- ---- LOCKT

module _ (n : ℕ) (s : CoreState) (l : NfsLists) (a : LockTestArgsItem) (c : ClientRow) (file last : ℕ) where
  -- on the file that is the current one
  test_there : (at : ℕ) → (carried n s l (test_to l (Some at) a at (locker_of c a.owner.owner) (Some last))).1 ≡ Some file → IsLockTestTold l a c file last (carried n s l (test_to l (Some at) a at (locker_of c a.owner.owner) (Some last)))
  test_there at is =
      let o = locker_of c a.owner.owner in
      let done : Outcome = carried n s l (test_to l (Some at) a at o (Some last)) in
      let stays : done.4 ≡ s = (test_changes_nothing n s l (Some at) a at o (Some last)).1 in
      subst (λ (f : ℕ). IsLockTestTold l a c f last done) (same_Some at file is) (record {
        told = λ status. subst (λ (u : CoreState). (status_of done.0 ≡ status) ↔ IsTestTold u (test_ask o at a.kind a.offset last) (test_claim u o at a.kind a.offset last) status) (sym stays) (test_exactly n s l (Some at) a at o last status);
        denied = λ held e. subst (λ (u : CoreState). IsTestDenial u l (test_claim u o at a.kind a.offset last) held) (sym stays) (test_denied n s l (Some at) a at o last held e);
      })

  pub test_told : (current : Option ℕ) → client_in s l a.owner.clientid ≡ Some c → last_byte a.offset a.len ≡ Some last → (file == root) ≡ false → (carried n s l (test_at s l a current)).1 ≡ Some file → IsLockTestTold l a c file last (carried n s l (test_at s l a current))
  test_told None client ends other = λ is. absurd (true≢false (sym (ap is_some is)))
  test_told (Some at) client ends other =
      elim (cases_Bool (at == root)) [
        | inl e ↦ rw e (λ is. absurd (true≢false (sym e ∙ ap (λ (f : ℕ). f == root) (same_Some at file is) ∙ other)))
        | inr e ↦ rw e (subst (λ (x : Option ClientRow). (carried n s l (test_of l (Some at) a at x)).1 ≡ Some file → IsLockTestTold l a c file last (carried n s l (test_of l (Some at) a at x))) (sym client)
            (subst (λ (x : Option ℕ). (carried n s l (test_to l (Some at) a at (locker_of c a.owner.owner) x)).1 ≡ Some file → IsLockTestTold l a c file last (carried n s l (test_to l (Some at) a at (locker_of c a.owner.owner) x))) (sym ends) (test_there at)))
      ]

-- ---- a stateid names one row

number_same : (s : CoreState) (l : NfsLists) (stateid : Stateid) (r q : StateidRow) → IsNamed s l stateid r → IsNamed s l stateid q → r ≡ q
number_same s l stateid r q one two =
    let same : r.number ≡ q.number = same_Some r.number q.number (sym one.number ∙ two.number) in
    same_Some r q (sym one.found ∙ ap (λ (m : ℕ). find (is_stateid m) l.stateids) same ∙ two.found)

open_owner_same : (a b : ℕ) → holders.Open a ≡ holders.Open b → a ≡ b
open_owner_same a b e = cc

-- ---- OPEN_DOWNGRADE

module _ (n : ℕ) (s : CoreState) (l : NfsLists) (current : Option ℕ) (a : OpenDowngradeArgs) (told : Stateid) (good : IsGood s) (orderly : IsOrderly l) where
  done_lower : (r : StateidRow) (w : ℕ) (seqids : SeqidState) → checked s l current 21 a.seqid a.stateid ≡ Passed r w seqids → IsDowngraded s l a (carried n s l (downgrade_done s l current a r w seqids None))
  done_lower r w seqids passed =
      let is = passed_is s l current 21 a.seqid a.stateid r w seqids passed in
      let mine : IsNamed s l a.stateid r = record { number = is.opened.number; found = is.opened.found } in
      let done : Outcome = carried n s l (downgrade_done s l current a r w seqids None) in
      let stands = done_stands s l r w seqids 21 a.seqid seqids.confirmed None a.access a.deny false is.opened.found (open_stays s l current a.seqid a.stateid r w seqids orderly is) in
      record {
        access = λ q named. subst (λ (z : StateidRow). option_map (λ (x : StateidRow). x.standing.access) (find (is_stateid z.number) done.3.stateids) ≡ Some a.access) (number_same s l a.stateid r q mine named) (ap (λ (y : Option StateidRow). option_map (λ (x : StateidRow). x.standing.access) y) stands);
        deny = λ q named. subst (λ (z : StateidRow). option_map (λ (x : StateidRow). x.standing.deny) (find (is_stateid z.number) done.3.stateids) ≡ Some a.deny) (number_same s l a.stateid r q mine named) (ap (λ (y : Option StateidRow). option_map (λ (x : StateidRow). x.standing.deny) y) stands);
        share = λ q owner number o claim named holds by known held has.
            (let same : r ≡ q = number_same s l a.stateid r q mine named in
            let its : w ≡ owner = open_owner_same w owner (sym is.opened.holder ∙ ap (λ (z : StateidRow). z.holder) same ∙ holds) in
            let found : opener_by l r.client w ≡ Some o = (λ i. opener_by l (same i).client (its i)) ∙ by in
            let was : share_held s o r.file ≡ Some claim = ap (λ (z : StateidRow). share_held s o z.file) same ∙ held in
            subst (λ (z : StateidRow). shares_of z.file (owners.Name Nfs number) done.4.claims ≡ (rights_of a.access, rights_of a.deny) ∷ []) same (downgrade_share n s l current a r w number seqids o claim good found known was has));
      }

  lower_passed : (r : StateidRow) (w : ℕ) (seqids : SeqidState) (fault : Option NfsStatus) → checked s l current 21 a.seqid a.stateid ≡ Passed r w seqids → (carried n s l (downgrade_done s l current a r w seqids fault)).0 ≡ State told → IsDowngraded s l a (carried n s l (downgrade_done s l current a r w seqids fault))
  lower_passed r w seqids (Some status) passed said = absurd cc
  lower_passed r w seqids None passed said = done_lower r w seqids passed

  pub downgrade_lowers : (c : Checked) → checked s l current 21 a.seqid a.stateid ≡ c → (carried n s l (downgrade_by s l current a c)).0 ≡ State told → IsDowngraded s l a (carried n s l (downgrade_by s l current a c))
  downgrade_lowers (Refused status) e said = absurd cc
  downgrade_lowers (Repeated owner) e said = repeat_names n s l current told (find (is_kept owner) l.kept) said
  downgrade_lowers (Passed r w seqids) e said = lower_passed r w seqids (downgrade_fault r seqids a) e said

-- ---- CLOSE

module _ (n : ℕ) (s : CoreState) (l : NfsLists) (current : Option ℕ) (a : CloseArgs) (told : Stateid) (good : IsGood s) where
  -- the open that passed
  done_closed : (r : StateidRow) (w : ℕ) (seqids : SeqidState) → checked s l current 4 a.seqid a.stateid ≡ Passed r w seqids → IsClosed s l a.stateid (carried n s l (close_done s l current a r w seqids None))
  done_closed r w seqids passed =
      let is = passed_is s l current 4 a.seqid a.stateid r w seqids passed in
      let mine : IsNamed s l a.stateid r = record { number = is.opened.number; found = is.opened.found } in
      let done : Outcome = carried n s l (close_done s l current a r w seqids None) in
      record {
        share = λ q owner number o named holds by known.
            (let same : r ≡ q = number_same s l a.stateid r q mine named in
            let its : w ≡ owner = open_owner_same w owner (sym is.opened.holder ∙ ap (λ (z : StateidRow). z.holder) same ∙ holds) in
            let found : opener_by l r.client w ≡ Some o = (λ i. opener_by l (same i).client (its i)) ∙ by in
            subst (λ (z : StateidRow). shares_of z.file (owners.Name Nfs number) done.4.claims ≡ []) same (close_gives n s l current a r w number seqids o good found known));
        bytes = λ q k o byte named under by most.
            (let same : r ≡ q = number_same s l a.stateid r q mine named in
            let here : IsIn k (locks_under l r.number) = subst (λ (z : StateidRow). IsIn k (locks_under l z.number)) (sym same) under in
            let found : opener_by l r.client (lock_owner k.holder) ≡ Some o = ap (λ (z : StateidRow). opener_by l z.client (lock_owner k.holder)) same ∙ by in
            subst (λ (z : StateidRow). held_at done.4 (ByteOf z.file (owner_of s.names o) byte) ≡ []) same (closed_free n s l current a r w seqids k o byte good here found most));
        locks = λ q named.
            (let same : r ≡ q = number_same s l a.stateid r q mine named in
            subst (λ (z : StateidRow). locks_under done.3 z.number ≡ []) same (closed_alone n s l current a r w seqids));
      }

  done_passed : (r : StateidRow) (w : ℕ) (seqids : SeqidState) (fault : Option NfsStatus) → checked s l current 4 a.seqid a.stateid ≡ Passed r w seqids → (carried n s l (close_done s l current a r w seqids fault)).0 ≡ State told → IsClosed s l a.stateid (carried n s l (close_done s l current a r w seqids fault))
  done_passed r w seqids (Some status) passed said = absurd cc
  done_passed r w seqids None passed said = done_closed r w seqids passed

  pub close_ends : (c : Checked) → checked s l current 4 a.seqid a.stateid ≡ c → (carried n s l (close_by s l current a c)).0 ≡ State told → IsClosed s l a.stateid (carried n s l (close_by s l current a c))
  close_ends (Refused status) e said = absurd cc
  close_ends (Repeated owner) e said = repeat_names n s l current told (find (is_kept owner) l.kept) said
  close_ends (Passed r w seqids) e said = done_passed r w seqids (standing_fault r seqids a.stateid.seqid true) e said

-- ---- DELEGRETURN

-- no check that fails is OK
refused_not : (r : StateidRow) (seqid : ℕ) → state_returned seqid (Ok r) ≡ Err statuses.Ok → ⊥
refused_not r seqid =
    elim (cases_Bool (r.standing.closed || not (delegates r.holder))) [
      | inl e ↦ rw e (λ f. absurd cc)
      | inr e ↦ rw e (elim (cases_Bool (nat_lt seqid r.standing.seqid)) [
        | inl d ↦ rw d (λ f. absurd cc)
        | inr d ↦ rw d (elim (cases_Bool (nat_lt r.standing.seqid seqid)) [
          | inl g ↦ rw g (λ f. absurd cc)
          | inr g ↦ rw g (λ f. absurd cc)
        ])
      ])
    ]

returned_not : (s : CoreState) (l : NfsLists) (current : Option ℕ) (stateid : Stateid) → returned s l current stateid ≡ Err statuses.Ok → ⊥
unfolding returned
returned_not s l current stateid = finds (λ (x : Returning). state_returned stateid.seqid x ≡ Err statuses.Ok → ⊥) s l current stateid (λ none f. absurd cc) (λ some none f. absurd cc) (λ f. absurd cc) (λ r file named there. refused_not r stateid.seqid)

-- nor is there a delegation without a current file
returned_nowhere : (s : CoreState) (l : NfsLists) (stateid : Stateid) (r : StateidRow) → returned s l None stateid ≡ Ok r → ⊥
unfolding returned
returned_nowhere s l stateid r = finds (λ (x : Returning). state_returned stateid.seqid x ≡ Ok r → ⊥) s l None stateid (λ none f. absurd cc) (λ some none f. absurd (true≢false (sym some))) (λ f. absurd cc) (λ q file named there f. absurd (true≢false (sym (ap is_some file))))

abbrev failed_by : NfsStatus → Returning
failed_by status = Err status

abbrev status_in : Told → NfsStatus
status_in (Ended status) = status
status_in told = statuses.ServerFault

module _ (n : ℕ) (s : CoreState) (l : NfsLists) (stateid : Stateid) (good : IsGood s) (orderly : IsOrderly l) where
  -- it is the one delegation that its client has on the file
  place_left : (at : ℕ) (r : StateidRow) → returned s l (Some at) stateid ≡ Ok r → find (delegated_on r.client r.file) (without (is_whose (whose.Stateid r.number)) l.stateids) ≡ None
  place_left at r e =
      let is = (return_exactly s l at stateid r).0 e in
      let here : IsIn r l.stateids = (found_in (is_stateid is.number) l.stateids r is.found).0 in
      free_of (delegated_on r.client r.file) (without (is_whose (whose.Stateid r.number)) l.stateids) (λ y there. none is.write is.holder here y (in_filter_from (λ q. not (is_whose (whose.Stateid r.number) q)) y l.stateids there))
    where
      own : (write : Bool) → r.holder ≡ holders.Delegation write → delegated_on r.client r.file r ≡ true
      own write holds = rw holds (rw (eq-eqb r.client r.client refl) (eq-eqb r.file r.file refl))

      none : (write : Bool) → r.holder ≡ holders.Delegation write → IsIn r l.stateids → (y : StateidRow) → IsIn y l.stateids × (not (is_whose (whose.Stateid r.number) y) ≡ true) → delegated_on r.client r.file y ≡ false
      none write holds here y there =
          elim (cases_Bool (delegated_on r.client r.file y)) [
            | inr off ↦ off
            | inl on ↦ (
                let same : y ≡ r = placed_one l.stateids y r r.client r.file orderly.apart there.0 here on (own write holds) in
                let gone : not (is_whose (whose.Stateid r.number) r) ≡ true = subst (λ (z : StateidRow). not (is_whose (whose.Stateid r.number) z) ≡ true) same there.1 in
                let no : false ≡ true = rw (eq-eqb r.number r.number refl) at gone in
                absurd (true≢false (sym no)))
          ]

  returned_done : (current : Option ℕ) (x : Returning) → returned s l current stateid ≡ x → (carried n s l (return_done s l current x)).0 ≡ Ended statuses.Ok → IsGivenBack s l stateid (carried n s l (return_done s l current x))
  returned_done current (Err status) e said = absurd (returned_not s l current stateid (e ∙ ap (λ (t : Told). failed_by (status_in t)) said))
  returned_done None (Ok r) e said = absurd (returned_nowhere s l stateid r e)
  returned_done (Some at) (Ok r) e said = record {
    row = r;
    file = at;
    current = refl;
    returned = (return_exactly s l at stateid r).0 e;
    stateid_gone = returned_gone n s l (Some at) r;
    delegation_gone = place_left at r e;
    cache_gone = λ c found. returned_uncached n s l (Some at) r c good found;
  }

  pub given_back : (current : Option ℕ) → (carried n s l (return_done s l current (returned s l current stateid))).0 ≡ Ended statuses.Ok → IsGivenBack s l stateid (carried n s l (return_done s l current (returned s l current stateid)))
  given_back current said = returned_done current (returned s l current stateid) refl said

-- ---- RENEW

lease_runs : (client : List ℕ) (until : Moment) (leases : List Lease) → find (λ e. bytes_eq client e.0) (with_lease client until leases) ≡ Some (client, until)
unfolding with_lease
lease_runs client until [] = rw (own_client client) refl
lease_runs client until (x ∷ xs) =
    elim (cases_Bool (bytes_eq client x.0)) [
      | inl same ↦ rw same (rw same (ap (λ (id : List ℕ). Some (id, until)) (sym ((bytes_decides client x.0).0 same))))
      | inr other ↦ rw other (rw other (lease_runs client until xs))
    ]

pub renew_told : (n : ℕ) (s : CoreState) (l : NfsLists) (current : Option ℕ) (clientid : ℕ) → (carried n s l (renew s l current clientid)).0 ≡ Ended statuses.Ok → IsRenewed s l clientid (carried n s l (renew s l current clientid))
unfolding renew renew_lease
renew_told n s l current clientid said = numbered (number_in s clientid) refl said
  where
    named : (number : ℕ) (x : Option ClientRow) → number_in s clientid ≡ Some number → find (is_client number true) l.clients ≡ x → (carried n s l (renew_found l current x)).0 ≡ Ended statuses.Ok → IsRenewed s l clientid (carried n s l (renew_found l current x))
    named number None e found f = absurd cc
    named number (Some r) e found f = record {
      client = r;
      named = ap (λ (who : Option ℕ). option_and_then (λ k. find (is_client k true) l.clients) who) e ∙ found;
      lease = lease_runs r.id (moment_after s.clock s.times.lease) s.leases;
    }

    numbered : (who : Option ℕ) → number_in s clientid ≡ who → (carried n s l (renew_number l current who)).0 ≡ Ended statuses.Ok → IsRenewed s l clientid (carried n s l (renew_number l current who))
    numbered None e f = absurd cc
    numbered (Some number) e f = named number (find (is_client number true) l.clients) e refl f

-- ---- RELEASE_LOCKOWNER

-- who has no range has no byte
no_span : (w : What) (spans : List Span) → is_range w ≡ false → with_span w spans ≡ spans
no_span (whats.Range extent exclusive) spans e = absurd (true≢false e)
no_span (whats.Share access deny) spans e = refl
no_span (whats.Cache kind running) spans e = refl

no_spans : (file : ℕ) (owner : Owner) (cs : List Claim) → holds_range owner cs ≡ false → spans_of file owner cs ≡ []
no_spans file owner [] e = refl
no_spans file owner (c ∷ cs) e =
    elim (cases_Bool (is_range_by owner c)) [
      | inl f ↦ (let no : true ≡ false = rw f at e in absurd (true≢false no))
      | inr f ↦ (
          let rest : spans_of file owner cs ≡ [] = no_spans file owner cs (rw f at e) in
          elim (cases_Bool (is_of file owner c)) [
            | inr d ↦ rw d rest
            | inl d ↦ rw d (no_span c.what (spans_of file owner cs) (other c.what (and_parts (c.file == file) (same_owners c.owner owner) d).1 f) ∙ rest)
          ])
    ]
  where
    other : (w : What) → same_owners c.owner owner ≡ true → (same_owners c.owner owner && is_range w) ≡ false → is_range w ≡ false
    other w mine not_both = rw mine at not_both

no_bytes : (s : CoreState) (owner : Owner) (file byte : ℕ) → holds_range owner s.claims ≡ false → held_at s (ByteOf file owner byte) ≡ []
no_bytes s owner file byte e = ap (λ (spans : List Span). byte_held owner byte (mode_at spans byte)) (no_spans file owner s.claims e)

holds_as : (s : CoreState) (id owner : List ℕ) (number : ℕ) → number_of (NfsRange id owner) s.names ≡ Some number → holds_any s id owner ≡ holds_range (owners.Name Nfs number) s.claims
unfolding holds_any
holds_as s id owner number known = ap (λ (x : Option ℕ). holds_by s x) known

free_bytes : (s t : CoreState) (id owner : List ℕ) → t ≡ s → holds_any s id owner ≡ false → (number file byte : ℕ) → number_of (NfsRange id owner) t.names ≡ Some number → held_at t (ByteOf file (owners.Name Nfs number) byte) ≡ []
free_bytes s t id owner same free number file byte known =
    no_bytes t (owners.Name Nfs number) file byte (sym (holds_as t id owner number known) ∙ ap (λ (u : CoreState). holds_any u id owner) same ∙ free)

-- one that isn't OK is told so
held_not : (n : ℕ) (s : CoreState) (l : NfsLists) (current : Option ℕ) (owner : List ℕ) (c : ClientRow) → holds_any s c.id owner ≡ true → (carried n s l (release_of s l current owner (Some c))).0 ≡ Ended statuses.Ok → ⊥
held_not n s l current owner c held = rw held (λ f. absurd cc)

stays_core : (n : ℕ) (s : CoreState) (l : NfsLists) (current : Option ℕ) (owner : List ℕ) (c : ClientRow) → (carried n s l (release_of s l current owner (Some c))).4 ≡ s
stays_core n s l current owner c =
    elim (cases_Bool (holds_any s c.id owner)) [
      | inl e ↦ rw e refl
      | inr e ↦ rw e refl
    ]

pub release_told : (n : ℕ) (s : CoreState) (l : NfsLists) (current : Option ℕ) (a : OwnerItem) (x : Option ClientRow) → client_in s l a.clientid ≡ x → (carried n s l (release_of s l current a.owner x)).0 ≡ Ended statuses.Ok → IsReleased s l a (carried n s l (release_of s l current a.owner x))
release_told n s l current a None e said = absurd cc
release_told n s l current a (Some c) e said =
    elim (cases_Bool (holds_any s c.id a.owner)) [
      | inl held ↦ absurd (held_not n s l current a.owner c held said)
      | inr free ↦ record {
        client = c;
        named = e;
        free = free_bytes s (carried n s l (release_of s l current a.owner (Some c))).4 c.id a.owner (stays_core n s l current a.owner c) free;
        gone = λ o found. release_forgets n s l current a.owner c o (ap (λ (t : Told). is_ok (status_of t)) said) found;
      }
    ]
