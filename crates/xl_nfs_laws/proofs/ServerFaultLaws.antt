-- LOCK is told SERVERFAULT exactly if a store failed, and LOCKU never is.
use Rattle.std.proofs.Common.{◌≡◌, ℕ, ◌≤◌, Bool, true, false, Option, Some, None, Result, Ok, Err, is_some, refl, sym, ap, ◌∙◌, inl, inr, true≢false}
use Rattle.std.proofs.lemmas.Bool.{cases_Bool}
use Rattle.std.specs.Bool.{beq}
use Rattle.std.specs.List.{find}
use Rattle.std.specs.Prelude.{nat_lt, ◌↔◌}
use Rattle.xl_matrix.specs.declared.claim.Claim.{Claim}
use Rattle.xl_matrix.specs.declared.claim.Extent.TheVariants.{Bytes}
use Rattle.xl_matrix.specs.declared.claim.What.TheVariants as whats
use Rattle.xl_nfs.specs.Locks.{LockArgsItem, LockerItem, NewLockerItem, Known, New}
use Rattle.xl_nfs.specs.Outcomes.{is_ok}
use Rattle.xl_nfs.specs.declared.basics.LockType.{LockType}
use Rattle.xl_nfs.specs.declared.locks.KnownLocker.{KnownLocker}
use Rattle.xl_nfs.specs.declared.locks.UnlockArgs.{UnlockArgs}
use Rattle.xl_nfs.specs.declared.basics.Stateid.{Stateid}
use Rattle.xl_nfs.specs.declared.status.NfsStatus.{NfsStatus}
use Rattle.xl_nfs.specs.declared.status.NfsStatus.TheVariants as statuses
use Rattle.xl_nfs_state.specs.State.{NfsLists, IsSound, is_client, is_kept}
use Rattle.xl_nfs_state.specs.declared.client.ClientRow.{ClientRow}
use Rattle.xl_nfs_state.specs.declared.kept.KeptRow.{KeptRow}
use Rattle.xl_nfs_state.specs.declared.owner.SeqidState.{SeqidState}
use Rattle.xl_nfs_state.specs.declared.owner.OwnerKind.{OwnerKind}
use Rattle.xl_nfs_state.specs.declared.owner.OwnerKind.TheVariants as kinds
use Rattle.xl_nfs_state.specs.declared.stateid.StateidRow.{StateidRow}
use Rattle.xl_core.proofs.DeedLists.{deeds_good}
use Rattle.xl_core.proofs.WayAsks.{ask_unlock}
use Rattle.xl_core.specs.Causes.{IsUnlockDue}
use Rattle.xl_core.specs.Decide.{Answered, ask}
use Rattle.xl_core.specs.Deeds.{AreFit, all_done}
use Rattle.xl_core.specs.Good.{IsGood}
use Rattle.xl_core.specs.State.{CoreState, drawn}
use Rattle.xl_core.specs.Ticks.{renew}
use Rattle.xl_core.specs.declared.ask.Answer.{Answer}
use Rattle.xl_core.specs.declared.ask.Answer.TheVariants as answers
use Rattle.xl_nfs_laws.proofs.OpenSeqidLaws.{refused_not}
use Rattle.xl_nfs_opens.specs.Asks.{unlock_ask}
use Rattle.xl_nfs_opens.specs.Closing.{checked_as, counts, opener_by, standing_fault}
use Rattle.xl_core.specs.Ids.{number_in}
use Rattle.xl_nfs_opens.specs.Opens.{all_rooms, client_in, is_granted, repeated}
use Rattle.xl_nfs_opens.proofs.OwnerLaws.{own_client}
use Rattle.xl_nfs_opens.specs.Plans.{Outcome, Plan, carried, status_of}
use Rattle.xl_nfs_opens.specs.Renewing.{renewals, renewals_by, state_client}
use Rattle.xl_nfs_opens.specs.Seqids.{advances, is_room_for}
use Rattle.xl_nfs_opens.specs.declared.opener.Checked.{Checked}
use Rattle.xl_nfs_opens.specs.declared.opener.Checked.TheVariants.{Passed, Refused, Repeated}
use Rattle.xl_nfs_opens.specs.declared.opener.Opener.{Opener}
use Rattle.xl_nfs_opens.specs.declared.told.Told.{Told}
use Rattle.xl_nfs_opens.specs.declared.told.Told.TheVariants.{Ended}
use Rattle.xl_nfs_locks.specs.FirstLocks.{both_of, found_joined, join_again, join_answered, join_as, joined_by, join_of, join_standing, join_to, lock, lock_by, lock_named, lock_new, locker_under}
use Rattle.xl_nfs_laws.specs.LockLaws.{unlock_claim}
use Rattle.xl_nfs_locks.specs.Locks.{access_above, lock_answered, lock_by_owner, lock_end, lock_known, lock_standing, lock_to}
use Rattle.xl_nfs_locks.specs.Ranges.{is_exclusive, last_byte, lock_ask, may_lock}
use Rattle.xl_plan.proofs.RecordLaws.{failed_told}
use Rattle.xl_nfs_locks.specs.Unlocks.{unlock, unlock_by_owner, unlock_standing, unlock_status, unlock_to, unlocked_as}
use Rattle.xl_nfs_locks.specs.declared.joining.BothOwners.{BothOwners}
use Rattle.xl_nfs_locks.specs.declared.joining.Joined.{Joined}
use Rattle.xl_nfs_locks.specs.declared.joining.Joined.TheVariants.{Again, Bad, Joins}
use Rattle.xl_nfs_laws.proofs.LockSeqidLaws.{opener_there}
use Rattle.xl_nfs_laws.proofs.LockStateidLaws.{passed_next}
use Rattle.xl_nfs_laws.proofs.LockOwn.{NotBefore, last_not_before, unlock_fits}
use Rattle.xl_nfs_laws.proofs.LockedByteLaws.{first_told, known_told, told_failed}

-- ---- what isn't told

abbrev Sound : Told → Type 0
Sound told = told ≡ Ended statuses.ServerFault → ⊥

abbrev Other : NfsStatus → Type 0
Other status = status ≡ statuses.ServerFault → ⊥

abbrev OtherIf : Option NfsStatus → Type 0
OtherIf None = Unit {0}
OtherIf (Some status) = Other status

abbrev OtherOr : Result ℕ NfsStatus → Type 0
OtherOr (Ok last) = Unit {0}
OtherOr (Err status) = Other status

ended : (status : NfsStatus) → Other status → Sound (Ended status)
ended status other = λ d. (let same : status ≡ statuses.ServerFault = cc in other same)

uncounted : (status : NfsStatus) → advances status ≡ false → Sound (Ended status)
uncounted status not = ended status (λ same. true≢false (sym (ap advances same) ∙ not))

standing_other : (r : StateidRow) (seqids : SeqidState) (seqid : ℕ) (confirmed : Bool) → OtherIf (standing_fault r seqids seqid confirmed)
unfolding standing_fault
standing_other r seqids seqid confirmed =
    elim (cases_Bool (nat_lt seqid r.standing.seqid)) [
      | inl e ↦ rw e (λ d. cc)
      | inr e ↦ rw e (elim (cases_Bool (nat_lt r.standing.seqid seqid)) [
        | inl f ↦ rw f (λ d. cc)
        | inr f ↦ rw f (elim (cases_Bool (beq seqids.confirmed confirmed)) [
          | inl g ↦ rw g tt
          | inr g ↦ rw g (λ d. cc)
        ])
      ])
    ]

end_other : (kind : LockType) (access : ℕ) (last : Option ℕ) → OtherOr (lock_end kind access last)
end_other kind access None = λ d. cc
end_other kind access (Some last) =
    elim (cases_Bool (may_lock kind access)) [
      | inl e ↦ rw e tt
      | inr e ↦ rw e (λ d. cc)
    ]

repeat_sound : (n : ℕ) (s : CoreState) (l : NfsLists) (current : Option ℕ) (k : Option KeptRow) → Sound (carried n s l (repeated s l current k)).0
repeat_sound n s l current None = λ d. cc
repeat_sound n s l current (Some k) = λ d. cc

-- ---- the core behind a renewal

renewals_fit : (n : ℕ) (s : CoreState) (l : NfsLists) (client : Option ℕ) → AreFit n s (renewals l client)
renewals_fit n s l None = tt
renewals_fit n s l (Some number) = by (find (is_client number true) l.clients)
  where
    by : (o : Option ClientRow) → AreFit n s (renewals_by o)
    by None = tt
    by (Some r) = (tt, tt)

renewed_good : (n : ℕ) (s : CoreState) (l : NfsLists) (client : Option ℕ) → IsGood s → IsGood (all_done n s (renewals l client))
renewed_good n s l client good = deeds_good n s (renewals l client) good (renewals_fit n s l client)

renewed_failed : (n : ℕ) (s : CoreState) (l : NfsLists) (client : Option ℕ) → (all_done n s (renewals l client)).failed ≡ s.failed
unfolding renew
renewed_failed n s l None = refl
renewed_failed n s l (Some number) = by (find (is_client number true) l.clients)
  where
    by : (o : Option ClientRow) → (all_done n s (renewals_by o)).failed ≡ s.failed
    by None = refl
    by (Some r) = refl

-- ---- a store that failed

-- SERVERFAULT is told exactly if a store failed
abbrev IsFair : Outcome → Type 0
IsFair r = (r.0 ≡ Ended statuses.ServerFault) ↔ (r.4.failed ≡ true)

fair_same : (r : Outcome) → Sound r.0 → r.4.failed ≡ false → IsFair r
fair_same r sound fresh = (λ told. absurd (sound told), λ failed. absurd (true≢false (sym failed ∙ fresh)))

ask_fair : (n : ℕ) (s : CoreState) (o : Opener) (file : ℕ) (kind : LockType) (reclaim : Bool) (first last : ℕ) → IsGood s → s.failed ≡ false → (let z = ask n all_rooms s (lock_ask o file kind reclaim first last) in (z.0 ≡ answers.StoreFailed) ↔ (z.2.failed ≡ true))
ask_fair n s o file kind reclaim first last good fresh = failed_told n all_rooms s (lock_ask o file kind reclaim first last) (whats.Range (Bytes first last) (is_exclusive kind)) good (own_client o.id) refl fresh

-- ---- LOCK by a lock's stateid

answered_failed : (n : ℕ) (t : CoreState) (l : NfsLists) (current : Option ℕ) (r : StateidRow) (owner : ℕ) (seqids : SeqidState) (seqid : ℕ) (reclaim : Bool) (answer : Answer) → (carried n t l (lock_answered l current r owner seqids seqid reclaim answer t)).4 ≡ t
answered_failed n t l current r owner seqids seqid reclaim answer =
    elim (cases_Bool (is_granted answer)) [
      | inl e ↦ rw e refl
      | inr e ↦ rw e refl
    ]

lock_by_fair : (n : ℕ) (s : CoreState) (l : NfsLists) (current : Option ℕ) (a : LockArgsItem) (r : StateidRow) (owner : ℕ) (seqids : SeqidState) (seqid last : ℕ) (x : Opener) (by : Option Opener) → IsGood s → s.failed ≡ false → by ≡ Some x → IsFair (carried n s l (lock_by_owner l current a r owner seqids seqid last by))
lock_by_fair n s l current a r owner seqids seqid last x None good fresh e = absurd (true≢false (ap is_some (sym e)))
lock_by_fair n s l current a r owner seqids seqid last x (Some y) good fresh e = (forth, back) where
  z : Answered
  z = ask n all_rooms s (lock_ask y r.file a.kind a.reclaim a.offset last)

  left : (carried n s l (lock_by_owner l current a r owner seqids seqid last (Some y))).4.failed ≡ z.2.failed
  left = ap (λ (t : CoreState). t.failed) (answered_failed n z.2 l current r owner seqids seqid a.reclaim z.0)

  fair : (z.0 ≡ answers.StoreFailed) ↔ (z.2.failed ≡ true)
  fair = ask_fair n s y r.file a.kind a.reclaim a.offset last good fresh

  forth : (carried n s l (lock_by_owner l current a r owner seqids seqid last (Some y))).0 ≡ Ended statuses.ServerFault → (carried n s l (lock_by_owner l current a r owner seqids seqid last (Some y))).4.failed ≡ true
  forth told = left ∙ fair.0 (told_failed n s z.2 l y r.file a.kind a.reclaim a.offset last z.0 refl (sym (known_told n z.2 l current r owner seqids seqid a.reclaim z.0) ∙ ap status_of told))

  back : (carried n s l (lock_by_owner l current a r owner seqids seqid last (Some y))).4.failed ≡ true → (carried n s l (lock_by_owner l current a r owner seqids seqid last (Some y))).0 ≡ Ended statuses.ServerFault
  back failed = ap (λ (answer : Answer). (carried n z.2 l (lock_answered l current r owner seqids seqid a.reclaim answer z.2)).0) (fair.1 (sym left ∙ failed))

lock_to_fair : (n : ℕ) (s : CoreState) (l : NfsLists) (current : Option ℕ) (a : LockArgsItem) (r : StateidRow) (owner : ℕ) (seqids : SeqidState) (seqid : ℕ) (last : Result ℕ NfsStatus) (x : Opener) → IsGood s → s.failed ≡ false → OtherOr last → opener_by l r.client owner ≡ Some x → IsFair (carried n s l (lock_to l current a r owner seqids seqid last))
lock_to_fair n s l current a r owner seqids seqid (Err status) x good fresh other by = fair_same (carried n s l (lock_to l current a r owner seqids seqid (Err status))) (ended status other) fresh
lock_to_fair n s l current a r owner seqids seqid (Ok last) x good fresh other by = lock_by_fair n s l current a r owner seqids seqid last x (opener_by l r.client owner) good fresh by

lock_standing_fair : (n : ℕ) (s : CoreState) (l : NfsLists) (current : Option ℕ) (a : LockArgsItem) (r : StateidRow) (owner : ℕ) (seqids : SeqidState) (seqid : ℕ) (fault : Option NfsStatus) (x : Opener) → IsGood s → s.failed ≡ false → OtherIf fault → opener_by l r.client owner ≡ Some x → IsFair (carried n s l (lock_standing l current a r owner seqids seqid fault))
lock_standing_fair n s l current a r owner seqids seqid (Some status) x good fresh other by = fair_same (carried n s l (lock_standing l current a r owner seqids seqid (Some status))) (ended status other) fresh
lock_standing_fair n s l current a r owner seqids seqid None x good fresh other by = lock_to_fair n s l current a r owner seqids seqid (lock_end a.kind (access_above l r.holder) (last_byte a.offset a.len)) x good fresh (end_other a.kind (access_above l r.holder) (last_byte a.offset a.len)) by

-- a request on a stateid tells none, if it tells none once it passed
counts_sound : (n : ℕ) (s : CoreState) (l : NfsLists) (current : Option ℕ) (kind : OwnerKind) (op seqid : ℕ) (stateid : Stateid) (rest : StateidRow → ℕ → SeqidState → Plan) → ((r : StateidRow) (w : ℕ) (v : SeqidState) → checked_as kind s l current op seqid stateid ≡ Passed r w v → Sound (carried n s l (rest r w v)).0)
    → Sound (carried n s l (counts s l current rest (checked_as kind s l current op seqid stateid))).0
counts_sound n s l current kind op seqid stateid rest each = by (checked_as kind s l current op seqid stateid) refl
  where
    by : (c : Checked) → checked_as kind s l current op seqid stateid ≡ c → Sound (carried n s l (counts s l current rest c)).0
    by (Refused status) e = uncounted status (refused_not kind s l current op seqid stateid status e)
    by (Repeated owner) e = repeat_sound n s l current (find (is_kept owner) l.kept)
    by (Passed r w v) e = each r w v e

repeat_stays : (n : ℕ) (s : CoreState) (l : NfsLists) (current : Option ℕ) (k : Option KeptRow) → (carried n s l (repeated s l current k)).4 ≡ s
repeat_stays n s l current None = refl
repeat_stays n s l current (Some k) = refl

-- and one that tells it exactly then, once it passed, does so at all
counts_fair : (n : ℕ) (s : CoreState) (l : NfsLists) (current : Option ℕ) (kind : OwnerKind) (op seqid : ℕ) (stateid : Stateid) (rest : StateidRow → ℕ → SeqidState → Plan) → s.failed ≡ false → ((r : StateidRow) (w : ℕ) (v : SeqidState) → checked_as kind s l current op seqid stateid ≡ Passed r w v → IsFair (carried n s l (rest r w v)))
    → IsFair (carried n s l (counts s l current rest (checked_as kind s l current op seqid stateid)))
counts_fair n s l current kind op seqid stateid rest fresh each = by (checked_as kind s l current op seqid stateid) refl
  where
    by : (c : Checked) → checked_as kind s l current op seqid stateid ≡ c → IsFair (carried n s l (counts s l current rest c))
    by (Refused status) e = fair_same (carried n s l (counts s l current rest (Refused status))) (uncounted status (refused_not kind s l current op seqid stateid status e)) fresh
    by (Repeated owner) e =
        let kept = find (is_kept owner) l.kept in
        fair_same (carried n s l (repeated s l current kept)) (repeat_sound n s l current kept) (ap (λ (t : CoreState). t.failed) (repeat_stays n s l current kept) ∙ fresh)
    by (Passed r w v) e = each r w v e

known_fair : (n : ℕ) (s : CoreState) (l : NfsLists) (current : Option ℕ) (a : LockArgsItem) (x : KnownLocker) → IsGood s → s.failed ≡ false → IsSound l → IsFair (carried n s l (lock_known s l current a x))
unfolding lock_known
known_fair n s l current a x good fresh sound =
    let who = state_client s l x.stateid in
    let t : CoreState = all_done n s (renewals l who) in
    let left = renewed_good n s l who good in
    let none : t.failed ≡ false = renewed_failed n s l who ∙ fresh in
    counts_fair n t l current kinds.Lock 12 x.seqid x.stateid (λ r w v. lock_standing l current a r w v x.seqid (standing_fault r v x.stateid.seqid true)) none
    (λ r w v e.
    let next = passed_next t l current 12 x.seqid x.stateid r w v e in
    let by = opener_there l r w next.row sound next.locks.found next.locks.owner in
    lock_standing_fair n t l current a r w v x.seqid (standing_fault r v x.stateid.seqid true) by.0 left none (standing_other r v x.stateid.seqid true) by.1)

-- ---- LOCK under an open

joined_failed : (n : ℕ) (t : CoreState) (l : NfsLists) (current : Option ℕ) (b : BothOwners) (o : Opener) (r : StateidRow) (q : Option StateidRow) → (carried n t l (joined_by t l current b o r q)).4.failed ≡ t.failed
unfolding drawn
joined_failed n t l current b o r None = refl
joined_failed n t l current b o r (Some q) = refl

join_failed : (n : ℕ) (t : CoreState) (l : NfsLists) (current : Option ℕ) (b : BothOwners) (o : Opener) (r : StateidRow) (q : Option StateidRow) (reclaim : Bool) (answer : Answer) → (carried n t l (join_answered l current b o r q reclaim answer t)).4.failed ≡ t.failed
join_failed n t l current b o r q reclaim answer =
    elim (cases_Bool (is_granted answer)) [
      | inl e ↦ rw e (joined_failed n t l current b o r q)
      | inr e ↦ rw e refl
    ]

join_ask_fair : (n : ℕ) (s : CoreState) (l : NfsLists) (current : Option ℕ) (a : LockArgsItem) (b : BothOwners) (o : Opener) (r : StateidRow) (q : Option StateidRow) (last : ℕ) → IsGood s → s.failed ≡ false
    → (let z = ask n all_rooms s (lock_ask o r.file a.kind a.reclaim a.offset last) in IsFair (carried n z.2 l (join_answered l current b o r q a.reclaim z.0 z.2)))
join_ask_fair n s l current a b o r q last good fresh = (forth, back) where
  z : Answered
  z = ask n all_rooms s (lock_ask o r.file a.kind a.reclaim a.offset last)

  left : (carried n z.2 l (join_answered l current b o r q a.reclaim z.0 z.2)).4.failed ≡ z.2.failed
  left = join_failed n z.2 l current b o r q a.reclaim z.0

  fair : (z.0 ≡ answers.StoreFailed) ↔ (z.2.failed ≡ true)
  fair = ask_fair n s o r.file a.kind a.reclaim a.offset last good fresh

  forth : (carried n z.2 l (join_answered l current b o r q a.reclaim z.0 z.2)).0 ≡ Ended statuses.ServerFault → (carried n z.2 l (join_answered l current b o r q a.reclaim z.0 z.2)).4.failed ≡ true
  forth told = left ∙ fair.0 (told_failed n s z.2 l o r.file a.kind a.reclaim a.offset last z.0 refl (sym (first_told n z.2 l current b o r q a.reclaim z.0) ∙ ap status_of told))

  back : (carried n z.2 l (join_answered l current b o r q a.reclaim z.0 z.2)).4.failed ≡ true → (carried n z.2 l (join_answered l current b o r q a.reclaim z.0 z.2)).0 ≡ Ended statuses.ServerFault
  back failed = ap (λ (answer : Answer). (carried n z.2 l (join_answered l current b o r q a.reclaim answer z.2)).0) (fair.1 (sym left ∙ failed))

join_to_fair : (n : ℕ) (s : CoreState) (l : NfsLists) (current : Option ℕ) (a : LockArgsItem) (b : BothOwners) (o : Opener) (r : StateidRow) (q : Option StateidRow) (last : Result ℕ NfsStatus) → IsGood s → s.failed ≡ false → OtherOr last → IsFair (carried n s l (join_to l current a b o r q last))
join_to_fair n s l current a b o r q (Err status) good fresh other = fair_same (carried n s l (join_to l current a b o r q (Err status))) (ended status other) fresh
join_to_fair n s l current a b o r q (Ok last) good fresh other =
    elim (cases_Bool (is_room_for o l)) [
      | inl e ↦ rw e (join_ask_fair n s l current a b o r q last good fresh)
      | inr e ↦ rw e (λ told. absurd cc, λ failed. absurd (true≢false (sym failed ∙ fresh)))
    ]

again_sound : (n : ℕ) (s : CoreState) (l : NfsLists) (current : Option ℕ) (b : BothOwners) (k : Option KeptRow) → Sound (carried n s l (join_again l current b k)).0 × ((carried n s l (join_again l current b k)).4 ≡ s)
again_sound n s l current b None = (λ d. cc, refl)
again_sound n s l current b (Some k) = (λ d. cc, refl)

join_as_fair : (n : ℕ) (s : CoreState) (l : NfsLists) (current : Option ℕ) (a : LockArgsItem) (b : BothOwners) (o : Opener) (r : StateidRow) (j : Joined) → IsGood s → s.failed ≡ false → IsFair (carried n s l (join_as l current a b o r j))
join_as_fair n s l current a b o r Bad good fresh = (λ told. absurd cc, λ failed. absurd (true≢false (sym failed ∙ fresh)))
join_as_fair n s l current a b o r (Again owner) good fresh =
    let kept = find (is_kept owner) l.kept in
    let again = again_sound n s l current b kept in
    fair_same (carried n s l (join_again l current b kept)) again.0 (ap (λ (t : CoreState). t.failed) again.1 ∙ fresh)
join_as_fair n s l current a b o r (Joins q) good fresh = join_to_fair n s l current a b o r q (lock_end a.kind r.standing.access (last_byte a.offset a.len)) good fresh (end_other a.kind r.standing.access (last_byte a.offset a.len))

join_of_fair : (n : ℕ) (s : CoreState) (l : NfsLists) (current : Option ℕ) (a : LockArgsItem) (x : NewLockerItem) (b : BothOwners) (r : StateidRow) (o : Option Opener) → IsGood s → s.failed ≡ false → IsFair (carried n s l (join_of l current a x b r o))
join_of_fair n s l current a x b r None good fresh = (λ told. absurd cc, λ failed. absurd (true≢false (sym failed ∙ fresh)))
join_of_fair n s l current a x b r (Some o) good fresh = join_as_fair n s l current a b o r (found_joined l r o x.lock_seqid) good fresh

join_standing_fair : (n : ℕ) (s : CoreState) (l : NfsLists) (current : Option ℕ) (a : LockArgsItem) (x : NewLockerItem) (b : BothOwners) (r : StateidRow) (fault : Option NfsStatus) → IsGood s → s.failed ≡ false → OtherIf fault → IsFair (carried n s l (join_standing s l current a x b r fault))
join_standing_fair n s l current a x b r (Some status) good fresh other = fair_same (carried n s l (join_standing s l current a x b r (Some status))) (ended status other) fresh
join_standing_fair n s l current a x b r None good fresh other = join_of_fair n s l current a x b r (locker_under r x.owner.owner (client_in s l x.owner.clientid)) good fresh

first_fair : (n : ℕ) (s : CoreState) (l : NfsLists) (current : Option ℕ) (a : LockArgsItem) (x : NewLockerItem) → IsGood s → s.failed ≡ false → IsFair (carried n s l (lock_new s l current a x))
unfolding lock_new lock_named
first_fair n s l current a x good fresh =
    let opens = state_client s l x.open_stateid in
    let t : CoreState = all_done n s (renewals l opens) in
    let locks = number_in t x.owner.clientid in
    let u : CoreState = all_done n t (renewals l locks) in
    let left = renewed_good n t l locks (renewed_good n s l opens good) in
    let none : u.failed ≡ false = renewed_failed n t l locks ∙ renewed_failed n s l opens ∙ fresh in
    counts_fair n u l current kinds.Open 12 x.open_seqid x.open_stateid (λ r w v. join_standing u l current a x (both_of x w v) r (standing_fault r v x.open_stateid.seqid true)) none
    (λ r w v e. join_standing_fair n u l current a x (both_of x w v) r (standing_fault r v x.open_stateid.seqid true) left none (standing_other r v x.open_stateid.seqid true))

pub lock_fair : (n : ℕ) (s : CoreState) (l : NfsLists) (current : Option ℕ) (a : LockArgsItem) → IsGood s → IsSound l → s.failed ≡ false → ((carried n s l (lock s l current a)).0 ≡ Ended statuses.ServerFault) ↔ ((carried n s l (lock s l current a)).4.failed ≡ true)
unfolding lock
lock_fair n s l current a good sound fresh = by a.locker
  where
    by : (x : LockerItem) → IsFair (carried n s l (lock_by s l current a x))
    by (New x) = first_fair n s l current a x good fresh
    by (Known x) = known_fair n s l current a x good fresh sound

-- ---- LOCKU

unlock_other : (s : CoreState) (claim : Claim) (first last : ℕ) (answer : Answer) → IsUnlockDue s claim first last answer → Other (unlock_status answer)
unlock_other s claim first last (answers.Granted c) due = λ d. cc
unlock_other s claim first last answers.NotHeld due = λ d. cc
unlock_other s claim first last (answers.Full limit) due = λ d. cc
unlock_other s claim first last (answers.Conflict c) due = absurd due
unlock_other s claim first last (answers.Queued id) due = absurd due
unlock_other s claim first last (answers.Recall c) due = absurd due
unlock_other s claim first last (answers.Grace until) due = absurd due
unlock_other s claim first last (answers.NoGrace clock) due = absurd due
unlock_other s claim first last answers.NotRecorded due = absurd due
unlock_other s claim first last answers.StoreFailed due = absurd due

unlocked_sound : (n : ℕ) (s : CoreState) (l : NfsLists) (current : Option ℕ) (a : UnlockArgs) (r : StateidRow) (owner : ℕ) (seqids : SeqidState) (status : NfsStatus) → Other status → Sound (carried n s l (unlocked_as s l current a r owner seqids status)).0
unlocked_sound n s l current a r owner seqids status other =
    elim (cases_Bool (is_ok status)) [
      | inl e ↦ rw e (λ d. cc)
      | inr e ↦ rw e (ended status other)
    ]

unlock_by_sound : (n : ℕ) (s : CoreState) (l : NfsLists) (current : Option ℕ) (a : UnlockArgs) (r : StateidRow) (owner : ℕ) (seqids : SeqidState) (last : ℕ) (x : Opener) (by : Option Opener) → IsGood s → a.offset ≤ last → by ≡ Some x → Sound (carried n s l (unlock_by_owner l current a r owner seqids last by)).0
unlock_by_sound n s l current a r owner seqids last x None good le e = absurd (true≢false (ap is_some (sym e)))
unlock_by_sound n s l current a r owner seqids last x (Some y) good le e =
    let q = unlock_ask y r.file a.offset last in
    let z = ask n all_rooms s q in
    let due = (ask_unlock n all_rooms s q a.offset last z.0 refl (unlock_fits y r.file a.offset last le).party refl le good).0 refl in
    unlocked_sound n z.2 l current a r owner seqids (unlock_status z.0) (unlock_other s (unlock_claim s y r.file a.offset last) a.offset last z.0 due)

unlock_to_sound : (n : ℕ) (s : CoreState) (l : NfsLists) (current : Option ℕ) (a : UnlockArgs) (r : StateidRow) (owner : ℕ) (seqids : SeqidState) (last : Option ℕ) (x : Opener) → IsGood s → NotBefore a.offset last → opener_by l r.client owner ≡ Some x → Sound (carried n s l (unlock_to l current a r owner seqids last)).0
unlock_to_sound n s l current a r owner seqids None x good le by = λ d. cc
unlock_to_sound n s l current a r owner seqids (Some last) x good le by = unlock_by_sound n s l current a r owner seqids last x (opener_by l r.client owner) good le by

unlock_standing_sound : (n : ℕ) (s : CoreState) (l : NfsLists) (current : Option ℕ) (a : UnlockArgs) (r : StateidRow) (owner : ℕ) (seqids : SeqidState) (fault : Option NfsStatus) (x : Opener) → IsGood s → OtherIf fault → opener_by l r.client owner ≡ Some x → Sound (carried n s l (unlock_standing l current a r owner seqids fault)).0
unlock_standing_sound n s l current a r owner seqids (Some status) x good other by = ended status other
unlock_standing_sound n s l current a r owner seqids None x good other by = unlock_to_sound n s l current a r owner seqids (last_byte a.offset a.len) x good (last_not_before a.offset a.len) by

pub unlock_sound : (n : ℕ) (s : CoreState) (l : NfsLists) (current : Option ℕ) (a : UnlockArgs) → IsGood s → IsSound l → (carried n s l (unlock s l current a)).0 ≡ Ended statuses.ServerFault → ⊥
unfolding unlock
unlock_sound n s l current a good sound =
    let who = state_client s l a.stateid in
    let t : CoreState = all_done n s (renewals l who) in
    let left = renewed_good n s l who good in
    counts_sound n t l current kinds.Lock 14 a.seqid a.stateid (λ r w v. unlock_standing l current a r w v (standing_fault r v a.stateid.seqid true))
    (λ r w v e.
    let next = passed_next t l current 14 a.seqid a.stateid r w v e in
    let by = opener_there l r w next.row sound next.locks.found next.locks.owner in
    unlock_standing_sound n t l current a r w v (standing_fault r v a.stateid.seqid true) by.0 left (standing_other r v a.stateid.seqid true) by.1)
