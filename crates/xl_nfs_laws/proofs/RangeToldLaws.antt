-- A range, a type or a lock owner that is refused is answered so.
use Rattle.std.proofs.Common.{◌≡◌, ℕ, List, Option, Some, None, Result, Err, is_some, refl, sym, ap, ◌∙◌, ◌↔◌, inl, inr, true≢false}
use Rattle.std.proofs.lemmas.Bool.{cases_Bool, eq-eqb, eqb-true}
use Rattle.std.proofs.lemmas.Option.{same_Some}
use Rattle.std.specs.Bool.{◌==◌}
use Rattle.xl_nfs.specs.Locks.{LockArgsItem, NewLockerItem}
use Rattle.xl_nfs.specs.declared.locks.UnlockArgs.{UnlockArgs}
use Rattle.xl_nfs.specs.declared.status.NfsStatus.{NfsStatus}
use Rattle.xl_nfs.specs.declared.status.NfsStatus.TheVariants as statuses
use Rattle.xl_nfs_state.specs.State.{NfsLists}
use Rattle.xl_nfs_state.specs.declared.client.ClientRow.{ClientRow}
use Rattle.xl_nfs_state.specs.declared.owner.SeqidState.{SeqidState}
use Rattle.xl_nfs_state.specs.declared.stateid.StateidRow.{StateidRow}
use Rattle.xl_core.specs.State.{CoreState}
use Rattle.xl_nfs_locks.specs.FirstLocks.{join_in, join_of, join_to, locker_under}
use Rattle.xl_nfs_locks.specs.Locks.{access_above, lock_end, lock_standing, lock_to}
use Rattle.xl_nfs_locks.specs.Ranges.{last_byte}
use Rattle.xl_nfs_locks.specs.Unlocks.{unlock_standing, unlock_to}
use Rattle.xl_nfs_locks.specs.declared.joining.BothOwners.{BothOwners}
use Rattle.xl_nfs_opens.specs.Plans.{carried}
use Rattle.xl_nfs_opens.specs.declared.opener.Opener.{Opener}
use Rattle.xl_nfs_opens.specs.declared.told.Told.TheVariants.{Ended}

pub lock_range_told : (n : ℕ) (s : CoreState) (l : NfsLists) (current : Option ℕ) (a : LockArgsItem) (r : StateidRow) (w seqid : ℕ) (seqids : SeqidState) (status : NfsStatus) → lock_end a.kind (access_above l r.holder) (last_byte a.offset a.len) ≡ Err status → (carried n s l (lock_standing l current a r w seqids seqid None)).0 ≡ Ended status
lock_range_told n s l current a r w seqid seqids status e = ap (λ (x : Result ℕ NfsStatus). (carried n s l (lock_to l current a r w seqids seqid x)).0) e

pub first_range_told : (n : ℕ) (s : CoreState) (l : NfsLists) (current : Option ℕ) (a : LockArgsItem) (b : BothOwners) (o : Opener) (r : StateidRow) (q : Option StateidRow) (status : NfsStatus) → lock_end a.kind r.standing.access (last_byte a.offset a.len) ≡ Err status → (carried n s l (join_in l current a b o r q)).0 ≡ Ended status
first_range_told n s l current a b o r q status e = ap (λ (x : Result ℕ NfsStatus). (carried n s l (join_to l current a b o r q x)).0) e

pub unlock_range_told : (n : ℕ) (s : CoreState) (l : NfsLists) (current : Option ℕ) (a : UnlockArgs) (r : StateidRow) (w : ℕ) (seqids : SeqidState) → last_byte a.offset a.len ≡ None → (carried n s l (unlock_standing l current a r w seqids None)).0 ≡ Ended statuses.Inval
unlock_range_told n s l current a r w seqids e = ap (λ (x : Option ℕ). (carried n s l (unlock_to l current a r w seqids x)).0) e

pub foreign_exactly : (r : StateidRow) (owner : List ℕ) (c : Option ClientRow) → (locker_under r owner c ≡ None) ↔ ((k : ClientRow) → c ≡ Some k → k.number ≡ r.client → ⊥)
foreign_exactly r owner None = (λ e k d. absurd (true≢false (sym (ap is_some d))), λ e. refl)
foreign_exactly r owner (Some c) =
    elim (cases_Bool (c.number == r.client)) [
      | inl own ↦ rw own (λ e. absurd (true≢false (ap is_some e)), λ e. absurd (e c refl (eqb-true c.number r.client own)))
      | inr other ↦ rw other (λ e k d f. true≢false (sym (eq-eqb c.number r.client (ap (λ (x : ClientRow). x.number) (same_Some c k d) ∙ f)) ∙ other), λ e. refl)
    ]

pub foreign_told : (n : ℕ) (s : CoreState) (l : NfsLists) (current : Option ℕ) (a : LockArgsItem) (x : NewLockerItem) (b : BothOwners) (r : StateidRow) (c : Option ClientRow) → ((k : ClientRow) → c ≡ Some k → k.number ≡ r.client → ⊥) → (carried n s l (join_of l current a x b r (locker_under r x.owner.owner c))).0 ≡ Ended statuses.Inval
foreign_told n s l current a x b r c other = ap (λ (o : Option Opener). (carried n s l (join_of l current a x b r o)).0) ((foreign_exactly r x.owner.owner c).1 other)
