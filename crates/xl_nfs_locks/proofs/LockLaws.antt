-- What a LOCK tells that isn't OK has a spelling.
use Rattle.std.proofs.Common.{◌≡◌, ℕ, ◌<◌, ◌^◌, Bool, true, false, Option, Some, None, Result, Err, refl, sym, subst, inl, inr, arith}
use Rattle.std.proofs.lemmas.Bool.{cases_Bool}
use Rattle.xl_nfs.specs.declared.basics.LockType.{LockType}
use Rattle.xl_nfs.specs.declared.status.NfsStatus.{NfsStatus}
use Rattle.xl_nfs.specs.declared.status.NfsStatus.TheVariants as statuses
use Rattle.xl_nfs_state.specs.State.{NfsLists}
use Rattle.xl_nfs_state.specs.declared.owner.SeqidState.{SeqidState}
use Rattle.xl_nfs_state.specs.declared.stateid.StateidRow.{StateidRow}
use Rattle.xl_core.specs.State.{CoreState}
use Rattle.xl_core.specs.declared.ask.Answer.{Answer}
use Rattle.xl_core.specs.declared.ask.Answer.TheVariants as answers
use Rattle.xl_nfs_locks.specs.Denials.{lock_told}
use Rattle.xl_nfs_locks.specs.Locks.{lock_end}
use Rattle.xl_nfs_locks.specs.Ranges.{may_lock}
use Rattle.xl_nfs_opens.specs.Closing.{standing_fault}
use Rattle.xl_nfs_opens.specs.Opens.{answer_status, is_granted}
use Rattle.xl_nfs_opens.specs.Results.{ToldFits}
use Rattle.xl_nfs_opens.specs.declared.told.Told.{Told}
use Rattle.xl_nfs_opens.specs.declared.told.Told.TheVariants.{Ended}
use Rattle.xl_nfs_opens.proofs.EndLaws.{IfFault, OrFault, standing_is_fault, status_fault}
use Rattle.xl_nfs_opens.proofs.ResultLaws.{IsFault, fault_fits}

fault_told : (number : ℕ) → number < 2 ^ 32 → (s : NfsStatus) → IsFault s → ToldFits number (Ended s)
fault_told number le s f = fault_fits number s le f

pub told_by : (number : ℕ) → number < 2 ^ 32 → (s : CoreState) (l : NfsLists) (reclaim : Bool) (answer : Answer) → is_granted answer ≡ false → ToldFits number (lock_told s l reclaim answer)
told_by number le s l true (answers.Conflict c) granted = fault_told number le statuses.ReclaimConflict (record { ok = refl; denied = refl })
told_by number le s l false (answers.Conflict c) granted = tt
told_by number le s l reclaim answer granted = fault_told number le (answer_status reclaim answer) (status_fault reclaim answer granted)

-- what is told by the core's answer
pub lock_told_fits : (s : CoreState) (l : NfsLists) (reclaim : Bool) (answer : Answer) (told : Told) → is_granted answer ≡ false → told ≡ lock_told s l reclaim answer → ToldFits 12 told
lock_told_fits s l reclaim answer told granted is = subst (λ (t : Told). ToldFits 12 t) (sym is) (told_by 12 (omega arith) s l reclaim answer granted)

-- what is wrong with the stateid
pub standing_fits : (r : StateidRow) (seqids : SeqidState) (seqid : ℕ) (status : NfsStatus) → Some status ≡ standing_fault r seqids seqid true → ToldFits 12 (Ended status)
standing_fits r seqids seqid status is = fault_told 12 (omega arith) status (subst (λ (o : Option NfsStatus). IfFault o) (sym is) (standing_is_fault r seqids seqid true))

pub end_fault : (kind : LockType) (access : ℕ) (found : Option ℕ) → OrFault (lock_end kind access found)
end_fault kind access None = record { ok = refl; denied = refl }
end_fault kind access (Some last) =
    elim (cases_Bool (may_lock kind access)) [
      | inl e ↦ rw e tt
      | inr e ↦ rw e (record { ok = refl; denied = refl })
    ]

-- the range, or the open's access
pub end_fits : (kind : LockType) (access : ℕ) (found : Option ℕ) (status : NfsStatus) → Err status ≡ lock_end kind access found → ToldFits 12 (Ended status)
end_fits kind access found status is = fault_told 12 (omega arith) status (subst (λ (o : Result ℕ NfsStatus). OrFault o) (sym is) (end_fault kind access found))

-- the lock owner is of another client
pub inval_fits : ToldFits 12 (Ended statuses.Inval)
inval_fits = fault_told 12 (omega arith) statuses.Inval (record { ok = refl; denied = refl })
