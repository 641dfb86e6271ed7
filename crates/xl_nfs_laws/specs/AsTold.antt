-- What the results of a COMPOUND say is done is done: the stateids that they tell name what is there then, and what is locked,
-- given back, renewed or released is so (RFC 7530 9.1.4, 9.5, 14.2, 16.2, 16.6, 16.10 to 16.12, 16.16, 16.18, 16.19, 16.28, 16.37).
use Rattle.std.specs.Prelude.{◌≡◌, ◌==◌, ℕ, Bool, true, false, List, [], ◌∷◌, Option, Some, IfSome}
use Rattle.xl_base.specs.declared.event.Out.{Out}
use Rattle.xl_base.specs.declared.journal.Exports.{Exports}
use Rattle.xl_nfs.specs.Opens.{OpenArgsItem}
use Rattle.xl_nfs.specs.Ops.{OpItem, Close, DelegReturn, Lock, LockT, LockU, Open, OpenConfirm, OpenDowngrade, ReleaseLockOwner, Renew, op_number}
use Rattle.xl_nfs.specs.declared.basics.Stateid.{Stateid}
use Rattle.xl_nfs.specs.declared.status.NfsStatus.TheVariants as statuses
use Rattle.xl_nfs_state.specs.State.{NfsLists}
use Rattle.xl_nfs_state.specs.declared.client.ClientRow.{ClientRow}
use Rattle.xl_programs.specs.Programs.{RequestItem}
use Rattle.xl_programs.specs.Sent.{sent_to}
use Rattle.xl_core.specs.State.{CoreState}
use Rattle.xl_plan.specs.Plans as plans
use Rattle.xl_nfs_locks.specs.Ranges.{last_byte}
use Rattle.xl_nfs_opens.specs.Files.{root}
use Rattle.xl_nfs_opens.specs.Opens.{client_in, opener_of}
use Rattle.xl_nfs_opens.specs.Plans.{Outcome}
use Rattle.xl_nfs_opens.specs.declared.told.Told.{Told}
use Rattle.xl_nfs_opens.specs.declared.told.Told.TheVariants.{Ended, Opened, State}
use Rattle.xl_front_nfs.specs.FrontNfs.{Called, Compound, call_in, compound_reply}
use Rattle.xl_front_nfs.specs.State.{FrontNfs}
use Rattle.xl_front_nfs.specs.Steps.{Step, Runs, Course, begun, noted, step_plan, goes_on}
use Rattle.xl_nfs_laws.specs.AnsweredStateids.{IsAnswered}
use Rattle.xl_nfs_laws.specs.AskedRequests.{IfRun}
use Rattle.xl_nfs_laws.specs.DoneAsTold.{AreBytesLocked, AreUnlocked, HasShare, IsClosed, IsDowngraded, IsGivenBack, IsLockTestTold, IsLockTold, IsReleased, IsRenewed}
use Rattle.xl_nfs_laws.specs.Orderly.{IsDelegated, IsKnown}

-- ---- an operation

-- The stateid that an OPEN of this client is told names one open then: of the owner that it names, on the file that is the current one,
-- with the access and the deny that were asked, and not closed. A delegation that it is told is the client's there, who has that
-- cache. And that owner has one share on the file, with that access and that deny.
pub record IsOpenTold (s : CoreState) (c : ClientRow) (a : OpenArgsItem) (stateid : Stateid) (delegation : Option (Stateid × Bool)) (done : Outcome) : Type 0 where
  pub known : IsKnown (opener_of c a) a stateid done
  pub delegated : IfSome delegation (λ given. IsDelegated (opener_of c a) given.0 given.1 done)
  pub shared : HasShare s (opener_of c a) a done

-- So it is of each stateid that an operation is told, in this core and these lists, and what was done: by OPEN_CONFIRM,
-- OPEN_DOWNGRADE, CLOSE, LOCK and LOCKU it is the one that they name, by its next seqid, of the same owner, client and file; closed by
-- a CLOSE alone. An OPEN_DOWNGRADE leaves its open the access and the deny that it asks for. A LOCK under an open is told that of
-- its lock owner's locks there. What a LOCK is told to lock is held in its mode, what a LOCKU is told to unlock isn't, and a CLOSE
-- that is told so leaves nothing of its open. A LOCKT is answered by what is held. DELEGRETURN, RENEW and RELEASE_LOCKOWNER that
-- are OK are done.
abbrev pub IsAsTold : CoreState → NfsLists → OpItem → Outcome → Type 0
IsAsTold s l (Open a) done = (stateid : Stateid) (flags : ℕ) (delegation : Option (Stateid × Bool)) (c : ClientRow) → done.0 ≡ Opened stateid flags delegation → client_in s l a.owner.clientid ≡ Some c → IsOpenTold s c a stateid delegation done
IsAsTold s l (OpenConfirm a) done = (told : Stateid) → done.0 ≡ State told → IsAnswered s l a.stateid told false done
IsAsTold s l (OpenDowngrade a) done = (told : Stateid) → done.0 ≡ State told → IsAnswered s l a.stateid told false done × IsDowngraded s l a done
IsAsTold s l (Close a) done = (told : Stateid) → done.0 ≡ State told → IsAnswered s l a.stateid told true done × IsClosed s l a.stateid done
IsAsTold s l (Lock a) done = (told : Stateid) → done.0 ≡ State told → IsLockTold s l a.locker told done × AreBytesLocked s l a a.locker done
IsAsTold s l (LockU a) done = (told : Stateid) → done.0 ≡ State told → IsAnswered s l a.stateid told false done × AreUnlocked s l a done
IsAsTold s l (LockT a) done = (c : ClientRow) (file last : ℕ) → client_in s l a.owner.clientid ≡ Some c → done.1 ≡ Some file → (file == root) ≡ false → last_byte a.offset a.len ≡ Some last → IsLockTestTold l a c file last done
IsAsTold s l (DelegReturn stateid) done = done.0 ≡ Ended statuses.Ok → IsGivenBack s l stateid done
IsAsTold s l (Renew clientid) done = done.0 ≡ Ended statuses.Ok → IsRenewed s l clientid done
IsAsTold s l (ReleaseLockOwner a) done = done.0 ≡ Ended statuses.Ok → IsReleased s l a done
IsAsTold s l op done = Unit {0}

-- ---- a request

-- what a step comes to, whose results and current handle are then these
abbrev pub StepDone : Type 0
StepDone = plans.Outcome NfsLists Course

-- its result is spelled behind those before it, and what it says is done is done
pub record IsStepTold (c : Course) (s : CoreState) (l : NfsLists) (op : OpItem) (r : StepDone) : Type 0 where
  pub told : Told
  pub current : Option ℕ
  pub result : r.0 ≡ noted c (op_number op) (told, current)
  pub as_told : IsAsTold s l op (told, current, r.1, r.2, r.3)

-- an operation whose arguments can't be read does nothing
abbrev pub IsStepAsTold : Course → CoreState → NfsLists → Step → StepDone → Type 0
IsStepAsTold c s l (Runs op) r = IsStepTold c s l op r
IsStepAsTold c s l step r = (r.2 ≡ l) × (r.3 ≡ s)

-- So it is of each that is run, in the state that those before it left, and this is what they were answered in all.
abbrev pub AreAllTold : List (List ℕ) → ℕ → ℕ → Course → CoreState → NfsLists → List Step → Course → Type 0
AreAllTold files others n c s l [] last = last ≡ c
AreAllTold files others n c s l (step ∷ steps) last =
    IsStepAsTold c s l step (plans.carried n s l (step_plan files others c s l step))
    × IfRun (goes_on (plans.carried n s l (step_plan files others c s l step)).0)
    (AreAllTold files others n (plans.carried n s l (step_plan files others c s l step)).0 (plans.carried n s l (step_plan files others c s l step)).3 (plans.carried n s l (step_plan files others c s l step)).2 steps last)
    (last ≡ (plans.carried n s l (step_plan files others c s l step)).0)

-- the reply has just these results
abbrev pub AreToldBy : ℕ → List (List ℕ) → ℕ → FrontNfs → CoreState → ℕ → ℕ → Called → List Out → Type 0
AreToldBy n files others f s conn xid (Compound tag steps) replies = (last : Course) × (replies ≡ sent_to conn (compound_reply xid tag last)) × AreAllTold files others n begun s f.state steps last
AreToldBy n files others f s conn xid called replies = Unit {0}

-- so it is of a request from this connection
abbrev pub AreRequestTold : ℕ → Exports → ℕ → FrontNfs → CoreState → ℕ → RequestItem → List Out → Type 0
AreRequestTold n exports others f s conn r replies = AreToldBy n exports.files others f s conn r.xid (call_in r) replies
