-- A COMPOUND (RFC 7530 14.2, 15.2): its operations in a row, up to the first that fails.
use Rattle.std.specs.Prelude.{ℕ, zero, suc, ◌+◌, Bool, List, [], ◌∷◌, ◌++◌, length, Option, None, Result, Ok, Err}
use Rattle.xl_nfs.specs.Ops.{OpItem, Close, DelegReturn, GetFh, Lock, LockT, LockU, Lookup, Open, OpenConfirm, OpenDowngrade, PutFh, PutRootFh, Renew, SetClientId, SetClientIdConfirm, ReleaseLockOwner, NotSupported, Illegal, op_number, op_at}
use Rattle.xl_nfs.specs.Outcomes.{is_ok}
use Rattle.xl_nfs.specs.declared.status.NfsStatus.{NfsStatus}
use Rattle.xl_nfs.specs.declared.status.NfsStatus.TheVariants as statuses
use Rattle.xl_nfs_state.specs.State.{NfsLists}
use Rattle.xl_rpc.specs.Xdr.{unsigned_at}
use Rattle.xl_rpc.specs.declared.fault.RpcBad.{RpcBad}
use Rattle.xl_core.specs.State.{CoreState}
use Rattle.xl_front_nfs.specs.Clients.{renew, set_client_id, set_client_id_confirm}
use Rattle.xl_nfs_locks.specs.FirstLocks.{lock}
use Rattle.xl_nfs_locks.specs.Releases.{release}
use Rattle.xl_nfs_locks.specs.Tests.{lock_test}
use Rattle.xl_nfs_locks.specs.Unlocks.{unlock}
use Rattle.xl_nfs_opens.specs.Closing.{open_confirm, close, deleg_return}
use Rattle.xl_nfs_opens.specs.Downgrades.{open_downgrade}
use Rattle.xl_front_nfs.specs.Handles.{put_root_fh, put_fh, get_fh, look_up}
use Rattle.xl_nfs_opens.specs.Opens.{open_file}
use Rattle.xl_plan.specs.Plans as plans
use Rattle.xl_plan.specs.Plans.{Tells, within}
use Rattle.xl_plan.specs.Rows.{row}
use Rattle.xl_nfs_opens.specs.Plans.{Plan, status_of}
use Rattle.xl_nfs_opens.specs.Results.{spelled}
use Rattle.xl_nfs_opens.specs.declared.told.Told.{Told}
use Rattle.xl_nfs_opens.specs.declared.told.Told.TheVariants.{Ended}

-- ---- the table

-- What each operation does, if these files are exported, and beside so many opens of other protocols. The others are
-- not served, and their arguments aren't read (NFS-9).
unfoldable pub planned : List (List ℕ) → ℕ → CoreState → NfsLists → Option ℕ → OpItem → Plan
planned files others s l current PutRootFh = put_root_fh l
planned files others s l current (PutFh fh) = put_fh (length files) l current fh
planned files others s l current GetFh = get_fh l current
planned files others s l current (Lookup name) = look_up files l current name
planned files others s l current (SetClientId a) = set_client_id s l current a
planned files others s l current (SetClientIdConfirm a) = set_client_id_confirm s l current a
planned files others s l current (Renew clientid) = renew s l current clientid
planned files others s l current (Open a) = open_file files others s l current a
planned files others s l current (OpenConfirm a) = open_confirm s l current a
planned files others s l current (OpenDowngrade a) = open_downgrade s l current a
planned files others s l current (Close a) = close s l current a
planned files others s l current (DelegReturn stateid) = deleg_return s l current stateid
planned files others s l current (Lock a) = lock s l current a
planned files others s l current (LockT a) = lock_test s l current a
planned files others s l current (LockU a) = unlock s l current a
planned files others s l current (ReleaseLockOwner a) = release s l current a
planned files others s l current (Illegal number) = Tells (Ended statuses.OpIllegal, current)
planned files others s l current (NotSupported number) = Tells (Ended statuses.NotSupp, current)

-- ---- the operations of a request

-- an operation; one whose arguments can't be read, by its number; and the end of the bytes before a number (NFS-9)
pub data Step : Type 0 where
  Runs : OpItem → Step
  Garbled : ℕ → Step
  Cut : Step

abbrev pub fault_of : Result (ℕ × List ℕ) RpcBad → Step
fault_of (Ok read) = Garbled read.0
fault_of (Err fault) = Cut

abbrev pub step_then : (List ℕ → List Step) → List ℕ → Result (OpItem × List ℕ) RpcBad → List Step
step_then rest bytes (Ok read) = Runs read.0 ∷ rest read.1
step_then rest bytes (Err fault) = fault_of (unsigned_at bytes) ∷ []

-- so many operations, read one behind the other, up to the first that can't be read
abbrev pub steps_in : ℕ → List ℕ → List Step
steps_in zero bytes = []
steps_in (suc count) bytes = step_then (steps_in count) bytes (op_at bytes)

-- ---- the fold

-- What a COMPOUND was answered: the current handle, the results as they are spelled, how many they are, and the last
-- status.
pub record Course : Type 0 where
  pub current : Option ℕ
  pub results : List ℕ
  pub count : ℕ
  pub status : NfsStatus

-- at its beginning there is no current handle
abbrev pub begun : Course
begun = record { current = None; results = []; count = 0; status = statuses.Ok }

-- an operation of this number more, and what it was answered
abbrev pub noted : Course → ℕ → Told × Option ℕ → Course
noted c number r = record { current = r.1; results = c.results ++ spelled number r.0; count = c.count + 1; status = status_of r.0 }

abbrev pub CoursePlan : Type 0
CoursePlan = plans.Plan NfsLists Course

-- one step; an operation without a number has no result (NFS-9)
unfoldable pub step_plan : List (List ℕ) → ℕ → Course → CoreState → NfsLists → Step → CoursePlan
step_plan files others c s l (Runs op) = within (λ m. m) (λ told m. (noted c (op_number op) told, m)) l (planned files others s l c.current op)
step_plan files others c s l (Garbled number) = Tells (noted c number (Ended statuses.BadXdr, c.current))
step_plan files others c s l Cut = Tells (record c { status = statuses.BadXdr })

-- others are done behind one that is OK
abbrev pub goes_on : Course → Bool
goes_on c = is_ok c.status

-- all of them, one behind the other
abbrev pub compound : List (List ℕ) → ℕ → Course → CoreState → NfsLists → List Step → CoursePlan
compound files others c s l steps = row (step_plan files others) goes_on c s l steps
