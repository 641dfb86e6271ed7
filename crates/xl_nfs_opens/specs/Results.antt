-- How what an operation was answered is spelled (RFC 7531, nfs_resop4).
use Rattle.std.specs.Prelude.{ℕ, ◌-◌, ◌^◌, Bool, true, false, ◌==◌, if◌then◌else◌, List, [], ◌++◌, Option, Some, None, Ok, Err}
use Rattle.xl_base.specs.Handles.{handle}
use Rattle.xl_nfs.specs.Opened.{AceItem, DelegationItem, NoDelegation, ReadDelegated, WriteDelegated, OpenResultItem}
use Rattle.xl_nfs.specs.Ops.{is_numbered}
use Rattle.xl_nfs.specs.Locks.{DeniedItem}
use Rattle.xl_nfs.specs.Outcomes.{DeniedBy, OtherFault}
use Rattle.xl_nfs.specs.Results.{ResultItem, CloseAnswer, DelegReturnAnswer, GetFhAnswer, LockAnswer, LockTAnswer, LockUAnswer, LookupAnswer, OpenAnswer, OpenConfirmAnswer, OpenDowngradeAnswer, PutFhAnswer, PutRootFhAnswer, RenewAnswer, SetClientIdAnswer, SetClientIdConfirmAnswer, ReleaseLockOwnerAnswer, NotSupportedAnswer, IllegalAnswer, ResultFits, nfs_result}
use Rattle.xl_nfs.specs.Statuses.{status_number}
use Rattle.xl_nfs.specs.declared.basics.Stateid.{Stateid}
use Rattle.xl_nfs.specs.declared.status.NfsStatus.{NfsStatus}
use Rattle.xl_rpc.specs.Xdr.{unsigned, opaque}
use Rattle.xl_nfs_opens.specs.Operations.{op_close, op_delegreturn, op_getfh, op_lock, op_lock_test, op_unlock, op_lookup, op_open, op_open_confirm, op_open_downgrade, op_putfh, op_putrootfh, op_renew, op_setclientid, op_setclientid_confirm, op_release_lockowner}
use Rattle.xl_nfs_opens.specs.declared.told.HeldLock.{HeldLock}
use Rattle.xl_nfs_opens.specs.declared.told.Told.{Told}
use Rattle.xl_nfs_opens.specs.declared.told.Told.TheVariants.{Ended, Handle, Client, Opened, State, Free, Denied, Kept}

-- the operation of this number ended so; the result of a number of no operation has a number of its own
unfoldable pub ended_as : ℕ → NfsStatus → ResultItem
ended_as number status =
    if number == op_close then CloseAnswer (Err status) else if number == op_delegreturn then DelegReturnAnswer status
    else if number == op_getfh then GetFhAnswer (Err status) else if number == op_lock then LockAnswer (Err (OtherFault status))
    else if number == op_lock_test then LockTAnswer (Err (OtherFault status)) else if number == op_unlock then LockUAnswer (Err status)
    else if number == op_lookup then LookupAnswer status else if number == op_open then OpenAnswer (Err status)
    else if number == op_open_confirm then OpenConfirmAnswer (Err status) else if number == op_open_downgrade then OpenDowngradeAnswer (Err status)
    else if number == op_putfh then PutFhAnswer status else if number == op_putrootfh then PutRootFhAnswer status
    else if number == op_renew then RenewAnswer status else if number == op_setclientid then SetClientIdAnswer (Err status)
    else if number == op_setclientid_confirm then SetClientIdConfirmAnswer status
    else if number == op_release_lockowner then ReleaseLockOwnerAnswer status else if is_numbered number then NotSupportedAnswer number
    else IllegalAnswer

-- the operation of this number gives this stateid
abbrev pub state_as : ℕ → Stateid → ResultItem
state_as number stateid =
    if number == op_close then CloseAnswer (Ok stateid) else if number == op_lock then LockAnswer (Ok stateid) else if number == op_unlock then LockUAnswer (Ok stateid)
    else if number == op_open_confirm then OpenConfirmAnswer (Ok stateid) else OpenDowngradeAnswer (Ok stateid)

-- no permissions are sent beside a delegation
abbrev pub no_permissions : AceItem
no_permissions = record { kind = 0; flag = 0; mask = 0; who = [] }

-- a delegation of this stateid, for writing or else for reading: it isn't recalled already, and any length may be written
abbrev pub delegation_item : Option (Stateid × Bool) → DelegationItem
delegation_item None = NoDelegation
delegation_item (Some given) =
    if given.1 then WriteDelegated (record { stateid = given.0; recall = false; limit = 2 ^ 64 - 1; permissions = no_permissions })
    else ReadDelegated (record { stateid = given.0; recall = false; permissions = no_permissions })

-- OPEN gives this stateid, and this delegation: the directory didn't change, and no attribute was set (NFS-16)
abbrev pub open_result_of : Stateid → ℕ → Option (Stateid × Bool) → OpenResultItem
open_result_of stateid flags delegation = record {
  stateid = stateid;
  change = record { atomic = true; before = 0; after = 0 };
  flags = flags;
  attributes = [];
  delegation = delegation_item delegation;
}

-- the operation of this number is denied by this lock (LOCK4denied)
abbrev pub denied_item : HeldLock → DeniedItem
denied_item h = record { offset = h.offset; len = h.len; kind = h.kind; owner = record { clientid = h.clientid; owner = h.owner } }

abbrev pub denied_as : ℕ → HeldLock → ResultItem
denied_as number h = if number == op_lock_test then LockTAnswer (Err (DeniedBy (denied_item h))) else LockAnswer (Err (DeniedBy (denied_item h)))

-- what an operation was answered, as its result is spelled
abbrev pub spelled : ℕ → Told → List ℕ
spelled number (Ended status) = nfs_result.spell (ended_as number status)
spelled number (Handle file) = nfs_result.spell (GetFhAnswer (Ok (handle file)))
spelled number (Client confirm) = nfs_result.spell (SetClientIdAnswer (Ok confirm))
spelled number (Opened stateid flags delegation) = nfs_result.spell (OpenAnswer (Ok (open_result_of stateid flags delegation)))
spelled number (State stateid) = nfs_result.spell (state_as number stateid)
spelled number Free = nfs_result.spell (LockTAnswer (Ok tt))
spelled number (Denied held) = nfs_result.spell (denied_as number held)
spelled number (Kept bytes) = bytes

-- its result has a spelling
abbrev pub ToldFits : ℕ → Told → Type 0
ToldFits number (Ended status) = ResultFits (ended_as number status)
ToldFits number _ = Unit {0}

-- COMPOUND4res: the last status, the tag of the request, and the results, as they are spelled, behind their count
unfoldable pub compound_results : List ℕ → NfsStatus → ℕ → List ℕ → List ℕ
compound_results tag status count results = unsigned (status_number status) ++ (opaque tag ++ (unsigned count ++ results))
