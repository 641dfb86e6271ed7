-- How an operation ended (nfsstat4): the statuses of this server (RFC 7531).
use Rattle.std.specs.Prelude.{◌≡◌, ℕ, ◌^◌, ◌==◌, true, nat_lt, if◌then◌else◌}
use Rattle.std.proofs.Common.{refl}
use Rattle.xl_base.specs.Formats.{Format}
use Rattle.xl_rpc.specs.declared.fault.RpcBad.{RpcBad}
use Rattle.xl_rpc.specs.declared.fault.RpcBad.TheVariants as bad
use Rattle.xl_format.specs.Formats.{numbered}
use Rattle.xl_nfs.specs.declared.status.NfsStatus.{NfsStatus}
use Rattle.xl_nfs.specs.declared.status.NfsStatus.TheVariants as statuses

unfoldable pub status_number : NfsStatus → ℕ
status_number statuses.Ok = 0
status_number statuses.NoEnt = 2
status_number statuses.NotDir = 20
status_number statuses.IsDir = 21
status_number statuses.Inval = 22
status_number statuses.Stale = 70
status_number statuses.BadHandle = 10001
status_number statuses.NotSupp = 10004
status_number statuses.ServerFault = 10006
status_number statuses.Delay = 10008
status_number statuses.Denied = 10010
status_number statuses.Grace = 10013
status_number statuses.ShareDenied = 10015
status_number statuses.Resource = 10018
status_number statuses.NoFileHandle = 10020
status_number statuses.MinorVersMismatch = 10021
status_number statuses.StaleClientId = 10022
status_number statuses.StaleStateid = 10023
status_number statuses.OldStateid = 10024
status_number statuses.BadStateid = 10025
status_number statuses.BadSeqid = 10026
status_number statuses.NoGrace = 10033
status_number statuses.ReclaimBad = 10034
status_number statuses.ReclaimConflict = 10035
status_number statuses.BadXdr = 10036
status_number statuses.LocksHeld = 10037
status_number statuses.OpenMode = 10038
status_number statuses.OpIllegal = 10044

-- the status of a number; of a number of none, the last
unfoldable pub made_status : ℕ → NfsStatus
made_status n =
    if n == 0 then statuses.Ok else if n == 2 then statuses.NoEnt else if n == 20 then statuses.NotDir else if n == 21 then statuses.IsDir else
    if n == 22 then statuses.Inval else if n == 70 then statuses.Stale else if n == 10001 then statuses.BadHandle else if n == 10004 then statuses.NotSupp else
    if n == 10006 then statuses.ServerFault else if n == 10008 then statuses.Delay else if n == 10010 then statuses.Denied else if n == 10013 then statuses.Grace else
    if n == 10015 then statuses.ShareDenied else if n == 10018 then statuses.Resource else if n == 10020 then statuses.NoFileHandle else if n == 10021 then statuses.MinorVersMismatch else
    if n == 10022 then statuses.StaleClientId else if n == 10023 then statuses.StaleStateid else if n == 10024 then statuses.OldStateid else if n == 10025 then statuses.BadStateid else
    if n == 10026 then statuses.BadSeqid else if n == 10033 then statuses.NoGrace else if n == 10034 then statuses.ReclaimBad else if n == 10035 then statuses.ReclaimConflict else
    if n == 10036 then statuses.BadXdr else if n == 10037 then statuses.LocksHeld else if n == 10038 then statuses.OpenMode else statuses.OpIllegal

pub status_made : (s : NfsStatus) → (made_status (status_number s) ≡ s) × (nat_lt (status_number s) (2 ^ 32) ≡ true)
unfolding made_status status_number
status_made statuses.Ok = (refl, refl)
status_made _ = (refl, refl)

-- nfsstat4; any other number is a fault (NFS-4)
unfoldable pub status : Format NfsStatus RpcBad
status = numbered bad.Value made_status status_number status_made
